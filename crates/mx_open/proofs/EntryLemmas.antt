-- Bases and logs of the index.
use Rattle.std.proofs.Common.{◌≡◌, ◌≢◌, ℕ, Bool, List, Some, Result, Ok, Err, IfOk, sym, ◌∙◌, subst}
use Rattle.std.specs.declared.alloc.AllocError.{AllocError}
use Rattle.mx_base.specs.declared.entry.Entry.{Entry}
use Rattle.mx_hfile.specs.Decoding.{file_in}
use Rattle.mx_log.specs.Decoding.{log_in}
use Rattle.mx_folder.specs.Slices.{log_of}
use Rattle.mx_folder.specs.Reading.{SpellPayloads, ReadsAsBase, ReadsAsLog}
use Rattle.mx_folder.proofs.SliceLemmas.{base_of-read, base_of-broken, log_of-read, log_of-other, log_of-broken}
use Rattle.mx_open.specs.Deciding.{Decides}
use Rattle.mx_open.proofs.KindLemmas.{same_value}
use Rattle.mx_open.proofs.ObjectLemmas.{answers_as}

pub base_if : (bytes : List ℕ) (es : List Entry) (r : Result Bool AllocError) → file_in bytes ≡ Ok es → IfOk r (λ b. Decides b (SpellPayloads es)) → IfOk r (λ b. Decides b (ReadsAsBase bytes))
base_if bytes es r reads said = answers_as r (SpellPayloads es) (ReadsAsBase bytes)
    (λ spell. (es, base_of-read bytes es reads, spell))
    (λ (is : ReadsAsBase bytes). subst SpellPayloads (same_value is.0 es (sym is.1 ∙ base_of-read bytes es reads)) is.2) said

pub no_base : (bytes : List ℕ) (at : ℕ) → file_in bytes ≡ Err at → ReadsAsBase bytes → ⊥
no_base bytes at fails is = absurd (cc (sym (base_of-broken bytes at fails) ∙ is.1))

pub log_if : (at found : ℕ) (bytes : List ℕ) (es : List Entry) (r : Result Bool AllocError) → log_in bytes ≡ Ok (found, es) → found ≡ at → IfOk r (λ b. Decides b (SpellPayloads es)) → IfOk r (λ b. Decides b (ReadsAsLog at bytes))
log_if at found bytes es r reads is said =
    let known : log_of at bytes ≡ Some es = log_of-read at found bytes es reads is in
    answers_as r (SpellPayloads es) (ReadsAsLog at bytes)
    (λ spell. (es, known, spell))
    (λ (log : ReadsAsLog at bytes). subst SpellPayloads (same_value log.0 es (sym log.1 ∙ known)) log.2) said

pub other_log : (at found : ℕ) (bytes : List ℕ) (es : List Entry) → log_in bytes ≡ Ok (found, es) → found ≢ at → ReadsAsLog at bytes → ⊥
other_log at found bytes es reads other is = absurd (cc (sym (log_of-other at found bytes es reads other) ∙ is.1))

pub no_log : (at place : ℕ) (bytes : List ℕ) → log_in bytes ≡ Err place → ReadsAsLog at bytes → ⊥
no_log at place bytes fails is = absurd (cc (sym (log_of-broken at place bytes fails) ∙ is.1))
