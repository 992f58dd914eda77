-- What a slice shows with more entries behind it, and what bytes are as a base and as a log.
use Rattle.std.proofs.Common.{◌≡◌, ◌≢◌, ℕ, Bool, cond, List, ◌++◌, Some, None, sym, ◌∙◌, ap}
use Rattle.std.specs.Prelude.{option_to_list, Ok, Err, ◌==◌}
use Rattle.std.proofs.lemmas.Bool.{false_from_ne_true}
use Rattle.std.proofs.lemmas.Bool.Decides.{Decides-eqb}
use Rattle.mx_base.specs.declared.entry.Entry.{Entry}
use Rattle.mx_hfile.specs.Decoding.{file_in}
use Rattle.mx_log.specs.Decoding.{log_in}
use Rattle.mx_merge.specs.Shown.{shown}
use Rattle.mx_merge.specs.Merged.{payloads_on_key, shown_on}
use Rattle.mx_merge.proofs.RunLemmas.{shown_again}
use Rattle.mx_merge.proofs.ValueLemmas.{payloads-append}
use Rattle.mx_folder.specs.Slices.{entries_read, base_of, entries_of_instant, log_of}

pub shown_on-append : (key : List ℕ) (older newer : List Entry) → shown_on key (older ++ newer) ≡ shown (option_to_list (shown_on key older) ++ payloads_on_key key newer)
unfolding shown_on
shown_on-append key older newer = ap shown (payloads-append key older newer) ∙ sym (shown_again (payloads_on_key key older) (payloads_on_key key newer))

-- ---- bytes as a base, and as a log of an instant

pub base_of-read : (bytes : List ℕ) (es : List Entry) → file_in bytes ≡ Ok es → base_of bytes ≡ Some es
unfolding base_of
base_of-read bytes es reads = ap entries_read reads

pub base_of-broken : (bytes : List ℕ) (at : ℕ) → file_in bytes ≡ Err at → base_of bytes ≡ None
unfolding base_of
base_of-broken bytes at fails = ap entries_read fails

pub log_of-read : (at found : ℕ) (bytes : List ℕ) (es : List Entry) → log_in bytes ≡ Ok (found, es) → found ≡ at → log_of at bytes ≡ Some es
unfolding log_of
log_of-read at found bytes es reads is = ap (entries_of_instant at) reads ∙ ap (λ (b : Bool). cond b (Some es) None) ((Decides-eqb found at).1 is)

pub log_of-other : (at found : ℕ) (bytes : List ℕ) (es : List Entry) → log_in bytes ≡ Ok (found, es) → found ≢ at → log_of at bytes ≡ None
unfolding log_of
log_of-other at found bytes es reads other =
    ap (entries_of_instant at) reads ∙ ap (λ (b : Bool). cond b (Some es) None) (false_from_ne_true (found == at) (λ same. other ((Decides-eqb found at).0 same)))

pub log_of-broken : (at place : ℕ) (bytes : List ℕ) → log_in bytes ≡ Err place → log_of at bytes ≡ None
unfolding log_of
log_of-broken at place bytes fails = ap (entries_of_instant at) fails
