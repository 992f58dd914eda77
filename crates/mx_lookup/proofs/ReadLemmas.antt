-- What bytes are as a base and as a log, and values that read.
use Rattle.std.proofs.Common.{◌≡◌, ◌≢◌, ℕ, List, [], ◌∷◌, length, Option, None, Result, Ok, Err, refl, ◌∙◌, ap}
use Rattle.std.specs.Prelude.{IsOk, unwrap_or}
use Rattle.std.specs.List.{AllByRecursion}
use Rattle.std.specs.Option.{option_or}
use Rattle.mx_base.specs.declared.entry.Entry.{Entry}
use Rattle.mx_folder.specs.Slices.{base_of, log_of}
use Rattle.mx_folder.proofs.SliceLemmas.{base_of-read, base_of-broken, log_of-read, log_of-other, log_of-broken}
use Rattle.mx_hfile.specs.Decoding.{file_in}
use Rattle.mx_log.specs.Decoding.{log_in}
use Rattle.mx_merge.specs.Merged.{IsRead, broken_at, first_bad}
use Rattle.mx_payload.specs.Decoding.{payload_in}
use Rattle.mx_payload.specs.declared.payload.Payload.{Payload}

pub base_read : (bytes : List ℕ) (es : List Entry) → file_in bytes ≡ Ok es → unwrap_or (base_of bytes) [] ≡ es
base_read bytes es reads = ap (λ (x : Option (List Entry)). unwrap_or x []) (base_of-read bytes es reads)

pub base_bad : (bytes : List ℕ) (at : ℕ) → file_in bytes ≡ Err at → unwrap_or (base_of bytes) [] ≡ []
base_bad bytes at fails = ap (λ (x : Option (List Entry)). unwrap_or x []) (base_of-broken bytes at fails)

pub log_read : (at found : ℕ) (bytes : List ℕ) (es : List Entry) → log_in bytes ≡ Ok (found, es) → found ≡ at → unwrap_or (log_of at bytes) [] ≡ es
log_read at found bytes es reads is = ap (λ (x : Option (List Entry)). unwrap_or x []) (log_of-read at found bytes es reads is)

pub log_other : (at found : ℕ) (bytes : List ℕ) (es : List Entry) → log_in bytes ≡ Ok (found, es) → found ≢ at → unwrap_or (log_of at bytes) [] ≡ []
log_other at found bytes es reads other = ap (λ (x : Option (List Entry)). unwrap_or x []) (log_of-other at found bytes es reads other)

pub log_bad : (at place : ℕ) (bytes : List ℕ) → log_in bytes ≡ Err place → unwrap_or (log_of at bytes) [] ≡ []
log_bad at place bytes fails = ap (λ (x : Option (List Entry)). unwrap_or x []) (log_of-broken at place bytes fails)

-- where each value reads none is bad
pub none_bad : (values : List (List ℕ)) → AllByRecursion IsRead values → first_bad values ≡ None
none_bad [] all = refl
none_bad (value ∷ values) all = from (payload_in value) all.0 ∙ none_bad values all.1
  where
    from : (r : Result Payload ℕ) → IsOk r → option_or (broken_at (length value) r) (first_bad values) ≡ first_bad values
    from (Ok payload) is = refl
    from (Err left) is = absurd (cc is)
