-- What the calls of a source and a sink do.
use Rattle.std.specs.Prelude.{◌≡◌, ◌==◌, ℕ, ◌<◌, Bool, List, [], ◌++◌, length, take, min, filter, fold, nat_lt, Option, option_map, IfSome, Result, Ok, Err}
use Rattle.std.specs.List.{list_any}

-- these bytes and then the others, where they are told
abbrev pub before : List ℕ → Option (List ℕ) → Option (List ℕ)
before front rest = option_map (λ bytes. front ++ bytes) rest

-- the bytes with these behind them, where they are told
abbrev pub added : Option (List ℕ) → List ℕ → Option (List ℕ)
added written more = option_map (λ bytes. bytes ++ more) written

-- a read took the bytes that are now in the buffer's front; at the end of what is left it takes none
abbrev pub Takes : {E : Type 0} → Option (List ℕ) → Option (List ℕ) → List ℕ → Result ℕ E → Type 0
Takes old new buffer (Ok n) = (old ≡ before (take n buffer) new) × (n ≡ 0 → 0 < length buffer → IfSome old (λ left. left ≡ []))
Takes old new buffer (Err e) = new ≡ old

-- a write added a front of the piece, and at least one byte of it
abbrev pub Adds : {E : Type 0} → Option (List ℕ) → Option (List ℕ) → List ℕ → Result ℕ E → Type 0
Adds old new piece (Ok n) = (new ≡ added old (take n piece)) × (0 < length piece → 0 < n)
Adds old new piece (Err e) = new ≡ old

-- whether the call of that number stands among those that are to fail
abbrev pub is_to_fail : List ℕ → ℕ → Bool
is_to_fail fails call = list_any (λ number. number == call) fails

-- the least of the end and of the cuts above the place
abbrev pub stop_after : List ℕ → ℕ → ℕ → ℕ
stop_after cuts at end = fold min end (filter (λ cut. nat_lt at cut) cuts)

-- what a source over bytes is to its callers
pub record SourceSeen : Type 0 where
  pub left : List ℕ
  pub at : ℕ
  pub cuts : List ℕ
  pub fails : List ℕ
  pub calls : ℕ
  pub faults : ℕ

-- what a sink into memory is to its callers
pub record SinkSeen : Type 0 where
  pub written : List ℕ
  pub fails : List ℕ
  pub calls : ℕ
  pub faults : ℕ
