-- What was read ahead.
use Rattle.std.specs.Prelude.{◌≡◌, ℕ, ◌+◌, ◌-◌, ◌^◌, List, length, Option, Some, None}
use Rattle.mx_store.specs.Streams.{before}

-- what it is to its callers: the bytes that are not yet taken, and how many were read in all
pub record Seen : Type 0 where
  pub ahead : List ℕ
  pub taken : ℕ

-- what is ahead, and then what the source has left
abbrev pub all_left : Seen → Option (List ℕ) → Option (List ℕ)
all_left a left = before a.ahead left

-- how many bytes may still be taken
abbrev pub budget : Seen → ℕ
budget a = length a.ahead + (2 ^ 40 - a.taken)

-- the number of bytes read grows by as many as the source has fewer, where it tells
abbrev pub CountsBytes : ℕ → Option (List ℕ) → ℕ → Option (List ℕ) → Type 0
CountsBytes before None after new = new ≡ None
CountsBytes before (Some old) after None = ⊥
CountsBytes before (Some old) after (Some new) = before + length old ≡ after + length new
