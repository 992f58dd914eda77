-- What an index holds of the blocks.
use Rattle.std.specs.Prelude.{◌≡◌, ℕ, ◌+◌, ◌^◌, ◌<◌, ◌≤◌, Bool, true, false, not, ◌||◌, nat_eq, List, [], ◌∷◌, length, map, sum_by}
use Rattle.mx_hfile.specs.declared.loading.Held.{Held}
use Rattle.std.specs.List.{starts_with}
use Rattle.mx_hfile.specs.Encoding.{Place, rises}
use Rattle.mx_hfile.specs.Ranges.{first_key_at, KeysRise}

-- what is said of a block
abbrev pub held_place : Held → Place
held_place h = record { len = h.len; key = h.key }

-- each block begins where the one before it ends
abbrev pub Follow : ℕ → List Held → Type 0
Follow at [] = Unit {0}
Follow at (h ∷ held) = (h.at ≡ at) × Follow (at + h.len) held

-- blocks follow each other from the start of the file on and leave room for the index block and the trailer, their
-- first keys rise, and a number of four bytes counts them
pub record IsIndex (held : List Held) : Type 0 where
  pub follow : Follow 0 held
  pub keys : KeysRise [] (map held_place held)
  pub few : length held < 2 ^ 32
  pub room : sum_by (λ p. p.len) (map held_place held) + 80 ≤ 268_435_456

-- a first key is not above a key
abbrev pub is_upto : List ℕ → List ℕ → Bool
is_upto key first = not (rises key first)

-- a first key is not above each key with a prefix
abbrev pub is_through : List ℕ → List ℕ → Bool
is_through prefix first = starts_with nat_eq first prefix || not (rises prefix first)

-- so many of the first places pass a test, and no place behind them does
pub record IsCountOf (test : List ℕ → Bool) (places : List Place) (count : ℕ) : Type 0 where
  pub within : count ≤ length places
  pub front : (block : ℕ) → block < count → test (first_key_at places block) ≡ true
  pub back : (block : ℕ) → count ≤ block → block < length places → test (first_key_at places block) ≡ false
