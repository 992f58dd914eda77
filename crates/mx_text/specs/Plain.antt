-- Which JSON is taken: no float, and no more than so many arrays and objects inside each other.
use Rattle.std.specs.Prelude.{◌≡◌, ℕ, ◌-◌, List, Bool, true, not, ◌&&◌, nat_lt, Some, IsUtf8}
use Rattle.serde_json.specs.Data.{Data, null, boolean, number, string, array, object, Items, no_items, item, Members, no_members, member}
use Rattle.serde_json.specs.Find.{is_float}
use Rattle.serde_json.specs.Read.{read}

abbrev mutual
  pub plain : ℕ → Data → Bool
  plain left null = true
  plain left (boolean b) = true
  plain left (number n) = not (is_float n)
  plain left (string s) = true
  plain left (array ds) = nat_lt 0 left && plain_items (left - 1) ds
  plain left (object ms) = nat_lt 0 left && plain_members (left - 1) ms

  pub plain_items : ℕ → Items → Bool
  plain_items left no_items = true
  plain_items left (item d ds) = plain left d && plain_items left ds

  pub plain_members : ℕ → Members → Bool
  plain_members left no_members = true
  plain_members left (member k d ms) = plain left d && plain_members left ms

-- the bytes are the JSON text of this value, and it is taken
pub record Spells (bytes : List ℕ) (d : Data) : Type 0 where
  pub utf8 : IsUtf8 bytes
  pub reads : read bytes ≡ Some d
  pub is_plain : plain 32 d ≡ true
