-- What the division of entries into blocks is.
use Rattle.std.specs.Prelude.{◌≡◌, ℕ, ◌+◌, ◌<◌, ◌≤◌, List, [], ◌∷◌, length}
use Rattle.std.specs.List.{flat_map}
use Rattle.mx_base.specs.declared.entry.Entry.{Entry}
use Rattle.mx_hfile.specs.Encoding.{entry_bytes, body}

-- each entry begins before the body has 16,384 bytes, of which so many stand before
abbrev pub BeginInTime : ℕ → List Entry → Type 0
BeginInTime at [] = Unit {0}
BeginInTime at (e ∷ es) = (at < 16_384) × BeginInTime (at + length (entry_bytes e)) es

-- a block is not empty, and without its last entry its body has fewer than 16,384 bytes
pub record IsBlock (entries : List Entry) : Type 0 where
  pub some : 0 < length entries
  pub begin : BeginInTime 0 entries

-- a block is the last one, or its body has 16,384 bytes or more
abbrev pub IsFullBefore : List Entry → List (List Entry) → Type 0
IsFullBefore b [] = Unit {0}
IsFullBefore b (c ∷ behind) = 16_384 ≤ length (body b)

-- each is a block, and each but the last is full
abbrev pub AreBlocks : List (List Entry) → Type 0
AreBlocks [] = Unit {0}
AreBlocks (b ∷ behind) = IsBlock b × IsFullBefore b behind × AreBlocks behind

-- blocks that the entries are divided into
pub record Divides (entries : List Entry) (blocks : List (List Entry)) : Type 0 where
  pub whole : flat_map (λ b. b) blocks ≡ entries
  pub are : AreBlocks blocks
