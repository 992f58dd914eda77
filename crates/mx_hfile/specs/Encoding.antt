-- The bytes of a file of entries: its data blocks, the index block, the trailer.
use Rattle.std.specs.Prelude.{ℕ, ◌+◌, ◌^◌, ◌<◌, List, [], ◌∷◌, ◌++◌, length, map, replicate, nat_lt, Bool, if◌then◌else◌}
use Rattle.std.specs.List.{flat_map, AllByRecursion}
use Rattle.std.specs.Int.{Width, w16, w32, w64, to_be_bytes}
use Rattle.std.specs.Bool.{IsTrue}
use Rattle.std.specs.Ordering.{nat_cmp, is_lt}
use Rattle.std.specs.Cmp.Lexicographic.{slice_cmp}
use Rattle.mx_base.specs.declared.entry.Entry.{Entry}

-- a number, its highest byte first
unfoldable pub number : Width → ℕ → List ℕ
number w n = to_be_bytes w n

-- "DATABLK*", in front of a data block
unfoldable pub data_magic : List ℕ
data_magic = 68 ∷ 65 ∷ 84 ∷ 65 ∷ 66 ∷ 76 ∷ 75 ∷ 42 ∷ []

-- "IDXROOT2", in front of the index block
unfoldable pub index_magic : List ℕ
index_magic = 73 ∷ 68 ∷ 88 ∷ 82 ∷ 79 ∷ 79 ∷ 84 ∷ 50 ∷ []

-- "MDTTRAIL", in front of the trailer
unfoldable pub trailer_magic : List ℕ
trailer_magic = 77 ∷ 68 ∷ 84 ∷ 84 ∷ 82 ∷ 65 ∷ 73 ∷ 76 ∷ []

-- a key stands behind another one in the order of their bytes
abbrev pub rises : List ℕ → List ℕ → Bool
rises before key = is_lt (slice_cmp nat_cmp before key)

-- each key stands behind the one before it
abbrev pub RiseFrom : List ℕ → List Entry → Type 0
RiseFrom before [] = Unit {0}
RiseFrom before (e ∷ es) = IsTrue (rises before e.key) × RiseFrom e.key es

-- a key has a length of two bytes
abbrev pub HasKey : Entry → Type 0
HasKey e = length e.key < 2 ^ 16

-- keys rise strictly, the first one behind the empty one, so that none is empty; none has more than 65,535 bytes
pub record AreEntries (entries : List Entry) : Type 0 where
  pub rising : RiseFrom [] entries
  pub each : AllByRecursion HasKey entries

-- the key behind its length, and the value behind its own
abbrev pub entry_bytes : Entry → List ℕ
entry_bytes e = number w16 (length e.key) ++ e.key ++ number w32 (length e.value) ++ e.value

-- the entries of a block, one behind the other
abbrev pub body : List Entry → List ℕ
body entries = flat_map entry_bytes entries

-- a data block
abbrev pub block : List Entry → List ℕ
block entries = data_magic ++ number w32 (length (body entries)) ++ body entries

-- all data blocks
abbrev pub blocks_bytes : List (List Entry) → List ℕ
blocks_bytes blocks = flat_map block blocks

-- what the index says of a block: its whole length and its first key
pub record Place : Type 0 where
  pub len : ℕ
  pub key : List ℕ

-- the first key of a block
abbrev pub first_key : List Entry → List ℕ
first_key [] = []
first_key (e ∷ es) = e.key

-- what the index says of these entries
abbrev pub place_of : List Entry → Place
place_of entries = record { len = length (block entries); key = first_key entries }

-- where a block begins, its length, and its first key behind the key's length
abbrev pub listing : ℕ → Place → List ℕ
listing at p = number w64 at ++ number w32 p.len ++ number w16 (length p.key) ++ p.key

-- blocks that follow each other from a place on
abbrev pub listings : ℕ → List Place → List ℕ
listings at [] = []
listings at (p ∷ ps) = listing at p ++ listings (at + p.len) ps

-- the index block
abbrev pub index : List Place → List ℕ
index places = index_magic ++ number w32 (4 + length (listings 0 places)) ++ number w32 (length places) ++ listings 0 places

-- the trailer: the version, where the index block begins, its length, and how many entries and blocks there are
abbrev pub trailer : ℕ → ℕ → ℕ → ℕ → List ℕ
trailer offset len entries blocks = trailer_magic ++ number w32 1 ++ number w32 0 ++ number w64 offset ++ number w64 len
    ++ number w64 entries ++ number w32 blocks ++ number w32 0 ++ replicate 16 0

-- the present block takes the next entry as long as its body has fewer than 16,384 bytes
abbrev pub blocks_from : List Entry → List Entry → List (List Entry)
blocks_from [] [] = []
blocks_from (p ∷ ps) [] = (p ∷ ps) ∷ []
blocks_from present (e ∷ es) = if nat_lt (length (body present)) 16_384 then blocks_from (present ++ e ∷ []) es else present ∷ blocks_from (e ∷ []) es

-- the blocks of entries
unfoldable pub blocks_of : List Entry → List (List Entry)
blocks_of entries = blocks_from [] entries

-- a file of these blocks, with so many entries
abbrev pub file : ℕ → List (List Entry) → List ℕ
file count blocks = blocks_bytes blocks ++ index (map place_of blocks)
    ++ trailer (length (blocks_bytes blocks)) (length (index (map place_of blocks))) count (length blocks)

-- the one spelling of entries
unfoldable pub encoding : List Entry → List ℕ
encoding entries = file (length entries) (blocks_of entries)
