-- Reading by ranges: the trailer, the index block and one data block, each from its own bytes.
use Rattle.std.specs.Prelude.{◌≡◌, ℕ, suc, ◌+◌, ◌-◌, ◌^◌, ◌<◌, false, ◌&&◌, List, [], ◌∷◌, length, take, replicate, Option, Some, None, Result, Ok, Err, nat_lt, nat_eq, ◌==◌, if◌then◌else◌, IsTrue, slice_index_or, sum_by}
use Rattle.std.specs.List.{starts_with}
use Rattle.std.specs.Int.{w32, w64}
use Rattle.mx_base.specs.declared.entry.Entry.{Entry}
use Rattle.mx_hfile.specs.declared.error.HFileError.{HFileError}
use Rattle.mx_hfile.specs.declared.error.HFileError.TheVariants as errors
use Rattle.mx_hfile.specs.declared.footer.Footer.{Footer}
use Rattle.mx_hfile.specs.Encoding.{number, trailer_magic, rises, entry_bytes, Place}
use Rattle.mx_lists.specs.Reading.{◌>>=◌, Reader, passing}
use Rattle.mx_hfile.specs.Decoding.{number_in, is_same, expected_in, entries_in, body_in, placed, index_in}

-- ---- answers

-- an answer whose faults stand so many bytes before an end, and that takes no memory
abbrev pub answered : {A : Type 0} → ℕ → Result A ℕ → Result A HFileError
answered end (Ok x) = Ok x
answered end (Err left) = Err (errors.BadHFile (end - left))

-- an answer is what reading gives, unless memory ran out
abbrev pub Reads : {A : Type 0} → Result A ℕ → Result A HFileError → Type 0
Reads read (Ok x) = read ≡ Ok x
Reads read (Err errors.NoMemory) = Unit {0}
Reads read (Err (errors.BadHFile at)) = read ≡ Err at

-- ---- the trailer by itself

-- an offset that leaves room for the shortest index block and the trailer
abbrev pub offset_alone_in : Reader ℕ
offset_alone_in = passing (λ n. nat_lt n 268_435_377) (number_in w64)

-- the length of an index block that ends, with the trailer behind it, within the greatest length of a file
abbrev pub index_len_in : ℕ → Reader ℕ
index_len_in offset = passing (λ n. nat_lt 15 n && nat_lt (offset + n) 268_435_393) (number_in w64)

-- the 64 bytes of a trailer, of a file of any length
unfoldable pub footer_in : List ℕ → Result Footer ℕ
footer_in bytes =
    if length bytes == 64 then (expected_in trailer_magic bytes >>= λ rest. expected_in (number w32 1) rest >>= λ rest. expected_in (number w32 0) rest
    >>= λ rest. offset_alone_in rest
    >>= λ offset. index_len_in offset.0 offset.1
    >>= λ len. number_in w64 len.1
    >>= λ entries. number_in w32 entries.1
    >>= λ blocks. expected_in (number w32 0) blocks.1
    >>= λ rest. expected_in (replicate 16 0) rest
    >>= λ rest. Ok (record { offset = offset.0; index_len = len.0; entry_count = entries.0; block_count = blocks.0 }))
    else Err (length bytes)

-- where the index block begins, and its length
abbrev pub index_place_in : List ℕ → Result (ℕ × ℕ) ℕ
index_place_in trailer = footer_in trailer >>= λ footer. Ok (footer.offset, footer.index_len)

-- ---- the index block by itself

-- an index block as long as the trailer says
abbrev pub index_alone_in : Footer → List ℕ → Result (List Place) ℕ
index_alone_in footer bytes = if length bytes == footer.index_len then index_in footer.block_count footer.offset bytes else Err (length bytes)

-- the places of the blocks. A fault of the trailer is placed in its bytes, and one of the index block in the file
unfoldable pub loaded_in : List ℕ → List ℕ → Result (List Place) ℕ
loaded_in trailer bytes = placed (length trailer) (footer_in trailer) >>= λ footer. placed (footer.offset + length bytes) (index_alone_in footer bytes)

-- no place
abbrev pub no_place : Place
no_place = record { len = 0; key = [] }

-- the first key of a block
abbrev pub first_key_at : List Place → ℕ → List ℕ
first_key_at places block = (slice_index_or places block no_place).key

-- where a block begins in the file, and its length
abbrev pub place_at : List Place → ℕ → ℕ × ℕ
place_at places block = (sum_by (λ p. p.len) (take block places), (slice_index_or places block no_place).len)

-- first keys rise, the first one behind a key, and none has more than 65,535 bytes
abbrev pub KeysRise : List ℕ → List Place → Type 0
KeysRise last [] = Unit {0}
KeysRise last (p ∷ places) = IsTrue (rises last p.key) × (length p.key < 2 ^ 16) × KeysRise p.key places

-- ---- the block of a key

-- the last block whose first key is not above a key
pub record IsBlockFor (places : List Place) (key : List ℕ) (block : ℕ) : Type 0 where
  pub there : block < length places
  pub not_above : rises key (first_key_at places block) ≡ false
  pub last : (other : ℕ) → block < other → other < length places → IsTrue (rises key (first_key_at places other))

-- each first key is above a key
abbrev pub AreAllAbove : List Place → List ℕ → Type 0
AreAllAbove places key = (block : ℕ) → block < length places → IsTrue (rises key (first_key_at places block))

-- a block can hold a key that begins with a prefix: one from its first key on, and below the next block's
pub record CanHold (places : List Place) (prefix : List ℕ) (block : ℕ) : Type 0 where
  pub there : block < length places
  pub key : List ℕ
  pub is_key : (0 < length key) × (length key < 2 ^ 16)
  pub begins : IsTrue (starts_with nat_eq key prefix)
  pub from_first : rises key (first_key_at places block) ≡ false
  pub below_next : suc block < length places → IsTrue (rises key (first_key_at places (suc block)))

-- ---- a block by itself

-- the entries of a block, of which there is one or more
unfoldable pub block_alone_in : List ℕ → Result (List Entry) ℕ
block_alone_in bytes =
    if nat_lt 268_435_456 (length bytes) then Err (length bytes)
    else (body_in bytes >>= λ body. if length body == 0 then Err 0 else entries_in (length body) (length body) [] body)

-- the start and the end of the value of a key, among entries of which the first begins at a place
abbrev pub value_place : List ℕ → ℕ → List Entry → Option (ℕ × ℕ)
value_place key at [] = None
value_place key at (e ∷ es) = if is_same e.key key then Some (at + (6 + length e.key), at + length (entry_bytes e)) else value_place key (at + length (entry_bytes e)) es

-- the start and the end of the value of a key in a body, whose entries begin at a place
abbrev pub search_body : List ℕ → ℕ → List ℕ → Result (Option (ℕ × ℕ)) ℕ
search_body key at body = entries_in (length body) (length body) [] body >>= λ entries. Ok (value_place key at entries)

-- the start and the end of the value of a key in a block, whose entries begin behind 12 bytes
unfoldable pub search_in : List ℕ → List ℕ → Result (Option (ℕ × ℕ)) ℕ
search_in key bytes = block_alone_in bytes >>= λ entries. Ok (value_place key 12 entries)
