-- Reading in the stated order, with the first broken rule: the length, the trailer, the index block, the data blocks.
-- Inside of a part a rule is broken where so many of its bytes are left, from the start of the field on.
use Rattle.std.specs.Prelude.{◌≡◌, ℕ, zero, suc, ◌+◌, ◌-◌, ◌≤◌, Bool, ◌&&◌, ◌||◌, List, [], ◌∷◌, ◌++◌, length, take, drop, replicate, Option, Some, None, Result, Ok, Err, nat_lt, nat_eq, ◌==◌, if◌then◌else◌}
use Rattle.std.specs.Int.{Width, w16, w32, w64, byte_len, from_be_bytes}
use Rattle.std.specs.Global.{Vec}
use lib.Pointwise.{pointwise}
use Rattle.mx_base.specs.declared.entry.Entry.{Entry}
use Rattle.mx_hfile.specs.declared.error.HFileError.{HFileError}
use Rattle.mx_hfile.specs.declared.error.HFileError.TheVariants as errors
use Rattle.mx_lists.specs.Reading.{◌>>=◌, Reader, passing}
use Rattle.mx_hfile.specs.Encoding.{number, data_magic, index_magic, trailer_magic, rises, Place}

-- a number, its highest byte first
unfoldable pub number_in : Width → Reader ℕ
number_in w bytes = if nat_lt (length bytes) (byte_len w) then Err (length bytes) else Ok (from_be_bytes w (take (byte_len w) bytes), drop (byte_len w) bytes)

-- so many bytes
unfoldable pub text_in : ℕ → Reader (List ℕ)
text_in len bytes = if nat_lt (length bytes) len then Err (length bytes) else Ok (take len bytes, drop len bytes)

-- whether two texts are the same
abbrev pub is_same : List ℕ → List ℕ → Bool
is_same = pointwise nat_eq

-- what stands behind these bytes
unfoldable pub expected_in : List ℕ → List ℕ → Result (List ℕ) ℕ
expected_in wanted bytes = passing (λ text. is_same text wanted) (text_in (length wanted)) bytes >>= λ x. Ok x.1

-- a key stands behind the last one, and is the one that is listed where one is
abbrev pub is_key : List ℕ → Option (List ℕ) → List ℕ → Bool
is_key last None key = rises last key
is_key last (Some listed) key = rises last key && is_same key listed

-- a key that passes a test, behind its length, which is not 0
unfoldable pub key_in : (List ℕ → Bool) → Reader (List ℕ)
key_in test bytes = passing (nat_lt 0) (number_in w16) bytes >>= λ len. passing test (text_in len.0) len.1

-- a value behind its length
unfoldable pub value_in : Reader (List ℕ)
value_in bytes = number_in w32 bytes >>= λ len. text_in len.0 len.1

-- an entry
unfoldable pub entry_in : (List ℕ → Bool) → Reader Entry
entry_in test bytes = key_in test bytes >>= λ key. value_in key.1 >>= λ value. Ok (record { key = key.0; value = value.0 }, value.1)

-- the entries that a block has behind its first one, to the block's end. Each has bytes, so there are fewer than these.
unfoldable pub entries_in : ℕ → ℕ → List ℕ → List ℕ → Result (List Entry) ℕ
entries_in zero len last bytes = Ok []
entries_in (suc most) len last bytes =
    if length bytes == 0 then Ok []
    else if nat_lt (len - length bytes) 16_384 then (entry_in (is_key last None) bytes >>= λ first. entries_in most len first.0.key first.1 >>= λ others. Ok (first.0 ∷ others))
    else Err (length bytes)

-- the body of a block, behind its magic and its length
unfoldable pub body_in : List ℕ → Result (List ℕ) ℕ
body_in bytes = expected_in data_magic bytes >>= λ rest. expected_in (number w32 (length bytes - 12)) rest

-- a block that has this place, behind a last key
unfoldable pub block_in : List ℕ → Place → List ℕ → Result (List Entry) ℕ
block_in last place bytes =
    body_in bytes
    >>= λ body. entry_in (is_key last (Some place.key)) body
    >>= λ first. entries_in (length first.1) (length body) first.0.key first.1
    >>= λ others. Ok (first.0 ∷ others)

-- a fault that stands so many bytes before an end stands at this place
abbrev pub placed : {A : Type 0} → ℕ → Result A ℕ → Result A ℕ
placed end (Ok x) = Ok x
placed end (Err left) = Err (end - left)

-- the last key of entries, and the one before where there are none
abbrev pub last_key : List ℕ → List Entry → List ℕ
last_key before [] = before
last_key before (e ∷ es) = last_key e.key es

-- the entries of the blocks that have these places, from a place in the file on
unfoldable pub blocks_in : List ℕ → ℕ → List Place → List ℕ → Result (List Entry) ℕ
blocks_in last at [] bytes = Ok []
blocks_in last at (p ∷ places) bytes =
    placed (at + p.len) (block_in last p (take p.len bytes))
    >>= λ first. blocks_in (last_key last first) (at + p.len) places (drop p.len bytes)
    >>= λ others. Ok (first ++ others)

-- a block that begins at a place ends where the data does, if it is the last one; else it is full and ends before
abbrev pub is_length : ℕ → ℕ → ℕ → ℕ → Bool
is_length more at end len = if more == 0 then at + len == end else nat_lt (at + len) end && nat_lt 16_395 len

-- what the index says of a block that begins at a place
unfoldable pub listing_in : ℕ → ℕ → ℕ → List ℕ → Reader Place
listing_in more at end last bytes =
    expected_in (number w64 at) bytes
    >>= λ rest. passing (is_length more at end) (number_in w32) rest
    >>= λ len. key_in (is_key last None) len.1
    >>= λ key. Ok (record { len = len.0; key = key.0 }, key.1)

-- so many blocks that follow each other, up to the data's end
unfoldable pub listings_in : ℕ → ℕ → ℕ → List ℕ → Reader (List Place)
listings_in zero at end last bytes = if at == end then Ok ([], bytes) else Err (length bytes)
listings_in (suc more) at end last bytes =
    listing_in more at end last bytes
    >>= λ first. listings_in more (at + first.0.len) end first.0.key first.1
    >>= λ others. Ok (first.0 ∷ others.0, others.1)

-- the index block of so many blocks, behind data of this length
unfoldable pub index_in : ℕ → ℕ → List ℕ → Result (List Place) ℕ
index_in blocks end bytes =
    expected_in index_magic bytes >>= λ rest. expected_in (number w32 (length bytes - 12)) rest
    >>= λ rest. expected_in (number w32 blocks) rest
    >>= λ rest. listings_in blocks 0 end [] rest
    >>= λ places. if length places.1 == 0 then Ok places.0 else Err (length places.1)

-- what the trailer says: how long the data is, and how many entries and blocks there are
pub record Trailer : Type 0 where
  pub offset : ℕ
  pub entry_count : ℕ
  pub block_count : ℕ

-- where the index block begins: it has 16 bytes or more in front of the trailer
abbrev pub offset_in : ℕ → Reader ℕ
offset_in len = passing (λ n. nat_lt n (len - 79)) (number_in w64)

-- the trailer of a file of a length: the index block fills what is between the data and the trailer
unfoldable pub trailer_in : ℕ → List ℕ → Result Trailer ℕ
trailer_in len bytes =
    expected_in trailer_magic bytes >>= λ rest. expected_in (number w32 1) rest >>= λ rest. expected_in (number w32 0) rest
    >>= λ rest. offset_in len rest
    >>= λ offset. expected_in (number w64 (len - 64 - offset.0)) offset.1
    >>= λ rest. number_in w64 rest
    >>= λ entries. number_in w32 entries.1
    >>= λ blocks. expected_in (number w32 0) blocks.1
    >>= λ rest. expected_in (replicate 16 0) rest
    >>= λ rest. Ok (record { offset = offset.0; entry_count = entries.0; block_count = blocks.0 })

-- the entries of a file; that there are as many as the trailer says is known last
unfoldable pub file_in : List ℕ → Result (List Entry) ℕ
file_in bytes =
    if nat_lt (length bytes) 80 || nat_lt 268_435_456 (length bytes) then Err 0
    else (placed (length bytes) (trailer_in (length bytes) (drop (length bytes - 64) bytes))
    >>= λ t. placed (length bytes - 64) (index_in t.block_count t.offset (take (length bytes - 64 - t.offset) (drop t.offset bytes)))
    >>= λ places. blocks_in [] 0 places (take t.offset bytes)
    >>= λ entries. if length entries == t.entry_count then Ok entries else Err (length bytes - 32))

-- an error is want of memory, or the place of the first broken rule
abbrev pub HasCause : HFileError → Result (List Entry) ℕ → Type 0
HasCause errors.NoMemory read = Unit {0}
HasCause (errors.BadHFile at) read = read ≡ Err at

-- a place that is named stands in the file, or at its end
abbrev pub IsWithin : ℕ → HFileError → Type 0
IsWithin len errors.NoMemory = Unit {0}
IsWithin len (errors.BadHFile at) = at ≤ len

-- what was answered is what reading gives
abbrev pub Decodes : Result (List Entry) ℕ → Result (Vec Entry) HFileError → Type 0
Decodes read (Ok entries) = read ≡ Ok entries.items
Decodes read (Err e) = HasCause e read

-- the answer is these entries, unless memory ran out
abbrev pub IsOnly : List Entry → Result (Vec Entry) HFileError → Type 0
IsOnly entries (Ok found) = found.items ≡ entries
IsOnly entries (Err e) = e ≡ errors.NoMemory
