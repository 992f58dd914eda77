-- Reading from left to right, with the first broken rule. A rule is broken where so many bytes are left, from the
-- start of its field on.
use Rattle.std.specs.Prelude.{◌≡◌, ℕ, zero, suc, ◌-◌, ◌%◌, ◌^◌, ℤ, pos, negsuc, Bool, true, false, not, ◌&&◌, List, [], ◌∷◌, length, take, drop, map, Option, Some, None, Result, Ok, Err, nat_lt, ◌==◌, if◌then◌else◌}
use Rattle.std.specs.Option.{option_map}
use Rattle.std.specs.List.{slice_get}
use Rattle.std.specs.Str.{is_utf8}
use Rattle.mx_avro.specs.declared.error.AvroError.{AvroError}
use Rattle.mx_avro.specs.Decoding.{long_at, bytes_at}
use Rattle.mx_schema.specs.declared.cell.Cell.{Cell}
use Rattle.mx_schema.specs.declared.cell.Cell.TheVariants as cells
use Rattle.mx_schema.specs.declared.column_stat.ColumnStat.{ColumnStat}
use Rattle.mx_payload.specs.declared.payload.NameWord.{NameWord}
use Rattle.mx_payload.specs.declared.payload.Payload.{Payload}
use Rattle.mx_payload.specs.declared.payload.Payload.TheVariants.{Partitions, Files, Stats, Bloom, Location}
use Rattle.mx_payload.specs.declared.error.PayloadError.{PayloadError}
use Rattle.mx_payload.specs.declared.error.PayloadError.TheVariants as errors
use Rattle.mx_lists.specs.Reading.{◌>>=◌, Reader, passing}
use Rattle.mx_payload.specs.Rules.{rises}

-- one value behind the other
abbrev pub both : {A B : Type 0} → Reader A → Reader B → Reader (A × B)
both first second bytes = first bytes >>= λ x. second x.1 >>= λ y. Ok ((x.0, y.0), y.1)

-- the bytes behind a number that ends at a place
abbrev pub number_from : List ℕ → Result (ℤ × ℕ) AvroError → Result (ℤ × List ℕ) ℕ
number_from bytes (Ok n) = Ok (n.0, drop n.1 bytes)
number_from bytes (Err e) = Err (length bytes)

-- any number of 64 bits
abbrev pub number_in : Reader ℤ
number_in bytes = number_from bytes (long_at bytes 0)

-- a number below 0 breaks the rule of its field
abbrev pub natural_from : List ℕ → ℤ × List ℕ → Result (ℕ × List ℕ) ℕ
natural_from bytes (pos n, rest) = Ok (n, rest)
natural_from bytes (negsuc n, rest) = Err (length bytes)

-- a number that is not below 0
unfoldable pub natural_in : Reader ℕ
natural_in bytes = number_in bytes >>= natural_from bytes

-- whether a number has 32 bits
abbrev pub is_small : ℤ → Bool
is_small (pos n) = nat_lt n (2 ^ 31)
is_small (negsuc n) = nat_lt n (2 ^ 31)

-- a number of 32 bits
unfoldable pub small_in : Reader ℤ
small_in = passing is_small number_in

-- what stands behind the number that is wanted
unfoldable pub expected_in : ℕ → List ℕ → Result (List ℕ) ℕ
expected_in wanted bytes = passing (λ n. n == wanted) natural_in bytes >>= λ n. Ok n.1

-- a value behind the number that is wanted
abbrev pub behind : {A : Type 0} → ℕ → Reader A → Reader A
behind wanted read bytes = expected_in wanted bytes >>= read

-- a value before a union that is null
abbrev pub before_null : {A : Type 0} → Reader A → Reader A
before_null read bytes = read bytes >>= λ x. expected_in 0 x.1 >>= λ rest. Ok (x.0, rest)

-- the bytes between two places, and those behind them
abbrev pub bytes_from : List ℕ → Result (ℕ × ℕ) AvroError → Result (List ℕ × List ℕ) ℕ
bytes_from bytes (Ok place) = Ok (take (place.1 - place.0) (drop place.0 bytes), drop place.1 bytes)
bytes_from bytes (Err e) = Err (length bytes)

-- a byte string
unfoldable pub bytes_in : Reader (List ℕ)
bytes_in bytes = bytes_from bytes (bytes_at bytes 0)

-- a text is UTF-8
unfoldable pub text_in : Reader (List ℕ)
text_in = passing is_utf8 bytes_in

-- a truth value is the byte 0 or 1
unfoldable pub flag_in : Reader Bool
flag_in [] = Err 0
flag_in (zero ∷ rest) = Ok (false, rest)
flag_in (suc zero ∷ rest) = Ok (true, rest)
flag_in (suc (suc b) ∷ rest) = Err (suc (length rest))

-- the value of a branch
abbrev pub value_in : ℕ → ℕ → Reader Cell
value_in left branch bytes =
    if branch == 0 then Ok (cells.Null, bytes)
    else if branch == 1 then (flag_in bytes >>= λ b. Ok (cells.Flag b.0, b.1))
    else if branch == 2 then (small_in bytes >>= λ n. Ok (cells.Small n.0, n.1))
    else if branch == 3 then (number_in bytes >>= λ n. Ok (cells.Whole n.0, n.1))
    else if branch == 4 then (text_in bytes >>= λ t. Ok (cells.Text t.0, t.1))
    else Err left

-- a cell is the number of its branch and its value
unfoldable pub cell_in : Reader Cell
cell_in bytes = natural_in bytes >>= λ branch. value_in (length bytes) branch.0 branch.1

-- a name behind the one before it
unfoldable pub name_in : Option (List ℕ) → Reader (List ℕ)
name_in before = passing (rises before) text_in

-- the partition list has no sizes and no deleted words
abbrev pub size_in : Bool → Reader ℕ
size_in plain = passing (λ size. not (plain && nat_lt 0 size)) natural_in

-- the flag of a word
abbrev pub deleted_in : Bool → Reader Bool
deleted_in plain = passing (λ deleted. not (plain && deleted)) flag_in

-- a deleted word has no size
unfoldable pub state_in : Bool → Reader (ℕ × Bool)
state_in plain = passing (λ state. not (state.1 && nat_lt 0 state.0)) (both (size_in plain) (deleted_in plain))

-- a word is its name, its size and its flag
unfoldable pub word_in : Bool → Option (List ℕ) → Reader NameWord
word_in plain before bytes = both (name_in before) (state_in plain) bytes >>= λ x. Ok (record { name = x.0.0; size = x.0.1.0; deleted = x.0.1.1 }, x.1)

-- the name of the last word
abbrev pub last_name : List NameWord → Option (List ℕ)
last_name words = option_map (λ w. w.name) (slice_get words (length words - 1))

-- so many words
unfoldable pub words_in : Bool → Option (List ℕ) → ℕ → Reader (List NameWord)
words_in plain before zero bytes = Ok ([], bytes)
words_in plain before (suc count) bytes = do
  first ← word_in plain before bytes
  others ← words_in plain (Some first.0.name) count first.1
  Ok (first.0 ∷ others.0, others.1)

-- one block and 0 behind it, or just 0
abbrev pub block_in : Bool → ℕ → Reader (List NameWord)
block_in plain count bytes = if count == 0 then Ok ([], bytes) else before_null (words_in plain None count) bytes

-- a map is how many words there are, and the words
unfoldable pub map_in : Bool → Reader (List NameWord)
map_in plain bytes = natural_in bytes >>= λ count. block_in plain count.0 count.1

-- whether a cell is null
abbrev pub is_null : Cell → Bool
is_null cells.Null = true
is_null (cells.Flag b) = false
is_null (cells.Small n) = false
is_null (cells.Whole n) = false
is_null (cells.Text t) = false

-- how many fields in front say nothing
abbrev pub empty_fields : ColumnStat → ℕ
empty_fields stat =
    if not (is_null stat.min) then 0
    else if not (is_null stat.max) then 1
    else if nat_lt 0 stat.values then 2
    else if nat_lt 0 stat.nulls then 3
    else if nat_lt 0 stat.size then 4
    else if nat_lt 0 stat.uncompressed then 5
    else 6

-- in deleted stats a field that says something is wrong, and each field before it has one byte
abbrev pub checked_stat : ℕ → ColumnStat → Bool → List ℕ → Result ((ColumnStat × Bool) × List ℕ) ℕ
checked_stat left stat deleted rest = if deleted && nat_lt (empty_fields stat) 6 then Err (left - empty_fields stat) else Ok ((stat, deleted), rest)

-- the fields of stats in reading order
abbrev pub Facts : Type 0
Facts = Cell × (Cell × (ℕ × (ℕ × (ℕ × (ℕ × Bool)))))

-- these fields, each by its own rule
abbrev pub facts_in : Reader Facts
facts_in = both cell_in (both cell_in (both natural_in (both natural_in (both natural_in (both natural_in flag_in)))))

-- the stats of these fields
abbrev pub stat_of_facts : Facts → ColumnStat
stat_of_facts x = record { min = x.0; max = x.1.0; values = x.1.1.0; nulls = x.1.1.1.0; size = x.1.1.1.1.0; uncompressed = x.1.1.1.1.1.0 }

-- the last of these fields
abbrev pub deleted_of_facts : Facts → Bool
deleted_of_facts x = x.1.1.1.1.1.1

-- stats and whether they were taken out
unfoldable pub stat_in : Reader (ColumnStat × Bool)
stat_in bytes = facts_in bytes >>= λ x. checked_stat (length bytes) (stat_of_facts x.0) (deleted_of_facts x.0) x.1

-- whether two truth values are the same
abbrev pub is_same : Bool → Bool → Bool
is_same true b = b
is_same false b = not b

-- the bytes of a filter are a multiple of 8, and none exactly where it was taken out
unfoldable pub filter_in : Reader (List ℕ × Bool)
filter_in = passing (λ x. is_same (length x.0 == 0) x.1) (both (passing (λ bits. length bits % 8 == 0) bytes_in) flag_in)

-- an instant is from 1 to seventeen digits
unfoldable pub instant_in : Reader ℕ
instant_in = passing (λ n. nat_lt 0 n && nat_lt n (10 ^ 17)) natural_in

-- the partition list, where the files are present and the rest is null
unfoldable pub partitions_in : Reader Payload
partitions_in bytes = behind 1 (before_null (before_null (before_null (map_in true)))) bytes >>= λ x. Ok (Partitions (map (λ w. w.name) x.0), x.1)

-- a file list, where the files are present and the rest is null
unfoldable pub files_in : Reader Payload
files_in bytes = behind 1 (before_null (before_null (before_null (map_in false)))) bytes >>= λ x. Ok (Files x.0, x.1)

-- stats, where the third union is present
unfoldable pub stats_in : Reader Payload
stats_in bytes = behind 0 (behind 0 (behind 1 (before_null (both text_in (both text_in stat_in))))) bytes >>= λ x. Ok (Stats x.0.0 x.0.1.0 x.0.1.1.0 x.0.1.1.1, x.1)

-- a filter, where the second union is present
unfoldable pub bloom_in : Reader Payload
bloom_in bytes = behind 0 (behind 1 (before_null (before_null filter_in))) bytes >>= λ x. Ok (Bloom x.0.0 x.0.1, x.1)

-- a location, where the last union is present
unfoldable pub location_in : Reader Payload
location_in bytes = behind 0 (behind 0 (behind 0 (behind 1 (both text_in (both text_in (both instant_in flag_in)))))) bytes
    >>= λ x. Ok (Location x.0.0 x.0.1.0 x.0.1.1.0 x.0.1.1.1, x.1)

-- a payload of this kind; another kind breaks the rule of the field that was read before
abbrev pub kind_in : ℕ → ℕ → Reader Payload
kind_in left kind bytes =
    if kind == 1 then partitions_in bytes
    else if kind == 2 then files_in bytes
    else if kind == 3 then stats_in bytes
    else if kind == 4 then bloom_in bytes
    else if kind == 5 then location_in bytes
    else Err left

-- all of the bytes
unfoldable pub payload_in : List ℕ → Result Payload ℕ
payload_in bytes = do
  key ← expected_in 0 bytes
  kind ← natural_in key
  payload ← kind_in (length key) kind.0 kind.1
  if length payload.1 == 0 then Ok payload.0 else Err (length payload.1)

-- what decoding returned is the payload that was read, or the place of the first broken rule, unless memory ran out
abbrev pub FailsAt : ℕ → PayloadError → Result Payload ℕ → Type 0
FailsAt len errors.NoMemory read = Unit {0}
FailsAt len (errors.BadPayload at) (Ok payload) = ⊥
FailsAt len (errors.BadPayload at) (Err left) = at ≡ len - left

-- the place of a broken rule is counted from the start of the bytes
abbrev pub Decodes : List ℕ → Result Payload PayloadError → Type 0
Decodes bytes (Ok payload) = payload_in bytes ≡ Ok payload
Decodes bytes (Err e) = FailsAt (length bytes) e (payload_in bytes)

-- the answer is this payload, unless memory ran out
abbrev pub IsOnly : Payload → Result Payload PayloadError → Type 0
IsOnly p (Ok q) = q ≡ p
IsOnly p (Err errors.NoMemory) = Unit {0}
IsOnly p (Err (errors.BadPayload at)) = ⊥
