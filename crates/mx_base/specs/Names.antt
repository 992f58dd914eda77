-- Which texts are names.
use Rattle.std.specs.Prelude.{◌≡◌, ℕ, ◌==◌, ◌||◌, ◌&&◌, not, nat_lt, nat_le, Bool, true, false, List, length, slice_index, codes}
use Rattle.std.specs.List.{list_all, slice_split}
use Rattle.std.specs.Option.{option_map_or}
use Rattle.std.specs.Str.{bytes_eq}
use Rattle.std.specs.Char.{is_ascii_alphanumeric}
use Rattle.uuid.specs.Text.{hyphenated_text, lower, parsed}

-- a letter, a digit, `-`, `_`, `.` or `=`
abbrev pub is_name_byte : ℕ → Bool
is_name_byte byte = is_ascii_alphanumeric byte || (byte == 45 || (byte == 95 || (byte == 46 || byte == 61)))

-- a partition has 1 to 64 bytes of names, the first a letter or digit
unfoldable pub is_partition : List ℕ → Bool
is_partition text = nat_lt 0 (length text) && (nat_le (length text) 64 && (is_ascii_alphanumeric (slice_index text 0) && list_all is_name_byte text))

abbrev pub IsPartition : List ℕ → Type 0
IsPartition text = is_partition text ≡ true

-- a text is a record key where it has 1 to 255 bytes, none of them 0
unfoldable pub is_record_key : List ℕ → Bool
is_record_key text = nat_lt 0 (length text) && (nat_le (length text) 255 && list_all (λ byte. not (byte == 0)) text)

abbrev pub IsRecordKey : List ℕ → Type 0
IsRecordKey text = is_record_key text ≡ true

-- a segment has 1 to 255 bytes of names, and is not `.` or `..`
unfoldable pub is_segment : List ℕ → Bool
is_segment text =
    nat_lt 0 (length text) && (nat_le (length text) 255 && (list_all is_name_byte text && (not (bytes_eq text (codes ".")) && not (bytes_eq text (codes "..")))))

-- a path has at most 1,024 bytes, and is segments joined by `/`
unfoldable pub is_path : List ℕ → Bool
is_path text = nat_le (length text) 1024 && list_all is_segment (slice_split (λ byte. byte == 47) text)

abbrev pub IsPath : List ℕ → Type 0
IsPath text = is_path text ≡ true

-- a file id is the text of sixteen bytes, in lower case with hyphens
unfoldable pub is_file_id : List ℕ → Bool
is_file_id text = option_map_or (λ id. bytes_eq (hyphenated_text lower id) text) (parsed text) false

abbrev pub IsFileId : List ℕ → Type 0
IsFileId text = is_file_id text ≡ true

-- a digit, a letter from `a` to `f`, or `-`
abbrev pub is_file_id_byte : ℕ → Bool
is_file_id_byte byte = (nat_le 48 byte && nat_le byte 57) || ((nat_le 97 byte && nat_le byte 102) || byte == 45)
