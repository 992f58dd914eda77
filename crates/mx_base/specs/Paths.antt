-- The names of a table's objects.
use Rattle.std.specs.Prelude.{ℕ, ◌+◌, ◌-◌, ◌*◌, ◌^◌, ◌==◌, ◌&&◌, nat_lt, List, ◌∷◌, ◌++◌, length, drop, fold, codes, Option, Some, None, if◌then◌else◌}
use Rattle.std.specs.List.{before_last}
use Rattle.std.specs.Str.{bytes_eq}
use Rattle.mx_base.specs.Digits.{instant_text}

-- a commit stands at its instant
unfoldable pub commit_path : ℕ → List ℕ
commit_path at = codes ".hoodie/" ++ (instant_text at ++ codes ".commit")

-- the log of the files partition that a commit writes
unfoldable pub files_log_path : ℕ → List ℕ
files_log_path at = codes ".hoodie/metadata/files/files-0000_" ++ (instant_text at ++ codes ".log")

-- the data file of a group at an instant
unfoldable pub data_file_name : List ℕ → ℕ → List ℕ
data_file_name file at = file ++ (codes "_0-0-0_" ++ (instant_text at ++ codes ".parquet"))

-- a data file stands in its partition
unfoldable pub data_path : List ℕ → List ℕ → ℕ → List ℕ
data_path partition file at = partition ++ 47 ∷ data_file_name file at

-- the number that decimal digits write
abbrev pub number_of : List ℕ → ℕ
number_of digits = fold (λ number byte. number * 10 + (byte - 48)) 0 digits

-- the instant that seventeen digits write
unfoldable pub instant_of : List ℕ → Option ℕ
instant_of text = let at = number_of text in if nat_lt at (10 ^ 17) && bytes_eq text (instant_text at) then Some at else None

-- the number in the seventeen bytes before the last dot of a name
unfoldable pub name_instant : List ℕ → ℕ
name_instant name = let front = before_last (λ byte. byte == 46) name in number_of (drop (length front - 17) front)

-- the instant at which a path is the path of a commit
unfoldable pub commit_instant : List ℕ → Option ℕ
commit_instant path =
    let at = name_instant path in
    if nat_lt 0 at && (nat_lt at (10 ^ 17) && bytes_eq path (commit_path at)) then Some at else None

-- a group is a partition and a file id
unfoldable pub group_name : List ℕ → List ℕ → List ℕ
group_name partition file = partition ++ 47 ∷ file
