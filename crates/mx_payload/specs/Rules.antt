-- The rules of a payload.
use Rattle.std.specs.Prelude.{◌≡◌, ℕ, ◌%◌, ◌^◌, ◌<◌, Bool, true, false, List, [], ◌∷◌, length, map, Option, Some, None}
use Rattle.std.specs.List.{AllByRecursion}
use Rattle.std.specs.Str.{IsUtf8}
use Rattle.std.specs.Int.{w32, w64}
use Rattle.std.specs.Int.RustNames.{FitsSigned}
use Rattle.std.specs.Bool.{IsTrue}
use Rattle.std.specs.Ordering.{nat_cmp, is_lt}
use Rattle.std.specs.Cmp.Lexicographic.{slice_cmp}
use Rattle.mx_schema.specs.declared.cell.Cell.{Cell}
use Rattle.mx_schema.specs.declared.cell.Cell.TheVariants as cells
use Rattle.mx_schema.specs.declared.column_stat.ColumnStat.{ColumnStat}
use Rattle.mx_payload.specs.declared.payload.NameWord.{NameWord}
use Rattle.mx_payload.specs.declared.payload.Payload.{Payload}
use Rattle.mx_payload.specs.declared.payload.Payload.TheVariants.{Partitions, Files, Stats, Bloom, Location}

-- a number that a long can hold
abbrev pub IsLong : ℕ → Type 0
IsLong n = n < 2 ^ 63

-- UTF-8 whose length a long can hold
pub record IsText (text : List ℕ) : Type 0 where
  pub utf8 : IsUtf8 text
  pub len : IsLong (length text)

-- a name stands behind another one in the order of their bytes
abbrev pub rises : Option (List ℕ) → List ℕ → Bool
rises None name = true
rises (Some before) name = is_lt (slice_cmp nat_cmp before name)

-- each name stands behind the one before it
abbrev pub RisesFrom : Option (List ℕ) → List NameWord → Type 0
RisesFrom before [] = Unit {0}
RisesFrom before (word ∷ words) = IsTrue (rises before word.name) × RisesFrom (Some word.name) words

-- a word that was taken out has no size
pub record IsWord (word : NameWord) : Type 0 where
  pub name : IsText word.name
  pub size : IsLong word.size
  pub deleted : word.deleted ≡ true → word.size ≡ 0

-- names rise strictly, so none stands twice
pub record AreWords (words : List NameWord) : Type 0 where
  pub count : IsLong (length words)
  pub each : AllByRecursion IsWord words
  pub rising : RisesFrom None words

-- the word of a partition in the partition list
abbrev pub plain : List ℕ → NameWord
plain name = record { name = name; size = 0; deleted = false }

-- a cell has the range of its kind
abbrev pub IsCell : Cell → Type 0
IsCell cells.Null = Unit {0}
IsCell (cells.Flag b) = Unit {0}
IsCell (cells.Small n) = FitsSigned w32 n
IsCell (cells.Whole n) = FitsSigned w64 n
IsCell (cells.Text text) = IsText text

-- nothing is known of the column
pub record IsEmptyStat (stat : ColumnStat) : Type 0 where
  pub min : stat.min ≡ cells.Null
  pub max : stat.max ≡ cells.Null
  pub values : stat.values ≡ 0
  pub nulls : stat.nulls ≡ 0
  pub size : stat.size ≡ 0
  pub uncompressed : stat.uncompressed ≡ 0

-- stats that were taken out say nothing
pub record IsStat (stat : ColumnStat) (deleted : Bool) : Type 0 where
  pub min : IsCell stat.min
  pub max : IsCell stat.max
  pub values : IsLong stat.values
  pub nulls : IsLong stat.nulls
  pub size : IsLong stat.size
  pub uncompressed : IsLong stat.uncompressed
  pub silent : deleted ≡ true → IsEmptyStat stat

-- a filter is a positive multiple of 8 bytes, and has none where it was taken out
abbrev pub IsFilter : List ℕ → Bool → Type 0
IsFilter bits true = length bits ≡ 0
IsFilter bits false = (0 < length bits) × (length bits % 8 ≡ 0)

-- a payload keeps the rules of its kind
abbrev pub IsWellFormed : Payload → Type 0
IsWellFormed (Partitions names) = AreWords (map plain names)
IsWellFormed (Files words) = AreWords words
IsWellFormed (Stats file column stat deleted) = IsText file × IsText column × IsStat stat deleted
IsWellFormed (Bloom bits deleted) = IsLong (length bits) × IsFilter bits deleted
IsWellFormed (Location partition file instant deleted) = IsText partition × IsText file × (0 < instant) × (instant < 10 ^ 17)
