-- The shards that logs and bases stand in, by their paths.
use Rattle.std.specs.Prelude.{ℕ, ◌+◌, ◌-◌, ◌==◌, ◌&&◌, nat_lt, Bool, false, List, [], ◌∷◌, ◌++◌, length, take, drop, map, if◌then◌else◌, Option, Some, None, option_map, option_and_then}
use Rattle.std.specs.List.{find}
use Rattle.std.specs.Option.{option_map_or}
use Rattle.std.specs.Str.{bytes_eq}
use Rattle.mx_base.specs.Objects.{object_path, is_object_name}
use Rattle.mx_base.specs.Parts.{part_place}
use Rattle.mx_base.specs.Paths.{number_of}
use Rattle.mx_base.specs.declared.object_name.BaseKind.TheVariants.{Compaction, Indexing}
use Rattle.mx_base.specs.declared.object_name.ObjectName.{ObjectName}
use Rattle.mx_base.specs.declared.object_name.ObjectName.TheVariants as named
use Rattle.mx_base.specs.declared.part.Part.{Part}
use Rattle.mx_base.specs.declared.part.Part.TheVariants.{Files, ColumnStats, BloomFilters, RecordIndex}
use Rattle.mx_meta.specs.Rising.{is_rising, part_below}
use Rattle.mx_meta.specs.declared.places.Place.{Place}
use Rattle.mx_meta.specs.declared.places.ShardFile.{ShardFile}
use Rattle.mx_meta.specs.declared.places.ShardFile.TheVariants.{Log, Base}

abbrev parts : List Part
parts = Files ∷ ColumnStats ∷ BloomFilters ∷ RecordIndex ∷ []

-- the number in so many digits, with so many bytes of the path behind them
abbrev pub number_at : ℕ → ℕ → List ℕ → ℕ
number_at count behind path = number_of (take count (drop (length path - (count + behind)) path))

-- the names of logs and bases that can have the path, by the digits of its shard and its instant
abbrev pub names_at : List ℕ → List ObjectName
names_at path =
    map (λ part. named.Log part (number_at 4 22 path) (number_at 17 4 path)) parts
    ++ (map (λ part. named.Base part (number_at 4 27 path) (number_at 17 9 path) Compaction) parts
    ++ map (λ part. named.Base part (number_at 4 27 path) (number_at 17 9 path) Indexing) parts)

-- the log or base whose path it is
unfoldable pub shard_object : List ℕ → Option ObjectName
shard_object path = find (λ object. is_object_name object && bytes_eq path (object_path object)) (names_at path)

-- where a log, or where a base, stands
abbrev pub place_in : ShardFile → ObjectName → Option Place
place_in Log (named.Log part shard at) = Some (record { part = part; shard = shard })
place_in Base (named.Base part shard upto kind) = Some (record { part = part; shard = shard })
place_in file object = None

abbrev pub place_of : ShardFile → List ℕ → Option Place
place_of file path = option_and_then (place_in file) (shard_object path)

-- by partition, and in a partition by shard
abbrev pub place_below : Place → Place → Bool
place_below x y = if part_place x.part == part_place y.part then nat_lt x.shard y.shard else part_below x.part y.part

-- the places of paths, where each has one
abbrev pub places_of : ShardFile → List (List ℕ) → Option (List Place)
places_of file [] = Some []
places_of file (path ∷ paths) = option_and_then (λ place. option_map (λ places. place ∷ places) (places_of file paths)) (place_of file path)

-- each is the path of a log, or each of a base, and they stand by partition and shard, none twice
unfoldable pub stands_in_order : ShardFile → List (List ℕ) → Bool
stands_in_order file paths = option_map_or (is_rising place_below) (places_of file paths) false
