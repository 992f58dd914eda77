-- The JSON of the objects that name logs or bases.
use Rattle.std.specs.Prelude.{ℕ, List, [], ◌∷◌, codes, Option, option_map, option_and_then}
use Rattle.serde_json.specs.Data.{Data, string, object, no_members, member}
use Rattle.mx_base.specs.Digits.{instant_text}
use Rattle.mx_meta.specs.Json.{field_in, paths_in, instant_in, paths_data, passing}
use Rattle.mx_meta.specs.Fields.{Field, field, with_fields, object_of}
use Rattle.mx_meta.specs.Places.{stands_in_order}
use Rattle.mx_meta.specs.Views.{Bases}
use Rattle.mx_meta.specs.declared.places.ShardFile.{ShardFile}
use Rattle.mx_meta.specs.declared.places.ShardFile.TheVariants.{Log, Base}

-- paths of logs, or of bases, by partition and shard
unfoldable pub shard_files_in : ShardFile → Data → Option (List (List ℕ))
shard_files_in file d = passing (stands_in_order file) (paths_in d)

-- ---- logs

unfoldable pub delta_meta_data : List (List ℕ) → Data
delta_meta_data logs = object (member (codes "logs") (paths_data logs) no_members)

abbrev pub delta_meta_fields : Data → List Field
delta_meta_fields d = field (codes "logs") (shard_files_in Log) d ∷ []

unfoldable pub delta_meta_in : Data → Option (List (List ℕ))
delta_meta_in d = option_and_then (λ d. field_in (shard_files_in Log) (codes "logs") d) (with_fields (delta_meta_fields d) d)

-- the logs that bytes spell as JSON
unfoldable pub delta_meta_of : List ℕ → Option (List (List ℕ))
delta_meta_of bytes = option_and_then delta_meta_in (object_of bytes)

-- ---- bases up to an instant

unfoldable pub base_meta_data : Bases → Data
base_meta_data meta = object (member (codes "bases") (paths_data meta.bases) (member (codes "upto") (string (instant_text meta.upto)) no_members))

abbrev pub base_meta_fields : Data → List Field
base_meta_fields d = field (codes "bases") (shard_files_in Base) d ∷ field (codes "upto") instant_in d ∷ []

unfoldable pub base_meta_in : Data → Option Bases
base_meta_in d =
    option_and_then (λ d. option_and_then (λ bases. option_map (λ upto. record { bases = bases; upto = upto })
    (field_in instant_in (codes "upto") d))
    (field_in (shard_files_in Base) (codes "bases") d))
    (with_fields (base_meta_fields d) d)

-- the bases that bytes spell as JSON
unfoldable pub base_meta_of : List ℕ → Option Bases
base_meta_of bytes = option_and_then base_meta_in (object_of bytes)
