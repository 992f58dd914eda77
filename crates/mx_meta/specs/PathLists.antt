-- The JSON of the objects that are lists of paths.
use Rattle.std.specs.Prelude.{ℕ, List, [], ◌∷◌, codes, Option, option_map, option_and_then}
use Rattle.serde_json.specs.Data.{Data, string, object, no_members, member}
use Rattle.mx_base.specs.Digits.{instant_text}
use Rattle.mx_meta.specs.Json.{field_in, paths_in, rising_paths_in, some_instant_in, paths_data}
use Rattle.mx_meta.specs.Fields.{Field, field, with_fields, object_of}
use Rattle.mx_meta.specs.Views.{Rollback}
use Rattle.mx_meta.specs.declared.path_list.PathList.{PathList}

-- ---- paths in any order

unfoldable pub path_list_data : PathList → Data
path_list_data list = object (member (codes "paths") (paths_data list.paths) no_members)

abbrev pub path_list_fields : Data → List Field
path_list_fields d = field (codes "paths") paths_in d ∷ []

unfoldable pub path_list_in : Data → Option PathList
path_list_in d = option_and_then (λ d. option_map (λ paths. record { paths = paths }) (field_in paths_in (codes "paths") d)) (with_fields (path_list_fields d) d)

-- the list of paths that bytes spell as JSON
unfoldable pub path_list_of : List ℕ → Option PathList
path_list_of bytes = option_and_then path_list_in (object_of bytes)

-- ---- paths to be dropped, in the order of their bytes

unfoldable pub drop_list_data : List (List ℕ) → Data
drop_list_data paths = object (member (codes "drop") (paths_data paths) no_members)

abbrev pub drop_list_fields : Data → List Field
drop_list_fields d = field (codes "drop") rising_paths_in d ∷ []

unfoldable pub drop_list_in : Data → Option (List (List ℕ))
drop_list_in d = option_and_then (λ d. field_in rising_paths_in (codes "drop") d) (with_fields (drop_list_fields d) d)

-- the paths to be dropped that bytes spell as JSON
unfoldable pub drop_list_of : List ℕ → Option (List (List ℕ))
drop_list_of bytes = option_and_then drop_list_in (object_of bytes)

-- ---- an instant that is rolled back

unfoldable pub rollback_plan_data : Rollback → Data
rollback_plan_data plan = object (member (codes "instant") (string (instant_text plan.instant)) (member (codes "paths") (paths_data plan.paths) no_members))

abbrev pub rollback_plan_fields : Data → List Field
rollback_plan_fields d = field (codes "instant") some_instant_in d ∷ field (codes "paths") paths_in d ∷ []

unfoldable pub rollback_plan_in : Data → Option Rollback
rollback_plan_in d =
    option_and_then (λ d. option_and_then (λ instant. option_map (λ paths. record { instant = instant; paths = paths })
    (field_in paths_in (codes "paths") d))
    (field_in some_instant_in (codes "instant") d))
    (with_fields (rollback_plan_fields d) d)

-- the rollback that bytes spell as JSON
unfoldable pub rollback_plan_of : List ℕ → Option Rollback
rollback_plan_of bytes = option_and_then rollback_plan_in (object_of bytes)
