-- The JSON of the plans for index partitions.
use Rattle.std.specs.Prelude.{ℕ, List, [], ◌∷◌, codes, map, Option, option_map, option_and_then}
use Rattle.serde_json.specs.Data.{Data, string, array, object, no_members, member}
use Rattle.serde_json.specs.View.{items_of}
use Rattle.mx_base.specs.Digits.{instant_text}
use Rattle.mx_base.specs.Parts.{part_name}
use Rattle.mx_meta.specs.Json.{field_in, part_in, parts_in, instant_in}
use Rattle.mx_meta.specs.Fields.{Field, field, with_fields, object_of}
use Rattle.mx_meta.specs.Views.{Compaction}
use Rattle.mx_meta.specs.declared.index_plan.IndexPlan.{IndexPlan}

-- ---- one partition that gets an index

unfoldable pub index_plan_data : IndexPlan → Data
index_plan_data plan = object (member (codes "part") (string (part_name plan.part)) (member (codes "upto") (string (instant_text plan.upto)) no_members))

abbrev pub index_plan_fields : Data → List Field
index_plan_fields d = field (codes "part") part_in d ∷ field (codes "upto") instant_in d ∷ []

unfoldable pub index_plan_in : Data → Option IndexPlan
index_plan_in d =
    option_and_then (λ d. option_and_then (λ part. option_map (λ upto. record { part = part; upto = upto })
    (field_in instant_in (codes "upto") d))
    (field_in part_in (codes "part") d))
    (with_fields (index_plan_fields d) d)

-- the plan that bytes spell as JSON
unfoldable pub index_plan_of : List ℕ → Option IndexPlan
index_plan_of bytes = option_and_then index_plan_in (object_of bytes)

-- ---- partitions that are compacted

unfoldable pub compact_plan_data : Compaction → Data
compact_plan_data plan =
    object (member (codes "parts") (array (items_of (map (λ part. string (part_name part)) plan.parts))) (member (codes "upto") (string (instant_text plan.upto)) no_members))

abbrev pub compact_plan_fields : Data → List Field
compact_plan_fields d = field (codes "parts") parts_in d ∷ field (codes "upto") instant_in d ∷ []

unfoldable pub compact_plan_in : Data → Option Compaction
compact_plan_in d =
    option_and_then (λ d. option_and_then (λ parts. option_map (λ upto. record { parts = parts; upto = upto })
    (field_in instant_in (codes "upto") d))
    (field_in parts_in (codes "parts") d))
    (with_fields (compact_plan_fields d) d)

-- the compaction that bytes spell as JSON
unfoldable pub compact_plan_of : List ℕ → Option Compaction
compact_plan_of bytes = option_and_then compact_plan_in (object_of bytes)
