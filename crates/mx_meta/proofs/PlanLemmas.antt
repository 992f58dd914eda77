-- Plans for index partitions have no float, nest little, and read back.
use Rattle.std.proofs.Common.{◌≡◌, ℕ, ◌≤◌, ◌<◌, ◌^◌, Bool, true, false, List, map, Result, Some, None, refl, ap, ◌∙◌, arith}
use Rattle.std.specs.Prelude.{IsUtf8, IfOk, if◌then◌else◌}
use Rattle.serde_json.specs.Data.{Data, string, array, depth}
use Rattle.serde_json.specs.Read.{read}
use Rattle.serde_json.specs.Written.{has_float, items_have_float}
use Rattle.serde_json.specs.View.{items_of}
use Rattle.mx_base.specs.Digits.{instant_text}
use Rattle.mx_base.specs.Parts.{part_name}
use Rattle.mx_base.specs.declared.part.Part.{Part}
use Rattle.mx_meta.specs.declared.index_plan.IndexPlan.{IndexPlan}
use Rattle.mx_meta.specs.Json.{part_in, parts_in, instant_in, each_in, passing}
use Rattle.mx_meta.specs.Rising.{is_rising, part_below}
use Rattle.mx_meta.specs.Views.{Compaction}
use Rattle.mx_meta.specs.Plans.{index_plan_data, index_plan_in, index_plan_of, compact_plan_data, compact_plan_in, compact_plan_of}
use Rattle.mx_meta.proofs.JsonLemmas.{neither, each_in-map}
use Rattle.mx_meta.proofs.NameLemmas.{part_in-part_name, instant_in-instant_text}
use Rattle.mx_meta.proofs.PathListLemmas.{read_again, texts_no_float, texts_depth}

-- ---- one partition that gets an index

pub index_plan_data-no_float : (plan : IndexPlan) → has_float (index_plan_data plan) ≡ false
unfolding index_plan_data
index_plan_data-no_float plan = refl

pub depth-index_plan_data : (plan : IndexPlan) → depth (index_plan_data plan) ≤ 127
unfolding index_plan_data
depth-index_plan_data plan = omega arith

pub index_plan_again : {E : Type 0} (r : Result (List ℕ) E) (plan : IndexPlan) (d : Data) → d ≡ index_plan_data plan → IfOk r (λ bytes. IsUtf8 bytes) → IfOk r (λ bytes. read bytes ≡ Some d) →
    plan.upto < 10 ^ 17 → IfOk r (λ bytes. index_plan_of bytes ≡ Some plan)
unfolding index_plan_of index_plan_in index_plan_data
index_plan_again r plan d is utf8 reads bound =
    let part : part_in (string (part_name plan.part)) ≡ Some plan.part = part_in-part_name plan.part in
    let upto : instant_in (string (instant_text plan.upto)) ≡ Some plan.upto = instant_in-instant_text plan.upto bound in
    read_again index_plan_in plan r d (index_plan_data plan) is utf8 reads refl (rw (part, upto) (rw (part, upto) refl))

-- ---- partitions that are compacted

each_part_back : (parts : List Part) → each_in part_in (items_of (map (λ part. string (part_name part)) parts)) ≡ Some parts
each_part_back parts = each_in-map part_in (λ part. string (part_name part)) parts part_in-part_name

pub parts_back : (parts : List Part) → is_rising part_below parts ≡ true → parts_in (array (items_of (map (λ part. string (part_name part)) parts))) ≡ Some parts
unfolding parts_in
parts_back parts rising = ap (passing (is_rising part_below)) (each_part_back parts) ∙ ap (λ (b : Bool). if b then Some parts else None) rising

pub compact_plan_data-no_float : (plan : Compaction) → has_float (compact_plan_data plan) ≡ false
unfolding compact_plan_data
compact_plan_data-no_float plan = neither (items_have_float (items_of (map (λ part. string (part_name part)) plan.parts))) false (texts_no_float part_name plan.parts) refl

pub depth-compact_plan_data : (plan : Compaction) → depth (compact_plan_data plan) ≤ 127
unfolding compact_plan_data
depth-compact_plan_data plan = omega (arith, texts_depth part_name plan.parts)

pub compact_plan_again : {E : Type 0} (r : Result (List ℕ) E) (plan : Compaction) (d : Data) → d ≡ compact_plan_data plan → IfOk r (λ bytes. IsUtf8 bytes) → IfOk r (λ bytes. read bytes ≡ Some d) →
    is_rising part_below plan.parts ≡ true → plan.upto < 10 ^ 17 → IfOk r (λ bytes. compact_plan_of bytes ≡ Some plan)
unfolding compact_plan_of compact_plan_in compact_plan_data
compact_plan_again r plan d is utf8 reads rising bound =
    let parts : parts_in (array (items_of (map (λ part. string (part_name part)) plan.parts))) ≡ Some plan.parts = parts_back plan.parts rising in
    let upto : instant_in (string (instant_text plan.upto)) ≡ Some plan.upto = instant_in-instant_text plan.upto bound in
    read_again compact_plan_in plan r d (compact_plan_data plan) is utf8 reads refl (rw (parts, upto) (rw (parts, upto) refl))
