use Rattle.std.proofs.Common.{◌≡◌, ◌++◌, drop}
use Rattle.std.specs.Prelude.{option_map}
use Rattle.serde_json.specs.View.{items_view}
use Rattle.mx_meta.specs.Json.{each_in, part_in}
use Rattle.mx_meta.proofs.parts.each_part.Given as goal

-- what is left decides
abbrev pub invariant-loop-item : goal.invariant-loop-item
invariant-loop-item l = option_map (λ more. l.parts ++ more) (each_in part_in (items_view (drop l.item-index l.items))) ≡ each_in part_in (items_view l.items)
