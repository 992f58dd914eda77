use Rattle.std.proofs.Common.{◌≡◌, ◌++◌, drop}
use Rattle.std.specs.Prelude.{option_map}
use Rattle.serde_json.specs.View.{items_view}
use Rattle.mx_base.specs.Names.{is_path}
use Rattle.mx_meta.specs.Json.{each_in, text_in}
use Rattle.mx_meta.proofs.paths.each_path.Given as goal

-- what is left decides
abbrev pub invariant-loop-item : goal.invariant-loop-item
invariant-loop-item l =
    option_map (λ more. l.paths ++ more) (each_in (text_in is_path) (items_view (drop l.item-index l.items))) ≡ each_in (text_in is_path) (items_view l.items)
