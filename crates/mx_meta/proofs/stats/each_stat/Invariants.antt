use Rattle.std.proofs.Common.{◌≡◌, ◌++◌, drop}
use Rattle.std.specs.Prelude.{option_map}
use Rattle.serde_json.specs.View.{items_view}
use Rattle.mx_meta.specs.Json.{each_in}
use Rattle.mx_meta.specs.CommitText.{stat_in}
use Rattle.mx_meta.proofs.stats.each_stat.Given as goal

-- what is left decides
abbrev pub invariant-loop-item : goal.invariant-loop-item
invariant-loop-item l = option_map (λ more. l.stats ++ more) (each_in stat_in (items_view (drop l.item-index l.items))) ≡ each_in stat_in (items_view l.items)
