use Rattle.std.proofs.Common.{◌∙◌, ◌++◌, List, ap, map}
use Rattle.mx_base.specs.Paths.{group_name}
use Rattle.mx_meta.specs.declared.commit_meta.WriteStat.{WriteStat}
use Rattle.mx_groups.proofs.ListingLemmas.{groups_next}
use Rattle.mx_groups.proofs.listing.groups_of.Goals as goal

pub loop-stats-preserved : goal.loop-stats-preserved
loop-stats-preserved c = groups_next c.as_slice-stats-items.result.now c.loop-stats.stats-index c.stats-item.result c.loop-stats.groups c.push_groups.new.groups c.loop-stats-test.true c.stats-item.is c.loop-stats.invariant
    (c.in_ok-push_groups.ensures ∙ ap (λ (stats : List WriteStat). c.loop-stats.groups ++ map (λ (s : WriteStat). group_name c.stats-item.result.partition s.file_id) stats) c.as_slice.ensures)
