use Rattle.std.proofs.Common.{◌≡◌, drop}
use Rattle.std.specs.List.{fold, flat_map}
use Rattle.mx_merge.specs.declared.log.Log.{Log}
use Rattle.mx_merge.specs.declared.run.Run.TheVariants as runs
use Rattle.mx_merge.specs.declared.known.Known.TheVariants.{Said}
use Rattle.mx_merge.specs.Merged.{slice_entries, values_on_key}
use Rattle.mx_merge.specs.Said.{heard, IsKnown}
use Rattle.mx_merge.proofs.looking.payload_on.Given as goal

abbrev pub invariant-loop-log : goal.invariant-loop-log
invariant-loop-log l =
    (fold heard l.known (values_on_key l.key (flat_map (λ (log : Log). log.entries) (drop l.log-index l.logs))) ≡ fold heard (Said runs.Nothing) (values_on_key l.key (slice_entries l.base l.logs))) × IsKnown l.known
