use Rattle.std.proofs.Common.{◌≡◌, ℕ, List, drop}
use Rattle.std.specs.List.{fold, flat_map}
use Rattle.mx_merge.specs.declared.log.Log.{Log}
use Rattle.mx_merge.specs.declared.run.Run.TheVariants as runs
use Rattle.mx_merge.specs.declared.known.Known.TheVariants.{Said}
use Rattle.mx_merge.specs.Merged.{slice_entries}
use Rattle.mx_merge.specs.Said.{heard, asked, known_at, IsKnown}
use Rattle.mx_merge.proofs.merging.scan.Given as goal

abbrev pub invariant-loop-log : goal.invariant-loop-log
invariant-loop-log l =
    ((key : List ℕ) → fold heard (known_at l.met key) (asked l.prefix key (flat_map (λ (log : Log). log.entries) (drop l.log-index l.logs))) ≡ fold heard (Said runs.Nothing) (asked l.prefix key (slice_entries l.base l.logs)))
    × ((key : List ℕ) → IsKnown (known_at l.met key))
