use Rattle.std.proofs.Common.{◌≡◌, arith}
use Rattle.std.specs.List.{fold}
use Rattle.std.proofs.lemmas.Grind.{common_steps}
use Rattle.mx_merge.specs.declared.run.Run.TheVariants as runs
use Rattle.mx_merge.specs.declared.known.Known.TheVariants.{Said}
use Rattle.mx_merge.specs.Merged.{slice_entries, values_on_key}
use Rattle.mx_merge.specs.Said.{heard}
use Rattle.mx_merge.proofs.ValueLemmas.{shows_told}
use Rattle.mx_merge.proofs.looking.payload_on.Goals as goal

pub returns-clause-shows : goal.returns-clause-shows
returns-clause-shows c =
    let is : c.loop-log.known ≡ fold heard (Said runs.Nothing) (values_on_key c.args.key.now (slice_entries c.args.base.now c.args.logs.now)) = grind (arith, common_steps, c.loop-log.invariant.0) in
    shows_told c.args.key.now (slice_entries c.args.base.now c.args.logs.now) c.loop-log.known c.shown.result is c.shown.ensures.tells
