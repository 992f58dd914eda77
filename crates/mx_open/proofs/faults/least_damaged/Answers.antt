use Rattle.std.proofs.Common.{rules}
use Rattle.mx_open.proofs.FaultLemmas.{unharmed_least}
use Rattle.mx_open.proofs.faults.least_damaged.Goals as goal

pub returns : goal.returns
returns c = record {
  least =
      unharmed_least c.args.held.now c.args.context.now c.requires.context c.as_slice.result.now c.as_slice-2.result.now c.in_ok-object.object c.in_ok-base.base c.lesser.result (search rules) (search rules) c.lesser.ensures
      c.in_ok-object.ensures.least c.in_ok-base.ensures;
}
