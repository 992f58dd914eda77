use Rattle.std.proofs.Common.{rules}
use Rattle.std.specs.Prelude.{◌==◌}
use Rattle.std.proofs.lemmas.Iterator.Consumers.{nth_from_yields_List}
use Rattle.std.proofs.lemmas.Iterator.Splits.{YieldsList-from_slice_split}
use Rattle.std.proofs.lemmas.Bool.Decides.{nat_tests}
use Rattle.mx_props.proofs.version.third_line.Goals as goal

pub returns : goal.returns
returns c =
    nth_from_yields_List c.nth.result _ 2 c.nth.ensures.ran (YieldsList-from_slice_split _ (λ byte. byte == 10) c.args.bytes.now c.split.ensures.rest c.split.ensures.done c.split.ensures.closure (λ x b q k. search (rules, nat_tests)))
