use Rattle.std.proofs.Common.{get_or, rules}
use Rattle.std.proofs.lemmas.List.{get_or_default}
use Rattle.mx_base.specs.declared.part.Part.TheVariants.{Files}
use Rattle.mx_open.specs.Deciding.{HasBaseIn}
use Rattle.mx_meta.proofs.JsonLemmas.{named_more}
use Rattle.mx_open.proofs.KindLemmas.{all_taken}
use Rattle.mx_open.proofs.context.are_based.Goals as goal

pub returns-then-not-has_base : goal.returns-then-not-has_base
returns-then-not-has_base c all = c.if-not-has_base.ensures (all c.loop-part.part-index Files c.loop-part-test.true)

pub loop-part-preserved : goal.loop-part-preserved
loop-part-preserved c =
    let part = get_or c.args.parts.now c.loop-part.part-index Files in
    named_more (HasBaseIn c.args.bases.now) c.args.parts.now c.loop-part.part-index part c.loop-part.invariant c.if-not-has_base.ensures c.loop-part-test.true
    (get_or_default c.args.parts.now c.loop-part.part-index Files part c.loop-part-test.true)

pub returns : goal.returns
returns c = all_taken (HasBaseIn c.args.bases.now) c.args.parts.now c.loop-part.part-index (search rules) c.loop-part.invariant
