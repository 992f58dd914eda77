use Rattle.std.proofs.Common.{All, arith, rules, subst}
use Rattle.std.proofs.lemmas.List.{take_all}
use Rattle.std.proofs.lemmas.List.Elements.{All-more, recursion_from_All}
use Rattle.mx_base.specs.declared.entry.Entry.{Entry}
use Rattle.mx_merge.specs.Merged.{IsRead}
use Rattle.mx_open.proofs.entries.have_payloads.Goals as goal

abbrev HasPayload : Entry → Type 0
HasPayload e = IsRead e.value

pub loop-entry-preserved : goal.loop-entry-preserved
loop-entry-preserved c =
    let read : HasPayload c.entry-item.result = search rules in
    All-more HasPayload c.args.entries.now c.loop-entry.entry-index c.entry-item.result c.loop-entry-test.true c.loop-entry.invariant (subst HasPayload c.entry-item.is read)

pub returns : goal.returns
returns c =
    let whole = take_all c.loop-entry.entry-index c.args.entries.now (omega (arith, c.loop-entry-test.false)) in
    recursion_from_All HasPayload c.args.entries.now (subst (All HasPayload) whole c.loop-entry.invariant)
