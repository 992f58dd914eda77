use Rattle.std.proofs.Common.{Err, sym, ◌∙◌}
use Rattle.mx_props.specs.declared.error.PropsError.TheVariants.{Version}
use Rattle.mx_props.proofs.ConfigLemmas.{only, bad_why}
use Rattle.mx_props.proofs.props.Props.read.Goals as goal

pub returns-in-Some-clause-only : goal.returns-in-Some-clause-only
returns-in-Some-clause-only c = λ config is e. only c.args.bytes.now config (Err (Version c.in-Some.found)) is e tt (record { gives = sym c.version_in.ensures ∙ c.in-Some.is; other = c.if-found-ne6.true })

pub returns-in_default-clause-only : goal.returns-in_default-clause-only
returns-in_default-clause-only c = λ config is e. only c.args.bytes.now config c.of_lines.result is e c.of_lines.ensures.ok (bad_why c.args.bytes.now c.of_lines.result c.of_lines.ensures.bad)
