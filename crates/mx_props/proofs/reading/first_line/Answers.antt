use Rattle.std.proofs.Common.{rules}
use Rattle.mx_props.proofs.Texts.{no_position, cut_at}
use Rattle.mx_props.proofs.reading.first_line.Goals as goal

pub returns-in_default : goal.returns-in_default
returns-in_default c = no_position c.args.bytes.now (search rules)

pub returns : goal.returns
returns c = cut_at c.args.bytes.now c.in-Some.end (search rules)
