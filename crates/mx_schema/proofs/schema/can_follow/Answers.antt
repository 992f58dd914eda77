use Rattle.mx_schema.proofs.ColumnLemmas.{follows}
use Rattle.mx_schema.proofs.schema.can_follow.Goals as goal

pub returns-then-before-lt32 : goal.returns-then-before-lt32
returns-then-before-lt32 c = follows c.args.before.now c.args.column.now c.as_str.result.now c.is_named.result c.requires.before c.requires.column c.if-before-lt32.true c.as_str.ensures c.is_named.ensures
