use Rattle.mx_world.proofs.StateLemmas.{declined_create, declined_else}
use Rattle.mx_world.proofs.asking.declined.Goals as goal

pub returns-in-Create : goal.returns-in-Create
returns-in-Create c = declined_create c.args.change _ _ c.in-Create.is

pub returns : goal.returns
returns c = declined_else c.args.change c.requires.plain c.in_default.not-Create
