use Rattle.mx_parquet.proofs.ChunkSays.{too_short, body_found}
use Rattle.mx_parquet.proofs.chunk.body_at.Goals as goal

pub returns-in_default-clause-found : goal.returns-in_default-clause-found
returns-in_default-clause-found c = too_short _ _ c.args.size c.args.bytes.now c.args.at c.requires.within c.in_default.ensures

pub returns-in-Ok-clause-found : goal.returns-in-Ok-clause-found
returns-in-Ok-clause-found c =
    body_found _ _ c.args.size c.args.bytes.now c.args.at _ _ c.in-Some.ensures.1 c.if-size-most.false c.in-Some.ensures.0 c.in-Ok.ensures
