use Rattle.mx_open.proofs.LeastLemmas.{object_some, object_none}
use Rattle.mx_open.proofs.faults.damaged_by.Goals as goal

pub returns-in_ok-commit_missing-in-Some : goal.returns-in_ok-commit_missing-in-Some
returns-in_ok-commit_missing-in-Some c = record {
  least =
      object_some c.args.held.now c.args.context.now c.args.path.now c.commit_instant.result c.in-Some.at c.in_ok-own.own c.in_ok-commit_missing-in-Some.field-0 c.lesser.result c.in-Some.is c.commit_instant.ensures c.lesser.ensures
      c.in_ok-own.ensures.least c.in_ok-commit_missing-in-Some.ensures;
}

pub returns-in-None : goal.returns-in-None
returns-in-None c = record {
  least = object_none c.args.held.now c.args.context.now c.args.path.now c.commit_instant.result c.in_ok-own.own c.in-None.is c.commit_instant.ensures c.in_ok-own.ensures.least;
}
