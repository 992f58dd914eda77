use Rattle.mx_payload.proofs.Unions.{associates}
use Rattle.mx_payload.proofs.merging.combine_is_associative.Goals as goal

pub returns : goal.returns
returns c = associates
