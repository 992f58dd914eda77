use Rattle.mx_thrift.proofs.Values.{one_struct}
use Rattle.mx_thrift.proofs.reading.one_struct.Goals as goal

pub returns : goal.returns
returns c = one_struct
