use Rattle.mx_avro.proofs.Longs.{long_encoding_first, bytes_encoding_first}
use Rattle.mx_avro.proofs.writing.one_spelling.Goals as goal

pub returns-clause-long : goal.returns-clause-long
returns-clause-long c = long_encoding_first

pub returns-clause-bytes : goal.returns-clause-bytes
returns-clause-bytes c = bytes_encoding_first
