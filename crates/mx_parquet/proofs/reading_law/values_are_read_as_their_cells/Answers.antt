use Rattle.mx_parquet.proofs.ValuesSay.{cells_say, cells_read}
use Rattle.mx_parquet.proofs.reading_law.values_are_read_as_their_cells.Goals as goal

pub returns-clause-says : goal.returns-clause-says
returns-clause-says c = cells_say

pub returns-clause-reads : goal.returns-clause-reads
returns-clause-reads c = cells_read
