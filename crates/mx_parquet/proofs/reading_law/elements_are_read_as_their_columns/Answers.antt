use Rattle.mx_parquet.proofs.ElementsSay.{element_says, element_reads}
use Rattle.mx_parquet.proofs.reading_law.elements_are_read_as_their_columns.Goals as goal

pub returns : goal.returns
returns c = λ column fields utf8. (element_says fields column, element_reads fields column utf8)
