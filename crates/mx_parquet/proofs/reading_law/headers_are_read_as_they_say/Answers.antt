use Rattle.mx_parquet.proofs.HeadersSay.{header_says, header_reads}
use Rattle.mx_parquet.proofs.reading_law.headers_are_read_as_they_say.Goals as goal

pub returns : goal.returns
returns c = λ fields page. (header_says fields page, header_reads fields page)
