use Rattle.mx_parquet.proofs.OpeningSays.{file_says, file_reads}
use Rattle.mx_parquet.proofs.ColumnNames.{names_are_texts}
use Rattle.mx_parquet.proofs.reading_law.files_are_read_as_their_layouts.Goals as goal

pub returns-clause-says : goal.returns-clause-says
returns-clause-says c = file_says

pub returns-clause-reads : goal.returns-clause-reads
returns-clause-reads c = λ file schema rows is. file_reads file schema rows (names_are_texts schema is.is_schema) is
