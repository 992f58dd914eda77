use Rattle.mx_parquet.proofs.GroupsSay.{layout_says, layout_reads}
use Rattle.mx_parquet.proofs.ColumnNames.{names_are_texts}
use Rattle.mx_parquet.proofs.reading_law.footers_are_read_as_their_layouts.Goals as goal

pub returns-clause-says : goal.returns-clause-says
returns-clause-says c = layout_says

pub returns-clause-reads : goal.returns-clause-reads
returns-clause-reads c = λ file fields schema rows is few footer. layout_reads file fields schema rows (names_are_texts schema is) few footer
