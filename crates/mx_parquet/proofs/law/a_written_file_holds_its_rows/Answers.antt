use Rattle.mx_parquet.proofs.FileAgain.{file_again}
use Rattle.mx_parquet.proofs.law.a_written_file_holds_its_rows.Goals as goal

pub returns : goal.returns
returns c = file_again
