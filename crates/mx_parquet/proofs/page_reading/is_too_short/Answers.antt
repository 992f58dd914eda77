use Rattle.mx_parquet.proofs.ShortPages.{too_short}
use Rattle.mx_parquet.proofs.page_reading.is_too_short.Goals as goal

pub returns-then-not-column : goal.returns-then-not-column
returns-then-not-column c = λ is held page. too_short c.args.column.now c.args.count c.args.bytes.now _ c.if-not-column.true c.most_values.ensures is held page
