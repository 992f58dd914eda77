use Rattle.std.proofs.Common.{refl, ◌≡◌, ◌∙◌, IsTrue, map, take, length, ap, false, arith}
use Rattle.std.proofs.lemmas.List.{take_at}
use Rattle.mx_parquet.specs.Columns.{text_column, hudi_names}
use Rattle.mx_parquet.proofs.Cells.{columns_of-length}
use Rattle.mx_parquet.proofs.schema.schema_of.Goals as goal

pub returns-in_default : goal.returns-in_default
returns-in_default c = λ schema is same. absurd (omega (arith, c.in_default.ensures.cases, ap length same, columns_of-length schema))

pub returns-then-not-are_hudi : goal.returns-then-not-are_hudi
unfolding hudi_names
returns-then-not-are_hudi c = λ schema is same.
    let first : c.in-Some.front.now ≡ map text_column hudi_names = c.in-Some.ensures.cases.1 ∙ ap (take 5) same ∙ take_at (map text_column hudi_names) schema 5 refl in
    let holds : IsTrue c.are_hudi.result = c.are_hudi.ensures.1 first in
    let not : c.are_hudi.result ≡ false = c.if-not-are_hudi.true in
    absurd cc
