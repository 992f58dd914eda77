use Rattle.std.proofs.Common.{◌≡◌, ◌≤◌, List, ℕ, length, rules, sym, subst}
use Rattle.mx_parquet.proofs.FileAgain.{file_again}
use Rattle.mx_parquet.specs.Decoding.{Decodes}
use Rattle.mx_parquet.specs.Encoding.{encoding}
use Rattle.mx_schema.specs.Columns.{IsSchema}
use Rattle.mx_commit.proofs.making.bytes_of.Goals as goal

pub returns-clause-held : goal.returns-clause-held
returns-clause-held c =
    let schema = c.args.schema.now in
    let rows = c.args.rows.now in
    let is : IsSchema schema = search rules in
    let room : length (encoding schema rows) ≤ 4194304 = search rules in
    let same : c.from_vec.result ≡ encoding schema rows = search rules in
    subst (λ (bytes : List ℕ). Decodes bytes schema rows) (sym same) (file_again schema rows is c.requires.fit c.requires.texts c.requires.count room)
