use Rattle.std.proofs.Common.{◌≡◌, List, sym, subst, rules}
use Rattle.std.specs.List.{AllZip}
use Rattle.mx_schema.specs.Rows.{IsCellOf}
use Rattle.mx_schema.specs.declared.column.Column.{Column}
use Rattle.mx_rows.proofs.FillLemmas.{behind_fits}
use Rattle.mx_rows.proofs.filling.full_row.Goals as goal

pub cells_of-requires : goal.cells_of-requires
cells_of-requires c =
    let columns : c.columns.result.now ≡ c.args.schema.now = search rules in
    subst (λ (columns : List Column). AllZip IsCellOf columns c.behind_key.result.now) (sym columns)
    (subst (AllZip IsCellOf c.args.schema.now) (sym c.behind_key.ensures) (behind_fits c.args.schema.now c.args.row.now c.requires.fits))
