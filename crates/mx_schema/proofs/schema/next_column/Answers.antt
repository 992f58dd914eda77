use Rattle.std.proofs.Common.{◌≡◌, ℕ, List, [], ◌∷◌, ◌++◌, sym, ◌∙◌, rules, subst}
use Rattle.mx_schema.specs.declared.column.Column.{Column}
use Rattle.mx_schema.specs.Columns.{column_text, IsColumn, AreColumns}
use Rattle.mx_schema.proofs.ColumnLemmas.{column_text-injective, can_follow}
use Rattle.mx_schema.proofs.schema.next_column.Goals as goal

-- what the piece spells is the one column that it spells
not_after : (before : List Column) (piece : List ℕ) (found column : Column) → IsColumn found → piece ≡ column_text found → ¬ (AreColumns (before ++ found ∷ [])) → piece ≡ column_text column → ¬ (AreColumns (before ++ column ∷ []))
not_after before piece found column is e none d all =
    let same : column ≡ found = column_text-injective column found ((can_follow before column all).1) is (sym d ∙ e) in
    none (subst (λ (c : Column). AreColumns (before ++ c ∷ [])) same all)

pub returns-then-not-can_follow : goal.returns-then-not-can_follow
returns-then-not-can_follow c = λ column e all. not_after c.args.before.now c.args.piece.now c.in-Some.column column (search rules) (search rules) (search rules) e all
