use Rattle.std.proofs.Common.{◌≢◌, ℕ, Bool, true, false, List, [], ◌∷◌, ◌++◌, lit<, ◌∙◌, None}
use Rattle.std.proofs.lemmas.List.{append-nil}
use Rattle.std.proofs.lemmas.Str.Pattern.{strip_suffix_char}
use Rattle.mx_schema.specs.declared.column.ColumnKind.{ColumnKind}
use Rattle.mx_schema.specs.Columns.{kind_name, mark}
use Rattle.mx_schema.proofs.column.kind_of.Goals as goal

-- a text without the mark names a kind with neither form
unmarked_none : (text : List ℕ) → ((front : List ℕ) → text ≢ front ++ 63 ∷ []) → ((kind : ColumnKind) → text ≢ kind_name kind) → (kind : ColumnKind) (nullable : Bool) → text ≢ kind_name kind ++ mark nullable
unmarked_none text ends none kind true e = ends (kind_name kind) e
unmarked_none text ends none kind false e = none kind (e ∙ append-nil (kind_name kind))

pub returns-in_err-parse-in-None : goal.returns-in_err-parse-in-None
returns-in_err-parse-in-None c =
    let none : (kind : ColumnKind) (nullable : Bool) → c.args.text.now ≢ kind_name kind ++ mark nullable = unmarked_none c.args.text.now (strip_suffix_char 63 c.args.text.now None c.in-None.ensures.cases (lit< tt)) c.in_err-parse-in-None.ensures in
    rw c.from_residual-in_err-parse-in-None.ensures none
