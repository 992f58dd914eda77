use Rattle.std.proofs.Common.{◌≡◌, ◌++◌, lit<, ap, false, ◌∙◌}
use Rattle.std.proofs.lemmas.Str.Pattern.{split_after}
use Rattle.mx_schema.specs.Columns.{kind_name, mark, is_column_name}
use Rattle.mx_schema.proofs.ColumnLemmas.{name_no_colon}
use Rattle.mx_schema.proofs.column.column_of.Goals as goal

pub returns-in_default : goal.returns-in_default
returns-in_default c = λ column is e.
    let h = split_after 58 c.args.text.now column.name (kind_name column.kind ++ mark column.nullable) c.split_once.result c.split_once.ensures.cases (lit< tt) e (name_no_colon column.name is) in
    rw c.in_default.is at h

pub returns-then-not-is_column_name : goal.returns-then-not-is_column_name
returns-then-not-is_column_name c = λ column is e.
    let h = split_after 58 c.args.text.now column.name (kind_name column.kind ++ mark column.nullable) c.split_once.result c.split_once.ensures.cases (lit< tt) e (name_no_colon column.name is) in
    let g = rw c.in-Some.is at h in
    let name : c.in-Some.name.now ≡ column.name = g.0 in
    let wrong : false ≡ is_column_name column.name = c.if-not-is_column_name.ensures ∙ ap is_column_name (c.as_bytes.ensures.value ∙ name) in
    cc

pub returns-in_default-kind_of : goal.returns-in_default-kind_of
returns-in_default-kind_of c = λ column is e.
    let h = split_after 58 c.args.text.now column.name (kind_name column.kind ++ mark column.nullable) c.split_once.result c.split_once.ensures.cases (lit< tt) e (name_no_colon column.name is) in
    let g = rw c.in-Some.is at h in
    let kind : c.in-Some.kind.now ≡ kind_name column.kind ++ mark column.nullable = g.1 in
    c.in_default-kind_of.ensures column.kind column.nullable kind
