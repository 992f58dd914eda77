use Rattle.std.proofs.Common.{◌≤◌, ap, ◌∙◌, sym, subst}
use Rattle.serde_json.specs.Data.{Data, depth}
use Rattle.serde_json.specs.View.{view}
use Rattle.serde_json.specs.Written.{has_float}
use Rattle.mx_meta.proofs.PathListLemmas.{path_list_data-no_float, depth-path_list_data, path_list_again}
use Rattle.mx_meta.proofs.path_list.PathList.print.Goals as goal

pub line_bytes-requires-clause-float : goal.line_bytes-requires-clause-float
line_bytes-requires-clause-float c = ap has_float c.in_ok-value.ensures.value ∙ path_list_data-no_float c.args.self.now

pub line_bytes-requires-clause-nests : goal.line_bytes-requires-clause-nests
line_bytes-requires-clause-nests c = subst (λ (d : Data). depth d ≤ 127) (sym c.in_ok-value.ensures.value) (depth-path_list_data c.args.self.now)

pub returns-clause-reads : goal.returns-clause-reads
returns-clause-reads c =
    path_list_again c.line_bytes.result c.args.self.now (view c.in_ok-value.value) c.in_ok-value.ensures.value c.line_bytes.ensures.utf8 c.line_bytes.ensures.reads c.in_ok-value.ensures.names
