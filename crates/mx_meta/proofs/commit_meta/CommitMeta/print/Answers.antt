use Rattle.std.proofs.Common.{◌≤◌, ◌≡◌, ap, ◌∙◌, sym, subst}
use Rattle.std.specs.Prelude.{IfOk}
use Rattle.serde_json.specs.Data.{Data, depth}
use Rattle.serde_json.specs.View.{view}
use Rattle.serde_json.specs.Written.{has_float, compact_text}
use Rattle.mx_meta.proofs.CommitLemmas.{commit_meta_data-no_float, depth-commit_meta_data, reads_back}
use Rattle.mx_meta.proofs.commit_meta.CommitMeta.print.Goals as goal

pub line_bytes-requires-clause-float : goal.line_bytes-requires-clause-float
line_bytes-requires-clause-float c = ap has_float c.in_ok-value.ensures.value ∙ commit_meta_data-no_float c.args.self.now

pub line_bytes-requires-clause-nests : goal.line_bytes-requires-clause-nests
line_bytes-requires-clause-nests c = subst (λ (d : Data). depth d ≤ 127) (sym c.in_ok-value.ensures.value) (depth-commit_meta_data c.args.self.now)

pub returns-clause-text : goal.returns-clause-text
returns-clause-text c = subst (λ (d : Data). IfOk c.line_bytes.result (λ bytes. bytes ≡ compact_text d)) c.in_ok-value.ensures.value c.line_bytes.ensures.text

pub returns-clause-reads : goal.returns-clause-reads
returns-clause-reads c =
    λ well. reads_back c.line_bytes.result c.args.self.now (view c.in_ok-value.value) c.in_ok-value.ensures.value c.line_bytes.ensures.utf8 c.line_bytes.ensures.reads well c.in_ok-value.ensures.names
