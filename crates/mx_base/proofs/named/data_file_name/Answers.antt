use Rattle.std.proofs.Common.{ℕ, List, ◌++◌, subst, sym, ap, ◌∙◌}
use Rattle.std.specs.Prelude.{codes}
use Rattle.std.specs.Str.{IsAscii}
use Rattle.mx_base.specs.Paths.{data_file_name}
use Rattle.mx_base.proofs.NameLemmas.{IsAscii-instant_text, IsAscii-file_id}
use Rattle.mx_base.proofs.named.data_file_name.Goals as goal

pub ascii_text-file-requires : goal.ascii_text-file-requires
ascii_text-file-requires c = subst IsAscii (sym c.print-file.ensures.value) (IsAscii-file_id c.args.file.now c.print-file.ensures.grammar)

pub ascii_text-digits-requires : goal.ascii_text-digits-requires
ascii_text-digits-requires c = subst IsAscii (sym c.print-digits.ensures) (IsAscii-instant_text c.args.at)

pub returns-clause-name : goal.returns-clause-name
unfolding data_file_name
returns-clause-name c =
    c.from_string.ensures ∙ c.in_ok-format.ensures.ok
    ∙ ap (λ (file : List ℕ). file ++ (codes "_0-0-0_" ++ (c.ascii_text-digits.result.now ++ codes ".parquet"))) (c.ascii_text-file.ensures ∙ c.print-file.ensures.value)
    ∙ ap (λ (digits : List ℕ). c.args.file.now ++ (codes "_0-0-0_" ++ (digits ++ codes ".parquet"))) (c.ascii_text-digits.ensures ∙ c.print-digits.ensures)
