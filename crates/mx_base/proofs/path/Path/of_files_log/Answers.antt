use Rattle.std.proofs.Common.{ℕ, List, ◌++◌, sym, ap, ◌∙◌, subst}
use Rattle.std.specs.Prelude.{codes}
use Rattle.std.specs.Str.{IsAscii}
use Rattle.mx_base.specs.Names.{IsPath}
use Rattle.mx_base.specs.Paths.{files_log_path}
use Rattle.mx_base.proofs.NameLemmas.{IsPath-files_log_path, IsAscii-instant_text}
use Rattle.mx_base.proofs.path.Path.of_files_log.Goals as goal

pub ascii_text-digits-requires : goal.ascii_text-digits-requires
ascii_text-digits-requires c = subst IsAscii (sym c.print-digits.ensures) (IsAscii-instant_text c.args.at)

pub returns : goal.returns
unfolding files_log_path
returns c = c.in_ok-format.ensures.ok ∙ ap (λ (digits : List ℕ). codes ".hoodie/metadata/files/files-0000_" ++ (digits ++ codes ".log")) (c.ascii_text-digits.ensures ∙ c.print-digits.ensures)

pub invariant_of-result : goal.invariant_of-result
invariant_of-result c = subst IsPath (sym (returns c)) (IsPath-files_log_path c.args.at)
