use Rattle.std.proofs.Common.{ℕ, List, ◌∷◌, ◌++◌, subst, sym, ap, ◌∙◌}
use Rattle.std.specs.Str.{IsAscii}
use Rattle.mx_base.specs.Paths.{group_name}
use Rattle.mx_base.proofs.NameLemmas.{IsAscii-file_id}
use Rattle.mx_base.proofs.named.group_name.Goals as goal

pub ascii_text-file-requires : goal.ascii_text-file-requires
ascii_text-file-requires c = subst IsAscii (sym c.print-file.ensures.value) (IsAscii-file_id c.args.file.now c.print-file.ensures.grammar)

pub returns-clause-name : goal.returns-clause-name
unfolding group_name
returns-clause-name c =
    c.from_string.ensures ∙ c.in_ok-format.ensures.ok
    ∙ ap (λ (file : List ℕ). c.as_str-partition.result.now ++ 47 ∷ file) (c.ascii_text-file.ensures ∙ c.print-file.ensures.value)
    ∙ ap (λ (partition : List ℕ). partition ++ 47 ∷ c.args.file.now) c.as_str-partition.ensures.value
