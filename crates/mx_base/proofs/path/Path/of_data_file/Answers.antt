use Rattle.std.proofs.Common.{◌≡◌, ℕ, List, ◌∷◌, ◌++◌, subst, sym, ap, ◌∙◌}
use Rattle.mx_base.specs.Names.{IsPath}
use Rattle.mx_base.specs.Paths.{data_path, data_file_name}
use Rattle.mx_base.proofs.NameLemmas.{IsPath-data_path}
use Rattle.mx_base.proofs.path.Path.of_data_file.Goals as goal

joined : (text shown name partition file : List ℕ) (at : ℕ) → text ≡ shown ++ 47 ∷ name → name ≡ data_file_name file at → shown ≡ partition → text ≡ data_path partition file at
unfolding data_path
joined text shown name partition file at is named same =
    is ∙ ap (λ (n : List ℕ). shown ++ 47 ∷ n) named ∙ ap (λ (p : List ℕ). p ++ 47 ∷ data_file_name file at) same

pub invariant_of-result : goal.invariant_of-result
invariant_of-result c =
    subst IsPath
    (sym (joined _ _ _ c.args.partition.now c.args.file.now c.args.at c.in_ok-format.ensures.ok (c.as_str-name.ensures ∙ c.in_ok-name.ensures.name) c.as_str-partition.ensures.value))
    (IsPath-data_path c.args.partition.now c.args.file.now c.args.at c.as_str-partition.ensures.grammar c.data_file_name.ensures.file)

pub returns : goal.returns
returns c = joined _ _ _ c.args.partition.now c.args.file.now c.args.at c.in_ok-format.ensures.ok (c.as_str-name.ensures ∙ c.in_ok-name.ensures.name) c.as_str-partition.ensures.value
