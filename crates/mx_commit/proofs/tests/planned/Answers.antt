use Rattle.std.proofs.Common.{◌≡◌, ◌∙◌, Option, Some, None, is_some, false, rules, sym, subst}
use Rattle.std.specs.Prelude.{MatchOption}
use Rattle.mx_commit.specs.Written.{AreApartFiles, new_group}
use Rattle.mx_commit.proofs.MakingLemmas.{new_apart}
use Rattle.mx_commit.proofs.tests.planned.Goals as goal

-- what holds where there is none
none_holds : {X : Type 0} (o : Option X) (P : Type 0) (Q : X → Type 0) → is_some o ≡ false → MatchOption o P Q → P
none_holds None P Q none holds = holds
none_holds (Some x) P Q none holds = absurd (cc none)

pub planned_of-requires-clause-apart : goal.planned_of-requires-clause-apart
planned_of-requires-clause-apart c =
    subst (AreApartFiles new_group) (sym (c.in_ok-made_of.ensures))
    (new_apart _ _ c.args.files.now (none_holds c.first_double.result _ _ (search rules) c.first_double.ensures))
