use Rattle.std.proofs.Common.{◌≡◌, ℕ, List, ◌++◌, sym, ap, ◌∙◌, arith}
use Rattle.std.specs.Prelude.{codes}
use Rattle.mx_base.specs.Digits.{instant_text}
use Rattle.mx_base.specs.Paths.{commit_instant}
use Rattle.mx_base.proofs.PathLemmas.{no_commit_elsewhere, no_commit_otherwise_ended, no_commit_of_other_digits, commit_of_digits, commit_instant-commit_path, commit_instant-commit_path_zero}
use Rattle.mx_base.proofs.path.Path.commit_instant.Goals.{in_default-via-in-Ok+else-number-gt0, in_default-via-in_default}
use Rattle.mx_base.proofs.path.Path.commit_instant.Goals as goal

before : (name text rest : List ℕ) → text ≡ codes ".hoodie/" ++ rest → name ≡ rest → codes ".hoodie/" ++ name ≡ text
before name text rest is same = ap (λ (l : List ℕ). codes ".hoodie/" ++ l) same ∙ sym is

behind : (digits name front : List ℕ) → name ≡ front ++ codes ".commit" → digits ≡ front → digits ++ codes ".commit" ≡ name
behind digits name front is same = ap (λ (l : List ℕ). l ++ codes ".commit") same ∙ sym is

pub returns-in_err-name : goal.returns-in_err-name
returns-in_err-name c = c.from_residual.ensures ∙ no_commit_elsewhere c.as_str.result.now c.args.self.now c.as_str.ensures.value c.in_err-name.ensures.cases

pub returns-in_err-digits : goal.returns-in_err-digits
returns-in_err-digits c =
    c.from_residual-in_err-digits.ensures
    ∙ no_commit_otherwise_ended c.in_ok-name.name.now c.args.self.now (before c.in_ok-name.name.now c.as_str.result.now _ c.in_ok-name.ensures.cases.1.1 c.in_ok-name.ensures.cases.2 ∙ c.as_str.ensures.value) c.in_err-digits.ensures.cases

pub returns-in-Ok : goal.returns-in-Ok
returns-in-Ok c =
    let whole : codes ".hoodie/" ++ (c.in_ok-digits.digits.now ++ codes ".commit") ≡ c.args.self.now =
    ap (λ (l : List ℕ). codes ".hoodie/" ++ l) (behind c.in_ok-digits.digits.now c.in_ok-name.name.now _ c.in_ok-digits.ensures.cases.1.1 c.in_ok-digits.ensures.cases.2) ∙ before c.in_ok-name.name.now c.as_str.result.now _ c.in_ok-name.ensures.cases.1.1 c.in_ok-name.ensures.cases.2 ∙ c.as_str.ensures.value in
    sym (commit_instant-commit_path c.in-Ok.at (omega arith) (omega arith)) ∙ ap commit_instant (commit_of_digits c.in_ok-digits.digits.now c.args.self.now c.in-Ok.at whole c.in-Ok.ensures.value)

pub returns-in_default : goal.returns-in_default
returns-in_default c =
    let whole : codes ".hoodie/" ++ (c.in_ok-digits.digits.now ++ codes ".commit") ≡ c.args.self.now =
    ap (λ (l : List ℕ). codes ".hoodie/" ++ l) (behind c.in_ok-digits.digits.now c.in_ok-name.name.now _ c.in_ok-digits.ensures.cases.1.1 c.in_ok-digits.ensures.cases.2) ∙ before c.in_ok-name.name.now c.as_str.result.now _ c.in_ok-name.ensures.cases.1.1 c.in_ok-name.ensures.cases.2 ∙ c.as_str.ensures.value in
    elim c.in_default.branch [
      | in_default-via-in-Ok+else-number-gt0 w ↦
          let zero_is : w.in-Ok.at ≡ 0 = omega (arith, w.if-number-gt0.false, w.number.ensures.value) in
          sym commit_instant-commit_path_zero ∙ ap commit_instant (commit_of_digits c.in_ok-digits.digits.now c.args.self.now 0 whole (w.in-Ok.ensures.value ∙ ap instant_text zero_is))
      | in_default-via-in_default w ↦ no_commit_of_other_digits c.in_ok-digits.digits.now c.args.self.now whole (λ is. absurd (cc (w.in_default.ensures.ok.1 is)))
    ]
