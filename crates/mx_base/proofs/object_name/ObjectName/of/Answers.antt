use Rattle.std.proofs.Common.{ℕ, List, ◌≡◌, ◌++◌, nat_eq, refl, sym, ap, ◌∙◌, Some}
use Rattle.std.specs.Prelude.{codes}
use Rattle.std.specs.Cmp.Lexicographic.{same_text}
use lib.Pointwise.{pointwise}
use Rattle.mx_base.specs.declared.object_name.ObjectName.{ObjectName}
use Rattle.mx_base.proofs.ObjectReadings.{prefixed, outside, config_at, config_only, timeline_only, metadata_only, shard_only}
use Rattle.mx_base.proofs.object_name.ObjectName.of.Goals as goal

pub returns-in_err-name-clause-only : goal.returns-in_err-name-clause-only
returns-in_err-name-clause-only c name kept same = absurd (outside c.args.path.now c.as_str.result.now c.as_str.ensures.value c.in_err-name.ensures.cases name same)

pub returns-then-eq-clause-found : goal.returns-then-eq-clause-found
returns-then-eq-clause-found c = (
  refl,
  config_at c.args.path.now c.in_ok-name.name.now
      (prefixed (codes ".hoodie/") c.in_ok-name.name.now c.as_str.result.now _ c.in_ok-name.ensures.cases.1.1 c.in_ok-name.ensures.cases.2 ∙ c.as_str.ensures.value)
      (same_text c.in_ok-name.name.now (codes "hoodie.properties") c.if-eq.ensures),
)

pub returns-then-eq-clause-only : goal.returns-then-eq-clause-only
returns-then-eq-clause-only c name kept same = ap (λ (n : ObjectName). Some n) (config_only c.args.path.now (returns-then-eq-clause-found c).1 name same)

pub returns-in_default-clause-only : goal.returns-in_default-clause-only
returns-in_default-clause-only c =
    timeline_only c.args.path.now c.in_ok-name.name.now
    (prefixed (codes ".hoodie/") c.in_ok-name.name.now c.as_str.result.now _ c.in_ok-name.ensures.cases.1.1 c.in_ok-name.ensures.cases.2 ∙ c.as_str.ensures.value)
    (λ same. absurd (cc (c.if-eq.ensures ∙ ap (λ (l : List ℕ). pointwise nat_eq l (codes "hoodie.properties")) same)))
    c.in_default.ensures.cases c.timeline_object.result c.timeline_object.ensures.only

-- what stands behind `.hoodie/metadata/`
in_metadata : (path text name rest more inner : List ℕ) → text ≡ path → text ≡ codes ".hoodie/" ++ rest → name ≡ rest → name ≡ codes "metadata/" ++ more → inner ≡ more → codes ".hoodie/metadata/" ++ inner ≡ path
in_metadata path text name rest more inner is here named there behind =
    ap (λ (l : List ℕ). codes ".hoodie/metadata/" ++ l) behind ∙ ap (λ (l : List ℕ). codes ".hoodie/" ++ l) (sym there) ∙ prefixed (codes ".hoodie/") name text rest here named ∙ is

pub returns-in-Some-strip_prefix-clause-only : goal.returns-in-Some-strip_prefix-clause-only
returns-in-Some-strip_prefix-clause-only c =
    metadata_only c.args.path.now c.in-Some-strip_prefix.name.now
    (ap (λ (l : List ℕ). codes ".hoodie/metadata/" ++ l) (prefixed (codes ".hoodie/") c.in-Some-strip_prefix.name.now c.in-Some.name.now _ c.in-Some-strip_prefix.ensures.cases.1.1 c.in-Some-strip_prefix.ensures.cases.2)
    ∙ in_metadata c.args.path.now c.as_str.result.now c.in_ok-name.name.now _ _ c.in-Some.name.now c.as_str.ensures.value c.in_ok-name.ensures.cases.1.1 c.in_ok-name.ensures.cases.2 c.in-Some.ensures.cases.1.1 c.in-Some.ensures.cases.2)
    c.metadata_object.result c.metadata_object.ensures.only

pub returns-in-None-clause-only : goal.returns-in-None-clause-only
returns-in-None-clause-only c =
    shard_only c.args.path.now c.in-Some.name.now
    (in_metadata c.args.path.now c.as_str.result.now c.in_ok-name.name.now _ _ c.in-Some.name.now c.as_str.ensures.value c.in_ok-name.ensures.cases.1.1 c.in_ok-name.ensures.cases.2 c.in-Some.ensures.cases.1.1 c.in-Some.ensures.cases.2)
    c.in-None.ensures.cases c.shard_object.result c.shard_object.ensures.base c.shard_object.ensures.log
