use Rattle.std.proofs.Common.{◌≡◌, ◌∙◌, ℕ, List, ap, sym, subst, rules, Some, None, cond, OnOk}
use Rattle.std.specs.Prelude.{bytes_eq}
use Rattle.std.specs.BTreeMap as tree
use Rattle.std.specs.Ordering.{nat_cmp}
use Rattle.std.specs.Cmp.Lexicographic.{slice_cmp}
use Rattle.mx_merge.specs.declared.run.Run.TheVariants as runs
use Rattle.mx_merge.specs.declared.known.Known.{Known}
use Rattle.mx_merge.specs.declared.known.Known.TheVariants.{Said}
use Rattle.mx_merge.specs.Said.{heard, known_at, KnownMap}
use Rattle.std.proofs.lemmas.Result.{on_ok_weaker}
use Rattle.mx_merge.proofs.MetLemmas.{met}
use Rattle.mx_merge.proofs.merging.meet.Goals as goal

pub returns-in-Some-clause-known : goal.returns-in-Some-clause-known
returns-in-Some-clause-known c =
    let after = c.push.new.self in
    on_ok_weaker c.push.result (λ (is : after ≡ heard c.in-Some.known.now c.args.entry.now.value).
    met c.args.met.now (c.get_mut.follows.lender after) c.args.entry.now.key c.args.entry.now.value (Some c.in-Some.known.now) after
    c.in-Some.ensures.value is ((c.get_mut.follows.holds after).3 (search rules)))
    (subst (λ (v : List ℕ). OnOk c.push.result (after ≡ heard c.in-Some.known.now v)) c.as_slice-value.ensures c.push.ensures.known)

pub returns-clause-known : goal.returns-clause-known
returns-clause-known c =
    let old = c.get_mut.follows.lender-at-none in
    let new = c.insert.new.self in
    let key = c.args.entry.now.key in
    let value = c.args.entry.now.value in
    let same : old ≡ c.args.met.now = c.get_mut.follows.holds-at-none in
    let is_key : c.in_ok-clone.field-0 ≡ key = c.in_ok-clone.ensures.cases in
    let none : None ≡ tree.get (slice_cmp nat_cmp) old key =
    c.in_default.ensures.value ∙ ap (λ (m : KnownMap). tree.get (slice_cmp nat_cmp) m key) (sym same) in
    let after : c.push-2.new.self ≡ heard (Said runs.Nothing) value = c.in_ok-push.ensures.known ∙ ap (λ (k : Known). heard k c.as_slice-value.result.now) c.new-known.ensures ∙ ap (heard (Said runs.Nothing)) c.as_slice-value.ensures in
    let updates : tree.Updates (slice_cmp nat_cmp) old new key (Some c.push-2.new.self) =
    subst (λ (k : List ℕ). tree.Updates (slice_cmp nat_cmp) old new k (Some c.push-2.new.self)) is_key c.in_ok-insert.ensures.updates in
    subst (λ (m : KnownMap). (k : List ℕ) → known_at new k ≡ cond (bytes_eq key k) (heard (known_at m k) value) (known_at m k)) same
    (met old new key value None c.push-2.new.self none after updates)
