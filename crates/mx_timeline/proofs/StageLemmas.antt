-- From the objects of a timeline to its sets of instants.
use Rattle.std.proofs.Common.{◌≡◌, ℕ, ◌<◌, Bool, true, false, List, length, slice_index_or, Some, None, refl, sym, ◌∙◌, ap, subst, arith}
use Rattle.std.specs.Prelude.{IsTrue, nat_eq, Contains, cond}
use Rattle.std.specs.List.{list_any, AllZip}
use Rattle.std.specs.BTreeSet.{contains, BTreeSet}
use Rattle.std.specs.Ordering.{nat_cmp}
use Rattle.std.specs.Cmp.{nat_cmp_total}
use Rattle.std.proofs.lemmas.Map.Lookups.{exact_unsigned}
use Rattle.std.proofs.lemmas.Map.Views.{btree_set_contains_iff}
use Rattle.std.proofs.lemmas.Bool.Decides.{nat_tests}
use Rattle.std.proofs.lemmas.List.Folds.{Any-from_list_any, list_any-from_Any}
use Rattle.mx_base.specs.Objects.{IsObjectName, object_path}
use Rattle.mx_base.proofs.ObjectLemmas.{object_path-injective}
use Rattle.mx_base.specs.declared.object_name.ActionKind.{ActionKind}
use Rattle.mx_base.specs.declared.object_name.ActionKind.TheVariants.{Commit, Clean, Rollback, Indexing}
use Rattle.mx_base.specs.declared.object_name.ActionState.{ActionState}
use Rattle.mx_base.specs.declared.object_name.ActionState.TheVariants.{Requested, Inflight, Completed}
use Rattle.mx_base.specs.declared.object_name.ObjectName.{ObjectName}
use Rattle.mx_base.specs.declared.object_name.ObjectName.TheVariants.{Config, Timeline, Metadata, Base, Log}
use Rattle.mx_timeline.specs.declared.stages.Stages.{Stages}
use Rattle.mx_timeline.specs.Timeline.{IsNameOf, HasObject}
use Rattle.mx_timeline.specs.Stages.{same_kind, is_at, begins, completes, acts_at}
use Rattle.mx_timeline.specs.Keeping.{AreStages}
use Rattle.mx_timeline.proofs.NamesLemmas.{name_of_object, object_of_name}

-- what a set has are its keys
pub has-key : (s : BTreeSet ℕ) (q : ℕ) → IsTrue (contains nat_cmp s q) → Contains s.keys q
has-key s q has = (btree_set_contains_iff nat_cmp_total exact_unsigned s q).0 has

pub key-has : (s : BTreeSet ℕ) (q : ℕ) → Contains s.keys q → IsTrue (contains nat_cmp s q)
key-has s q key = (btree_set_contains_iff nat_cmp_total exact_unsigned s q).1 key

same_kind-is : (a b : ActionKind) → same_kind a b ≡ true → a ≡ b
same_kind-is Commit Commit is = refl
same_kind-is Commit Clean is = absurd (cc is)
same_kind-is Commit Rollback is = absurd (cc is)
same_kind-is Commit Indexing is = absurd (cc is)
same_kind-is Clean Commit is = absurd (cc is)
same_kind-is Clean Clean is = refl
same_kind-is Clean Rollback is = absurd (cc is)
same_kind-is Clean Indexing is = absurd (cc is)
same_kind-is Rollback Commit is = absurd (cc is)
same_kind-is Rollback Clean is = absurd (cc is)
same_kind-is Rollback Rollback is = refl
same_kind-is Rollback Indexing is = absurd (cc is)
same_kind-is Indexing Commit is = absurd (cc is)
same_kind-is Indexing Clean is = absurd (cc is)
same_kind-is Indexing Rollback is = absurd (cc is)
same_kind-is Indexing Indexing is = refl

same_kind-self : (kind : ActionKind) → same_kind kind kind ≡ true
same_kind-self Commit = refl
same_kind-self Clean = refl
same_kind-self Rollback = refl
same_kind-self Indexing = refl

nat_eq-is : (a b : ℕ) → nat_eq a b ≡ true → a ≡ b
nat_eq-is a b is = grind (arith, nat_tests)

nat_eq-self : (a : ℕ) → nat_eq a a ≡ true
nat_eq-self a = grind (arith, nat_tests)

-- an instant that stands where a test passes
picked : (test : Bool) (q other : ℕ) → is_at q (cond test (Some other) None) ≡ true → (test ≡ true) × (other ≡ q)
picked true q other is = (refl, nat_eq-is other q is)
picked false q other is = absurd (cc is)

same_object : (at other : ℕ) (kind k : ActionKind) (state : ActionState) → k ≡ kind → other ≡ at → Timeline other k state ≡ Timeline at kind state
same_object at other kind k state kinds ats = ap (λ (x : ActionKind). Timeline other x state) kinds ∙ ap (λ (n : ℕ). Timeline n kind state) ats

begins-is : (kind : ActionKind) (at : ℕ) (x : ObjectName) → begins kind at x ≡ true → (state : ActionState) × (x ≡ Timeline at kind state)
begins-is kind at (Timeline other k state) is = let p = picked (same_kind kind k) at other is in (state, same_object at other kind k state (sym (same_kind-is kind k p.0)) p.1)
begins-is kind at Config is = absurd (cc is)
begins-is kind at (Metadata other k completed) is = absurd (cc is)
begins-is kind at (Base part shard upto by) is = absurd (cc is)
begins-is kind at (Log part shard other) is = absurd (cc is)

completes-is : (kind : ActionKind) (at : ℕ) (x : ObjectName) → completes kind at x ≡ true → x ≡ Timeline at kind Completed
completes-is kind at (Timeline other k Completed) is = let p = picked (same_kind kind k) at other is in same_object at other kind k Completed (sym (same_kind-is kind k p.0)) p.1
completes-is kind at (Timeline other k Requested) is = absurd (cc is)
completes-is kind at (Timeline other k Inflight) is = absurd (cc is)
completes-is kind at Config is = absurd (cc is)
completes-is kind at (Metadata other k completed) is = absurd (cc is)
completes-is kind at (Base part shard upto by) is = absurd (cc is)
completes-is kind at (Log part shard other) is = absurd (cc is)

acts_at-is : (at : ℕ) (x : ObjectName) → acts_at at x ≡ true → (kind : ActionKind) × (state : ActionState) × (x ≡ Timeline at kind state)
acts_at-is at (Timeline other k state) is = (k, state, same_object at other k k state refl (nat_eq-is other at is))
acts_at-is at Config is = absurd (cc is)
acts_at-is at (Metadata other k completed) is = absurd (cc is)
acts_at-is at (Base part shard upto by) is = absurd (cc is)
acts_at-is at (Log part shard other) is = absurd (cc is)

begins-self : (kind : ActionKind) (at : ℕ) (state : ActionState) → begins kind at (Timeline at kind state) ≡ true
begins-self kind at state = ap (λ (b : Bool). is_at at (cond b (Some at) None)) (same_kind-self kind) ∙ nat_eq-self at

completes-self : (kind : ActionKind) (at : ℕ) → completes kind at (Timeline at kind Completed) ≡ true
completes-self kind at = ap (λ (b : Bool). is_at at (cond b (Some at) None)) (same_kind-self kind) ∙ nat_eq-self at

-- a test that an object passes, as one among these
module _ (names : List (List ℕ)) (objects : List ObjectName) (zip : AllZip IsNameOf names objects) where
  one : (m n : ObjectName) → IsObjectName m → IsObjectName n → object_path m ≡ object_path n → m ≡ n
  one m n m_is n_is same = object_path-injective m n m_is n_is same

  found : (n : ObjectName) (test : ObjectName → Bool) → test n ≡ true → IsObjectName n → Contains names (object_path n) → list_any test objects ≡ true
  found n test passes is stands =
      let c = object_of_name one names objects zip n is stands in
      list_any-from_Any test objects (c.0, n, c.1, c.2, passes)

  among : (n x : ObjectName) (k : ℕ) → k < length objects → slice_index_or objects k x ≡ x → x ≡ n → IsObjectName n × Contains names (object_path n)
  among n x k within is same = name_of_object names objects zip n (subst (Contains objects) same (k, within, is))

  pub stages_are : (kind : ActionKind) (stages : Stages) → ((q : ℕ) → contains nat_cmp stages.begun q ≡ list_any (begins kind q) objects) → ((q : ℕ) → contains nat_cmp stages.completed q ≡ list_any (completes kind q) objects)
      → AreStages names kind stages
  stages_are kind stages begun completed = record {
    begun = λ at has.
        let any = Any-from_list_any (begins kind at) objects (sym (begun at) ∙ has) in
        let is = begins-is kind at any.1 any.4 in
        (is.0, among (Timeline at kind is.0) any.1 any.0 any.2 any.3 is.1);
    all_begun = λ at h. begun at ∙ found (Timeline at kind h.0) (begins kind at) (begins-self kind at h.0) h.1.0 h.1.1;
    completed = λ at has.
        let any = Any-from_list_any (completes kind at) objects (sym (completed at) ∙ has) in
        among (Timeline at kind Completed) any.1 any.0 any.2 any.3 (completes-is kind at any.1 any.4);
    all_completed = λ at h. completed at ∙ found (Timeline at kind Completed) (completes kind at) (completes-self kind at) h.0 h.1;
  }

  pub instants_are : (instants : BTreeSet ℕ) → ((q : ℕ) → contains nat_cmp instants q ≡ list_any (acts_at q) objects) → (at : ℕ) → IsTrue (contains nat_cmp instants at) → HasObject names at
  instants_are instants acts at has =
      let any = Any-from_list_any (acts_at at) objects (sym (acts at) ∙ has) in
      let is = acts_at-is at any.1 any.4 in
      (is.0, (is.1, among (Timeline at is.0 is.1) any.1 any.0 any.2 any.3 is.2))

  pub instants_all : (instants : BTreeSet ℕ) → ((q : ℕ) → contains nat_cmp instants q ≡ list_any (acts_at q) objects) → (at : ℕ) → HasObject names at → IsTrue (contains nat_cmp instants at)
  instants_all instants acts at h = acts at ∙ found (Timeline at h.0 h.1.0) (acts_at at) (nat_eq-self at) h.1.1.0 h.1.1.1
