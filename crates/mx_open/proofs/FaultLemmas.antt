-- What is damaged, by the objects that stand and the bases that count.
use Rattle.std.proofs.Common.{◌≡◌, inl, inr, ℕ, List, get_or, All, Option, Some, None, IsSome, IfSome, refl, sym, ◌∙◌, ap, subst}
use Rattle.std.specs.Prelude.{Contains, option_and_then}
use Rattle.std.specs.FinMap as finmap
use Rattle.std.proofs.lemmas.List.{get_or_default}
use Rattle.std.proofs.lemmas.List.Elements.{All-contains}
use Rattle.mx_base.specs.Objects.{object_path}
use Rattle.mx_base.specs.Paths.{commit_instant}
use Rattle.mx_meta.specs.ShardFiles.{delta_meta_of}
use Rattle.mx_store.specs.Objects.{Objects, at_path}
use Rattle.mx_store.proofs.Keys.{in_keys, stands_from_keys}
use Rattle.mx_folder.specs.Named.{object_at, commit_name, delta_name}
use Rattle.mx_folder.specs.Actions.{IsCompleted}
use Rattle.mx_folder.specs.Folder.{IsNeeded}
use Rattle.mx_folder.proofs.NamedLemmas.{object_at-is, object_at-stands, is_some_same, is_delta_name, path_of_commit, commit_of_path}
use Rattle.mx_open.specs.Deciding.{IsLeastOther, lesser, IsContext, IsFine, IsReadableBase, MeetsCommit, MeetsObject, IsUnharmed}
use Rattle.mx_open.proofs.LeastLemmas.{least_as, both_least}
use Rattle.mx_open.specs.declared.context.Context.{Context}

module _ (o : Objects) (context : Context) (is : IsContext o context) where
  abbrev EachMeets : List ℕ → Type 0
  EachMeets q = All (λ (path : List ℕ). MeetsObject o context path q) (finmap.keys o)

  abbrev EachBase : List ℕ → Type 0
  EachBase q = All (λ (base : List ℕ). q ≡ base → IsReadableBase context q → IsSome (at_path o q)) context.bases

  met_at : (q : List ℕ) → EachMeets q → (path : List ℕ) → IsSome (at_path o path) → MeetsObject o context path q
  met_at q each path stands = All-contains (λ (p : List ℕ). MeetsObject o context p q) (finmap.keys o) path each (in_keys o path stands)

  met_commit : (q : List ℕ) → EachMeets q → (at : ℕ) → IsCompleted o at → MeetsCommit o context at q
  met_commit q each at done =
      let named = object_at-stands o (commit_name at) done in
      subst (λ (x : Option ℕ). IfSome x (λ at. MeetsCommit o context at q)) (commit_of_path (object_path (commit_name at)) at named.0 refl) (met_at q each (object_path (commit_name at)) named.1).1

  delta_same : (at : ℕ) → IsCompleted o at → object_at o (delta_name at) ≡ at_path o (object_path (delta_name at))
  delta_same at done = object_at-is o (delta_name at) (is_delta_name at (object_at-stands o (commit_name at) done).0)

  pub unharmed_from : (q : List ℕ) → EachMeets q × EachBase q → IsUnharmed o q
  unharmed_from q both = (fine, stands)
    where
      fine : IsFine o q
      fine bytes there = (met_at q both.0 q (is_some_same _ _ there refl)).0 refl bytes there

      stands : IsNeeded o q → IsSome (at_path o q)
      stands (inl delta) = met_commit q both.0 delta.0 delta.1 (inl delta.2)
      stands (inr (inl log)) = met_commit q both.0 log.at log.completed
          (inr (log.logs, ap (λ (x : Option (List ℕ)). option_and_then delta_meta_of x) (sym (delta_same log.at log.completed)) ∙ log.delta, log.among, (log.part, log.shard, log.is_name, log.is_log, is.available log.part log.available)))
      stands (inr (inr base)) =
          All-contains (λ (b : List ℕ). q ≡ b → IsReadableBase context q → IsSome (at_path o q)) context.bases q both.1
          (subst (λ (bases : List (List ℕ)). Contains bases q) (is.bases base.meta base.named) base.among) refl (base.part, is.available base.part base.available, base.is_base)

  -- the commit whose path it is
  completed_by : (path : List ℕ) (at : ℕ) → commit_instant path ≡ Some at → IsSome (at_path o path) → IsCompleted o at
  completed_by path at is_commit stands =
      let found = path_of_commit path at is_commit in
      is_some_same _ _ (object_at-is o (commit_name at) found.0 ∙ ap (at_path o) (sym found.1)) stands

  pub each_from : (q : List ℕ) → IsUnharmed o q → EachMeets q × EachBase q
  each_from q unharmed = (objects, bases)
    where
      commit : (path : List ℕ) → IsSome (at_path o path) → (x : Option ℕ) → commit_instant path ≡ x → IfSome x (λ at. MeetsCommit o context at q)
      commit path stands None found = tt
      commit path stands (Some at) found = needs
        where
          done : IsCompleted o at
          done = completed_by path at found stands

          needs : MeetsCommit o context at q
          needs (inl same) = unharmed.1 (inl (at, done, same))
          needs (inr log) = unharmed.1 (inr (inl (record {
            at = at;
            completed = done;
            logs = log.0;
            delta = ap (λ (x : Option (List ℕ)). option_and_then delta_meta_of x) (delta_same at done) ∙ log.1;
            among = log.2;
            part = log.3.0;
            shard = log.3.1;
            is_name = log.3.2;
            is_log = log.3.3;
            available = is.only_available log.3.0 log.3.4;
          })))

      objects : EachMeets q
      objects k d within =
          let path = get_or (finmap.keys o) k d in
          let among : Contains (finmap.keys o) path = (k, within, get_or_default (finmap.keys o) k path d within) in
          (λ _. unharmed.0, commit path (stands_from_keys o path among) (commit_instant path) refl)

      bases : EachBase q
      bases k d within same readable =
          let counts = is.only_bases q (k, within, get_or_default context.bases k q d within ∙ sym same) in
          unharmed.1 (inr (inr (record { meta = counts.0; named = counts.1; among = counts.2; part = readable.0; is_base = readable.2; available = is.only_available readable.0 readable.1 })))

  pub unharmed_least : (keys : List (List ℕ)) (bases : List (List ℕ)) (a b c : Option (List ℕ)) → keys ≡ finmap.keys o → bases ≡ context.bases → c ≡ lesser a b →
      IsLeastOther (λ q. All (λ (path : List ℕ). MeetsObject o context path q) keys) a → IsLeastOther (λ q. All (λ (base : List ℕ). q ≡ base → IsReadableBase context q → IsSome (at_path o q)) bases) b →
      IsLeastOther (IsUnharmed o) c
  unharmed_least keys bases a b c same_keys same_bases joined first second =
      let objects : IsLeastOther EachMeets a = subst (λ (ks : List (List ℕ)). IsLeastOther (λ q. All (λ (path : List ℕ). MeetsObject o context path q) ks) a) same_keys first in
      let based : IsLeastOther EachBase b = subst (λ (bs : List (List ℕ)). IsLeastOther (λ q. All (λ (base : List ℕ). q ≡ base → IsReadableBase context q → IsSome (at_path o q)) bs) b) same_bases second in
      least_as (λ q. EachMeets q × EachBase q) (IsUnharmed o) unharmed_from each_from c (subst (IsLeastOther (λ q. EachMeets q × EachBase q)) (sym joined) (both_least EachMeets EachBase a b objects based))
