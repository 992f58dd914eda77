-- The least path at which something is not so.
use Rattle.std.proofs.Common.{◌≡◌, inl, inr, ℕ, ◌+◌, ◌<◌, ◌≤◌, arith, List, [], take, get_or, length, All, Option, Some, None, IsSome, IfSome, IfOk, Result, Ok, Err, Ordering, Less, Equal, Greater, refl, sym, ◌∙◌, ap, subst}
use Rattle.std.specs.Prelude.{Contains, if◌then◌else◌, option_and_then}
use Rattle.std.specs.Ordering.{nat_cmp, is_lt, ordering_reverse}
use Rattle.std.specs.Cmp.Lexicographic.{slice_cmp, nat_list_cmp_total}
use Rattle.std.specs.FinMap as finmap
use Rattle.std.specs.declared.alloc.AllocError.{AllocError}
use Rattle.std.proofs.lemmas.Cmp.{tied_itself}
use Rattle.std.proofs.lemmas.List.{get_or-take, length-take, take_all, get_or_default}
use Rattle.std.proofs.lemmas.List.Elements.{All-contains}
use Rattle.mx_base.specs.Objects.{object_path}
use Rattle.mx_base.specs.Paths.{commit_instant}
use Rattle.mx_meta.specs.ShardFiles.{delta_meta_of}
use Rattle.mx_meta.proofs.JsonLemmas.{named_more}
use Rattle.mx_store.specs.Objects.{Objects, at_path}
use Rattle.mx_folder.specs.Named.{delta_name}
use Rattle.mx_open.specs.Deciding.{IsLeastOther, lesser, IsFine, MeetsCommit, MeetsObject, IsReadableLog}
use Rattle.mx_open.specs.declared.context.Context.{Context}
use Rattle.mx_open.proofs.KindLemmas.{same_value}

abbrev IsBefore : List ℕ → List ℕ → Type 0
IsBefore x y = slice_cmp nat_cmp x y ≡ Less

not_itself : (x : List ℕ) → ¬ (IsBefore x x)
not_itself x less = absurd (cc (sym (tied_itself nat_list_cmp_total x) ∙ less))

pub least_as : (P Q : List ℕ → Type 0) → ((q : List ℕ) → P q → Q q) → ((q : List ℕ) → Q q → P q) → (x : Option (List ℕ)) → IsLeastOther P x → IsLeastOther Q x
least_as P Q there back None least = λ q. there q (least q)
least_as P Q there back (Some p) least = (λ so. least.0 (back p so), λ other less. there other (least.1 other less))

pub answered_as : (P Q : List ℕ → Type 0) → ((q : List ℕ) → P q → Q q) → ((q : List ℕ) → Q q → P q) → (r : Result (Option (List ℕ)) AllocError) → IfOk r (IsLeastOther P) → IfOk r (IsLeastOther Q)
answered_as P Q there back (Ok x) least = least_as P Q there back x least
answered_as P Q there back (Err e) least = tt

-- of two paths that are least, the lesser
pub both_least : (P Q : List ℕ → Type 0) (a b : Option (List ℕ)) → IsLeastOther P a → IsLeastOther Q b → IsLeastOther (λ q. P q × Q q) (lesser a b)
both_least P Q None None p q = λ path. (p path, q path)
both_least P Q None (Some y) p q = (λ so. q.0 so.1, λ other less. (p other, q.1 other less))
both_least P Q (Some x) None p q = (λ so. p.0 so.0, λ other less. (p.1 other less, q other))
both_least P Q (Some x) (Some y) p q = by_order (slice_cmp nat_cmp x y) refl
  where
    by_order : (o : Ordering) → slice_cmp nat_cmp x y ≡ o → IsLeastOther (λ q. P q × Q q) (if is_lt (slice_cmp nat_cmp x y) then Some x else Some y)
    by_order Less is = subst (λ (o : Ordering). IsLeastOther (λ q. P q × Q q) (if is_lt o then Some x else Some y)) (sym is)
        (λ so. p.0 so.0, λ other less. (p.1 other less, q.1 other (nat_list_cmp_total.trans other x y less is)))
    by_order Equal is =
        let same : x ≡ y = finmap.slice_cmp-IsAntisymmetric finmap.nat_cmp-IsAntisymmetric x y is in
        subst (λ (o : Ordering). IsLeastOther (λ q. P q × Q q) (if is_lt o then Some x else Some y)) (sym is)
        (λ so. q.0 so.1, λ other less. (p.1 other (subst (IsBefore other) (sym same) less), q.1 other less))
    by_order Greater is =
        let below : IsBefore y x = nat_list_cmp_total.antisymm y x ∙ ap ordering_reverse is in
        subst (λ (o : Ordering). IsLeastOther (λ q. P q × Q q) (if is_lt o then Some x else Some y)) (sym is)
        (λ so. q.0 so.1, λ other less. (p.1 other (nat_list_cmp_total.trans other y x less below), q.1 other less))

-- ---- of one path

pub alone_so : (P : List ℕ → Type 0) (path : List ℕ) → P path → IsLeastOther (λ q. q ≡ path → P q) None
alone_so P path so q same = subst P (sym same) so

pub alone_not : (P : List ℕ → Type 0) (path : List ℕ) → ¬ (P path) → IsLeastOther (λ q. q ≡ path → P q) (Some path)
alone_not P path not = (λ so. not (so refl), λ other less same. absurd (not_itself path (subst (λ (x : List ℕ). IsBefore x path) same less)))

-- ---- of the paths of a list

fewer : {X : Type 0} (P : X → Type 0) (xs : List X) (i : ℕ) → All P (take (i + 1) xs) → All P (take i xs)
fewer {X} P xs i all k d within =
    let less : k < i = omega (arith, within, length-take i xs) in
    let inside : k < length (take (i + 1) xs) = omega (arith, within, length-take i xs, length-take (i + 1) xs) in
    subst P (get_or-take (i + 1) xs k d (omega (arith, less)) ∙ sym (get_or-take i xs k d less)) (all k d inside)

last_of : {X : Type 0} (P : X → Type 0) (xs : List X) (i : ℕ) (x : X) → i < length xs → x ≡ get_or xs i x → All P (take (i + 1) xs) → P x
last_of P xs i x within is all =
    let inside : i < length (take (i + 1) xs) = omega (arith, within, length-take (i + 1) xs) in
    subst P (get_or-take (i + 1) xs i x (omega arith) ∙ sym is) (all i x inside)

pub least_more : {X : Type 0} (R : X → List ℕ → Type 0) (xs : List X) (i : ℕ) (x : X) (a b c : Option (List ℕ)) → i < length xs → x ≡ get_or xs i x →
    IsLeastOther (λ q. All (λ (y : X). R y q) (take i xs)) a → IsLeastOther (R x) b → c ≡ lesser a b → IsLeastOther (λ q. All (λ (y : X). R y q) (take (i + 1) xs)) c
least_more {X} R xs i x a b c within is before here joined =
    least_as (λ q. All (λ (y : X). R y q) (take i xs) × R x q) (λ q. All (λ (y : X). R y q) (take (i + 1) xs))
    (λ q both. named_more (λ (y : X). R y q) xs i x both.0 both.1 within is)
    (λ q all. (fewer (λ (y : X). R y q) xs i all, last_of (λ (y : X). R y q) xs i x within is all)) c
    (subst (IsLeastOther (λ q. All (λ (y : X). R y q) (take i xs) × R x q)) (sym joined) (both_least (λ q. All (λ (y : X). R y q) (take i xs)) (R x) a b before here))

pub least_none : {X : Type 0} (R : X → List ℕ → Type 0) → IsLeastOther (λ q. All (λ (y : X). R y q) []) None
least_none R q k d within = absurd (omega (arith, within))

pub least_all : {X : Type 0} (R : X → List ℕ → Type 0) (xs : List X) (i : ℕ) (x : Option (List ℕ)) → length xs ≤ i → IsLeastOther (λ q. All (λ (y : X). R y q) (take i xs)) x → IsLeastOther (λ q. All (λ (y : X). R y q) xs) x
least_all {X} R xs i x whole least = subst (λ (ys : List X). IsLeastOther (λ q. All (λ (y : X). R y q) ys) x) (take_all i xs whole) least

pub alone_copy : (P : List ℕ → Type 0) (path copy : List ℕ) → copy ≡ path → ¬ (P path) → IsLeastOther (λ q. q ≡ path → P q) (Some copy)
alone_copy P path copy same not = subst (λ (x : List ℕ). IsLeastOther (λ q. q ≡ path → P q) (Some x)) (sym same) (alone_not P path not)

pub none_not : {X : Type 0} (x : Option X) → None ≡ x → ¬ (IsSome x)
none_not None is some = absurd (cc some)
none_not (Some x) is some = absurd (cc is)

-- the same of a path that passes a test
pub tested : (R S : List ℕ → Type 0) (path : List ℕ) → R path → (r : Result (Option (List ℕ)) AllocError) → IfOk r (IsLeastOther (λ q. q ≡ path → S q)) → IfOk r (IsLeastOther (λ q. q ≡ path → R q → S q))
tested R S path passes r least = answered_as (λ q. q ≡ path → S q) (λ q. q ≡ path → R q → S q) (λ q so same _. so same) (λ q so same. so same (subst R (sym same) passes)) r least

-- ---- what a commit needs

module _ (o : Objects) (context : Context) (at : ℕ) where
  abbrev Met : List ℕ → List ℕ → Type 0
  Met bytes q = (logs : List (List ℕ)) → delta_meta_of bytes ≡ Some logs → Contains logs q → IsReadableLog context at q → IsSome (at_path o q)

  pub logs_met : (bytes : List ℕ) (logs : List (List ℕ)) → delta_meta_of bytes ≡ Some logs → (r : Result (Option (List ℕ)) AllocError) →
      IfOk r (IsLeastOther (λ q. All (λ (log : List ℕ). q ≡ log → IsReadableLog context at q → IsSome (at_path o q)) logs)) → IfOk r (IsLeastOther (Met bytes))
  logs_met bytes logs reads r least = answered_as (λ q. All (λ (log : List ℕ). q ≡ log → IsReadableLog context at q → IsSome (at_path o q)) logs) (Met bytes) there back r least
    where
      there : (q : List ℕ) → All (λ (log : List ℕ). q ≡ log → IsReadableLog context at q → IsSome (at_path o q)) logs → Met bytes q
      there q all others reads_as among readable =
          All-contains (λ (log : List ℕ). q ≡ log → IsReadableLog context at q → IsSome (at_path o q)) logs q all
          (subst (λ (ls : List (List ℕ)). Contains ls q) (same_value others logs (sym reads_as ∙ reads)) among) refl readable

      back : (q : List ℕ) → Met bytes q → All (λ (log : List ℕ). q ≡ log → IsReadableLog context at q → IsSome (at_path o q)) logs
      back q met k d within same readable = met logs reads (k, within, get_or_default logs k q d within ∙ sym same) readable

  pub commit_none : (delta : List ℕ) → delta ≡ object_path (delta_name at) → None ≡ at_path o delta → IsLeastOther (MeetsCommit o context at) (Some delta)
  commit_none delta is none = (λ met. none_not (at_path o delta) none (met (inl is)), others)
    where
      others : (other : List ℕ) → slice_cmp nat_cmp other delta ≡ Less → MeetsCommit o context at other
      others other less (inl same) = absurd (not_itself delta (subst (λ (x : List ℕ). IsBefore x delta) (same ∙ sym is) less))
      others other less (inr log) = absurd (cc (ap (λ (x : Option (List ℕ)). option_and_then delta_meta_of x) (none ∙ ap (at_path o) is) ∙ log.1))

  pub commit_some : (delta bytes : List ℕ) → delta ≡ object_path (delta_name at) → Some bytes ≡ at_path o delta → (r : Result (Option (List ℕ)) AllocError) → IfOk r (IsLeastOther (Met bytes)) → IfOk r (IsLeastOther (MeetsCommit o context at))
  commit_some delta bytes is stands r least = answered_as (Met bytes) (MeetsCommit o context at) there back r least
    where
      said : at_path o (object_path (delta_name at)) ≡ Some bytes
      said = ap (at_path o) (sym is) ∙ sym stands

      there : (q : List ℕ) → Met bytes q → MeetsCommit o context at q
      there q met (inl same) = subst IsSome (sym (ap (at_path o) same ∙ said)) refl
      there q met (inr log) = met log.0 (sym (ap (λ (x : Option (List ℕ)). option_and_then delta_meta_of x) said) ∙ log.1) log.2 log.3

      back : (q : List ℕ) → MeetsCommit o context at q → Met bytes q
      back q meets logs reads among readable = meets (inr (logs, ap (λ (x : Option (List ℕ)). option_and_then delta_meta_of x) said ∙ reads, among, readable))

-- ---- an object, and what it needs

pub object_some : (o : Objects) (context : Context) (path : List ℕ) (x : Option ℕ) (at : ℕ) (a b c : Option (List ℕ)) → x ≡ Some at → x ≡ commit_instant path → c ≡ lesser a b → IsLeastOther (λ q. q ≡ path → IsFine o q) a →
    IsLeastOther (MeetsCommit o context at) b → IsLeastOther (MeetsObject o context path) c
object_some o context path x at a b c some is joined own needs =
    subst (λ (y : Option ℕ). IsLeastOther (λ q. (q ≡ path → IsFine o q) × IfSome y (λ at. MeetsCommit o context at q)) c) (sym some ∙ is)
    (subst (IsLeastOther (λ q. (q ≡ path → IsFine o q) × MeetsCommit o context at q)) (sym joined) (both_least (λ q. q ≡ path → IsFine o q) (MeetsCommit o context at) a b own needs))

pub object_none : (o : Objects) (context : Context) (path : List ℕ) (x : Option ℕ) (a : Option (List ℕ)) → x ≡ None → x ≡ commit_instant path → IsLeastOther (λ q. q ≡ path → IsFine o q) a → IsLeastOther (MeetsObject o context path) a
object_none o context path x a none is own =
    subst (λ (y : Option ℕ). IsLeastOther (λ q. (q ≡ path → IsFine o q) × IfSome y (λ at. MeetsCommit o context at q)) a) (sym none ∙ is)
    (least_as (λ q. q ≡ path → IsFine o q) (λ q. (q ≡ path → IsFine o q) × Unit {0}) (λ q fine. (fine, tt)) (λ q both. both.0) a own)
