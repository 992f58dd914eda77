-- Objects by their names and paths, before and after changes.
use Rattle.std.proofs.Common.{◌≡◌, ◌≢◌, ℕ, ◌<◌, ◌^◌, Bool, true, false, cond, List, [], ◌∷◌, ◌++◌, Option, Some, None, IsSome, refl, sym, ◌∙◌, ap, subst}
use Rattle.std.specs.Prelude.{nat_lt, ◌||◌}
use Rattle.std.proofs.lemmas.Bool.{and_parts, and_from}
use Rattle.std.proofs.lemmas.Bool.Decides.{Decides-ltb}
use Rattle.mx_base.specs.Objects.{is_object_name, IsObjectName, is_instant, object_path}
use Rattle.mx_base.specs.Paths.{commit_instant}
use Rattle.mx_base.specs.declared.object_name.ObjectName.{ObjectName}
use Rattle.mx_base.proofs.ObjectLemmas.{object_path-commit, object_path-injective}
use Rattle.mx_base.proofs.PathLemmas.{IsCommitAt-commit_instant, commit_instant-commit_path}
use Rattle.mx_store.specs.declared.change.Change.{Change}
use Rattle.mx_store.specs.Objects.{Objects, at_path, apply, after_all}
use Rattle.mx_folder.specs.Named.{object_at, commit_name, delta_name}

cond_same : {A : Type 0} (b : Bool) (x y : Option A) → (b ≡ true → x ≡ y) → cond b x None ≡ cond b y None
cond_same true x y h = h refl
cond_same false x y h = refl

cond_stands : {A : Type 0} (b : Bool) (x : Option A) → IsSome (cond b x None) → (b ≡ true) × IsSome x
cond_stands true x h = (refl, h)
cond_stands false x h = absurd (cc h)

cond_some : {A : Type 0} (b : Bool) (x : Option A) (y : A) → cond b x None ≡ Some y → (b ≡ true) × (x ≡ Some y)
cond_some true x y h = (refl, h)
cond_some false x y h = absurd (cc h)

pub object_at-same : (o n : Objects) (name : ObjectName) → (IsObjectName name → at_path n (object_path name) ≡ at_path o (object_path name)) → object_at n name ≡ object_at o name
unfolding object_at
object_at-same o n name same = cond_same (is_object_name name) _ _ same

pub object_at-is : (o : Objects) (name : ObjectName) → IsObjectName name → object_at o name ≡ at_path o (object_path name)
unfolding object_at
object_at-is o name is = ap (λ b. cond b (at_path o (object_path name)) None) is

pub object_at-stands : (o : Objects) (name : ObjectName) → IsSome (object_at o name) → IsObjectName name × IsSome (at_path o (object_path name))
unfolding object_at
object_at-stands o name stands = cond_stands (is_object_name name) (at_path o (object_path name)) stands

pub object_at-some : (o : Objects) (name : ObjectName) (bytes : List ℕ) → object_at o name ≡ Some bytes → IsObjectName name × (at_path o (object_path name) ≡ Some bytes)
unfolding object_at
object_at-some o name bytes is = cond_some (is_object_name name) (at_path o (object_path name)) bytes is

cond_none : {A : Type 0} (b : Bool) → ◌≡◌ {A = Option A} (cond b None None) None
cond_none true = refl
cond_none false = refl

pub object_at-none : (o : Objects) (name : ObjectName) → at_path o (object_path name) ≡ None → object_at o name ≡ None
unfolding object_at
object_at-none o name absent = ap (λ x. cond (is_object_name name) x None) absent ∙ cond_none (is_object_name name)

-- two names have one path only where they are one name
pub other_path : (one other : ObjectName) → IsObjectName one → IsObjectName other → one ≢ other → object_path one ≢ object_path other
other_path one other is also differ same = differ (object_path-injective one other is also same)

pub is_some_same : {A : Type 0} (x y : Option A) → x ≡ y → IsSome y → IsSome x
is_some_same x y same h = subst IsSome (sym same) h

pub some_value : {A : Type 0} (x : Option A) → IsSome x → (value : A) × (x ≡ Some value)
some_value None stands = absurd (cc stands)
some_value (Some value) stands = (value, refl)

pub none_from : {A : Type 0} (x : Option A) → (IsSome x → ⊥) → x ≡ None
none_from None never = refl
none_from (Some x) never = absurd (never refl)

pub some_or_none : {A : Type 0} (x : Option A) → IsSome x → x ≢ None
some_or_none None h e = absurd (cc h)
some_or_none (Some x) h e = absurd (cc e)

-- ---- after two lists of changes

pub after_all-append : (o : Objects) (xs ys : List Change) → after_all o (xs ++ ys) ≡ after_all (after_all o xs) ys
after_all-append o [] ys = refl
after_all-append o (x ∷ xs) ys = after_all-append (apply x o) xs ys

-- ---- which commit a path is of

pub is_commit_name : (at : ℕ) → 0 < at → at < 10 ^ 17 → IsObjectName (commit_name at)
is_commit_name at positive small = and_from (nat_lt 0 at) (is_instant at) ((Decides-ltb 0 at).1 positive) ((Decides-ltb at (10 ^ 17)).1 small)

-- the object that names the logs of a commit has a name
pub is_delta_name : (at : ℕ) → IsObjectName (commit_name at) → IsObjectName (delta_name at)
is_delta_name at named =
    let parts = and_parts (nat_lt 0 at) (is_instant at) named in
    and_from (nat_lt 0 at || false) (is_instant at) (ap (λ (b : Bool). b || false) parts.0) parts.1

pub path_of_commit : (path : List ℕ) (at : ℕ) → commit_instant path ≡ Some at → IsObjectName (commit_name at) × (path ≡ object_path (commit_name at))
path_of_commit path at is = let found = IsCommitAt-commit_instant path at is in (is_commit_name at found.positive found.small, found.is ∙ sym (object_path-commit at))

pub commit_of_path : (path : List ℕ) (at : ℕ) → IsObjectName (commit_name at) → path ≡ object_path (commit_name at) → commit_instant path ≡ Some at
commit_of_path path at named is =
    let parts = and_parts (nat_lt 0 at) (is_instant at) named in
    ap commit_instant (is ∙ object_path-commit at) ∙ commit_instant-commit_path at ((Decides-ltb 0 at).0 parts.0) ((Decides-ltb at (10 ^ 17)).0 parts.1)

-- a path of another commit, or of none, is not its path
pub path_of_another : (path : List ℕ) (at : ℕ) (found : Option ℕ) → commit_instant path ≡ found → found ≢ Some at → IsObjectName (commit_name at) → object_path (commit_name at) ≢ path
path_of_another path at found is other named same = other (sym is ∙ commit_of_path path at named (sym same))
