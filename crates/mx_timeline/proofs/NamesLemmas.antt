-- From the objects that names are of to what the names say.
use Rattle.std.proofs.Common.{◌≡◌, ◌⊎◌, ⊎_elim, ℕ, zero, suc, ◌+◌, ◌<◌, List, [], ◌∷◌, ◌++◌, length, take, drop, get_or, rules, refl, sym, ◌∙◌, ap, subst, arith, inl, inr}
use Rattle.std.specs.Prelude.{Contains, All}
use Rattle.std.specs.List.{AllZip}
use Rattle.std.proofs.lemmas.List.{take-append-drop, drop_more, take_more}
use Rattle.std.proofs.lemmas.List.Elements.{All-cons}
use Rattle.mx_base.specs.Objects.{IsObjectName, object_path}
use Rattle.mx_base.specs.declared.object_name.ObjectName.{ObjectName}
use Rattle.mx_timeline.specs.Timeline.{IsNameOf, IsObjectPath, IsFirstBad}

contains_here : {X : Type 0} (x : X) (xs : List X) → Contains (x ∷ xs) x
contains_here x xs = (0, omega arith, refl)

contains_there : {X : Type 0} (x y : X) (xs : List X) → Contains xs x → Contains (y ∷ xs) x
contains_there x y xs c = (suc c.0, omega (arith, c.1), c.2)

-- what is contained in a longer list is its head or in its tail
contains_cases : {X : Type 0} (x y : X) (xs : List X) → Contains (y ∷ xs) x → (y ≡ x) ⊎ Contains xs x
contains_cases x y xs (zero, within, is) = inl is
contains_cases x y xs (suc k, within, is) = inr (k, omega (arith, within), is)

-- an object among them is the one of a name among these
pub name_of_object : (names : List (List ℕ)) (objects : List ObjectName) → AllZip IsNameOf names objects → (n : ObjectName) → Contains objects n → IsObjectName n × Contains names (object_path n)
name_of_object [] [] zip n c = absurd (omega (arith, c.1))
name_of_object [] (o ∷ objects) zip n c = absurd zip
name_of_object (p ∷ names) [] zip n c = absurd zip
name_of_object (p ∷ names) (o ∷ objects) zip n c =
    ⊎_elim
    (λ (same : o ≡ n). (subst IsObjectName same zip.0.0, subst (λ (q : List ℕ). Contains (p ∷ names) q) (zip.0.1 ∙ ap object_path same) (contains_here p names)))
    (λ (more : Contains objects n). let r = name_of_object names objects zip.1 n more in (r.0, contains_there (object_path n) p names r.1))
    (contains_cases n o objects c)

-- a name among these is the one of an object among them
pub object_of_name : ((m n : ObjectName) → IsObjectName m → IsObjectName n → object_path m ≡ object_path n → m ≡ n) → (names : List (List ℕ)) (objects : List ObjectName) → AllZip IsNameOf names objects
    → (n : ObjectName) → IsObjectName n → Contains names (object_path n) → Contains objects n
object_of_name one [] [] zip n is c = absurd (omega (arith, c.1))
object_of_name one [] (o ∷ objects) zip n is c = absurd zip
object_of_name one (p ∷ names) [] zip n is c = absurd zip
object_of_name one (p ∷ names) (o ∷ objects) zip n is c =
    ⊎_elim
    (λ (same : p ≡ object_path n). subst (λ (m : ObjectName). Contains (o ∷ objects) m) (one o n zip.0.0 is (sym zip.0.1 ∙ same)) (contains_here o objects))
    (λ (more : Contains names (object_path n)). contains_there n o objects (object_of_name one names objects zip.1 n is more))
    (contains_cases (object_path n) p names c)

-- one name more, and what it is of
pub names-push : (names : List (List ℕ)) (objects : List ObjectName) (p : List ℕ) (o : ObjectName) → AllZip IsNameOf names objects → IsNameOf p o → AllZip IsNameOf (names ++ p ∷ []) (objects ++ o ∷ [])
names-push [] [] p o zip is = (is, tt)
names-push [] (x ∷ xs) p o zip is = absurd zip
names-push (n ∷ names) [] p o zip is = absurd zip
names-push (n ∷ names) (x ∷ xs) p o zip is = (zip.0, names-push names xs p o zip.1 is)

-- the same at the next place
pub names-next : (names : List (List ℕ)) (objects more : List ObjectName) (i : ℕ) (p : List ℕ) (o : ObjectName) → i < length names → p ≡ get_or names i p → more ≡ objects ++ o ∷ [] → AllZip IsNameOf (take i names) objects → IsNameOf p o
    → AllZip IsNameOf (take (i + 1) names) more
names-next names objects more i p o within is pushed zip named =
    subst (λ (l : List ObjectName). AllZip IsNameOf (take (i + 1) names) l) (sym pushed)
    (subst (λ (l : List (List ℕ)). AllZip IsNameOf l (objects ++ o ∷ [])) (sym (take_more names i p within ∙ ap (λ (q : List ℕ). take i names ++ q ∷ []) (sym is))) (names-push (take i names) objects p o zip named))

-- each of these names is an object's
pub each_is_path : (names : List (List ℕ)) (objects : List ObjectName) → AllZip IsNameOf names objects → All IsObjectPath names
each_is_path [] [] zip = search rules
each_is_path [] (x ∷ xs) zip = absurd zip
each_is_path (n ∷ names) [] zip = absurd zip
each_is_path (n ∷ names) (x ∷ xs) zip = All-cons IsObjectPath n names (x, zip.0) (each_is_path names xs zip.1)

-- a name behind these that is no object's is the first
pub first_bad : (names : List (List ℕ)) (objects : List ObjectName) (i : ℕ) (p : List ℕ) → i < length names → p ≡ get_or names i p → AllZip IsNameOf (take i names) objects → (IsObjectPath p → ⊥) → IsFirstBad names p
first_bad names objects i p within is zip bad = record {
  front = take i names;
  rest = drop (i + 1) names;
  splits = sym (take-append-drop i names) ∙ ap (λ (l : List (List ℕ)). take i names ++ l) (drop_more names i p within) ∙ ap (λ (q : List ℕ). take i names ++ q ∷ drop (i + 1) names) (sym is);
  good = each_is_path (take i names) objects zip;
  bad = bad;
}
