-- What one more change does.
use Rattle.std.proofs.Math.Nat.{eq-or-lt_of_le}
use Rattle.std.proofs.Common.{◌≡◌, ℕ, zero, suc, ◌≤◌, ◌<◌, List, [], ◌∷◌, ◌++◌, length, take, refl, sym, subst, ⊎_elim, arith, length-append}
use Rattle.std.proofs.lemmas.List.{take-append-le, take_all}
use Rattle.mx_store.specs.declared.change.Change.{Change}
use Rattle.mx_store.specs.Objects.{Objects, apply, after_all, objects_of, EachSince}
use Rattle.mx_store.specs.Journal.{IsAllowed, AreAllowed, IsJournal}

pub after_all-push : (o : Objects) (cs : List Change) (c : Change) → after_all o (cs ++ c ∷ []) ≡ apply c (after_all o cs)
after_all-push o [] c = refl
after_all-push o (b ∷ cs) c = after_all-push (apply b o) cs c

pub objects_of-push : (cs : List Change) (c : Change) → objects_of (cs ++ c ∷ []) ≡ apply c (objects_of cs)
objects_of-push cs c = after_all-push _ cs c

-- a journal that is so since n, and one change more after which it is so
pub EachSince-push : (P : Objects → Type 0) (n : ℕ) (cs : List Change) (c : Change) → EachSince P n cs → P (objects_of (cs ++ c ∷ [])) → EachSince P n (cs ++ c ∷ [])
EachSince-push P n cs c so_far now k low high = ⊎_elim
    (λ (whole : k ≡ length (cs ++ c ∷ [])). subst (λ (js : List Change). P (objects_of js)) (sym (take_all k (cs ++ c ∷ []) (omega (arith, whole)))) now)
    (λ (part : k < length (cs ++ c ∷ [])).
    let within : k ≤ length cs = omega (arith, part, length-append cs (c ∷ [])) in
    subst (λ (js : List Change). P (objects_of js)) (sym (take-append-le k cs (c ∷ []) within)) (so_far k low within))
    (eq-or-lt_of_le high)

-- ---- journals that a store can have made

allowed-push : (objects : Objects) (changes : List Change) (change : Change) → AreAllowed objects changes → IsAllowed (after_all objects changes) change → AreAllowed objects (changes ++ change ∷ [])
allowed-push objects [] change are is = (is, tt)
allowed-push objects (first ∷ changes) change are is = (are.0, allowed-push (apply first objects) changes change are.1 is)

pub IsJournal-push : (changes : List Change) (change : Change) → IsJournal changes → IsAllowed (objects_of changes) change → IsJournal (changes ++ change ∷ [])
IsJournal-push changes change are is = allowed-push _ changes change are is

allowed-take : (n : ℕ) (objects : Objects) (changes : List Change) → AreAllowed objects changes → AreAllowed objects (take n changes)
allowed-take zero objects changes are = tt
allowed-take (suc n) objects [] are = tt
allowed-take (suc n) objects (first ∷ changes) are = (are.0, allowed-take n (apply first objects) changes are.1)

pub IsJournal-take : (n : ℕ) (changes : List Change) → IsJournal changes → IsJournal (take n changes)
IsJournal-take n changes are = allowed-take n _ changes are
