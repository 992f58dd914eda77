-- A journal that begins with an earlier one.
use Rattle.std.proofs.Common.{◌≡◌, ℕ, ◌+◌, ◌≤◌, List, [], ◌∷◌, length, take, Option, Some, None, refl, sym, ◌∙◌, ap, subst, arith, length-take}
use Rattle.std.proofs.lemmas.List.{take_all, take-append-le, take-take}
use Rattle.mx_store.specs.declared.change.Change.{Change}
use Rattle.mx_store.specs.Calls.{with_change}
use Rattle.mx_store.specs.Objects.{Objects, objects_of, EachSince}
use Rattle.mx_store.specs.Journal.{Begins, snapshot_at}

-- ---- over lists

-- a front of the earlier journal is one of the later
pub take-longer : (k : ℕ) (journal later : List Change) → k ≤ length journal → take (length journal) later ≡ journal → take k later ≡ take k journal
take-longer k journal later within begins = sym (take-take k (length journal) later within) ∙ ap (λ (js : List Change). take k js) begins

pub length-longer : (journal later : List Change) → take (length journal) later ≡ journal → length journal ≤ length later
length-longer journal later begins = omega (arith, ap length begins, length-take (length journal) later)

pub snapshot_at-longer : (journal later : List Change) (opening seq : ℕ) → opening + seq ≤ length journal → take (length journal) later ≡ journal → snapshot_at later opening seq ≡ snapshot_at journal opening seq
snapshot_at-longer journal later opening seq within begins = ap objects_of (take-longer (opening + seq) journal later within begins)

-- the moment after the last change
pub snapshot_at-last : (journal : List Change) (opening seq : ℕ) → length journal ≡ opening + seq → snapshot_at journal opening seq ≡ objects_of journal
snapshot_at-last journal opening seq last = ap objects_of (take_all (opening + seq) journal (omega (arith, last)))

-- ---- each prefix

pub EachSince-now : (P : Objects → Type 0) (n : ℕ) (journal : List Change) → n ≤ length journal → EachSince P n journal → P (objects_of journal)
EachSince-now P n journal within each = subst (λ (js : List Change). P (objects_of js)) (take_all (length journal) journal (omega arith)) (each (length journal) within (omega arith))

pub EachSince-start : (P : Objects → Type 0) (journal : List Change) → P (objects_of journal) → EachSince P (length journal) journal
EachSince-start P journal now k low high = subst (λ (js : List Change). P (objects_of js)) (sym (take_all k journal low)) now

pub EachSince-earlier : (P : Objects → Type 0) (n : ℕ) (journal later : List Change) → take (length journal) later ≡ journal → EachSince P n later → EachSince P n journal
EachSince-earlier P n journal later begins each k low high =
    subst (λ (js : List Change). P (objects_of js)) (take-longer k journal later high begins) (each k low (omega (arith, high, length-longer journal later begins)))

-- ---- told or not

pub begins-refl : (journal : Option (List Change)) → Begins journal journal
begins-refl None = refl
begins-refl (Some journal) = take_all (length journal) journal (omega arith)

pub begins-same : (opening before after : Option (List Change)) → Begins opening before → after ≡ before → Begins opening after
begins-same opening before after begins same = subst (λ (j : Option (List Change)). Begins opening j) (sym same) begins

pub begins-trans : (a b c : Option (List Change)) → Begins a b → Begins b c → Begins a c
begins-trans None None c first second = second
begins-trans None (Some b) c first second = absurd (cc first)
begins-trans (Some a) None c first second = absurd first
begins-trans (Some a) (Some b) None first second = second
begins-trans (Some a) (Some b) (Some c) first second = take-longer (length a) b c (length-longer a b first) second ∙ first

pub begins-push : (a b : Option (List Change)) (change : Change) → Begins a b → Begins a (with_change b change)
begins-push None None change begins = refl
begins-push None (Some b) change begins = absurd (cc begins)
begins-push (Some a) None change begins = begins
begins-push (Some a) (Some b) change begins = take-append-le (length a) b (change ∷ []) (length-longer a b begins) ∙ begins
