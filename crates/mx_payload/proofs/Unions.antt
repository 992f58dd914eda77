-- Words put over each other.
use Rattle.std.proofs.Common.{◌≡◌, ℕ, Bool, true, false, cond, eqb, ltb, List, [], ◌∷◌, ◌++◌, length, map, Option, Some, None, Result, Ok, Err, refl, sym, ap, subst, ◌∙◌, arith, inl, inr, ◌⊎◌}
use Rattle.std.specs.Option.{option_or}
use Rattle.std.specs.Ordering.{is_eq, is_lt}
use Rattle.std.specs.Cmp.{tied_itself, Equal-is}
use Rattle.std.specs.FinMap.Entries.{find, below_all, is_sorted, same_entries}
use Rattle.mx_avro.proofs.Groups.{chosen}
use lib.Dec.{T}
use Rattle.std.specs.Cmp.Lexicographic.{nat_list_cmp_total}
use Rattle.std.specs.Bool.{IsTrue}
use Rattle.std.specs.List.{AllByRecursion}
use Rattle.std.specs.List.Sorted.{IsStrictlySortedBy}
use Rattle.std.specs.declared.cmp.Ordering.{Ordering}
use Rattle.std.specs.declared.cmp.Ordering.TheVariants.{Less, Equal, Greater}
use Rattle.std.specs.BTreeMap as tree
use Rattle.std.specs.Map.{lookup}
use Rattle.mx_payload.specs.declared.payload.NameWord.{NameWord}
use Rattle.mx_payload.specs.Rules.{IsLong, IsWord, AreWords, RisesFrom, plain}
use Rattle.mx_payload.specs.declared.payload.Payload.{Payload}
use Rattle.mx_payload.specs.declared.payload.Payload.TheVariants.{Partitions, Files, Stats, Bloom, Location}
use Rattle.std.specs.Prelude.{IfOk, OnOk}
use Rattle.std.specs.Global.{Vec}
use Rattle.std.specs.declared.alloc.AllocError.{AllocError}
use Rattle.std.specs.Bool.{MatchBool}
use Rattle.std.proofs.lemmas.Bool.{eq-eqb, and_from}
use Rattle.std.proofs.lemmas.Map.Lookups.{exact_bytes}
use Rattle.mx_lists.proofs.TreeLemmas.{R, turned}
use Rattle.mx_payload.specs.Union.{state_of, IsUnion, IsCombined, are_lists, kind, words_of, after, word_of}

pub after-push : (words : List NameWord) (w : NameWord) (name : List ℕ) (before : Option (ℕ × Bool)) → after (words ++ w ∷ []) name before ≡ cond (is_eq (R w.name name)) (Some (w.size, w.deleted)) (after words name before)
after-push [] w name before = refl
after-push (v ∷ words) w name before = after-push words w name (cond (is_eq (R v.name name)) (Some (v.size, v.deleted)) before)

less_is : (o : Ordering) → IsTrue (is_lt o) → o ≡ Less
less_is Less h = refl
less_is Equal h = absurd cc
less_is Greater h = absurd cc

-- nothing is said of a name that stands before all words
before_all : (x q : List ℕ) (words : List NameWord) → ((R q x ≡ Equal) ⊎ (R q x ≡ Less)) → RisesFrom (Some x) words → state_of q words ≡ None
before_all x q [] at rising = refl
before_all x q (w ∷ words) at rising =
    let step : R x w.name ≡ Less = less_is _ rising.0 in
    let below : R q w.name ≡ Less = elim at [ inl e ↦ nat_list_cmp_total.congr q x w.name e ∙ step | inr l ↦ nat_list_cmp_total.trans q x w.name l step ] in
    rw below (before_all w.name q words (inr below) rising.1)

over : (w : NameWord) (words : List NameWord) (q : List ℕ) (b : Option (ℕ × Bool)) (t : Bool) → is_eq (R q w.name) ≡ t → RisesFrom (Some w.name) words
    → option_or (state_of q words) (cond (is_eq (R w.name q)) (Some (w.size, w.deleted)) b) ≡ option_or (cond (is_eq (R q w.name)) (Some (w.size, w.deleted)) (state_of q words)) b
over w words q b true e rising =
    let none = before_all w.name q words (inl ((Equal-is _).0 e)) rising in
    let back : is_eq (R w.name q) ≡ true = turned w.name q ∙ e in
    rw (none, back, e) refl
over w words q b false e rising =
    let back : is_eq (R w.name q) ≡ false = turned w.name q ∙ e in
    rw (back, e) refl

pub after_is : (before : Option (List ℕ)) (words : List NameWord) (q : List ℕ) (b : Option (ℕ × Bool)) → RisesFrom before words → after words q b ≡ option_or (state_of q words) b
after_is before [] q b rising = refl
after_is before (w ∷ words) q b rising =
    after_is (Some w.name) words q (cond (is_eq (R w.name q)) (Some (w.size, w.deleted)) b) rising.1 ∙ over w words q b (is_eq (R q w.name)) refl rising.1

pub state_lookup : (q : List ℕ) (es : List (List ℕ × (ℕ × Bool))) → state_of q (map word_of es) ≡ lookup (tree.is_at (R q)) es
state_lookup q [] = refl
state_lookup q (e ∷ es) = ap (λ (o : Option (ℕ × Bool)). cond (is_eq (R q e.0)) (Some e.1) o) (state_lookup q es)

sorted_rises : (x : List ℕ) (es : List (List ℕ × (ℕ × Bool))) → AllByRecursion (λ y. R x y ≡ Less) (map (λ e. e.0) es) → IsStrictlySortedBy R (map (λ e. e.0) es) → RisesFrom (Some x) (map word_of es)
unfolding IsStrictlySortedBy
sorted_rises x [] all sorted = tt
sorted_rises x (e ∷ es) all sorted = (ap is_lt all.0, sorted_rises e.0 es sorted.0 sorted.1)

pub entries_rise : (es : List (List ℕ × (ℕ × Bool))) → IsStrictlySortedBy R (map (λ e. e.0) es) → RisesFrom None (map word_of es)
unfolding IsStrictlySortedBy
entries_rise [] sorted = tt
entries_rise (e ∷ es) sorted = (refl, sorted_rises e.0 es sorted.0 sorted.1)

or_none : (o : Option (ℕ × Bool)) → option_or o None ≡ o
or_none None = refl
or_none (Some x) = refl

-- what the map holds after both lists were put into it
pub is_union : (older newer : List NameWord) (m0 m1 m2 : tree.BTreeMap (List ℕ) (ℕ × Bool)) → RisesFrom None older → RisesFrom None newer → m0.entries ≡ []
    → ((q : List ℕ) → tree.get R m1 q ≡ after older q (tree.get R m0 q)) → ((q : List ℕ) → tree.get R m2 q ≡ after newer q (tree.get R m1 q)) → tree.IsOrdered R m2
    → IsUnion older newer (map word_of m2.entries)
is_union older newer m0 m1 m2 ro rn empty one two ordered = record {
  rising = entries_rise m2.entries ordered;
  states = λ q.
      let none : tree.get R m0 q ≡ None = ap (lookup (tree.is_at (R q))) empty in
      state_lookup q m2.entries ∙ two q ∙ ap (after newer q) (one q ∙ ap (after older q) none)
      ∙ after_is None newer q (after older q None) rn ∙ ap (option_or (state_of q newer)) (after_is None older q None ro ∙ or_none (state_of q older));
}

-- ---- what holds of each word of both lists holds of each word of the union

said_first : (P : NameWord → Type 0) (w : NameWord) (q : List ℕ) (s : ℕ × Bool) → P w → R q w.name ≡ Equal → Some (w.size, w.deleted) ≡ Some s → P (word_of (q, s))
said_first P w q s p tie e = subst (λ (x : List ℕ). P (word_of (x, s))) (sym (exact_bytes q w.name tie)) (subst (λ (x : ℕ × Bool). P (word_of (w.name, x))) (cc e) p)

said : (P : NameWord → Type 0) (words : List NameWord) (q : List ℕ) (s : ℕ × Bool) → AllByRecursion P words → state_of q words ≡ Some s → P (word_of (q, s))
said P [] q s all e = absurd (cc e)
said P (w ∷ words) q s all e = elim (chosen (is_eq (R q w.name)) (Some (w.size, w.deleted)) (state_of q words) (Some s) e) [
  | inl p ↦ said_first P w q s all.0 ((Equal-is _).0 p.0) p.1
  | inr p ↦ said P words q s all.1 p.1
]

apart : (w : NameWord) (words : List NameWord) (q : List ℕ) (s : ℕ × Bool) → RisesFrom (Some w.name) words → state_of q words ≡ Some s → is_eq (R q w.name) ≡ false
apart w words q s rising e = by_test (is_eq (R q w.name)) refl
  where
    by_test : (t : Bool) → is_eq (R q w.name) ≡ t → t ≡ false
    by_test true tie = absurd (cc (sym (before_all w.name q words (inl ((Equal-is _).0 tie)) rising) ∙ e))
    by_test false tie = refl

all_said : (P : NameWord → Type 0) (before : Option (List ℕ)) (words : List NameWord) → RisesFrom before words → ((q : List ℕ) (s : ℕ × Bool) → state_of q words ≡ Some s → P (word_of (q, s))) → AllByRecursion P words
all_said P before [] rising h = tt
all_said P before (w ∷ words) rising h =
    let itself : is_eq (R w.name w.name) ≡ true = ap is_eq (tied_itself nat_list_cmp_total w.name) in
    (h w.name (w.size, w.deleted) (rw itself refl), all_said P (Some w.name) words rising.1 (λ q s e. let no = apart w words q s rising.1 e in h q s (rw no e)))

of_either : (n o : Option (ℕ × Bool)) (s : ℕ × Bool) → option_or n o ≡ Some s → (n ≡ Some s) ⊎ (o ≡ Some s)
of_either None o s e = inr e
of_either (Some x) o s e = inl e

pub union_all : (P : NameWord → Type 0) (older newer words : List NameWord) → AllByRecursion P older → AllByRecursion P newer → IsUnion older newer words → AllByRecursion P words
union_all P older newer words po pn u =
    all_said P None words u.rising (λ q s e. elim (of_either (state_of q newer) (state_of q older) s (sym (u.states q) ∙ e)) [
      | inl n ↦ said P newer q s pn n
      | inr o ↦ said P older q s po o
    ])

-- ---- words that say the same are the same

abbrev entry : NameWord → List ℕ × (ℕ × Bool)
entry w = (w.name, (w.size, w.deleted))

find-entry : (q : List ℕ) (words : List NameWord) → find R q (map entry words) ≡ state_of q words
find-entry q [] = refl
find-entry q (w ∷ words) = ap (λ (o : Option (ℕ × Bool)). cond (is_eq (R q w.name)) (Some (w.size, w.deleted)) o) (find-entry q words)

word-entry : (words : List NameWord) → map word_of (map entry words) ≡ words
word-entry [] = refl
word-entry (w ∷ words) = ap (λ (ws : List NameWord). w ∷ ws) (word-entry words)

-- a name that is below the first word is below all of them
earlier : (x : List ℕ) (w : NameWord) (words : List NameWord) → R x w.name ≡ Less → RisesFrom (Some w.name) words → RisesFrom (Some x) words
earlier x w [] step rising = tt
earlier x w (v ∷ words) step rising = (ap is_lt (nat_list_cmp_total.trans x w.name v.name step (less_is _ rising.0)), rising.1)

holds : (b : Bool) → b ≡ true → T b
holds b e = subst T (sym e) tt

below_words : (x : List ℕ) (words : List NameWord) → RisesFrom (Some x) words → below_all R x (map entry words) ≡ true
below_words x [] rising = refl
below_words x (w ∷ words) rising = and_from _ _ rising.0 (below_words x words (earlier x w words (less_is _ rising.0) rising.1))

sorted_words : (before : Option (List ℕ)) (words : List NameWord) → RisesFrom before words → is_sorted R (map entry words) ≡ true
sorted_words before [] rising = refl
sorted_words before (w ∷ words) rising = and_from _ _ (below_words w.name words rising.1) (sorted_words (Some w.name) words rising.1)

pub same_words : (xs ys : List NameWord) → RisesFrom None xs → RisesFrom None ys → ((q : List ℕ) → state_of q xs ≡ state_of q ys) → xs ≡ ys
same_words xs ys rx ry is =
    let entries : map entry xs ≡ map entry ys = same_entries R nat_list_cmp_total exact_bytes (map entry xs) (map entry ys) (holds _ (sorted_words None xs rx)) (holds _ (sorted_words None ys ry)) (λ q. find-entry q xs ∙ is q ∙ sym (find-entry q ys)) in
    sym (word-entry xs) ∙ ap (map word_of) entries ∙ word-entry ys

or_assoc : (a b c : Option (ℕ × Bool)) → option_or c (option_or b a) ≡ option_or (option_or c b) a
or_assoc a b None = refl
or_assoc a b (Some x) = refl

pub union_assoc : (a b c ab bc left right : List NameWord) → IsUnion a b ab → IsUnion ab c left → IsUnion b c bc → IsUnion a bc right → left ≡ right
union_assoc a b c ab bc left right u1 u2 u3 u4 =
    same_words left right u2.rising u4.rising (λ q.
    u2.states q ∙ ap (option_or (state_of q c)) (u1.states q) ∙ or_assoc (state_of q a) (state_of q b) (state_of q c)
    ∙ ap (λ (o : Option (ℕ × Bool)). option_or o (state_of q a)) (sym (u3.states q)) ∙ sym (u4.states q))

pub union_given : (older newer : List NameWord) (m0 m1 m2 : tree.BTreeMap (List ℕ) (ℕ × Bool)) (r : Result (Vec NameWord) AllocError) → RisesFrom None older → RisesFrom None newer → m0.entries ≡ []
    → ((q : List ℕ) → tree.get R m1 q ≡ after older q (tree.get R m0 q)) → ((q : List ℕ) → tree.get R m2 q ≡ after newer q (tree.get R m1 q)) → OnOk r (tree.IsOrdered R m2)
    → IfOk r (λ words. words.items ≡ map word_of m2.entries) → IfOk r (λ words. IsUnion older newer words.items)
union_given older newer m0 m1 m2 (Ok words) ro rn empty one two ordered is = subst (IsUnion older newer) (sym is) (is_union older newer m0 m1 m2 ro rn empty one two ordered)
union_given older newer m0 m1 m2 (Err e) ro rn empty one two ordered is = tt

-- ---- lists that keep the rules

rules_of : (words : List NameWord) → IsLong (length words) → AllByRecursion IsWord words → RisesFrom None words → AreWords words
rules_of words count each rising = record { count = count; each = each; rising = rising }

pub union_kept : (older newer words : List NameWord) → AreWords older → AreWords newer → IsLong (length words) → IsUnion older newer words → AreWords words
union_kept older newer words o n count u = rules_of words count (union_all IsWord older newer words o.each n.each u) u.rising

abbrev IsPlain : NameWord → Type 0
IsPlain w = (w.size ≡ 0) × (w.deleted ≡ false)

all_plain : (ns : List (List ℕ)) → AllByRecursion IsPlain (map plain ns)
all_plain [] = tt
all_plain (n ∷ ns) = ((refl, refl), all_plain ns)

abbrev pub names : List NameWord → List (List ℕ)
names words = map (λ w. w.name) words

plain-word : (w : NameWord) → IsPlain w → plain w.name ≡ w
plain-word w p = let s : 0 ≡ w.size = sym p.0 in let d : false ≡ w.deleted = sym p.1 in λ i. record { name = w.name; size = s i; deleted = d i }

plain-all : (words : List NameWord) → AllByRecursion IsPlain words → map plain (names words) ≡ words
plain-all [] all = refl
plain-all (w ∷ words) all = λ i. plain-word w all.0 i ∷ plain-all words all.1 i

-- the union of two partition lists is the partition list of its names
pub plain_union : (older newer : List (List ℕ)) (words : List NameWord) → IsUnion (map plain older) (map plain newer) words → map plain (names words) ≡ words
plain_union older newer words u = plain-all words (union_all IsPlain (map plain older) (map plain newer) words (all_plain older) (all_plain newer) u)

names-plain : (ns : List (List ℕ)) → names (map plain ns) ≡ ns
names-plain [] = refl
names-plain (n ∷ ns) = ap (λ (l : List (List ℕ)). n ∷ l) (names-plain ns)

-- ---- payloads

same_names : (xs ys : List (List ℕ)) → map plain xs ≡ map plain ys → xs ≡ ys
same_names xs ys e = sym (names-plain xs) ∙ ap names e ∙ names-plain ys

same_list : (x y : Payload) → kind x ≡ kind y → ltb (kind y) 3 ≡ true → words_of x ≡ words_of y → x ≡ y
same_list x (Stats file column stat deleted) e lt is = absurd cc
same_list x (Bloom bits deleted) e lt is = absurd cc
same_list x (Location partition file instant deleted) e lt is = absurd cc
same_list (Partitions xs) (Partitions ys) e lt is = ap Partitions (same_names xs ys is)
same_list (Files xs) (Partitions ys) e lt is = absurd (omega arith)
same_list (Stats file column stat deleted) (Partitions ys) e lt is = absurd (omega arith)
same_list (Bloom bits deleted) (Partitions ys) e lt is = absurd (omega arith)
same_list (Location partition file instant deleted) (Partitions ys) e lt is = absurd (omega arith)
same_list (Partitions xs) (Files ys) e lt is = absurd (omega arith)
same_list (Files xs) (Files ys) e lt is = ap Files is
same_list (Stats file column stat deleted) (Files ys) e lt is = absurd (omega arith)
same_list (Bloom bits deleted) (Files ys) e lt is = absurd (omega arith)
same_list (Location partition file instant deleted) (Files ys) e lt is = absurd (omega arith)

abbrev Lists : Payload → Payload → Payload → Type 0
Lists x y r = (kind r ≡ kind y) × IsUnion (words_of x) (words_of y) (words_of r)

as_lists : (x y r : Payload) → kind x ≡ kind y → ltb (kind y) 3 ≡ true → IsCombined x y r → Lists x y r
as_lists x y r e lt u =
    let lists : are_lists x y ≡ true = and_from _ _ (eq-eqb (kind x) (kind y) e) lt in
    subst (λ (t : Bool). MatchBool t (Lists x y r) (r ≡ y)) lists u

as_newer : (x y r : Payload) → kind x ≡ kind y → ltb (kind y) 3 ≡ false → IsCombined x y r → r ≡ y
as_newer x y r e lt u =
    let same : eqb (kind x) (kind y) ≡ true = eq-eqb (kind x) (kind y) e in
    let lists : are_lists x y ≡ false = rw (same, lt) refl in
    subst (λ (t : Bool). MatchBool t (Lists x y r) (r ≡ y)) lists u

pub associates : (a b c ab bc left right : Payload) → kind a ≡ kind b → kind b ≡ kind c → IsCombined a b ab → IsCombined ab c left → IsCombined b c bc → IsCombined a bc right → left ≡ right
associates a b c ab bc left right e f u1 u2 u3 u4 = by_test (ltb (kind c) 3) refl
  where
    by_test : (t : Bool) → ltb (kind c) 3 ≡ t → left ≡ right
    by_test true lt =
        let v1 = as_lists a b ab e (ap (λ (k : ℕ). ltb k 3) f ∙ lt) u1 in
        let v2 = as_lists ab c left (v1.0 ∙ f) lt u2 in
        let v3 = as_lists b c bc f lt u3 in
        let v4 = as_lists a bc right (e ∙ f ∙ sym v3.0) (ap (λ (k : ℕ). ltb k 3) v3.0 ∙ lt) u4 in
        same_list left right (v2.0 ∙ sym v3.0 ∙ sym v4.0) (ap (λ (k : ℕ). ltb k 3) (v4.0 ∙ v3.0) ∙ lt)
        (union_assoc (words_of a) (words_of b) (words_of c) (words_of ab) (words_of bc) (words_of left) (words_of right) v1.1 v2.1 v3.1 v4.1)
    by_test false lt =
        let w1 = as_newer a b ab e (ap (λ (k : ℕ). ltb k 3) f ∙ lt) u1 in
        let w2 = as_newer ab c left (ap kind w1 ∙ f) lt u2 in
        let w3 = as_newer b c bc f lt u3 in
        let w4 = as_newer a bc right (e ∙ f ∙ sym (ap kind w3)) (ap (λ (x : Payload). ltb (kind x) 3) w3 ∙ lt) u4 in
        w2 ∙ sym w3 ∙ sym w4

pub kept_given : (older newer : List NameWord) (r : Result (Vec NameWord) AllocError) → AreWords older → AreWords newer → IfOk r (λ words. IsLong (length words.items)) → IfOk r (λ words. IsUnion older newer words.items) → IfOk r (λ words. AreWords words.items)
kept_given older newer (Ok words) o n fits u = union_kept older newer words.items o n fits u
kept_given older newer (Err e) o n fits u = tt

pub names_union : (older newer : List (List ℕ)) (a b words : List NameWord) (r : Result (Vec (List ℕ)) AllocError) → a ≡ map plain older → b ≡ map plain newer → IsUnion a b words → IfOk r (λ ns. ns.items ≡ names words)
    → IfOk r (λ ns. IsUnion (map plain older) (map plain newer) (map plain ns.items))
names_union older newer a b words (Ok ns) ea eb u is =
    let v : IsUnion (map plain older) (map plain newer) words = subst (λ (x : List NameWord). IsUnion x (map plain newer) words) ea (subst (λ (y : List NameWord). IsUnion a y words) eb u) in
    subst (IsUnion (map plain older) (map plain newer)) (sym (ap (map plain) is ∙ plain_union older newer words v)) v
names_union older newer a b words (Err e) ea eb u is = tt

pub names_kept : (older newer : List (List ℕ)) (a b words : List NameWord) (r : Result (Vec (List ℕ)) AllocError) → a ≡ map plain older → b ≡ map plain newer → IsUnion a b words → AreWords words → IfOk r (λ ns. ns.items ≡ names words)
    → IfOk r (λ ns. AreWords (map plain ns.items))
names_kept older newer a b words (Ok ns) ea eb u kept is =
    let v : IsUnion (map plain older) (map plain newer) words = subst (λ (x : List NameWord). IsUnion x (map plain newer) words) ea (subst (λ (y : List NameWord). IsUnion a y words) eb u) in
    subst AreWords (sym (ap (map plain) is ∙ plain_union older newer words v)) kept
names_kept older newer a b words (Err e) ea eb u kept is = tt
