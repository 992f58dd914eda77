-- The words of a map keep the rules of a payload.
use Rattle.std.proofs.Common.{◌≡◌, ℕ, Bool, true, false, cond, List, [], ◌∷◌, map, length, arith, Option, Some, None, IfSome, Ordering, refl, sym, ◌∙◌, ap, subst}
use Rattle.std.specs.Prelude.{bytes_eq}
use Rattle.std.specs.List.{AllByRecursion}
use Rattle.std.specs.Ordering.{eq_by_cmp, is_eq}
use Rattle.std.specs.FinMap as finmap
use Rattle.std.specs.FinMap.Entries.{below_all, is_sorted}
use Rattle.std.specs.Cmp.Lexicographic.{nat_list_cmp_total}
use Rattle.std.proofs.lemmas.Cmp.{tied_itself}
use Rattle.mx_payload.specs.declared.payload.NameWord.{NameWord}
use Rattle.mx_payload.specs.Rules.{IsLong, IsText, IsWord, AreWords, RisesFrom, plain}
use Rattle.mx_files.specs.Delta.{WordMap, word_of}
use Rattle.mx_files.specs.Said.{AreLong}
use Rattle.mx_lists.proofs.Plain.{first, second, truth}
use Rattle.mx_lists.proofs.TreeLemmas.{R, find_later}
use Rattle.mx_files.proofs.MapLemmas.{get-insert, revalued, sorted-revalued, keys-revalued}
use lib.Dec.{T}

abbrev IsFit : Option (Option ℕ) → Type 0
IsFit said = IfSome said (λ size. IfSome size IsLong)

pub long_none : (words : WordMap) → words ≡ finmap.empty → AreLong words
long_none words is name = subst (λ (o : Option (Option ℕ)). IsFit o) (sym (ap (λ (m : WordMap). finmap.get m name) is ∙ finmap.get-empty R name)) tt

pub long_insert : (words : WordMap) (name : List ℕ) (size : Option ℕ) → IfSome size IsLong → AreLong words → AreLong (finmap.insert words name size)
long_insert words name size fits long q = subst (λ (o : Option (Option ℕ)). IsFit o) (sym (get-insert words name size q)) (chosen (bytes_eq name q))
  where
    chosen : (b : Bool) → IsFit (cond b (Some size) (finmap.get words q))
    chosen true = fits
    chosen false = long q

each_long : (es : List (List ℕ × Option ℕ)) → T (is_sorted R es) → ((q : List ℕ) → IsFit (finmap.find R q es)) → AllByRecursion (λ (e : List ℕ × Option ℕ). IfSome e.1 IsLong) es
each_long [] sorted fit = tt
each_long (e ∷ es) sorted fit = (here, each_long es (second _ _ sorted) (λ q. later q (eq_by_cmp R q e.0) refl))
  where
    here : IfSome e.1 IsLong
    here = subst (λ (o : Option (Option ℕ)). IsFit o) (ap (λ (o : Ordering). cond (is_eq o) (Some e.1) (finmap.find R e.0 es)) (tied_itself nat_list_cmp_total e.0)) (fit e.0)

    later : (q : List ℕ) (b : Bool) → eq_by_cmp R q e.0 ≡ b → IsFit (finmap.find R q es)
    later q true is = subst (λ (o : Option (Option ℕ)). IsFit o) (sym (find_later q e es sorted is)) tt
    later q false is = subst (λ (o : Option (Option ℕ)). IsFit o) (ap (λ (b : Bool). cond b (Some e.1) (finmap.find R q es)) is) (fit q)

rise_from : (before : List ℕ) (es : List (List ℕ × Option ℕ)) → T (below_all R before es) → T (is_sorted R es) → RisesFrom (Some before) (map word_of es)
rise_from before [] below sorted = tt
rise_from before ((name, Some size) ∷ es) below sorted = (truth _ (first _ _ below), rise_from name es (first _ _ sorted) (second _ _ sorted))
rise_from before ((name, None) ∷ es) below sorted = (truth _ (first _ _ below), rise_from name es (first _ _ sorted) (second _ _ sorted))

rise : (es : List (List ℕ × Option ℕ)) → T (is_sorted R es) → RisesFrom None (map word_of es)
rise [] sorted = tt
rise ((name, Some size) ∷ es) sorted = (refl, rise_from name es (first _ _ sorted) (second _ _ sorted))
rise ((name, None) ∷ es) sorted = (refl, rise_from name es (first _ _ sorted) (second _ _ sorted))

each_word : (es : List (List ℕ × Option ℕ)) → AllByRecursion IsText (map (λ (e : List ℕ × Option ℕ). e.0) es) → AllByRecursion (λ (e : List ℕ × Option ℕ). IfSome e.1 IsLong) es → AllByRecursion IsWord (map word_of es)
each_word [] texts long = tt
each_word ((name, Some size) ∷ es) texts long = (record { name = texts.0; size = long.0; deleted = λ is. absurd (cc is) }, each_word es texts.1 long.1)
each_word ((name, None) ∷ es) texts long = (record { name = texts.0; size = omega arith; deleted = λ is. refl }, each_word es texts.1 long.1)

keep_rules : (es : List (List ℕ × Option ℕ)) → T (is_sorted R es) → AllByRecursion IsText (map (λ (e : List ℕ × Option ℕ). e.0) es) → AllByRecursion (λ (e : List ℕ × Option ℕ). IfSome e.1 IsLong) es
    → IsLong (length (map word_of es)) → AreWords (map word_of es)
keep_rules es sorted texts long count = record { count = count; each = each_word es texts long; rising = rise es sorted }

text_names : (es : List (List ℕ × Option ℕ)) → AllByRecursion (λ (w : NameWord). IsText w.name) (map word_of es) → AllByRecursion IsText (map (λ (e : List ℕ × Option ℕ). e.0) es)
text_names [] texts = tt
text_names ((name, Some size) ∷ es) texts = (texts.0, text_names es texts.1)
text_names ((name, None) ∷ es) texts = (texts.0, text_names es texts.1)

-- the words of files
pub words_keep : (words : WordMap) (list : List NameWord) → list ≡ map word_of (finmap.entries words) → AllByRecursion (λ (w : NameWord). IsText w.name) list → AreLong words → IsLong (length list) → AreWords list
words_keep words list is texts long count =
    subst AreWords (sym is)
    (keep_rules (finmap.entries words) (finmap.entries_sorted words)
    (text_names (finmap.entries words) (subst (λ (l : List NameWord). AllByRecursion (λ (w : NameWord). IsText w.name) l) is texts))
    (each_long (finmap.entries words) (finmap.entries_sorted words) (λ q. subst (λ (o : Option (Option ℕ)). IsFit o) (finmap.get-entries words q) (long q)))
    (subst (λ (l : List NameWord). IsLong (length l)) is count))

abbrev no_size : Option ℕ → Option ℕ
no_size size = Some 0

as_plain : (es : List (List ℕ × Option ℕ)) → map word_of (revalued no_size es) ≡ map plain (map (λ (e : List ℕ × Option ℕ). e.0) es)
as_plain [] = refl
as_plain (e ∷ es) = ap (λ (l : List NameWord). plain e.0 ∷ l) (as_plain es)

each_no_size : (es : List (List ℕ × Option ℕ)) → AllByRecursion (λ (e : List ℕ × Option ℕ). IfSome e.1 IsLong) (revalued no_size es)
each_no_size [] = tt
each_no_size (e ∷ es) = (omega arith, each_no_size es)

length-plain : (names : List (List ℕ)) → length (map plain names) ≡ length names
length-plain [] = refl
length-plain (name ∷ names) = omega (arith, length-plain names)

-- the words of partitions
pub names_keep : (words : WordMap) (names : List (List ℕ)) → names ≡ finmap.keys words → AllByRecursion IsText names → IsLong (length names) → AreWords (map plain names)
names_keep words names is texts count =
    let es : List (List ℕ × Option ℕ) = revalued no_size (finmap.entries words) in
    let same : map word_of es ≡ map plain names = as_plain (finmap.entries words) ∙ ap (λ (l : List (List ℕ)). map plain l) (sym is) in
    subst AreWords same
    (keep_rules es (sorted-revalued no_size words) (subst (λ (l : List (List ℕ)). AllByRecursion IsText l) (is ∙ sym (keys-revalued no_size (finmap.entries words))) texts) (each_no_size (finmap.entries words))
    (subst (λ (l : List NameWord). IsLong (length l)) (sym same) (omega (arith, count, length-plain names))))
