-- Files of one group, and files that are apart.
use Rattle.std.proofs.Common.{◌≡◌, ℕ, ◌+◌, ◌<◌, arith, Bool, true, false, List, [], ◌∷◌, ◌++◌, length, take, drop, get_or, sym, ◌∙◌, ap, ap₂, subst, suc, take-append-drop}
use Rattle.std.specs.Prelude.{Contains}
use Rattle.std.specs.List.{list_any}
use Rattle.std.specs.Str.{bytes_eq}
use Rattle.std.proofs.lemmas.Bool.{and_parts, and_from}
use Rattle.std.proofs.lemmas.List.Folds.{Any-from_list_any, list_any-from_Any}
use Rattle.std.proofs.lemmas.List.Elements.{All-nil, All-push}
use Rattle.std.proofs.lemmas.List.{take_more}
use lib.Seq.{drop-cons}
use Rattle.std.proofs.lemmas.Slice.Eq.{bytes_eq-Decides}
use Rattle.mx_ask.specs.declared.ask.FileRows.{FileRows}
use Rattle.mx_folder.proofs.ElementLemmas.{among_here, among_later}
use Rattle.mx_commit.specs.Grouping.{is_same_group}
use Rattle.mx_commit.specs.Written.{IsSameGroup, AreApartFiles, IsFirstDouble, asked_group}

-- ---- an element that passes a test

pub found : {X : Type 0} (p : X → Bool) (xs : List X) → list_any p xs ≡ true → (x : X) × Contains xs x × (p x ≡ true)
found p xs is = let any = Any-from_list_any p xs is in (any.1, (any.0, any.2, any.3), any.4)

pub find_it : {X : Type 0} (p : X → Bool) (xs : List X) (x : X) → Contains xs x → p x ≡ true → list_any p xs ≡ true
find_it p xs x among is = list_any-from_Any p xs (among.0, x, among.1, among.2, is)

-- ---- files of one group

pub same_group : (x y : FileRows) → is_same_group x y ≡ true → IsSameGroup (asked_group x) (asked_group y)
same_group x y is = (
  (bytes_eq-Decides x.partition y.partition).0 (and_parts (bytes_eq x.partition y.partition) (bytes_eq x.file y.file) is).0,
  (bytes_eq-Decides x.file y.file).0 (and_parts (bytes_eq x.partition y.partition) (bytes_eq x.file y.file) is).1,
)

pub tests_same : (x y : FileRows) → IsSameGroup (asked_group x) (asked_group y) → is_same_group x y ≡ true
tests_same x y same = and_from (bytes_eq x.partition y.partition) (bytes_eq x.file y.file) ((bytes_eq-Decides x.partition y.partition).1 same.0) ((bytes_eq-Decides x.file y.file).1 same.1)

apart_push : (files : List FileRows) (file : FileRows) → AreApartFiles asked_group files → ((other : FileRows) → Contains files other → ¬ (IsSameGroup (asked_group other) (asked_group file))) → AreApartFiles asked_group (files ++ file ∷ [])
apart_push [] file apart differ = (All-nil (λ (other : FileRows). ¬ (IsSameGroup (asked_group file) (asked_group other))), tt)
apart_push (first ∷ files) file apart differ = (
  All-push (λ (other : FileRows). ¬ (IsSameGroup (asked_group first) (asked_group other))) files file apart.0 (differ first (among_here first files)),
  apart_push files file apart.1 (λ other among. differ other (among_later other first files among)),
)

pub apart_next : (files : List FileRows) (place : ℕ) (file : FileRows) → place < length files → file ≡ get_or files place file → AreApartFiles asked_group (take place files) → list_any (is_same_group file) (take place files) ≡ false → AreApartFiles asked_group (take (place + 1) files)
apart_next files place file within is apart none =
    subst (AreApartFiles asked_group) (ap (λ (f : FileRows). take place files ++ f ∷ []) is ∙ sym (take_more files place file within))
    (apart_push (take place files) file apart (λ other among same. absurd (cc (sym none ∙ find_it (is_same_group file) (take place files) other among (tests_same file other (sym same.0, sym same.1))))))

pub split_at : (files : List FileRows) (place : ℕ) (file : FileRows) → place < length files → file ≡ get_or files place file → files ≡ take place files ++ file ∷ drop (place + 1) files
split_at files place file within is =
    sym (take-append-drop place files)
    ∙ ap (λ (rest : List FileRows). take place files ++ rest) (drop-cons files place file within ∙ ap₂ (λ (f : FileRows) (n : ℕ). f ∷ drop n files) (sym is) (suc_is place))
  where
    suc_is : (n : ℕ) → suc n ≡ n + 1
    suc_is n = omega arith

pub first_double : (files : List FileRows) (place : ℕ) (file : FileRows) → place < length files → file ≡ get_or files place file → AreApartFiles asked_group (take place files) → list_any (is_same_group file) (take place files) ≡ true → IsFirstDouble files file
first_double files place file within is apart any =
    let other = found (is_same_group file) (take place files) any in
    record {
      front = take place files;
      behind = drop (place + 1) files;
      splits = split_at files place file within is;
      apart = apart;
      other = other.0;
      among = other.1;
      same = same_group file other.0 other.2;
    }
