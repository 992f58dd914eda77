-- The data files of a commit, one behind the other.
use Rattle.std.proofs.Common.{◌≡◌, ℕ, zero, suc, ◌+◌, ◌<◌, ◌≤◌, arith, Bool, true, false, cond, List, [], ◌∷◌, ◌++◌, length, take, drop, get_or, map, All, Option, Some, None, Result, Err, refl, sym, ◌∙◌, ap, ap₂, subst}
use Rattle.std.specs.Prelude.{find, nat_lt}
use Rattle.std.specs.Option.{option_or}
use Rattle.std.proofs.lemmas.Bool.Decides.{nat_tests}
use Rattle.std.proofs.lemmas.List.{length-take-le, map-append, take_more}
use Rattle.std.proofs.lemmas.List.Elements.{All-cons, All-from_recursion, All-head, All-nil, All-tail}
use Rattle.std.proofs.lemmas.List.Folds.{find-append}
use Rattle.mx_ask.specs.declared.ask.FileRows.{FileRows}
use Rattle.mx_rows.specs.Checks.{Row, FilesFit, RowsFit, first_too_many}
use Rattle.mx_rows.specs.Filled.{Where, full_rows_from}
use Rattle.mx_schema.specs.declared.column.Column.{Column}
use Rattle.mx_commit.specs.declared.new_file.NewFile.{NewFile}
use Rattle.mx_commit.specs.declared.making.MakeError.{MakeError}
use Rattle.mx_commit.specs.declared.making.MakeError.TheVariants.{TooLarge, NoMemory}
use Rattle.mx_commit.specs.Made.{TellsSize, new_file, new_files, new_files_from, file_bytes, first_too_large}
use Rattle.mx_commit.specs.Making.{TellsLength}
use Rattle.mx_commit.specs.Written.{Group, IsSameGroup, AreApartFiles, asked_group, new_group}
use Rattle.mx_commit.proofs.EntryLemmas.{split_at}

abbrev size_of : NewFile → ℕ
size_of file = length file.bytes

abbrev is_large : ℕ → Bool
is_large size = nat_lt 4194304 size

large-append : (xs ys : List NewFile) → first_too_large xs ≡ None → first_too_large (xs ++ ys) ≡ first_too_large ys
large-append xs ys small =
    ap (find is_large) (map-append size_of xs ys)
    ∙ find-append is_large (map size_of xs) (map size_of ys)
    ∙ ap (λ (o : Option ℕ). option_or o (find is_large (map size_of ys))) small

module _ (schema : List Column) (at : ℕ) where
  files-append : (n : ℕ) (xs ys : List FileRows) → new_files_from schema at n (xs ++ ys) ≡ new_files_from schema at n xs ++ new_files_from schema at (n + length xs) ys
  files-append n [] ys = ap (λ (m : ℕ). new_files_from schema at m ys) (omega arith)
  files-append n (x ∷ xs) ys = ap (λ (more : List NewFile). new_file schema at n x ∷ more) (files-append (n + 1) xs ys ∙ ap (λ (m : ℕ). new_files_from schema at (n + 1) xs ++ new_files_from schema at m ys) (omega arith))

  module _ (files : List FileRows) (i : ℕ) (file : FileRows) (within : i < length files) (is : file ≡ get_or files i file) where
    taken : 0 + length (take i files) ≡ i
    taken = let long : length (take i files) ≡ i = length-take-le i files (omega (arith, within)) in omega (arith, long)

    pub made_more : (made after : List NewFile) (one : NewFile) → made ≡ new_files schema at (take i files) → one ≡ new_file schema at i file → after ≡ made ++ one ∷ [] → after ≡ new_files schema at (take (i + 1) files)
    made_more made after one so_far here grown =
        let on : take (i + 1) files ≡ take i files ++ file ∷ [] = take_more files i file within ∙ ap (λ (f : FileRows). take i files ++ f ∷ []) (sym is) in
        grown ∙ ap₂ (λ (front : List NewFile) (back : NewFile). front ++ back ∷ []) so_far (here ∙ ap (λ (n : ℕ). new_file schema at n file) (sym taken))
        ∙ sym (files-append 0 (take i files) (file ∷ []))
        ∙ sym (ap (new_files schema at) on)

    pub one_too_large : first_too_large (new_files schema at (take i files)) ≡ None → 4194304 < length (file_bytes schema at i file) → first_too_large (new_files schema at files) ≡ Some (length (file_bytes schema at i file))
    one_too_large small large =
        let test : nat_lt 4194304 (length (file_bytes schema at i file)) ≡ true = grind (arith, nat_tests) in
        ap (λ (fs : List FileRows). first_too_large (new_files schema at fs)) (split_at files i file within is)
        ∙ ap first_too_large (files-append 0 (take i files) (file ∷ drop (i + 1) files))
        ∙ large-append (new_files schema at (take i files)) (new_files_from schema at (0 + length (take i files)) (file ∷ drop (i + 1) files)) small
        ∙ ap (λ (n : ℕ). first_too_large (new_files_from schema at n (file ∷ drop (i + 1) files))) taken
        ∙ ap (λ (b : Bool). cond b (Some (length (file_bytes schema at i file))) (first_too_large (new_files_from schema at (i + 1) (drop (i + 1) files)))) test

    pub refused_at : (made : List NewFile) → made ≡ new_files schema at (take i files) → first_too_large made ≡ None → (r : Result (List NewFile) MakeError) (e : MakeError) → r ≡ Err e → TellsLength {T = NewFile} (length (file_bytes schema at i file)) (Err e) → TellsSize (new_files schema at files) r
    refused_at made so_far small r (TooLarge bytes) is tells =
        subst (TellsSize (new_files schema at files)) (sym is) (length (file_bytes schema at i file), one_too_large (sym (ap first_too_large so_far) ∙ small) tells.0, tells.1)
    refused_at made so_far small r NoMemory is tells = subst (TellsSize (new_files schema at files)) (sym is) tt

pub small_more : (made after : List NewFile) (one : NewFile) → first_too_large made ≡ None → length one.bytes ≤ 4194304 → after ≡ made ++ one ∷ [] → first_too_large after ≡ None
small_more made after one small here grown =
    let test : nat_lt 4194304 (length one.bytes) ≡ false = grind (arith, nat_tests) in
    ap first_too_large grown ∙ large-append made (one ∷ []) small ∙ ap (λ (b : Bool). cond b (Some (length one.bytes)) None) test

-- ---- each file fits, and has few rows

pub length-full : (columns : List Column) (place : Where) (number : ℕ) (rows : List Row) → length (full_rows_from columns place number rows) ≡ length rows
length-full columns place number [] = refl
length-full columns place number (row ∷ rows) = ap suc (length-full columns place (number + 1) rows)

pub few_at : (files : List FileRows) (i : ℕ) (d : FileRows) → first_too_many files ≡ None → i < length files → length (get_or files i d).rows ≤ 16384
few_at [] i d few within = absurd (omega (arith, within))
few_at (file ∷ files) i d few within = by_test (nat_lt 16384 (length file.rows)) refl few i within (λ rest k inside. few_at files k d rest inside)
  where
    at_place : nat_lt 16384 (length file.rows) ≡ false → (k : ℕ) → k < length (file ∷ files) → ((j : ℕ) → j < length files → length (get_or files j d).rows ≤ 16384) → length (get_or (file ∷ files) k d).rows ≤ 16384
    at_place test zero inside later = grind (arith, nat_tests)
    at_place test (suc k) inside later = later k (omega (arith, inside))

    by_test : (b : Bool) → nat_lt 16384 (length file.rows) ≡ b → cond b (Some (length file.rows)) (first_too_many files) ≡ None → (k : ℕ) → k < length (file ∷ files)
        → (first_too_many files ≡ None → (j : ℕ) → j < length files → length (get_or files j d).rows ≤ 16384) → length (get_or (file ∷ files) k d).rows ≤ 16384
    by_test true test none k inside later = absurd (cc none)
    by_test false test none k inside later = at_place test k inside (later none)

pub fit_at : (schema : List Column) (files : List FileRows) (i : ℕ) (file : FileRows) → FilesFit schema files → i < length files → file ≡ get_or files i file → RowsFit schema file.rows
fit_at schema files i file fit within is = subst (λ (f : FileRows). RowsFit schema f.rows) (sym is) (All-from_recursion (λ (f : FileRows). RowsFit schema f.rows) files fit i file within)

-- ---- they are of the groups of the ask

all_new : (P : Group → Type 0) (schema : List Column) (at n : ℕ) (files : List FileRows) → All (λ (file : FileRows). P (asked_group file)) files → All (λ (file : NewFile). P (new_group file)) (new_files_from schema at n files)
all_new P schema at n [] all = All-nil (λ (file : NewFile). P (new_group file))
all_new P schema at n (file ∷ files) all =
    All-cons (λ (file : NewFile). P (new_group file)) (new_file schema at n file) (new_files_from schema at (n + 1) files)
    (All-head (λ (file : FileRows). P (asked_group file)) file files all)
    (all_new P schema at (n + 1) files (All-tail (λ (file : FileRows). P (asked_group file)) file files all))

new_apart_from : (schema : List Column) (at n : ℕ) (files : List FileRows) → AreApartFiles asked_group files → AreApartFiles new_group (new_files_from schema at n files)
new_apart_from schema at n [] apart = tt
new_apart_from schema at n (file ∷ files) apart = (all_new (λ (g : Group). ¬ (IsSameGroup (asked_group file) g)) schema at (n + 1) files apart.0, new_apart_from schema at (n + 1) files apart.1)

pub new_apart : (schema : List Column) (at : ℕ) (files : List FileRows) → AreApartFiles asked_group files → AreApartFiles new_group (new_files schema at files)
new_apart schema at files apart = new_apart_from schema at 0 files apart
