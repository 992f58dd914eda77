-- Objects of paths have no float, nest little, and read back.
use Rattle.std.proofs.Common.{◌≡◌, ℕ, ◌≤◌, ◌<◌, ◌^◌, Bool, true, false, List, [], ◌∷◌, map, Result, Ok, Err, Option, Some, None, All, refl, ap, ◌∙◌, arith}
use Rattle.std.specs.Prelude.{IsUtf8, IfOk, is_some, nat_lt, if◌then◌else◌, option_map, option_and_then}
use Rattle.std.proofs.lemmas.Bool.Decides.{Decides-ltb}
use Rattle.std.proofs.lemmas.List.Elements.{All-head, All-tail}
use Rattle.serde_json.specs.Data.{Data, string, depth, items_depth}
use Rattle.serde_json.specs.Find.{as_object}
use Rattle.serde_json.specs.View.{items_of}
use Rattle.serde_json.specs.Read.{read}
use Rattle.serde_json.specs.Written.{has_float, items_have_float}
use Rattle.mx_base.specs.Digits.{instant_text}
use Rattle.mx_base.specs.Names.{IsPath, is_path}
use Rattle.mx_meta.specs.declared.path_list.PathList.{PathList}
use Rattle.mx_meta.specs.Json.{paths_data, paths_in, rising_paths_in, some_instant_in, each_in, text_in, passing}
use Rattle.mx_meta.specs.Rising.{is_rising, bytes_below}
use Rattle.mx_meta.specs.Views.{Rollback}
use Rattle.mx_meta.specs.Fields.{object_of}
use Rattle.mx_meta.specs.PathLists.{path_list_data, path_list_in, path_list_of, drop_list_data, drop_list_in, drop_list_of, rollback_plan_data, rollback_plan_in, rollback_plan_of}
use Rattle.mx_meta.proofs.JsonLemmas.{neither}
use Rattle.mx_meta.proofs.NameLemmas.{instant_in-instant_text}
use Rattle.mx_meta.proofs.FieldLemmas.{object_of-value}

-- ---- any object

-- what is printed is read, by cases on the outcome
pub read_again : {T : Type 0} {E : Type 0} (reader : Data → Option T) (x : T) (r : Result (List ℕ) E) (d e : Data) → d ≡ e → IfOk r (λ bytes. IsUtf8 bytes) → IfOk r (λ bytes. read bytes ≡ Some d) →
    is_some (as_object e) ≡ true → reader e ≡ Some x → IfOk r (λ bytes. option_and_then reader (object_of bytes) ≡ Some x)
read_again reader x (Ok bytes) d e is utf8 reads stands back = ap (option_and_then reader) (object_of-value bytes e utf8 (reads ∙ ap (λ (f : Data). Some f) is) stands) ∙ back
read_again reader x (Err f) d e is utf8 reads stands back = tt

-- ---- texts

pub texts_no_float : {X : Type 0} (text_of : X → List ℕ) (xs : List X) → items_have_float (items_of (map (λ x. string (text_of x)) xs)) ≡ false
texts_no_float text_of [] = refl
texts_no_float text_of (x ∷ xs) = texts_no_float text_of xs

pub texts_depth : {X : Type 0} (text_of : X → List ℕ) (xs : List X) → items_depth (items_of (map (λ x. string (text_of x)) xs)) ≤ 0
texts_depth text_of [] = omega arith
texts_depth text_of (x ∷ xs) = omega (arith, texts_depth text_of xs)

pub paths_no_float : (paths : List (List ℕ)) → has_float (paths_data paths) ≡ false
unfolding paths_data
paths_no_float paths = texts_no_float (λ path. path) paths

pub paths_depth : (paths : List (List ℕ)) → depth (paths_data paths) ≤ 1
unfolding paths_data
paths_depth paths = omega (arith, texts_depth (λ (path : List ℕ). path) paths)

each_path_back : (paths : List (List ℕ)) → All IsPath paths → each_in (text_in is_path) (items_of (map string paths)) ≡ Some paths
each_path_back [] names = refl
each_path_back (path ∷ paths) names =
    ap (λ (b : Bool). option_and_then (λ x. option_map (λ xs. x ∷ xs) (each_in (text_in is_path) (items_of (map string paths)))) (if b then Some path else None)) (All-head IsPath path paths names)
    ∙ ap (λ (o : Option (List (List ℕ))). option_map (λ xs. path ∷ xs) o) (each_path_back paths (All-tail IsPath path paths names))

pub paths_in-paths_data : (paths : List (List ℕ)) → All IsPath paths → paths_in (paths_data paths) ≡ Some paths
unfolding paths_in paths_data
paths_in-paths_data paths names = each_path_back paths names

-- ---- paths in any order

pub path_list_data-no_float : (list : PathList) → has_float (path_list_data list) ≡ false
unfolding path_list_data
path_list_data-no_float list = neither (has_float (paths_data list.paths)) false (paths_no_float list.paths) refl

pub depth-path_list_data : (list : PathList) → depth (path_list_data list) ≤ 127
unfolding path_list_data
depth-path_list_data list = omega (arith, paths_depth list.paths)

pub path_list_again : {E : Type 0} (r : Result (List ℕ) E) (list : PathList) (d : Data) → d ≡ path_list_data list → IfOk r (λ bytes. IsUtf8 bytes) → IfOk r (λ bytes. read bytes ≡ Some d) →
    All IsPath list.paths → IfOk r (λ bytes. path_list_of bytes ≡ Some list)
unfolding path_list_of path_list_in path_list_data
path_list_again r list d is utf8 reads names =
    let back : paths_in (paths_data list.paths) ≡ Some list.paths = paths_in-paths_data list.paths names in
    read_again path_list_in list r d (path_list_data list) is utf8 reads refl (rw back (rw back refl))

-- ---- paths to be dropped

pub rising_paths_in-paths_data : (paths : List (List ℕ)) → All IsPath paths → is_rising bytes_below paths ≡ true → rising_paths_in (paths_data paths) ≡ Some paths
unfolding rising_paths_in
rising_paths_in-paths_data paths names rising =
    ap (passing (is_rising bytes_below)) (paths_in-paths_data paths names) ∙ ap (λ (b : Bool). if b then Some paths else None) rising

pub drop_list_data-no_float : (paths : List (List ℕ)) → has_float (drop_list_data paths) ≡ false
unfolding drop_list_data
drop_list_data-no_float paths = neither (has_float (paths_data paths)) false (paths_no_float paths) refl

pub depth-drop_list_data : (paths : List (List ℕ)) → depth (drop_list_data paths) ≤ 127
unfolding drop_list_data
depth-drop_list_data paths = omega (arith, paths_depth paths)

pub drop_list_again : {E : Type 0} (r : Result (List ℕ) E) (paths : List (List ℕ)) (d : Data) → d ≡ drop_list_data paths → IfOk r (λ bytes. IsUtf8 bytes) → IfOk r (λ bytes. read bytes ≡ Some d) →
    All IsPath paths → is_rising bytes_below paths ≡ true → IfOk r (λ bytes. drop_list_of bytes ≡ Some paths)
unfolding drop_list_of drop_list_in drop_list_data
drop_list_again r paths d is utf8 reads names rising =
    let back : rising_paths_in (paths_data paths) ≡ Some paths = rising_paths_in-paths_data paths names rising in
    read_again drop_list_in paths r d (drop_list_data paths) is utf8 reads refl (rw back (rw back refl))

-- ---- an instant that is rolled back

some_instant_back : (at : ℕ) → at < 10 ^ 17 → 0 < at → some_instant_in (string (instant_text at)) ≡ Some at
unfolding some_instant_in
some_instant_back at small some = ap (passing (nat_lt 0)) (instant_in-instant_text at small) ∙ ap (λ (b : Bool). if b then Some at else None) ((Decides-ltb 0 at).1 some)

pub rollback_plan_data-no_float : (plan : Rollback) → has_float (rollback_plan_data plan) ≡ false
unfolding rollback_plan_data
rollback_plan_data-no_float plan = neither (has_float (paths_data plan.paths)) false (paths_no_float plan.paths) refl

pub depth-rollback_plan_data : (plan : Rollback) → depth (rollback_plan_data plan) ≤ 127
unfolding rollback_plan_data
depth-rollback_plan_data plan = omega (arith, paths_depth plan.paths)

pub rollback_plan_again : {E : Type 0} (r : Result (List ℕ) E) (plan : Rollback) (d : Data) → d ≡ rollback_plan_data plan → IfOk r (λ bytes. IsUtf8 bytes) → IfOk r (λ bytes. read bytes ≡ Some d) →
    All IsPath plan.paths → 0 < plan.instant → plan.instant < 10 ^ 17 → IfOk r (λ bytes. rollback_plan_of bytes ≡ Some plan)
unfolding rollback_plan_of rollback_plan_in rollback_plan_data
rollback_plan_again r plan d is utf8 reads names some bound =
    let instant : some_instant_in (string (instant_text plan.instant)) ≡ Some plan.instant = some_instant_back plan.instant bound some in
    let paths : paths_in (paths_data plan.paths) ≡ Some plan.paths = paths_in-paths_data plan.paths names in
    read_again rollback_plan_in plan r d (rollback_plan_data plan) is utf8 reads refl (rw (instant, paths) (rw (instant, paths) refl))
