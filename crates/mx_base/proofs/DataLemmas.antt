-- What the path of a data file says.
use Rattle.std.proofs.Common.{◌≡◌, ◌≢◌, ℕ, ◌+◌, ◌^◌, ◌<◌, List, ◌∷◌, ◌++◌, length, get_or, take, drop, refl, sym, ◌∙◌, ap, arith, length-append, drop_at, lit<}
use Rattle.std.specs.Prelude.{codes}
use Rattle.std.specs.Str.{IsCharBoundary}
use Rattle.std.proofs.lemmas.List.{append_cancel_left, take-append-drop}
use Rattle.mx_base.specs.DataFiles.{IsDataFileAt}
use Rattle.mx_base.specs.declared.data_file.DataFile.{DataFile}
use Rattle.mx_base.specs.Digits.{instant_text}
use Rattle.mx_base.specs.Names.{IsFileId}
use Rattle.mx_base.specs.Paths.{data_path, data_file_name}
use Rattle.mx_base.proofs.NameLemmas.{length-data_file_name, length-IsFileId}
use Rattle.mx_base.proofs.ObjectSplits.{append-split, instant-split, boundary_at}
use Rattle.mx_base.proofs.Places.{length-instant}

pub length-data_path : (partition file : List ℕ) (at : ℕ) → IsFileId file → length (data_path partition file at) ≡ length partition + 69
unfolding data_path
length-data_path partition file at is = omega (arith, length-append partition (47 ∷ data_file_name file at), length-data_file_name file at is)

-- a path that is long enough, cut before its last 69 bytes
pub name_behind : (path folder name : List ℕ) (place : ℕ) → place + 69 ≡ length path → name ≡ drop place path → (partition file : List ℕ) (at : ℕ) → IsFileId file → path ≡ data_path partition file at → name ≡ codes "/" ++ data_file_name file at
unfolding data_path
name_behind path folder name place long is partition file at id same =
    is ∙ ap (drop place) same ∙ drop_at partition (47 ∷ data_file_name file at) place (omega (arith, long, ap length same, length-append partition (47 ∷ data_file_name file at), length-data_file_name file at id))

pub too_short : (path : List ℕ) → length path < 69 → (partition file : List ℕ) (at : ℕ) → IsFileId file → path ≢ data_path partition file at
too_short path short partition file at id same = absurd (omega (arith, short, ap length same, length-data_path partition file at id))

pub cut_before_name : (path : List ℕ) (place : ℕ) → place + 69 ≡ length path → (partition file : List ℕ) (at : ℕ) → IsFileId file → path ≡ data_path partition file at → IsCharBoundary path place
unfolding data_path
cut_before_name path place long partition file at id same =
    boundary_at path partition (47 ∷ data_file_name file at) place (omega (arith, long, ap length same, length-append partition (47 ∷ data_file_name file at), length-data_file_name file at id)) (lit< tt) same

pub cut_behind_file : (name file : List ℕ) (at : ℕ) → IsFileId file → name ≡ data_file_name file at → IsCharBoundary name 36
unfolding data_file_name
cut_behind_file name file at id same = boundary_at name file (codes "_0-0-0_" ++ (instant_text at ++ codes ".parquet")) 36 (length-IsFileId file id) (lit< tt) same

pub rest_behind : (name rest file : List ℕ) (at : ℕ) → rest ≡ drop 36 name → IsFileId file → name ≡ data_file_name file at → rest ≡ codes "_0-0-0_" ++ (instant_text at ++ codes ".parquet")
unfolding data_file_name
rest_behind name rest file at is id same = is ∙ ap (drop 36) same ∙ drop_at file (codes "_0-0-0_" ++ (instant_text at ++ codes ".parquet")) 36 (length-IsFileId file id)

pub slash_behind : (name more : List ℕ) (file : List ℕ) (at : ℕ) → name ≡ codes "/" ++ more → name ≡ codes "/" ++ data_file_name file at → more ≡ data_file_name file at
slash_behind name more file at is same = append_cancel_left (codes "/") more (data_file_name file at) (sym is ∙ same)

-- the parts of a path that was cut
pub cut_path : (path folder behind name file rest : List ℕ) (place at : ℕ) → folder ≡ take place path → behind ≡ drop place path → behind ≡ codes "/" ++ name → file ≡ take 36 name → rest ≡ drop 36 name → rest ≡ codes "_0-0-0_" ++ (instant_text at ++ codes ".parquet") → path ≡ data_path folder file at
unfolding data_path data_file_name
cut_path path folder behind name file rest place at first last slashed front back named =
    sym (take-append-drop place path) ∙ ap (λ (l : List ℕ). l ++ drop place path) (sym first) ∙ ap (λ (l : List ℕ). folder ++ l) (sym last ∙ slashed)
    ∙ ap (λ (l : List ℕ). folder ++ 47 ∷ l) (sym (take-append-drop 36 name) ∙ ap (λ (l : List ℕ). l ++ drop 36 name) (sym front) ∙ ap (λ (l : List ℕ). file ++ l) (sym back ∙ named))

-- the parts of a path are its only ones
pub one_file : (p q f g : List ℕ) (a b : ℕ) → length f ≡ 36 → length g ≡ 36 → a < 10 ^ 17 → b < 10 ^ 17 → data_path p f a ≡ data_path q g b → (p ≡ q) × (f ≡ g) × (a ≡ b)
unfolding data_path data_file_name
one_file p q f g a b len_f len_g small_a small_b same =
    let end_a : List ℕ = codes "_0-0-0_" ++ (instant_text a ++ codes ".parquet") in
    let end_b : List ℕ = codes "_0-0-0_" ++ (instant_text b ++ codes ".parquet") in
    let long : length p ≡ length q = omega (arith, ap length same, length-append p (47 ∷ (f ++ end_a)), length-append q (47 ∷ (g ++ end_b)), length-append f end_a, length-append g end_b, length-append (instant_text a) (codes ".parquet"), length-append (instant_text b) (codes ".parquet"), length-instant a, length-instant b, len_f, len_g) in
    let first = append-split p q (47 ∷ (f ++ end_a)) (47 ∷ (g ++ end_b)) (length q) long refl same in
    let second = append-split f g end_a end_b 36 len_f len_g (append_cancel_left (codes "/") (f ++ end_a) (g ++ end_b) first.1) in
    let third = instant-split a b (codes ".parquet") (codes ".parquet") small_a small_b (append_cancel_left (codes "_0-0-0_") (instant_text a ++ codes ".parquet") (instant_text b ++ codes ".parquet") second.1) in
    (first.0, second.0, third.0)

-- where no instant stands behind the file id
pub undated : (rest name : List ℕ) → rest ≡ codes "_0-0-0_" ++ name → ((at : ℕ) (ending : List ℕ) → at < 10 ^ 17 → get_or ending 0 0 < 128 → name ≢ instant_text at ++ ending) → (at : ℕ) → at < 10 ^ 17 → rest ≢ codes "_0-0-0_" ++ (instant_text at ++ codes ".parquet")
undated rest name is never at small same = never at (codes ".parquet") small (lit< tt) (append_cancel_left (codes "_0-0-0_") name (instant_text at ++ codes ".parquet") (sym is ∙ same))

pub dated : (rest name ending : List ℕ) (a : ℕ) → rest ≡ codes "_0-0-0_" ++ name → a < 10 ^ 17 → name ≡ instant_text a ++ ending → (at : ℕ) → at < 10 ^ 17 → rest ≡ codes "_0-0-0_" ++ (instant_text at ++ codes ".parquet") → (a ≡ at) × (ending ≡ codes ".parquet")
dated rest name ending a is small_a named at small same =
    instant-split a at ending (codes ".parquet") small_a small (sym named ∙ append_cancel_left (codes "_0-0-0_") name (instant_text at ++ codes ".parquet") (sym is ∙ same))

pub dated_at : (rest name ending : List ℕ) (a : ℕ) → rest ≡ codes "_0-0-0_" ++ name → name ≡ instant_text a ++ ending → ending ≡ codes ".parquet" → rest ≡ codes "_0-0-0_" ++ (instant_text a ++ codes ".parquet")
dated_at rest name ending a is named ends = is ∙ ap (λ (l : List ℕ). codes "_0-0-0_" ++ l) (named ∙ ap (λ (l : List ℕ). instant_text a ++ l) ends)

abbrev made : List ℕ → List ℕ → ℕ → DataFile
made p f a = record { partition = p; file = f; at = a }

pub same_file : (p f : List ℕ) (a : ℕ) (file : DataFile) → p ≡ file.partition → f ≡ file.file → a ≡ file.at → ◌≡◌ {A = DataFile} (record { partition = p; file = f; at = a }) file
same_file p f a file same_p same_f same_a = ap (λ (l : List ℕ). made l f a) same_p ∙ ap (λ (l : List ℕ). made file.partition l a) same_f ∙ ap (λ (n : ℕ). made file.partition file.file n) same_a

-- the parts of a path of a data file
pub the_file : (path folder f : List ℕ) (n : ℕ) (file : DataFile) → length f ≡ 36 → n < 10 ^ 17 → path ≡ data_path folder f n → IsDataFileAt path file → (folder ≡ file.partition) × (f ≡ file.file) × (n ≡ file.at)
the_file path folder f n file len small is at = one_file folder file.partition f file.file n file.at len (length-IsFileId file.file at.group) small at.small (sym is ∙ at.is)
