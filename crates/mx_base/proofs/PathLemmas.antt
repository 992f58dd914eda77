-- What the names of a table's objects say, and that they differ.
use Rattle.std.proofs.Common.{◌≡◌, ◌≤◌, ◌≢◌, ℕ, zero, suc, ◌+◌, ◌-◌, ◌*◌, ◌/◌, ◌%◌, ◌^◌, ◌<◌, Bool, true, false, not, nat_eq, List, [], ◌∷◌, ◌++◌, length, get_or, drop, Option, Some, None, refl, sym, ◌∙◌, ap, subst, arith, length-append, append_assoc, take_at, drop_at, ⊎_elim}
use Rattle.std.specs.Prelude.{codes, ◌==◌, ◌&&◌, nat_lt, if◌then◌else◌}
use Rattle.std.specs.List.{prefix_len, suffix_len, before_last, starts_with}
use Rattle.std.specs.Str.{bytes_eq}
use Rattle.std.proofs.Math.Nat.{pow-suc}
use Rattle.std.proofs.lemmas.List.{reverse-append, append_cancel_left, append_cancel_right}
use Rattle.std.proofs.lemmas.List.Sums.{fold_push}
use Rattle.std.proofs.lemmas.Bool.{cases_lt}
use Rattle.std.proofs.lemmas.Bool.Decides.{nat_tests, Decides-ltb}
use Rattle.std.proofs.lemmas.Slice.Eq.{bytes_eq-Decides}
use Rattle.mx_base.specs.Digits.{digits, instant_text, IsInstant}
use Rattle.mx_base.specs.Paths.{commit_path, files_log_path, data_file_name, data_path, number_of, name_instant, instant_of, commit_instant}
use Rattle.mx_base.proofs.Places.{length-instant}

pub number_of_digits : (k n : ℕ) → n < 10 ^ k → number_of (digits k n) ≡ n
number_of_digits zero n small = omega (arith, small)
number_of_digits (suc k) n small =
    let less : n / 10 < 10 ^ k = omega (arith, small, pow-suc 10 k) in
    fold_push (λ (number : ℕ) (byte : ℕ). number * 10 + (byte - 48)) 0 (digits k (n / 10)) (48 + n % 10)
    ∙ omega (arith, number_of_digits k (n / 10) less)

pub number_of-instant_text : (n : ℕ) → n < 10 ^ 17 → number_of (instant_text n) ≡ n
unfolding instant_text
number_of-instant_text n small = number_of_digits 17 n small

pub instant_of-instant_text : (n : ℕ) → n < 10 ^ 17 → instant_of (instant_text n) ≡ Some n
unfolding instant_of
instant_of-instant_text n small =
    ap (λ (at : ℕ). if nat_lt at (10 ^ 17) && bytes_eq (instant_text n) (instant_text at) then Some at else None) (number_of-instant_text n small)
    ∙ passed n small (bytes_eq (instant_text n) (instant_text n)) ((bytes_eq-Decides (instant_text n) (instant_text n)).1 refl)
  where
    passed : (n : ℕ) → n < 10 ^ 17 → (same : Bool) → same ≡ true → (if nat_lt n (10 ^ 17) && same then Some n else None) ≡ Some n
    passed n small same is = grind (arith, nat_tests)

pub instant_of_none : (text : List ℕ) → ¬ (IsInstant text) → instant_of text ≡ None
unfolding instant_of
instant_of_none text never =
    refused (number_of text) (bytes_eq text (instant_text (number_of text))) (λ small same. never (number_of text, small, (bytes_eq-Decides text (instant_text (number_of text))).0 same))
  where
    refused : (n : ℕ) (same : Bool) → (n < 10 ^ 17 → same ≡ true → ⊥) → (if nat_lt n (10 ^ 17) && same then Some n else None) ≡ None
    refused n false never = grind (arith, nat_tests)
    refused n true never = ⊎_elim
        (λ (low : n < 10 ^ 17). absurd (never low refl))
        (λ (high : 10 ^ 17 ≤ n). grind (arith, nat_tests))
        (cases_lt n (10 ^ 17))

abbrev not_dot : ℕ → Bool
not_dot byte = not (byte == 46)

before_dot : (front ending : List ℕ) → suffix_len not_dot (front ++ ending) + 1 ≡ length ending → before_last (λ byte. byte == 46) (front ++ ending) ≡ front
before_dot front ending is = take_at front ending _ (omega (arith, is, length-append front ending))

after_commit : (front : List ℕ) → suffix_len not_dot (front ++ codes ".commit") ≡ 6
after_commit front = ap (prefix_len not_dot) (reverse-append front (codes ".commit"))

after_log : (front : List ℕ) → suffix_len not_dot (front ++ codes ".log") ≡ 3
after_log front = ap (prefix_len not_dot) (reverse-append front (codes ".log"))

after_parquet : (front : List ℕ) → suffix_len not_dot (front ++ codes ".parquet") ≡ 7
after_parquet front = ap (prefix_len not_dot) (reverse-append front (codes ".parquet"))

last_17 : (front : List ℕ) (t : ℕ) → drop (length (front ++ instant_text t) - 17) (front ++ instant_text t) ≡ instant_text t
last_17 front t = drop_at front (instant_text t) _ (omega (arith, length-append front (instant_text t), length-instant t))

-- a name whose last dot stands behind an instant
name_instant_at : (front ending : List ℕ) (t : ℕ) → t < 10 ^ 17 → suffix_len not_dot ((front ++ instant_text t) ++ ending) + 1 ≡ length ending → name_instant (front ++ (instant_text t ++ ending)) ≡ t
unfolding name_instant
name_instant_at front ending t small is =
    ap (λ (name : List ℕ). number_of (drop (length (before_last (λ byte. byte == 46) name) - 17) (before_last (λ byte. byte == 46) name))) (sym (append_assoc front (instant_text t) ending))
    ∙ ap (λ (before : List ℕ). number_of (drop (length before - 17) before)) (before_dot (front ++ instant_text t) ending is)
    ∙ ap number_of (last_17 front t)
    ∙ number_of-instant_text t small

pub name_instant-commit_path : (t : ℕ) → t < 10 ^ 17 → name_instant (commit_path t) ≡ t
unfolding commit_path
name_instant-commit_path t small = name_instant_at (codes ".hoodie/") (codes ".commit") t small (ap (λ (n : ℕ). n + 1) (after_commit (codes ".hoodie/" ++ instant_text t)))

pub name_instant-files_log_path : (t : ℕ) → t < 10 ^ 17 → name_instant (files_log_path t) ≡ t
unfolding files_log_path
name_instant-files_log_path t small =
    name_instant_at (codes ".hoodie/metadata/files/files-0000_") (codes ".log") t small (ap (λ (n : ℕ). n + 1) (after_log (codes ".hoodie/metadata/files/files-0000_" ++ instant_text t)))

pub name_instant-data_path : (partition file : List ℕ) (t : ℕ) → t < 10 ^ 17 → name_instant (data_path partition file t) ≡ t
unfolding data_path data_file_name
name_instant-data_path partition file t small =
    let front : List ℕ = partition ++ 47 ∷ (file ++ codes "_0-0-0_") in
    let end : List ℕ = instant_text t ++ codes ".parquet" in
    let same : partition ++ 47 ∷ (file ++ (codes "_0-0-0_" ++ end)) ≡ front ++ end =
    ap (λ (l : List ℕ). partition ++ 47 ∷ l) (sym (append_assoc file (codes "_0-0-0_") end)) ∙ sym (append_assoc partition (47 ∷ (file ++ codes "_0-0-0_")) end) in
    ap name_instant same ∙ name_instant_at front (codes ".parquet") t small (ap (λ (n : ℕ). n + 1) (after_parquet (front ++ instant_text t)))

pub name_instant-data_file_name : (file : List ℕ) (t : ℕ) → t < 10 ^ 17 → name_instant (data_file_name file t) ≡ t
unfolding data_file_name
name_instant-data_file_name file t small =
    ap name_instant (sym (append_assoc file (codes "_0-0-0_") (instant_text t ++ codes ".parquet")))
    ∙ name_instant_at (file ++ codes "_0-0-0_") (codes ".parquet") t small (ap (λ (n : ℕ). n + 1) (after_parquet ((file ++ codes "_0-0-0_") ++ instant_text t)))

-- names of one kind at two instants
pub commit_path-injective : (a b : ℕ) → a < 10 ^ 17 → b < 10 ^ 17 → commit_path a ≡ commit_path b → a ≡ b
commit_path-injective a b small_a small_b same = sym (name_instant-commit_path a small_a) ∙ ap name_instant same ∙ name_instant-commit_path b small_b

pub files_log_path-injective : (a b : ℕ) → a < 10 ^ 17 → b < 10 ^ 17 → files_log_path a ≡ files_log_path b → a ≡ b
files_log_path-injective a b small_a small_b same = sym (name_instant-files_log_path a small_a) ∙ ap name_instant same ∙ name_instant-files_log_path b small_b

pub data_path-same_instant : (p f q g : List ℕ) (a b : ℕ) → a < 10 ^ 17 → b < 10 ^ 17 → data_path p f a ≡ data_path q g b → a ≡ b
data_path-same_instant p f q g a b small_a small_b same = sym (name_instant-data_path p f a small_a) ∙ ap name_instant same ∙ name_instant-data_path q g b small_b

pub length-commit_path : (t : ℕ) → length (commit_path t) ≡ 32
unfolding commit_path
length-commit_path t = omega (arith, length-append (instant_text t) (codes ".commit"), length-instant t)

pub length-files_log_path : (t : ℕ) → length (files_log_path t) ≡ 55
unfolding files_log_path
length-files_log_path t = omega (arith, length-append (instant_text t) (codes ".log"), length-instant t)

pub commit_path≢files_log_path : (a b : ℕ) → commit_path a ≢ files_log_path b
commit_path≢files_log_path a b same = absurd (omega (arith, ap length same, length-commit_path a, length-files_log_path b))

-- the names in `.hoodie/`
pub starts_with-commit_path : (t : ℕ) → starts_with nat_eq (commit_path t) (codes ".hoodie/") ≡ true
unfolding commit_path
starts_with-commit_path t = refl

pub starts_with-files_log_path : (t : ℕ) → starts_with nat_eq (files_log_path t) (codes ".hoodie/") ≡ true
unfolding files_log_path
starts_with-files_log_path t = refl

first_byte-commit_path : (t d : ℕ) → get_or (commit_path t) 0 d ≡ 46
unfolding commit_path
first_byte-commit_path t d = refl

first_byte-files_log_path : (t d : ℕ) → get_or (files_log_path t) 0 d ≡ 46
unfolding files_log_path
first_byte-files_log_path t d = refl

first_byte-data_path : (p f : List ℕ) (t : ℕ) → get_or p 0 46 ≢ 46 → get_or (data_path p f t) 0 46 ≢ 46
unfolding data_path
first_byte-data_path [] f t differs = absurd (differs refl)
first_byte-data_path (x ∷ p) f t differs = differs

-- a partition begins with a letter or digit, so a data file stands in no `.hoodie/`
pub data_path≢commit_path : (p f : List ℕ) (a b : ℕ) → get_or p 0 46 ≢ 46 → data_path p f a ≢ commit_path b
data_path≢commit_path p f a b differs same = first_byte-data_path p f a differs (ap (λ (l : List ℕ). get_or l 0 46) same ∙ first_byte-commit_path b 46)

pub data_path≢files_log_path : (p f : List ℕ) (a b : ℕ) → get_or p 0 46 ≢ 46 → data_path p f a ≢ files_log_path b
data_path≢files_log_path p f a b differs same = first_byte-data_path p f a differs (ap (λ (l : List ℕ). get_or l 0 46) same ∙ first_byte-files_log_path b 46)

pub drop-data_path : (p f : List ℕ) (t : ℕ) → drop (length p + 1) (data_path p f t) ≡ data_file_name f t
unfolding data_path
drop-data_path p f t =
    ap (drop (length p + 1)) (sym (append_assoc p (47 ∷ []) (data_file_name f t))) ∙ drop_at (p ++ 47 ∷ []) (data_file_name f t) (length p + 1) (omega (arith, length-append p (47 ∷ [])))

-- ---- the instant of a commit

pub commit_instant-commit_path : (t : ℕ) → 0 < t → t < 10 ^ 17 → commit_instant (commit_path t) ≡ Some t
unfolding commit_instant
commit_instant-commit_path t positive small =
    let at = name_instant-commit_path t small in
    let same : bytes_eq (commit_path t) (commit_path t) ≡ true = (bytes_eq-Decides (commit_path t) (commit_path t)).1 refl in
    ap (λ (n : ℕ). if nat_lt 0 n && (nat_lt n (10 ^ 17) && bytes_eq (commit_path t) (commit_path n)) then Some n else None) at
    ∙ passed t positive small (bytes_eq (commit_path t) (commit_path t)) same
  where
    passed : (t : ℕ) → 0 < t → t < 10 ^ 17 → (b : Bool) → b ≡ true → (if nat_lt 0 t && (nat_lt t (10 ^ 17) && b) then Some t else None) ≡ Some t
    passed t positive small b is = grind (arith, nat_tests)

-- what a commit's path is
pub record IsCommitAt (path : List ℕ) (t : ℕ) : Type 0 where
  pub is : path ≡ commit_path t
  pub positive : 0 < t
  pub small : t < 10 ^ 17

all_true : (x y z : Bool) (at t : ℕ) → (if x && (y && z) then Some at else None) ≡ Some t → (x ≡ true) × (y ≡ true) × (z ≡ true) × (at ≡ t)
all_true true true true at t is = (refl, refl, refl, cc)
all_true true true false at t is = absurd (cc is)
all_true true false z at t is = absurd (cc is)
all_true false y z at t is = absurd (cc is)

read_commit : (path : List ℕ) (at t : ℕ) (same : Bool) → (same ≡ true → path ≡ commit_path at) → (if nat_lt 0 at && (nat_lt at (10 ^ 17) && same) then Some at else None) ≡ Some t → IsCommitAt path t
read_commit path at t same decides reads =
    let each : (nat_lt 0 at ≡ true) × (nat_lt at (10 ^ 17) ≡ true) × (same ≡ true) × (at ≡ t) = all_true (nat_lt 0 at) (nat_lt at (10 ^ 17)) same at t reads in
    subst (λ (n : ℕ). IsCommitAt path n) each.3 (record { is = decides each.2; positive = (Decides-ltb 0 at).0 each.0; small = (Decides-ltb at (10 ^ 17)).0 each.1 })

pub IsCommitAt-commit_instant : (path : List ℕ) (t : ℕ) → commit_instant path ≡ Some t → IsCommitAt path t
unfolding commit_instant
IsCommitAt-commit_instant path t reads = read_commit path (name_instant path) t (bytes_eq path (commit_path (name_instant path))) (bytes_eq-Decides path (commit_path (name_instant path))).0 reads

-- a path that is no commit's path has no instant of a commit
pub commit_instant_none : (path : List ℕ) → ((t : ℕ) → 0 < t → t < 10 ^ 17 → path ≢ commit_path t) → commit_instant path ≡ None
commit_instant_none path never = none_of (commit_instant path) (λ t is. let at = IsCommitAt-commit_instant path t is in never t at.positive at.small at.is)
  where
    none_of : (o : Option ℕ) → ((t : ℕ) → o ≡ Some t → ⊥) → o ≡ None
    none_of None never = refl
    none_of (Some t) never = absurd (never t refl)

pub commit_instant-commit_path_zero : commit_instant (commit_path 0) ≡ None
commit_instant-commit_path_zero =
    commit_instant_none (commit_path 0) (λ t positive small same. let zero_is : 0 ≡ t = commit_path-injective 0 t (omega (arith, small)) small same in omega (arith, zero_is, positive))

pub commit_instant-files_log_path : (t : ℕ) → commit_instant (files_log_path t) ≡ None
commit_instant-files_log_path t = commit_instant_none (files_log_path t) (λ at _ _ same. commit_path≢files_log_path at t (sym same))

pub commit_instant-data_path : (p f : List ℕ) (t : ℕ) → get_or p 0 46 ≢ 46 → commit_instant (data_path p f t) ≡ None
commit_instant-data_path p f t differs = commit_instant_none (data_path p f t) (λ at _ _ same. data_path≢commit_path p f t at differs same)

pub starts_with-commit_instant : (path : List ℕ) (t : ℕ) → commit_instant path ≡ Some t → starts_with nat_eq path (codes ".hoodie/") ≡ true
starts_with-commit_instant path t is = ap (λ (l : List ℕ). starts_with nat_eq l (codes ".hoodie/")) (IsCommitAt-commit_instant path t is).is ∙ starts_with-commit_path t

-- what the parts of a name say of a commit's instant
pub no_commit_elsewhere : (text path : List ℕ) → text ≡ path → ((rest : List ℕ) → text ≢ codes ".hoodie/" ++ rest) → None ≡ commit_instant path
unfolding commit_path
no_commit_elsewhere text path is never = sym (commit_instant_none path (λ t _ _ same. never (instant_text t ++ codes ".commit") (is ∙ same)))

pub no_commit_otherwise_ended : (name path : List ℕ) → codes ".hoodie/" ++ name ≡ path → ((front : List ℕ) → name ≢ front ++ codes ".commit") → None ≡ commit_instant path
unfolding commit_path
no_commit_otherwise_ended name path is never =
    sym (commit_instant_none path (λ t _ _ same. never (instant_text t) (append_cancel_left (codes ".hoodie/") name (instant_text t ++ codes ".commit") (is ∙ same))))

pub no_commit_of_other_digits : (digits path : List ℕ) → codes ".hoodie/" ++ (digits ++ codes ".commit") ≡ path → ¬ (IsInstant digits) → None ≡ commit_instant path
unfolding commit_path
no_commit_of_other_digits digits path is never =
    sym (commit_instant_none path (λ t _ small same.
    never (t, small, append_cancel_right digits (instant_text t) (codes ".commit") (append_cancel_left (codes ".hoodie/") (digits ++ codes ".commit") (instant_text t ++ codes ".commit") (is ∙ same)))))

pub commit_of_digits : (digits path : List ℕ) (t : ℕ) → codes ".hoodie/" ++ (digits ++ codes ".commit") ≡ path → digits ≡ instant_text t → commit_path t ≡ path
unfolding commit_path
commit_of_digits digits path t is read = ap (λ (d : List ℕ). codes ".hoodie/" ++ (d ++ codes ".commit")) (sym read) ∙ is
