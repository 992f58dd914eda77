-- Runs are read one behind the other, and what they stand for is the one thing that the bytes do.
use Rattle.std.proofs.Common.{◌≡◌, ℕ, ◌+◌, ◌-◌, ◌<◌, ◌≤◌, min, Bool, List, [], ◌∷◌, ◌++◌, length, take, drop, append_assoc, length-append, length-drop, length-take, refl, sym, ap, subst, ◌∙◌, arith, inl, inr, ◌⊎◌}
use Rattle.std.proofs.lemmas.List.{take_all, append-nil, flat_map_more}
use Rattle.std.proofs.Math.Seq.{drop-append_seam}
use Rattle.std.specs.List.{flat_map}
use Rattle.mx_levels.specs.Encoding.{Run, Repeated, Packed, run_levels, run_bytes}
use Rattle.mx_levels.specs.Decoding.{Fits, FitInTurn, Decodes, BeginsNoRun, IsFirstBad}
use Rattle.mx_levels.proofs.RunLemmas.{run_bytes-first, run_bytes-some}

-- the levels of the runs that have been read, and the bytes that are left
pub record SoFar (bytes rest : List ℕ) (count : ℕ) (levels : List Bool) : Type 0 where
  pub runs : List Run
  pub fit : FitInTurn count runs
  pub parts : bytes ≡ flat_map run_bytes runs ++ rest
  pub first : levels ≡ take count (flat_map run_levels runs)

pub so_far-none : (bytes : List ℕ) (count : ℕ) → SoFar bytes bytes count []
so_far-none bytes count = record { runs = []; fit = tt; parts = refl; first = sym (take_all count [] (omega arith)) }

abbrev total : List Run → List Bool
total runs = flat_map run_levels runs

fit_in_turn-push : (left : ℕ) (runs : List Run) (run : Run) → FitInTurn left runs → Fits (left - length (total runs)) run → FitInTurn left (runs ++ run ∷ [])
fit_in_turn-push left [] run fit fits =
    let same : left - 0 ≡ left = omega arith in
    (subst (λ (n : ℕ). Fits n run) same fits, tt)
fit_in_turn-push left (r ∷ runs) run fit fits =
    let same : left - length (run_levels r ++ total runs) ≡ left - length (run_levels r) - length (total runs) = omega (arith, length-append (run_levels r) (total runs)) in
    (fit.0, fit_in_turn-push (left - length (run_levels r)) runs run fit.1 (subst (λ (n : ℕ). Fits n run) same fits))

so_far-length : (bytes rest : List ℕ) (count : ℕ) (levels : List Bool) (s : SoFar bytes rest count levels) → length levels ≡ min count (length (total s.runs))
so_far-length bytes rest count levels s = ap length s.first ∙ length-take count (total s.runs)

pub so_far-more : (bytes rest behind : List ℕ) (count : ℕ) (levels : List Bool) (run : Run) → SoFar bytes rest count levels → length levels < count
    → Fits (count - length levels) run → rest ≡ run_bytes run ++ behind → SoFar bytes behind count (take count (levels ++ run_levels run))
so_far-more bytes rest behind count levels run s lt fits parts =
    let len = so_far-length bytes rest count levels s in
    let all : levels ≡ total s.runs = s.first ∙ take_all count (total s.runs) (omega arith) in
    record {
      runs = s.runs ++ run ∷ [];
      fit = fit_in_turn-push count s.runs run s.fit (subst (λ (l : List Bool). Fits (count - length l) run) all fits);
      parts =
          s.parts ∙ ap (λ (r : List ℕ). flat_map run_bytes s.runs ++ r) parts ∙ sym (append_assoc (flat_map run_bytes s.runs) (run_bytes run) behind)
          ∙ ap (λ (r : List ℕ). r ++ behind) (flat_map_more run_bytes [] s.runs run);
      first = ap (take count) (ap (λ (l : List Bool). l ++ run_levels run) all ∙ flat_map_more run_levels [] s.runs run);
    }

pub so_far-all : (bytes rest : List ℕ) (count : ℕ) (levels : List Bool) → SoFar bytes rest count levels → count ≤ length levels → length rest ≡ 0 → Decodes bytes count levels
so_far-all bytes [] count levels s ge none =
    record {
      runs = s.runs;
      fit = s.fit;
      enough = omega (arith, so_far-length bytes [] count levels s);
      spelled = s.parts ∙ append-nil (flat_map run_bytes s.runs);
      first = s.first;
    }
so_far-all bytes (b ∷ rest) count levels s ge none = absurd (omega arith)

pub so_far-bad : (bytes rest : List ℕ) (count at : ℕ) (levels : List Bool) → SoFar bytes rest count levels → at ≡ length bytes - length rest
    → (length levels < count) ⊎ (0 < length rest) → BeginsNoRun (count - length levels) rest → IsFirstBad bytes count at
so_far-bad bytes rest count at levels s is more none =
    let front = flat_map run_bytes s.runs in
    let len : length bytes ≡ length front + length rest = ap length s.parts ∙ length-append front rest in
    let place : at ≡ length front = omega arith in
    let behind : drop at bytes ≡ rest = ap (λ (n : ℕ). drop n bytes) place ∙ ap (drop (length front)) s.parts ∙ drop-append_seam front rest in
    let levels_len = so_far-length bytes rest count levels s in
    let left : count - length levels ≡ count - length (total s.runs) = omega arith in
    record {
      runs = s.runs;
      fit = s.fit;
      place = place;
      front = s.parts ∙ ap (λ (r : List ℕ). front ++ r) (sym behind);
      more = elim more [ inl lt ↦ inl (omega arith) | inr lt ↦ inr (omega arith) ];
      none = λ run after fits parts. none run after (subst (λ (n : ℕ). Fits n run) (sym left) fits) (sym behind ∙ parts);
    }

-- no run fits where none is wanted
pub fits_none : (run : Run) (left : ℕ) → left ≡ 0 → Fits left run → ⊥
fits_none (Repeated count level) left is fits = omega (arith, fits.some, fits.within)
fits_none (Packed bytes) left is fits = omega (arith, fits.some, fits.within)

-- ---- one reading

not_empty : (run : Run) (x : List ℕ) → [] ≡ run_bytes run ++ x → ⊥
not_empty run x e = omega (arith, ap length e, length-append (run_bytes run) x, run_bytes-some run)

same_runs : (left : ℕ) (xs ys : List Run) → FitInTurn left xs → FitInTurn left ys → flat_map run_bytes xs ≡ flat_map run_bytes ys → xs ≡ ys
same_runs left [] [] fit fit' e = refl
same_runs left [] (b ∷ ys) fit fit' e = absurd (not_empty b (flat_map run_bytes ys) e)
same_runs left (a ∷ xs) [] fit fit' e = absurd (not_empty a (flat_map run_bytes xs) (sym e))
same_runs left (a ∷ xs) (b ∷ ys) fit fit' e =
    let both = run_bytes-first a b (flat_map run_bytes xs) (flat_map run_bytes ys) fit.0.below fit'.0.below e in
    let behind = subst (λ (r : Run). FitInTurn (left - length (run_levels r)) ys) (sym both.0) fit'.1 in
    let rest : xs ≡ ys = same_runs (left - length (run_levels a)) xs ys fit.1 behind both.1 in
    ap (λ (r : Run). r ∷ xs) both.0 ∙ ap (λ (rs : List Run). b ∷ rs) rest

pub Decodes-unique : (bytes : List ℕ) (count : ℕ) (x y : List Bool) → Decodes bytes count x → Decodes bytes count y → x ≡ y
Decodes-unique bytes count x y d d' =
    let runs : d.runs ≡ d'.runs = same_runs count d.runs d'.runs d.fit d'.fit (sym d.spelled ∙ d'.spelled) in
    d.first ∙ ap (λ (rs : List Run). take count (total rs)) runs ∙ sym d'.first

not_both : (left : ℕ) (xs ys : List Run) (rest : List ℕ) → FitInTurn left xs → FitInTurn left ys → left ≤ length (total xs) → flat_map run_bytes xs ≡ flat_map run_bytes ys ++ rest
    → (length (total ys) < left) ⊎ (0 < length rest) → BeginsNoRun (left - length (total ys)) rest → ⊥
not_both left [] [] rest fit fit' enough e more none = elim more [ inl lt ↦ omega arith | inr lt ↦ omega (arith, ap length e) ]
not_both left (a ∷ xs) [] rest fit fit' enough e more none =
    let same : left ≡ left - 0 = omega arith in
    none a (flat_map run_bytes xs) (subst (λ (n : ℕ). Fits n a) same fit.0) (sym e)
not_both left [] (b ∷ ys) rest fit fit' enough e more none =
    not_empty b (flat_map run_bytes ys ++ rest) (e ∙ append_assoc (run_bytes b) (flat_map run_bytes ys) rest)
not_both left (a ∷ xs) (b ∷ ys) rest fit fit' enough e more none =
    let both = run_bytes-first a b (flat_map run_bytes xs) (flat_map run_bytes ys ++ rest) fit.0.below fit'.0.below (e ∙ append_assoc (run_bytes b) (flat_map run_bytes ys) rest) in
    let behind = subst (λ (r : Run). FitInTurn (left - length (run_levels r)) xs) both.0 fit.1 in
    let len : length (run_levels a) ≡ length (run_levels b) = ap (λ (r : Run). length (run_levels r)) both.0 in
    let len' = length-append (run_levels a) (total xs) in
    let len'' = length-append (run_levels b) (total ys) in
    let same : left - length (run_levels b ++ total ys) ≡ left - length (run_levels b) - length (total ys) = omega arith in
    not_both
    (left - length (run_levels b)) xs ys rest behind fit'.1 (omega arith) both.1
    (elim more [ inl lt ↦ inl (omega arith) | inr lt ↦ inr lt ])
    (subst (λ (n : ℕ). BeginsNoRun n rest) same none)

pub not_bad : (bytes : List ℕ) (count at : ℕ) (levels : List Bool) → Decodes bytes count levels → IsFirstBad bytes count at → ⊥
not_bad bytes count at levels d bad =
    not_both
    count d.runs bad.runs (drop at bytes) d.fit bad.fit d.enough (sym d.spelled ∙ bad.front)
    (elim bad.more [ inl lt ↦ inl lt | inr lt ↦ inr (omega (arith, length-drop at bytes)) ])
    bad.none
