-- The written form is made run by run, and reads back.
use Rattle.std.proofs.Common.{◌≡◌, ℕ, suc, ◌+◌, ◌-◌, ◌^◌, ◌<◌, ◌≤◌, Bool, true, false, List, [], ◌∷◌, ◌++◌, length, take, drop, replicate, add-one, append_assoc, Some, None, refl, sym, ap, subst, ◌∙◌, arith}
use Rattle.std.proofs.lemmas.List.{take_all, length-replicate, append-nil}
use Rattle.std.specs.List.{flat_map, prefix_len, slice_get}
use Rattle.std.specs.Bool.{beq}
use Rattle.mx_levels.specs.Encoding.{Run, Repeated, Packed, run_levels, run_bytes, joined, runs_of, written}
use Rattle.mx_levels.specs.Decoding.{Fits, FitInTurn, Decodes}

abbrev pub run_length : Bool → List Bool → ℕ
run_length level levels = prefix_len (beq level) levels

one_more : (level : Bool) (n : ℕ) (levels : List Bool) → Repeated (n + 1 + 1) level ∷ runs_of (drop n levels) ≡ Repeated (1 + n + 1) level ∷ runs_of (drop (1 + n) (level ∷ levels))
one_more level n levels =
    let more : 1 + n ≡ suc n = omega arith in
    let count : n + 1 + 1 ≡ 1 + n + 1 = omega arith in
    let behind : drop n levels ≡ drop (1 + n) (level ∷ levels) = sym (ap (λ (k : ℕ). drop k (level ∷ levels)) more) in
    ap (λ (k : ℕ). Repeated k level ∷ runs_of (drop n levels)) count ∙ ap (λ (l : List Bool). Repeated (1 + n + 1) level ∷ runs_of l) behind

runs_of-cons : (level : Bool) (levels : List Bool) → runs_of (level ∷ levels) ≡ Repeated (run_length level levels + 1) level ∷ runs_of (drop (run_length level levels) levels)
runs_of-cons true [] = refl
runs_of-cons false [] = refl
runs_of-cons true (true ∷ levels) = ap (joined true) (runs_of-cons true levels) ∙ one_more true (run_length true levels) levels
runs_of-cons false (false ∷ levels) = ap (joined false) (runs_of-cons false levels) ∙ one_more false (run_length false levels) levels
runs_of-cons true (false ∷ levels) = ap (joined true) (runs_of-cons false levels) ∙ ap (λ (rs : List Run). Repeated 1 true ∷ rs) (sym (runs_of-cons false levels))
runs_of-cons false (true ∷ levels) = ap (joined false) (runs_of-cons true levels) ∙ ap (λ (rs : List Run). Repeated 1 false ∷ rs) (sym (runs_of-cons true levels))

-- ---- written, then read

one_fits : (left : ℕ) (level : Bool) → 0 < left → Fits left (Repeated 1 level)
one_fits left level some = record { some = omega arith; within = omega arith; below = omega arith }

fit_in_turn-one : (left : ℕ) (level : Bool) (runs : List Run) → 0 < left → FitInTurn (left - 1) runs → FitInTurn left (Repeated 1 level ∷ runs)
fit_in_turn-one left level runs some fit = (one_fits left level some, fit)

fit_in_turn-longer : (left n : ℕ) (level : Bool) (runs : List Run) → 0 < left → left < 2 ^ 63 → FitInTurn (left - 1) (Repeated n level ∷ runs) → FitInTurn left (Repeated (n + 1) level ∷ runs)
fit_in_turn-longer left n level runs some lt fit =
    let within : n ≤ left - 1 = fit.0.within in
    let less : left - 1 - length (replicate n level) ≡ left - length (replicate (n + 1) level) = omega (arith, length-replicate n level, length-replicate (n + 1) level) in (
      record { some = omega arith; within = omega arith; below = omega arith },
      subst (λ (k : ℕ). FitInTurn k runs) less fit.1,
    )

fit_in_turn-joined : (left : ℕ) (level : Bool) (runs : List Run) → 0 < left → left < 2 ^ 63 → FitInTurn (left - 1) runs → FitInTurn left (joined level runs)
fit_in_turn-joined left true [] some lt fit = fit_in_turn-one left true [] some fit
fit_in_turn-joined left false [] some lt fit = fit_in_turn-one left false [] some fit
fit_in_turn-joined left true (Repeated n true ∷ runs) some lt fit = fit_in_turn-longer left n true runs some lt fit
fit_in_turn-joined left false (Repeated n false ∷ runs) some lt fit = fit_in_turn-longer left n false runs some lt fit
fit_in_turn-joined left true (Repeated n false ∷ runs) some lt fit = fit_in_turn-one left true (Repeated n false ∷ runs) some fit
fit_in_turn-joined left false (Repeated n true ∷ runs) some lt fit = fit_in_turn-one left false (Repeated n true ∷ runs) some fit
fit_in_turn-joined left true (Packed b ∷ runs) some lt fit = fit_in_turn-one left true (Packed b ∷ runs) some fit
fit_in_turn-joined left false (Packed b ∷ runs) some lt fit = fit_in_turn-one left false (Packed b ∷ runs) some fit

fit_in_turn-runs_of : (left : ℕ) (levels : List Bool) → length levels ≤ left → left < 2 ^ 63 → FitInTurn left (runs_of levels)
fit_in_turn-runs_of left [] le lt = tt
fit_in_turn-runs_of left (level ∷ levels) le lt =
    fit_in_turn-joined left level (runs_of levels) (omega arith) lt (fit_in_turn-runs_of (left - 1) levels (omega arith) (omega arith))

abbrev total : List Run → List Bool
total runs = flat_map run_levels runs

longer : (n : ℕ) (level : Bool) (more : List Bool) → replicate (n + 1) level ++ more ≡ level ∷ (replicate n level ++ more)
longer n level more = rw add-one refl

levels-joined : (level : Bool) (runs : List Run) → total (joined level runs) ≡ level ∷ total runs
levels-joined true [] = refl
levels-joined false [] = refl
levels-joined true (Repeated n true ∷ runs) = longer n true (total runs)
levels-joined false (Repeated n false ∷ runs) = longer n false (total runs)
levels-joined true (Repeated n false ∷ runs) = refl
levels-joined false (Repeated n true ∷ runs) = refl
levels-joined true (Packed b ∷ runs) = refl
levels-joined false (Packed b ∷ runs) = refl

levels-runs_of : (levels : List Bool) → total (runs_of levels) ≡ levels
levels-runs_of [] = refl
levels-runs_of (level ∷ levels) = levels-joined level (runs_of levels) ∙ ap (λ (l : List Bool). level ∷ l) (levels-runs_of levels)

pub written_decodes : (levels : List Bool) → length levels < 2 ^ 63 → Decodes (written levels) (length levels) levels
written_decodes levels lt =
    record {
      runs = runs_of levels;
      fit = fit_in_turn-runs_of (length levels) levels (omega arith) lt;
      enough = omega (arith, ap length (levels-runs_of levels));
      spelled = refl;
      first = sym (ap (take (length levels)) (levels-runs_of levels) ∙ take_all (length levels) levels (omega arith));
    }

-- ---- run by run

run_length-some : (level : Bool) (levels : List Bool) → run_length level (level ∷ levels) ≡ run_length level levels + 1
run_length-some true levels = omega arith
run_length-some false levels = omega arith

pub written_run : (rest : List Bool) (level : Bool) → Some level ≡ slice_get rest 0
    → (0 < run_length level rest) × (written rest ≡ run_bytes (Repeated (run_length level rest) level) ++ written (drop (run_length level rest) rest))
written_run [] level is = absurd cc
written_run (l ∷ levels) level is =
    let same : l ≡ level = cc in
    let k = run_length level levels in
    let count : run_length level (l ∷ levels) ≡ k + 1 = ap (λ (j : Bool). run_length level (j ∷ levels)) same ∙ run_length-some level levels in
    let behind : drop k levels ≡ drop (run_length level (l ∷ levels)) (l ∷ levels) = sym (ap (λ (j : ℕ). drop j (l ∷ levels)) (count ∙ add-one k)) in
    let runs : runs_of (l ∷ levels) ≡ Repeated (run_length level (l ∷ levels)) level ∷ runs_of (drop (run_length level (l ∷ levels)) (l ∷ levels)) =
    ap (λ (j : Bool). runs_of (j ∷ levels)) same ∙ runs_of-cons level levels ∙ ap (λ (j : ℕ). Repeated j level ∷ runs_of (drop k levels)) (sym count)
    ∙ ap (λ (r : List Bool). Repeated (run_length level (l ∷ levels)) level ∷ runs_of r) behind in
    (omega arith, ap (λ (rs : List Run). flat_map run_bytes rs) runs)

pub written_more : (levels rest behind : List Bool) (out put : List ℕ) (count : ℕ) (level : Bool) → Some level ≡ slice_get rest 0 → count ≡ run_length level rest → behind ≡ drop count rest
    → put ≡ out ++ run_bytes (Repeated count level) → out ++ written rest ≡ written levels → put ++ written behind ≡ written levels
written_more levels rest behind out put count level first is left now so_far =
    let run = written_run rest level first in
    let parts : written rest ≡ run_bytes (Repeated count level) ++ written behind =
    run.1 ∙ ap (λ (k : ℕ). run_bytes (Repeated k level) ++ written (drop k rest)) (sym is) ∙ ap (λ (l : List Bool). run_bytes (Repeated count level) ++ written l) (sym left) in
    ap (λ (l : List ℕ). l ++ written behind) now ∙ append_assoc out (run_bytes (Repeated count level)) (written behind) ∙ ap (λ (l : List ℕ). out ++ l) (sym parts) ∙ so_far

pub written_all : (levels rest : List Bool) (out : List ℕ) → None ≡ slice_get rest 0 → out ++ written rest ≡ written levels → out ≡ written levels
written_all levels [] out none so_far = sym (append-nil out) ∙ so_far
written_all levels (l ∷ rest) out none so_far = absurd cc
