-- A piece up to a newline.
use Rattle.std.proofs.Common.{◌≡◌, ℕ, suc, ◌+◌, ◌≤◌, Bool, true, false, cond, not, List, [], ◌∷◌, ◌++◌, length, take, drop, nat_lt, Option, Some, None, refl, sym, ◌∙◌, ap, subst, arith, append_assoc, length-take, length-drop}
use Rattle.std.specs.Prelude.{◌==◌, if◌then◌else◌}
use Rattle.std.specs.List.{position_or_len}
use Rattle.std.proofs.lemmas.List.{append-nil}
use Rattle.std.proofs.lemmas.Bool.Decides.{nat_tests}
use Rattle.mx_store.specs.Streams.{before}
use Rattle.mx_lines.specs.Lines.{lines_from, lines_of, LinesGo, PieceGoes, before_newline, after_newline, has_newline}

take_cons : (n b : ℕ) (xs : List ℕ) → take (1 + n) (b ∷ xs) ≡ b ∷ take n xs
take_cons n b xs = let e : 1 + n ≡ suc n = omega arith in ap (λ (k : ℕ). take k (b ∷ xs)) e

drop_cons : (n b : ℕ) (xs : List ℕ) → drop (1 + n + 1) (b ∷ xs) ≡ drop (n + 1) xs
drop_cons n b xs = let e : 1 + n + 1 ≡ suc (n + 1) = omega arith in ap (λ (k : ℕ). drop k (b ∷ xs)) e

less_more : (n m : ℕ) (r : Bool) → nat_lt (1 + n) (suc m) ≡ r → nat_lt n m ≡ r
less_more n m true h = grind (arith, nat_tests)
less_more n m false h = grind (arith, nat_tests)

-- ---- over lists

ends_step : (c : Bool) (b n : ℕ) (xs piece rest : List ℕ) → (nat_lt n (length xs) ≡ true → lines_from (piece ++ b ∷ []) (xs ++ rest) ≡ ((piece ++ b ∷ []) ++ take n xs) ∷ lines_of (drop (n + 1) xs ++ rest))
    → nat_lt (cond (not c) (1 + n) 0) (suc (length xs)) ≡ true
    → (if c then piece ∷ lines_from [] (xs ++ rest) else lines_from (piece ++ b ∷ []) (xs ++ rest)) ≡ (piece ++ take (cond (not c) (1 + n) 0) (b ∷ xs)) ∷ lines_of (drop (cond (not c) (1 + n) 0 + 1) (b ∷ xs) ++ rest)
ends_step true b n xs piece rest h ended = ap (λ (l : List ℕ). l ∷ lines_of (xs ++ rest)) (sym (append-nil piece))
ends_step false b n xs piece rest h ended =
    h (less_more n (length xs) true ended)
    ∙ ap (λ (l : List ℕ). l ∷ lines_of (drop (n + 1) xs ++ rest)) (append_assoc piece (b ∷ []) (take n xs) ∙ ap (λ (l : List ℕ). piece ++ l) (sym (take_cons n b xs)))
    ∙ ap (λ (l : List ℕ). (piece ++ take (1 + n) (b ∷ xs)) ∷ lines_of (l ++ rest)) (sym (drop_cons n b xs))

pub line_ends : (xs piece rest : List ℕ) → has_newline xs ≡ true → lines_from piece (xs ++ rest) ≡ (piece ++ before_newline xs) ∷ lines_of (after_newline xs ++ rest)
line_ends [] piece rest ended = absurd (cc ended)
line_ends (b ∷ xs) piece rest ended = ends_step (b == 10) b (position_or_len (λ x. x == 10) xs) xs piece rest (λ more. line_ends xs (piece ++ b ∷ []) rest more) ended

goes_step : (c : Bool) (b n : ℕ) (xs piece rest : List ℕ) → (nat_lt n (length xs) ≡ false → lines_from (piece ++ b ∷ []) (xs ++ rest) ≡ lines_from ((piece ++ b ∷ []) ++ take n xs) (drop (n + 1) xs ++ rest))
    → nat_lt (cond (not c) (1 + n) 0) (suc (length xs)) ≡ false
    → (if c then piece ∷ lines_from [] (xs ++ rest) else lines_from (piece ++ b ∷ []) (xs ++ rest)) ≡ lines_from (piece ++ take (cond (not c) (1 + n) 0) (b ∷ xs)) (drop (cond (not c) (1 + n) 0 + 1) (b ∷ xs) ++ rest)
goes_step true b n xs piece rest h goes = absurd (grind (arith, nat_tests))
goes_step false b n xs piece rest h goes =
    h (less_more n (length xs) false goes)
    ∙ ap (λ (l : List ℕ). lines_from l (drop (n + 1) xs ++ rest)) (append_assoc piece (b ∷ []) (take n xs) ∙ ap (λ (l : List ℕ). piece ++ l) (sym (take_cons n b xs)))
    ∙ ap (λ (l : List ℕ). lines_from (piece ++ take (1 + n) (b ∷ xs)) (l ++ rest)) (sym (drop_cons n b xs))

pub line_goes_on : (xs piece rest : List ℕ) → has_newline xs ≡ false → lines_from piece (xs ++ rest) ≡ lines_from (piece ++ before_newline xs) (after_newline xs ++ rest)
line_goes_on [] piece rest goes = ap (λ (l : List ℕ). lines_from l rest) (sym (append-nil piece))
line_goes_on (b ∷ xs) piece rest goes = goes_step (b == 10) b (position_or_len (λ x. x == 10) xs) xs piece rest (λ more. line_goes_on xs (piece ++ b ∷ []) rest more) goes

-- ---- told or not

ends_at : (old : Option (List ℕ)) (piece xs : List ℕ) (left : Option (List ℕ)) → PieceGoes old piece (before xs left) → has_newline xs ≡ true → LinesGo old ((piece ++ before_newline xs) ∷ []) (before (after_newline xs) left)
ends_at None piece xs None h ended = refl
ends_at None piece xs (Some left) h ended = absurd (cc h)
ends_at (Some old) piece xs None h ended = h
ends_at (Some old) piece xs (Some left) h ended = h ∙ line_ends xs piece left ended

pub piece_ends : (old : Option (List ℕ)) (piece : List ℕ) (now : Option (List ℕ)) (xs rest : List ℕ) (left : Option (List ℕ)) → PieceGoes old piece now → before xs left ≡ now → rest ≡ after_newline xs → has_newline xs ≡ true → LinesGo old ((piece ++ before_newline xs) ∷ []) (before rest left)
piece_ends old piece now xs rest left h is after ended =
    subst (λ (l : List ℕ). LinesGo old ((piece ++ before_newline xs) ∷ []) (before l left)) (sym after)
    (ends_at old piece xs left (subst (λ (o : Option (List ℕ)). PieceGoes old piece o) (sym is) h) ended)

goes_on_at : (old : Option (List ℕ)) (piece xs : List ℕ) (left : Option (List ℕ)) → PieceGoes old piece (before xs left) → has_newline xs ≡ false → PieceGoes old (piece ++ before_newline xs) (before (after_newline xs) left)
goes_on_at None piece xs None h goes = refl
goes_on_at None piece xs (Some left) h goes = absurd (cc h)
goes_on_at (Some old) piece xs None h goes = h
goes_on_at (Some old) piece xs (Some left) h goes = h ∙ line_goes_on xs piece left goes

pub piece_goes_on : (old : Option (List ℕ)) (piece : List ℕ) (now : Option (List ℕ)) (xs rest : List ℕ) (left : Option (List ℕ)) → PieceGoes old piece now → before xs left ≡ now → rest ≡ after_newline xs → has_newline xs ≡ false → PieceGoes old (piece ++ before_newline xs) (before rest left)
piece_goes_on old piece now xs rest left h is after goes =
    subst (λ (l : List ℕ). PieceGoes old (piece ++ before_newline xs) (before l left)) (sym after)
    (goes_on_at old piece xs left (subst (λ (o : Option (List ℕ)). PieceGoes old piece o) (sym is) h) goes)

-- ---- lengths

not_less : (n m : ℕ) → nat_lt n m ≡ false → m ≤ n
not_less n m h = grind (arith, nat_tests)

pub whole_before : (xs : List ℕ) → has_newline xs ≡ false → length (before_newline xs) ≡ length xs
whole_before xs goes =
    let n : ℕ = position_or_len (λ b. b == 10) xs in
    let le : length xs ≤ n = not_less n (length xs) goes in
    omega (arith, le, length-take n xs)

pub nothing_after : (xs : List ℕ) → has_newline xs ≡ false → length (after_newline xs) ≡ 0
nothing_after xs goes =
    let n : ℕ = position_or_len (λ b. b == 10) xs in
    let le : length xs ≤ n = not_less n (length xs) goes in
    omega (arith, le, length-drop (n + 1) xs)
