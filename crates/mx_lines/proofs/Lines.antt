-- How the lines of what is left go on.
use Rattle.std.proofs.Common.{◌≡◌, ℕ, List, [], ◌∷◌, ◌++◌, length, drop, Option, Some, None, refl, sym, ◌∙◌, ap, append_assoc, append-nil}
use Rattle.std.proofs.Math.Seq.{drop-append_seam}
use Rattle.std.specs.Prelude.{IfSome}
use Rattle.mx_lines.specs.declared.line.Line.{Line}
use Rattle.mx_lines.specs.declared.line.Line.TheVariants.{Whole, Long}
use Rattle.mx_lines.specs.Lines.{lines_of, LinesGo, LinesAreCut, IsLine, TakesLine}

-- one run of lines after another
pub lines_on : (old : Option (List ℕ)) (xs : List (List ℕ)) (mid : Option (List ℕ)) (ys : List (List ℕ)) (new : Option (List ℕ)) → LinesGo old xs mid → LinesGo mid ys new → LinesGo old (xs ++ ys) new
lines_on None xs None ys new h k = k
lines_on None xs (Some mid) ys new h k = absurd (cc h)
lines_on (Some old) xs None ys new h k = absurd h
lines_on (Some old) xs (Some mid) ys None h k = k
lines_on (Some old) xs (Some mid) ys (Some new) h k = h ∙ ap (λ (l : List (List ℕ)). xs ++ l) k ∙ sym (append_assoc xs ys (lines_of new))

pub lines_start : (o : Option (List ℕ)) → LinesGo o [] o
lines_start None = refl
lines_start (Some bytes) = refl

-- the line that was taken, which may not be held
pub line_of : (old : Option (List ℕ)) (line : Line) (new : Option (List ℕ)) → TakesLine old line new → (bytes : List ℕ) × IsLine line bytes × LinesGo old (bytes ∷ []) new
line_of old (Whole bytes) new took = (bytes, (refl, took.0), took.1)
line_of old Long new took = took

-- one line more
pub line_on : (old : Option (List ℕ)) (xs : List (List ℕ)) (mid : Option (List ℕ)) (line : Line) (new : Option (List ℕ)) → LinesGo old xs mid → TakesLine mid line new → (bytes : List ℕ) × IsLine line bytes × LinesGo old (xs ++ bytes ∷ []) new
line_on old xs mid line new so_far took =
    let one = line_of mid line new took in
    (one.0, one.1, lines_on old xs mid (one.0 ∷ []) new so_far one.2)

-- at the end, where nothing is left
pub lines_done : (old : Option (List ℕ)) (lines : List (List ℕ)) (new : Option (List ℕ)) → LinesGo old lines new → IfSome new (λ left. left ≡ []) → IfSome old (λ input. lines_of input ≡ lines)
lines_done None lines new go end = tt
lines_done (Some input) lines None go end = absurd go
lines_done (Some input) lines (Some left) go end = go ∙ ap (λ (l : List ℕ). lines ++ lines_of l) end ∙ append-nil lines

-- the lines behind those that were taken are cut as those of the rest are
pub lines_cut : (old : Option (List ℕ)) (lines : List (List ℕ)) (mid new : Option (List ℕ)) (count : ℕ) → LinesGo old lines mid → count ≡ length lines → LinesAreCut mid 0 new → LinesAreCut old count new
lines_cut None lines None new count go is cut = cut
lines_cut None lines (Some mid) new count go is cut = absurd (cc go)
lines_cut (Some old) lines None new count go is cut = absurd go
lines_cut (Some old) lines (Some mid) None count go is cut = cut
lines_cut (Some old) lines (Some mid) (Some new) count go is cut =
    (cut.0, ap (λ (n : ℕ). drop n (lines_of old)) is ∙ ap (drop (length lines)) go ∙ drop-append_seam lines (lines_of mid) ∙ cut.1)
