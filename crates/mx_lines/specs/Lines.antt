-- The lines of an input.
use Rattle.std.specs.Prelude.{◌≡◌, ◌≤◌, ◌<◌, ◌^◌, ℕ, List, [], ◌∷◌, ◌++◌, ◌+◌, length, take, drop, nat_lt, Bool, if◌then◌else◌, ◌==◌, Option, Some, None}
use Rattle.std.specs.List.{position_or_len}
use Rattle.mx_lines.specs.declared.line.Line.{Line}
use Rattle.mx_lines.specs.declared.line.Line.TheVariants.{Whole, Long}

-- a last piece without a newline is a line unless it is empty
abbrev pub last_line : List ℕ → List (List ℕ)
last_line [] = []
last_line (b ∷ piece) = (b ∷ piece) ∷ []

-- the lines of these bytes, where this piece of the first one was read before
abbrev pub lines_from : List ℕ → List ℕ → List (List ℕ)
lines_from piece [] = last_line piece
lines_from piece (b ∷ bytes) = if b == 10 then piece ∷ lines_from [] bytes else lines_from (piece ++ b ∷ []) bytes

-- what stands between the newlines
abbrev pub lines_of : List ℕ → List (List ℕ)
lines_of bytes = lines_from [] bytes

-- the bytes before the first newline, or all
abbrev pub before_newline : List ℕ → List ℕ
before_newline bytes = take (position_or_len (λ b. b == 10) bytes) bytes

-- the bytes behind the first newline, none where there is no newline
abbrev pub after_newline : List ℕ → List ℕ
after_newline bytes = drop (position_or_len (λ b. b == 10) bytes + 1) bytes

abbrev pub has_newline : List ℕ → Bool
has_newline bytes = nat_lt (position_or_len (λ b. b == 10) bytes) (length bytes)

-- where they are told: the lines of what was left are these, and then those of what is left
abbrev pub LinesGo : Option (List ℕ) → List (List ℕ) → Option (List ℕ) → Type 0
LinesGo None lines new = new ≡ None
LinesGo (Some old) lines None = ⊥
LinesGo (Some old) lines (Some new) = lines_of old ≡ lines ++ lines_of new

-- where they are told: a piece of the next line has been read
abbrev pub PieceGoes : Option (List ℕ) → List ℕ → Option (List ℕ) → Type 0
PieceGoes None piece new = new ≡ None
PieceGoes (Some old) piece None = ⊥
PieceGoes (Some old) piece (Some new) = lines_of old ≡ lines_from piece new

-- where they are told: all lines but so many first ones are those of a piece that was read and of what is left
abbrev pub LinesAreCut : Option (List ℕ) → ℕ → Option (List ℕ) → Type 0
LinesAreCut None count new = new ≡ None
LinesAreCut (Some old) count None = ⊥
LinesAreCut (Some old) count (Some new) = (piece : List ℕ) × (drop count (lines_of old) ≡ lines_from piece new)

-- the most bytes of a line that is held
unfoldable pub longest_line : ℕ
longest_line = 2 ^ 22

-- what is held of a line: its bytes, unless they are too many
abbrev pub IsLine : Line → List ℕ → Type 0
IsLine (Whole bytes) line = (bytes ≡ line) × (length line ≤ longest_line)
IsLine Long line = longest_line < length line

-- the next line was taken
abbrev pub TakesLine : Option (List ℕ) → Line → Option (List ℕ) → Type 0
TakesLine old (Whole bytes) new = (length bytes ≤ longest_line) × LinesGo old (bytes ∷ []) new
TakesLine old Long new = (line : List ℕ) × (longest_line < length line) × LinesGo old (line ∷ []) new
