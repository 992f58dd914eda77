-- A newer payload over an older one.
use Rattle.std.specs.Prelude.{◌≡◌, ℕ, Bool, ◌&&◌, List, [], ◌∷◌, map, Option, Some, None, nat_lt, ◌==◌, if◌then◌else◌}
use Rattle.std.specs.Bool.{MatchBool}
use Rattle.std.specs.Option.{option_or}
use Rattle.std.specs.Ordering.{nat_cmp, is_eq}
use Rattle.std.specs.Cmp.Lexicographic.{slice_cmp}
use Rattle.mx_payload.specs.declared.payload.NameWord.{NameWord}
use Rattle.mx_payload.specs.declared.payload.Payload.{Payload}
use Rattle.mx_payload.specs.declared.payload.Payload.TheVariants.{Partitions, Files, Stats, Bloom, Location}
use Rattle.mx_payload.specs.Rules.{RisesFrom, plain}

-- what words say of a name: its size, and whether it was taken out
abbrev pub state_of : List ℕ → List NameWord → Option (ℕ × Bool)
state_of name [] = None
state_of name (w ∷ words) = if is_eq (slice_cmp nat_cmp name w.name) then Some (w.size, w.deleted) else state_of name words

-- of each name the newer word stands, else the older one; deleted words stand too
pub record IsUnion (older newer words : List NameWord) : Type 0 where
  pub rising : RisesFrom None words
  pub states : (name : List ℕ) → state_of name words ≡ option_or (state_of name newer) (state_of name older)

-- the number of a payload's kind
abbrev pub kind : Payload → ℕ
kind (Partitions names) = 1
kind (Files words) = 2
kind (Stats file column stat deleted) = 3
kind (Bloom bits deleted) = 4
kind (Location partition file instant deleted) = 5

-- the words of a list, and none of another payload
abbrev pub words_of : Payload → List NameWord
words_of (Partitions names) = map plain names
words_of (Files words) = words
words_of (Stats file column stat deleted) = []
words_of (Bloom bits deleted) = []
words_of (Location partition file instant deleted) = []

-- both are lists of partitions, or both lists of files
abbrev pub are_lists : Payload → Payload → Bool
are_lists older newer = kind older == kind newer && nat_lt (kind newer) 3

-- two lists of one kind are put over each other; else the newer payload stands
abbrev pub IsCombined : Payload → Payload → Payload → Type 0
IsCombined older newer result = MatchBool (are_lists older newer) ((kind result ≡ kind newer) × IsUnion (words_of older) (words_of newer) (words_of result)) (result ≡ newer)

-- the word of a name and what is said of it
abbrev pub word_of : List ℕ × (ℕ × Bool) → NameWord
word_of e = record { name = e.0; size = e.1.0; deleted = e.1.1 }

-- what is said of a name once words were put over what was said before, one by one
abbrev pub after : List NameWord → List ℕ → Option (ℕ × Bool) → Option (ℕ × Bool)
after [] name before = before
after (w ∷ words) name before = after words name (if is_eq (slice_cmp nat_cmp w.name name) then Some (w.size, w.deleted) else before)
