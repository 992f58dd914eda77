-- Which levels bytes stand for when so many are wanted, and where they first go wrong.
use Rattle.std.specs.Prelude.{◌≡◌, ℕ, ◌+◌, ◌-◌, ◌*◌, ◌^◌, ◌<◌, ◌≤◌, Bool, List, [], ◌∷◌, ◌++◌, length, take, drop, flat_map, Option, Some, None, Result, Ok, Err, ◌⊎◌}
use Rattle.mx_levels.specs.Encoding.{Run, Repeated, Packed, header, body, run_levels, run_bytes}
use Rattle.mx_levels.specs.declared.error.LevelError.{LevelError}
use Rattle.mx_levels.specs.declared.error.LevelError.TheVariants.{BadRun, NoMemory}
use Rattle.mx_levels.specs.declared.run.Run.{Run as ReadRun}
use Rattle.mx_levels.specs.declared.run.Run.TheVariants as read

-- a run has levels
abbrev pub HasLevels : Run → Type 0
HasLevels (Repeated count level) = 0 < count
HasLevels (Packed bytes) = 0 < length bytes

-- a run has no more levels than are left; the further bits of its last group do not count
abbrev pub IsWithin : ℕ → Run → Type 0
IsWithin left (Repeated count level) = count ≤ left
IsWithin left (Packed bytes) = 8 * length bytes < left + 8

-- a run has levels, and no more than are left, and its header is below 2^64
pub record Fits (left : ℕ) (run : Run) : Type 0 where
  pub some : HasLevels run
  pub within : IsWithin left run
  pub below : header run < 2 ^ 64

-- each run fits what the ones before it left
abbrev pub FitInTurn : ℕ → List Run → Type 0
FitInTurn left [] = Unit {0}
FitInTurn left (run ∷ runs) = Fits left run × FitInTurn (left - length (run_levels run)) runs

-- the bytes are those of runs that fit in turn, and the levels are the first ones of theirs, as many as are wanted
pub record Decodes (bytes : List ℕ) (count : ℕ) (levels : List Bool) : Type 0 where
  pub runs : List Run
  pub fit : FitInTurn count runs
  pub enough : count ≤ length (flat_map run_levels runs)
  pub spelled : bytes ≡ flat_map run_bytes runs
  pub first : levels ≡ take count (flat_map run_levels runs)

-- no run that fits stands in front
abbrev pub BeginsNoRun : ℕ → List ℕ → Type 0
BeginsNoRun left bytes = (run : Run) (behind : List ℕ) → Fits left run → ¬ (bytes ≡ run_bytes run ++ behind)

-- behind runs that fit in turn no other fits, though levels are wanted or bytes stand there
pub record IsFirstBad (bytes : List ℕ) (count at : ℕ) : Type 0 where
  pub runs : List Run
  pub fit : FitInTurn count runs
  pub place : at ≡ length (flat_map run_bytes runs)
  pub front : bytes ≡ flat_map run_bytes runs ++ drop at bytes
  pub more : (length (flat_map run_levels runs) < count) ⊎ (at < length bytes)
  pub none : BeginsNoRun (count - length (flat_map run_levels runs)) (drop at bytes)

-- what was answered shows these levels, unless memory ran out
abbrev pub ShowsUnlessMemory : {X : Type 0} → (X → List Bool) → Result X LevelError → List Bool → Type 0
ShowsUnlessMemory view (Ok answer) levels = view answer ≡ levels
ShowsUnlessMemory view (Err e) levels = e ≡ NoMemory

-- an error is want of memory, or names the first bad place
abbrev pub HasCause : List ℕ → ℕ → LevelError → Type 0
HasCause bytes count NoMemory = Unit {0}
HasCause bytes count (BadRun at) = IsFirstBad bytes count at

-- a run as the code holds it
abbrev pub seen : ReadRun → Run
seen (read.Repeated count level) = Repeated count level
seen (read.Packed bytes) = Packed bytes.now

-- what was found behind a header: the body of the run that has it and fits, and the bytes behind; else none
abbrev pub HoldsBody : ℕ → ℕ → List ℕ → Option (Run × List ℕ) → Type 0
HoldsBody number left bytes (Some x) = (header x.0 ≡ number) × HasLevels x.0 × IsWithin left x.0 × (bytes ≡ body x.0 ++ x.1)
HoldsBody number left bytes None = (run : Run) (behind : List ℕ) → header run ≡ number → Fits left run → ¬ (bytes ≡ body run ++ behind)

-- what was found in front: a run that fits, and the bytes behind; else none
abbrev pub HoldsRun : ℕ → List ℕ → Option (Run × List ℕ) → Type 0
HoldsRun left bytes (Some x) = Fits left x.0 × (bytes ≡ run_bytes x.0 ++ x.1)
HoldsRun left bytes None = BeginsNoRun left bytes
