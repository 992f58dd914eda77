-- Reading from left to right, with the first broken rule. A rule is broken where so many bytes are left, from the
-- start of its field on.
use Rattle.std.specs.Prelude.{◌≡◌, ℕ, Bool, List, length, Result, Ok, Err, if◌then◌else◌}
use Rattle.mx_lists.specs.declared.fault.Fault.{Fault}
use Rattle.mx_lists.specs.declared.fault.Fault.TheVariants as faults

-- the next step, where the first one did not fail
infixl 10 ◌>>=◌
abbrev pub ◌>>=◌ : {A B : Type 0} → Result A ℕ → (A → Result B ℕ) → Result B ℕ
(Ok x) >>= f = f x
(Err left) >>= f = Err left

-- what went wrong is what reading says, unless memory ran out
abbrev pub Fails : {Y : Type 0} → Fault → Result Y ℕ → Type 0
Fails faults.NoMemory read = Unit {0}
Fails (faults.Bad left) read = read ≡ Err left

-- what a function returned, seen by view, is what was read
abbrev pub Gives : {X Y : Type 0} → (X → Y) → Result X Fault → Result Y ℕ → Type 0
Gives view (Ok x) read = read ≡ Ok (view x)
Gives view (Err e) read = Fails e read

-- a value, and what stands behind it
abbrev pub Reader : Type 0 → Type 0
Reader A = List ℕ → Result (A × List ℕ) ℕ

-- a value that passes a test, which is a rule of its whole field
abbrev pub passing : {A : Type 0} → (A → Bool) → Reader A → Reader A
passing test read bytes = read bytes >>= λ x. if test x.0 then Ok x else Err (length bytes)
