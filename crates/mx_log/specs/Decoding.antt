-- Reading a log from left to right, with the place of the first broken rule.
use Rattle.std.specs.Prelude.{◌≡◌, ℕ, ◌+◌, ◌-◌, ◌^◌, Bool, ◌&&◌, List, length, Result, Ok, Err, nat_lt}
use Rattle.std.specs.Int.{w16, w64}
use Rattle.std.specs.Global.{Vec}
use Rattle.mx_base.specs.declared.entry.Entry.{Entry}
use Rattle.mx_hfile.specs.Encoding.{number}
use Rattle.mx_lists.specs.Reading.{◌>>=◌, Reader, passing}
use Rattle.mx_hfile.specs.Decoding.{number_in, expected_in, file_in, placed}
use Rattle.mx_log.specs.declared.error.LogError.{LogError}
use Rattle.mx_log.specs.declared.error.LogError.TheVariants as errors
use Rattle.mx_log.specs.Encoding.{log_magic}

-- whether a number is an instant that is meant
abbrev pub is_moment : ℕ → Bool
is_moment at = nat_lt 0 at && nat_lt at (10 ^ 17)

-- the instant, and the content behind the header, whose length is what is left
unfoldable pub header_in : Reader ℕ
header_in bytes =
    expected_in log_magic bytes
    >>= λ rest. expected_in (number w16 1) rest
    >>= λ rest. passing is_moment (number_in w64) rest
    >>= λ at. expected_in (number w64 (length at.1 - 8)) at.1
    >>= λ content. Ok (at.0, content)

-- a place in the content is counted from the start of the log, 24 bytes before
abbrev pub moved : {A : Type 0} → Result A ℕ → Result A ℕ
moved (Ok x) = Ok x
moved (Err at) = Err (24 + at)

-- the instant and the entries of a log
unfoldable pub log_in : List ℕ → Result (ℕ × List Entry) ℕ
log_in bytes =
    placed (length bytes) (header_in bytes)
    >>= λ header. moved (file_in header.1)
    >>= λ entries. Ok (header.0, entries)

-- what a function returned, seen by view, is what was read
abbrev pub Shows : {X Y : Type 0} → (X → Y) → Result X ℕ → Result Y ℕ → Type 0
Shows view (Ok x) read = read ≡ Ok (view x)
Shows view (Err left) read = read ≡ Err left

-- an error is want of memory, or the place of the first broken rule
abbrev pub HasCause : {A : Type 0} → LogError → Result A ℕ → Type 0
HasCause errors.NoMemory read = Unit {0}
HasCause (errors.BadLog at) read = read ≡ Err at

-- what was answered is what reading gives
abbrev pub Decodes : Result (ℕ × List Entry) ℕ → Result (ℕ × Vec Entry) LogError → Type 0
Decodes read (Ok log) = read ≡ Ok (log.0, log.1.items)
Decodes read (Err e) = HasCause e read

-- the answer is this log, unless memory ran out
abbrev pub IsOnly : ℕ → List Entry → Result (ℕ × Vec Entry) LogError → Type 0
IsOnly at entries (Ok log) = (log.0 ≡ at) × (log.1.items ≡ entries)
IsOnly at entries (Err e) = e ≡ errors.NoMemory
