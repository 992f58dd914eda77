-- The bytes of a log file.
use Rattle.std.specs.Prelude.{ℕ, ◌^◌, ◌<◌, List, [], ◌∷◌, ◌++◌, length}
use Rattle.std.specs.Int.{w16, w64}
use Rattle.mx_base.specs.declared.entry.Entry.{Entry}
use Rattle.mx_hfile.specs.Encoding.{number, encoding}

-- "#HUDI#", in front of a log
unfoldable pub log_magic : List ℕ
log_magic = 35 ∷ 72 ∷ 85 ∷ 68 ∷ 73 ∷ 35 ∷ []

-- what stands in front of the content: the version, the instant, and the content's length
abbrev pub header : ℕ → ℕ → List ℕ
header at len = log_magic ++ number w16 1 ++ number w64 at ++ number w64 len

-- the log of entries at an instant: its content is the file of the entries
abbrev pub log_encoding : ℕ → List Entry → List ℕ
log_encoding at entries = header at (length (encoding entries)) ++ encoding entries

-- an instant that is meant: seventeen digits, and not 0
pub record IsMoment (at : ℕ) : Type 0 where
  pub some : 0 < at
  pub small : at < 10 ^ 17
