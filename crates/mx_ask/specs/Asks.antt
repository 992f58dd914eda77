-- Asks as JSON, and which line is which ask.
use Rattle.std.specs.Prelude.{◌≡◌, ℕ, ◌≤◌, ◌<◌, ◌^◌, List, length, map, codes, All, Option, Some, None, IfSome}
use Rattle.serde_json.specs.Data.{Data, number, string, array, object, Members, no_members, member, unsigned}
use Rattle.serde_json.specs.View.{items_of}
use Rattle.mx_text.specs.Plain.{Spells}
use Rattle.mx_base.specs.Digits.{instant_text}
use Rattle.mx_base.specs.Names.{IsFileId, IsPartition}
use Rattle.mx_ask.specs.declared.ask.Ask.{Ask}
use Rattle.mx_ask.specs.declared.ask.AskKind.{AskKind}
use Rattle.mx_ask.specs.declared.ask.FileRows.{FileRows}
use Rattle.mx_ask.specs.declared.ask.Question.{Question}
use Rattle.mx_ask.specs.Rows.{rows_data, IsRow}

-- a file that a commit adds
abbrev pub file_data : FileRows → Data
file_data file = object (member (codes "file") (string file.file) (member (codes "partition") (string file.partition) (member (codes "rows") (rows_data file.rows) no_members)))

-- the instant to look at in front of the other members, where there is one
abbrev pub with_at : Option ℕ → Members → Members
with_at None rest = rest
with_at (Some at) rest = member (codes "at") (string (instant_text at)) rest

-- a commit of this list of files, with the rest behind it
abbrev pub commit_object : Data → Members → Data
commit_object files rest = object (member (codes "ask") (string (codes "commit")) (member (codes "files") files rest))

-- a look at the files of this partition, with the rest behind it
abbrev pub files_object : Option ℕ → Data → Members → Data
files_object at partition rest = object (member (codes "ask") (string (codes "files")) (with_at at (member (codes "partition") partition rest)))

-- a look at the partitions, with the rest behind it
abbrev pub partitions_object : Option ℕ → Members → Data
partitions_object at rest = object (member (codes "ask") (string (codes "partitions")) (with_at at rest))

-- the JSON value that asks so, names in the order of their bytes, with the rest behind it
abbrev pub kind_data : AskKind → Members → Data
kind_data (AskKind.Commit files) rest = commit_object (array (items_of (map file_data files))) rest
kind_data (AskKind.LookUp (Question.Files partition) at) rest = files_object at (string partition) rest
kind_data (AskKind.LookUp Question.Partitions at) rest = partitions_object at rest

-- the members that tell the session: one, or none where it is 1
abbrev pub IsSession : ℕ → Members → Type 0
IsSession session no_members = session ≡ 1
IsSession session (member name value rest) = (name ≡ codes "session") × (value ≡ number (unsigned session)) × (rest ≡ no_members)

-- the JSON value is this ask
abbrev pub IsAskData : Ask → Data → Type 0
IsAskData ask json = (session : Members) × IsSession ask.session session × (json ≡ kind_data ask.kind session)

-- a session is a number from 1 to 64
abbrev pub IsSessionNumber : ℕ → Type 0
IsSessionNumber session = (1 ≤ session) × (session ≤ 64)

-- an instant to look at has at most 17 digits
abbrev pub IsMoment : Option ℕ → Type 0
IsMoment at = IfSome at (λ instant. instant < 10 ^ 17)

-- a file's id and partition are such, and its integers have 64 bits
pub record IsFileRows (file : FileRows) : Type 0 where
  pub id : IsFileId file.file
  pub partition : IsPartition file.partition
  pub rows : All IsRow file.rows

-- the partition that a question names is one
abbrev pub IsNamedQuestion : Question → Type 0
IsNamedQuestion (Question.Files partition) = IsPartition partition
IsNamedQuestion Question.Partitions = Unit {0}

-- ids, partitions, integers and instants are such
abbrev pub IsNamedKind : AskKind → Type 0
IsNamedKind (AskKind.Commit files) = All IsFileRows files
IsNamedKind (AskKind.LookUp question at) = IsNamedQuestion question × IsMoment at

-- an ask's session and names are such
pub record IsNamed (ask : Ask) : Type 0 where
  pub session : IsSessionNumber ask.session
  pub kind : IsNamedKind ask.kind

-- the line, without its newline, is this ask
pub record IsAsk (line : List ℕ) (ask : Ask) : Type 0 where
  pub json : Data
  pub short : length line ≤ 4194304
  pub spells : Spells line json
  pub is_ask : IsAskData ask json
  pub named : IsNamed ask
