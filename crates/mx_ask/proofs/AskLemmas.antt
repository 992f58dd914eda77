-- Parts of an ask as JSON, and that a line is at most one ask.
use Rattle.std.proofs.Common.{◌≡◌, ℕ, List, map, sym, ap, subst, ◌∙◌}
use Rattle.std.specs.Prelude.{codes}
use Rattle.serde_json.specs.Data.{Data, string, object, Members, no_members, member}
use Rattle.serde_json.specs.View.{items_of}
use Rattle.mx_schema.specs.declared.row.RowValue.{RowValue}
use Rattle.mx_text.specs.Plain.{Spells}
use Rattle.mx_ask.specs.declared.ask.Ask.{Ask}
use Rattle.mx_ask.specs.declared.ask.AskKind.{AskKind}
use Rattle.mx_ask.specs.declared.ask.FileRows.{FileRows}
use Rattle.mx_ask.specs.declared.ask.Question.{Question}
use Rattle.mx_ask.specs.Rows.{rows_data}
use Rattle.mx_ask.specs.Asks.{file_data, with_at, kind_data, IsSession, IsNamedKind, IsNamed, IsAskData, IsAsk}
use Rattle.mx_ask.proofs.ItemLemmas.{items-injective}
use Rattle.mx_ask.proofs.ObjectLemmas.{IsSession-without_at, with_at-injective}
use Rattle.mx_ask.proofs.RowLemmas.{rows_data-injective}

pub file_data-id : (file : FileRows) (a b d : Data) → object (member (codes "file") a (member (codes "partition") b (member (codes "rows") d no_members))) ≡ file_data file → a ≡ string file.file
file_data-id file a b d e = cc

file_data-injective : (a b : FileRows) → file_data a ≡ file_data b → a ≡ b
file_data-injective a b e =
    let rows : rows_data a.rows ≡ rows_data b.rows = cc in
    let same : a.rows ≡ b.rows = rows_data-injective a.rows b.rows rows in
    let parts : (a.file, (a.partition, a.rows)) ≡ (b.file, (b.partition, b.rows)) = cc in
    ap (λ (p : List ℕ × (List ℕ × List (List RowValue))). record { file = p.0; partition = p.1.0; rows = p.1.1 }) parts

files-injective : (xs ys : List FileRows) → items_of (map file_data xs) ≡ items_of (map file_data ys) → xs ≡ ys
files-injective xs ys e = items-injective file_data file_data-injective xs ys e

-- a JSON value asks for one thing, and the rest behind it is one
kind_data-injective : (a b : AskKind) (session other : ℕ) (xs ys : Members) → IsNamedKind a → IsNamedKind b → IsSession session xs → IsSession other ys → kind_data a xs ≡ kind_data b ys → (a ≡ b) × (xs ≡ ys)
kind_data-injective (AskKind.Commit a) (AskKind.Commit b) session other xs ys is_a is_b is_xs is_ys e =
    let files : items_of (map file_data a) ≡ items_of (map file_data b) = cc in
    (ap AskKind.Commit (files-injective a b files), cc)
kind_data-injective (AskKind.Commit a) (AskKind.LookUp (Question.Files q) n) session other xs ys is_a is_b is_xs is_ys e = cc
kind_data-injective (AskKind.Commit a) (AskKind.LookUp Question.Partitions n) session other xs ys is_a is_b is_xs is_ys e = cc
kind_data-injective (AskKind.LookUp (Question.Files p) m) (AskKind.Commit b) session other xs ys is_a is_b is_xs is_ys e = cc
kind_data-injective (AskKind.LookUp Question.Partitions m) (AskKind.Commit b) session other xs ys is_a is_b is_xs is_ys e = cc
kind_data-injective (AskKind.LookUp (Question.Files p) m) (AskKind.LookUp Question.Partitions n) session other xs ys is_a is_b is_xs is_ys e = cc
kind_data-injective (AskKind.LookUp Question.Partitions m) (AskKind.LookUp (Question.Files q) n) session other xs ys is_a is_b is_xs is_ys e = cc
kind_data-injective (AskKind.LookUp (Question.Files p) m) (AskKind.LookUp (Question.Files q) n) session other xs ys is_a is_b is_xs is_ys e =
    let behind : with_at m (member (codes "partition") (string p) xs) ≡ with_at n (member (codes "partition") (string q) ys) = cc in
    let same = with_at-injective m n (member (codes "partition") (string p) xs) (member (codes "partition") (string q) ys) is_a.1 is_b.1 (λ v zs f. cc) (λ v zs f. cc) behind in
    (cc, cc)
kind_data-injective (AskKind.LookUp Question.Partitions m) (AskKind.LookUp Question.Partitions n) session other xs ys is_a is_b is_xs is_ys e =
    let behind : with_at m xs ≡ with_at n ys = cc in
    let same = with_at-injective m n xs ys is_a.1 is_b.1 (IsSession-without_at session xs is_xs) (IsSession-without_at other ys is_ys) behind in
    (ap (AskKind.LookUp Question.Partitions) same.0, same.1)

IsSession-unique : (session other : ℕ) (members : Members) → IsSession session members → IsSession other members → session ≡ other
IsSession-unique session other no_members is also = is ∙ sym also
IsSession-unique session other (member name value rest) is also = cc

IsAskData-unique : (a b : Ask) (json : Data) → IsNamed a → IsNamed b → IsAskData a json → IsAskData b json → a ≡ b
IsAskData-unique a b json named_a named_b (xs, session_a, is_a) (ys, session_b, is_b) =
    let same : kind_data a.kind xs ≡ kind_data b.kind ys = sym is_a ∙ is_b in
    let both = kind_data-injective a.kind b.kind a.session b.session xs ys named_a.kind named_b.kind session_a session_b same in
    let kinds : a.kind ≡ b.kind = both.0 in
    let sessions : a.session ≡ b.session = IsSession-unique a.session b.session xs session_a (subst (IsSession b.session) (sym both.1) session_b) in
    let parts : (a.session, a.kind) ≡ (b.session, b.kind) = cc in
    ap (λ (p : ℕ × AskKind). record { session = p.0; kind = p.1 }) parts

-- the one ask of a JSON value is the one ask of its line
pub IsAsk-only : (line : List ℕ) (json : Data) (ask other : Ask) → Spells line json → IsAskData ask json → IsNamed ask → IsAsk line other → other ≡ ask
IsAsk-only line json ask other spells is named is_other =
    let same : is_other.json ≡ json = cc in
    IsAskData-unique other ask json is_other.named named (subst (IsAskData other) same is_other.is_ask) is

pub IsAsk-unique : (line : List ℕ) (a b : Ask) → IsAsk line a → IsAsk line b → a ≡ b
IsAsk-unique line a b is_a is_b = IsAsk-only line is_b.json b a is_b.spells is_b.is_ask is_b.named is_a
