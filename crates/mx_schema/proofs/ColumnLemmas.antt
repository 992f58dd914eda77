-- The texts of columns and schemas tell them apart, and which columns can begin a schema.
use Rattle.std.proofs.Common.{◌≡◌, ◌≢◌, ℕ, ◌+◌, ◌<◌, Bool, true, false, List, [], ◌∷◌, ◌++◌, length, get_or, take, drop, map, refl, sym, ◌∙◌, ap, subst, arith, All, append_assoc, length-append, Result, Ok, Err}
use Rattle.std.specs.Prelude.{codes, ◌==◌, ◌&&◌, ◌||◌, IfOk, not, nat_le, nat_lt, if◌then◌else◌, slice_index}
use Rattle.std.specs.List.{list_all, list_any, IsDistinct, AllByRecursion, flat_map}
use Rattle.std.specs.Bool.{IsTrue}
use Rattle.std.specs.Str.{bytes_eq}
use Rattle.std.specs.Char.{is_ascii_alphabetic}
use Rattle.std.proofs.lemmas.Bool.Decides.{Decides-eqb}
use Rattle.std.proofs.lemmas.List.{take-map, length-map, take-append-drop, append-nil, take_more}
use Rattle.std.proofs.lemmas.List.Folds.{list_all-append, list_all_at}
use Rattle.std.proofs.lemmas.List.Splits.{slice_split_none, slice_split_at}
use Rattle.std.proofs.lemmas.List.Elements.{All-from_recursion}
use Rattle.mx_schema.specs.declared.column.Column.{Column}
use Rattle.mx_schema.specs.declared.column.ColumnKind.{ColumnKind}
use Rattle.mx_schema.specs.declared.column.ColumnKind.TheVariants as kinds
use Rattle.mx_schema.specs.Columns.{kind_name, mark, column_text, schema_text, is_column_byte, is_column_name, IsColumn, AreColumns, IsSchema, pieces_of, IsFirstBad, SaysBad, IsOnly}
use Rattle.mx_schema.specs.declared.error.SchemaError.{SchemaError}
use Rattle.mx_schema.specs.declared.error.SchemaError.TheVariants as errors

-- ---- bytes

not_true : (b : Bool) → not b ≡ true → b ≡ false
not_true false h = refl
not_true true h = absurd (cc h)

pub and_second : (b c : Bool) → (b && c) ≡ true → c ≡ true
and_second true c h = h
and_second false c h = absurd (cc h)

pub and_first : (b c : Bool) → (b && c) ≡ true → b ≡ true
and_first true c h = refl
and_first false c h = h

pub and_both : (a b : Bool) → a ≡ true → b ≡ true → (a && b) ≡ true
and_both a b p q = ap (λ (v : Bool). v && b) p ∙ q

pub last_of_four : (a b c d : Bool) → (a && (b && (c && d))) ≡ true → d ≡ true
last_of_four true true true d h = h
last_of_four true true false d h = absurd (cc h)
last_of_four true false c d h = absurd (cc h)
last_of_four false b c d h = absurd (cc h)

pub list_all-weaker : (p q : ℕ → Bool) → ((x : ℕ) → p x ≡ true → q x ≡ true) → (xs : List ℕ) → list_all p xs ≡ true → list_all q xs ≡ true
list_all-weaker p q weaker [] all = refl
list_all-weaker p q weaker (x ∷ xs) all =
    and_both (q x) (list_all q xs) (weaker x (and_first (p x) (list_all p xs) all)) (list_all-weaker p q weaker xs (and_second (p x) (list_all p xs) all))

-- no byte is the one
abbrev pub Lacks : ℕ → List ℕ → Type 0
Lacks byte xs = list_all (λ x. not (x == byte)) xs ≡ true

not_equal : (byte x : ℕ) (b : Bool) → (x == byte) ≡ b → (x ≡ byte → ⊥) → not (x == byte) ≡ true
not_equal byte x true is ne = absurd (ne ((Decides-eqb x byte).0 is))
not_equal byte x false is ne = ap not is

pub name_bytes : (name : List ℕ) → is_column_name name ≡ true → list_all is_column_byte name ≡ true
unfolding is_column_name
name_bytes name is = last_of_four (nat_lt 0 (length name)) (nat_le (length name) 63) (is_ascii_alphabetic (slice_index name 0)) (list_all is_column_byte name) is

pub name_lacks : (byte : ℕ) → is_column_byte byte ≡ false → (name : List ℕ) → is_column_name name ≡ true → Lacks byte name
name_lacks byte other name is =
    list_all-weaker is_column_byte (λ x. not (x == byte)) (λ x h. not_equal byte x (x == byte) refl (λ e. let e' : is_column_byte byte ≡ true = subst (λ (v : ℕ). is_column_byte v ≡ true) e h in cc)) name
    (name_bytes name is)

-- read one by one
pub lacks_at : (byte : ℕ) (xs : List ℕ) → Lacks byte xs → (i : ℕ) → i < length xs → get_or xs i 0 ≢ byte
lacks_at byte xs lacks i small e =
    let found : not (get_or xs i 0 == byte) ≡ false = ap not ((Decides-eqb (get_or xs i 0) byte).1 e) in
    let none : list_all (λ x. not (x == byte)) xs ≡ false = list_all_at (λ x. not (x == byte)) xs i 0 small found in
    cc

pub name_no_colon : (name : List ℕ) → is_column_name name ≡ true → (i : ℕ) → i < length name → get_or name i 0 ≢ 58
name_no_colon name is = lacks_at 58 name (name_lacks 58 refl name is)

kind_lacks_comma : (kind : ColumnKind) (nullable : Bool) → Lacks 44 (58 ∷ (kind_name kind ++ mark nullable))
kind_lacks_comma kinds.Boolean true = refl
kind_lacks_comma kinds.Boolean false = refl
kind_lacks_comma kinds.Int32 true = refl
kind_lacks_comma kinds.Int32 false = refl
kind_lacks_comma kinds.Int64 true = refl
kind_lacks_comma kinds.Int64 false = refl
kind_lacks_comma kinds.Text true = refl
kind_lacks_comma kinds.Text false = refl

column_lacks_comma : (column : Column) → IsColumn column → Lacks 44 (column_text column)
column_lacks_comma column is =
    list_all-append (λ x. not (x == 44)) column.name (58 ∷ (kind_name column.kind ++ mark column.nullable))
    ∙ and_both _ _ (name_lacks 44 refl column.name is) (kind_lacks_comma column.kind column.nullable)

lacks_tail : (byte x : ℕ) (xs : List ℕ) → Lacks byte (x ∷ xs) → Lacks byte xs
lacks_tail byte x xs lacks = and_second (not (x == byte)) (list_all (λ y. not (y == byte)) xs) lacks

lacks_all : (byte : ℕ) (xs : List ℕ) → Lacks byte xs → AllByRecursion (λ x. (x == byte) ≡ false) xs
lacks_all byte [] lacks = tt
lacks_all byte (x ∷ xs) lacks = (not_true (x == byte) (and_first (not (x == byte)) (list_all (λ y. not (y == byte)) xs) lacks), lacks_all byte xs (lacks_tail byte x xs lacks))

pub All-lacks : (byte : ℕ) (xs : List ℕ) → Lacks byte xs → All (λ x. (x == byte) ≡ false) xs
All-lacks byte xs lacks = All-from_recursion (λ x. (x == byte) ≡ false) xs (lacks_all byte xs lacks)

no_comma : (column : Column) → IsColumn column → All (λ x. (x == 44) ≡ false) (column_text column)
no_comma column is = All-lacks 44 (column_text column) (column_lacks_comma column is)

no_mark : (kind : ColumnKind) → Lacks 63 (kind_name kind)
no_mark kinds.Boolean = refl
no_mark kinds.Int32 = refl
no_mark kinds.Int64 = refl
no_mark kinds.Text = refl

ends : (b : Bool) → (b && false) ≡ false
ends true = refl
ends false = refl

-- ---- one column

-- the kind and the mark that a text names, where it names some
read_kind : List ℕ → ColumnKind × Bool
read_kind text =
    if bytes_eq text (codes "boolean") then (kinds.Boolean, false)
    else if bytes_eq text (codes "boolean?") then (kinds.Boolean, true)
    else if bytes_eq text (codes "int32") then (kinds.Int32, false)
    else if bytes_eq text (codes "int32?") then (kinds.Int32, true)
    else if bytes_eq text (codes "int64") then (kinds.Int64, false)
    else if bytes_eq text (codes "int64?") then (kinds.Int64, true)
    else if bytes_eq text (codes "string") then (kinds.Text, false)
    else (kinds.Text, true)

read_kind-again : (kind : ColumnKind) (nullable : Bool) → read_kind (kind_name kind ++ mark nullable) ≡ (kind, nullable)
unfolding read_kind
read_kind-again kinds.Boolean true = refl
read_kind-again kinds.Boolean false = refl
read_kind-again kinds.Int32 true = refl
read_kind-again kinds.Int32 false = refl
read_kind-again kinds.Int64 true = refl
read_kind-again kinds.Int64 false = refl
read_kind-again kinds.Text true = refl
read_kind-again kinds.Text false = refl

lacks_head : (byte x : ℕ) (xs : List ℕ) → Lacks byte (x ∷ xs) → x ≢ byte
lacks_head byte x xs lacks e = lacks_at byte (x ∷ xs) lacks 0 (omega arith) e

-- two texts without the byte that stands behind them are the same, and so is what follows
pub same_fronts : (byte : ℕ) (xs ys vs ws : List ℕ) → Lacks byte xs → Lacks byte ys → xs ++ byte ∷ vs ≡ ys ++ byte ∷ ws → (xs ≡ ys) × (vs ≡ ws)
same_fronts byte [] [] vs ws p q e = (refl, cc)
same_fronts byte [] (y ∷ ys) vs ws p q e = let h : y ≡ byte = cc in absurd (lacks_head byte y ys q h)
same_fronts byte (x ∷ xs) [] vs ws p q e = let h : x ≡ byte = cc in absurd (lacks_head byte x xs p h)
same_fronts byte (x ∷ xs) (y ∷ ys) vs ws p q e =
    let rest : xs ++ byte ∷ vs ≡ ys ++ byte ∷ ws = cc in
    let first : x ≡ y = cc in
    let r = same_fronts byte xs ys vs ws (lacks_tail byte x xs p) (lacks_tail byte y ys q) rest in
    let front : xs ≡ ys = r.0 in
    (cc, r.1)

pub column_text-injective : (a b : Column) → IsColumn a → IsColumn b → column_text a ≡ column_text b → a ≡ b
column_text-injective a b p q e =
    let r = same_fronts 58 a.name b.name (kind_name a.kind ++ mark a.nullable) (kind_name b.kind ++ mark b.nullable) (name_lacks 58 refl a.name p) (name_lacks 58 refl b.name q) e in
    let name : a.name ≡ b.name = r.0 in
    let pair : (a.kind, a.nullable) ≡ (b.kind, b.nullable) = sym (read_kind-again a.kind a.nullable) ∙ ap read_kind r.1 ∙ read_kind-again b.kind b.nullable in
    let kind : a.kind ≡ b.kind = ap (λ (v : ColumnKind × Bool). v.0) pair in
    let nullable : a.nullable ≡ b.nullable = ap (λ (v : ColumnKind × Bool). v.1) pair in
    λ i. record { name = name i; kind = kind i; nullable = nullable i }

-- a kind with a mark ends in the mark, and one without it does not
pub unmarked : (kind : ColumnKind) (front : List ℕ) → kind_name kind ++ [] ≢ front ++ 63 ∷ []
unmarked kind front e = absurd (differs kind front (sym (append-nil (kind_name kind)) ∙ e))
  where
    differs : (kind : ColumnKind) (front : List ℕ) → kind_name kind ≡ front ++ 63 ∷ [] → ⊥
    differs kind front h = let l : list_all (λ x. not (x == 63)) (front ++ 63 ∷ []) ≡ false = list_all-append (λ x. not (x == 63)) front (63 ∷ []) ∙ ends (list_all (λ x. not (x == 63)) front) in let k : list_all (λ x. not (x == 63)) (kind_name kind) ≡ true = no_mark kind in let m = ap (list_all (λ x. not (x == 63))) h in cc

-- ---- columns

-- the columns are named
abbrev Each : List Column → Type 0
Each columns = list_all (λ column. is_column_name column.name) columns ≡ true

each_head : (column : Column) (columns : List Column) → Each (column ∷ columns) → IsColumn column
each_head column columns h = and_first (is_column_name column.name) (list_all (λ c. is_column_name c.name) columns) h

each_tail : (column : Column) (columns : List Column) → Each (column ∷ columns) → Each columns
each_tail column columns h = and_second (is_column_name column.name) (list_all (λ c. is_column_name c.name) columns) h

-- the texts are those of these columns and one more
pub splits : (xs ys : List Column) (piece : List ℕ) → Each xs → Each ys → map column_text xs ++ piece ∷ [] ≡ map column_text ys → (column : Column) × (ys ≡ xs ++ column ∷ []) × (piece ≡ column_text column)
splits [] [] piece p q e = absurd (cc e)
splits [] (y ∷ []) piece p q e = (y, refl, cc)
splits [] (y ∷ z ∷ ys) piece p q e = let h : [] ≡ column_text z ∷ map column_text ys = cc in absurd (cc h)
splits (x ∷ xs) [] piece p q e = absurd (cc e)
splits (x ∷ xs) (y ∷ ys) piece p q e =
    let texts : column_text x ≡ column_text y = cc in
    let same : x ≡ y = column_text-injective x y (each_head x xs p) (each_head y ys q) texts in
    let rest : map column_text xs ++ piece ∷ [] ≡ map column_text ys = cc in
    let r = splits xs ys piece (each_tail x xs p) (each_tail y ys q) rest in
    let tails : ys ≡ xs ++ r.0 ∷ [] = r.1 in
    (r.0, cc, r.2)

pub same_columns : (xs ys : List Column) → Each xs → Each ys → map column_text xs ≡ map column_text ys → xs ≡ ys
same_columns [] [] p q e = refl
same_columns [] (y ∷ ys) p q e = absurd (cc e)
same_columns (x ∷ xs) [] p q e = absurd (cc e)
same_columns (x ∷ xs) (y ∷ ys) p q e =
    let texts : column_text x ≡ column_text y = cc in
    let same : x ≡ y = column_text-injective x y (each_head x xs p) (each_head y ys q) texts in
    let rest : map column_text xs ≡ map column_text ys = cc in
    let tails : xs ≡ ys = same_columns xs ys (each_tail x xs p) (each_tail y ys q) rest in
    cc

-- ---- what can begin a schema

abbrev names : List Column → List (List ℕ)
names columns = map (λ column. column.name) columns

apart_from : (name : List ℕ) (xs ys : List Column) → AllByRecursion (λ y. bytes_eq name y ≡ false) (names xs) → AllByRecursion (λ y. bytes_eq name y ≡ false) (names ys) → AllByRecursion (λ y. bytes_eq name y ≡ false) (names (xs ++ ys))
apart_from name [] ys p q = q
apart_from name (x ∷ xs) ys p q = (p.0, apart_from name xs ys p.1 q)

apart_front : (name : List ℕ) (xs ys : List Column) → AllByRecursion (λ y. bytes_eq name y ≡ false) (names (xs ++ ys)) → AllByRecursion (λ y. bytes_eq name y ≡ false) (names xs)
apart_front name [] ys p = tt
apart_front name (x ∷ xs) ys p = (p.0, apart_front name xs ys p.1)

apart_last : (name : List ℕ) (xs : List Column) (column : Column) → AllByRecursion (λ y. bytes_eq name y ≡ false) (names (xs ++ column ∷ [])) → bytes_eq name column.name ≡ false
apart_last name [] column p = p.0
apart_last name (x ∷ xs) column p = apart_last name xs column p.1

or_first : (b c : Bool) → (b || c) ≡ false → b ≡ false
or_first true c h = h
or_first false c h = refl

or_second : (b c : Bool) → (b || c) ≡ false → c ≡ false
or_second true c h = absurd (cc h)
or_second false c h = h

or_none : (b c : Bool) → b ≡ false → c ≡ false → (b || c) ≡ false
or_none b c p q = ap (λ (v : Bool). v || c) p ∙ q

-- whether a column has the name
abbrev named : List ℕ → List Column → Bool
named name columns = list_any (λ column. bytes_eq column.name name) columns

distinct_push : (xs : List Column) (column : Column) → IsDistinct bytes_eq (names xs) → named column.name xs ≡ false → IsDistinct bytes_eq (names (xs ++ column ∷ []))
unfolding IsDistinct
distinct_push [] column p q = (tt, tt)
distinct_push (x ∷ xs) column p q =
    (apart_from x.name xs (column ∷ []) p.0 (or_first (bytes_eq x.name column.name) (named column.name xs) q, tt), distinct_push xs column p.1 (or_second (bytes_eq x.name column.name) (named column.name xs) q))

distinct_front : (xs ys : List Column) → IsDistinct bytes_eq (names (xs ++ ys)) → IsDistinct bytes_eq (names xs)
unfolding IsDistinct
distinct_front [] ys p = tt
distinct_front (x ∷ xs) ys p = (apart_front x.name xs ys p.0, distinct_front xs ys p.1)

distinct_last : (xs : List Column) (column : Column) → IsDistinct bytes_eq (names (xs ++ column ∷ [])) → named column.name xs ≡ false
unfolding IsDistinct
distinct_last [] column p = refl
distinct_last (x ∷ xs) column p = or_none (bytes_eq x.name column.name) (named column.name xs) (apart_last x.name xs column p.0) (distinct_last xs column p.1)

pub AreColumns-none : (xs : List Column) → xs ≡ [] → AreColumns xs
unfolding IsDistinct
AreColumns-none xs e = subst AreColumns (sym e) (record { few = omega arith; each = refl; distinct = tt })

pub AreColumns-push : (xs : List Column) (column : Column) → AreColumns xs → IsColumn column → length xs < 32 → named column.name xs ≡ false → AreColumns (xs ++ column ∷ [])
AreColumns-push xs column before is small apart = record {
  few = omega (arith, length-append xs (column ∷ []));
  each = list_all-append (λ c. is_column_name c.name) xs (column ∷ []) ∙ and_both _ _ before.each (and_both _ _ is refl);
  distinct = distinct_push xs column before.distinct apart;
}

pub AreColumns-front : (xs ys : List Column) → AreColumns (xs ++ ys) → AreColumns xs
AreColumns-front xs ys all = record {
  few = let h = all.few in omega (arith, length-append xs ys);
  each = and_first (list_all (λ c. is_column_name c.name) xs) (list_all (λ c. is_column_name c.name) ys) (sym (list_all-append (λ c. is_column_name c.name) xs ys) ∙ all.each);
  distinct = distinct_front xs ys all.distinct;
}

-- which columns can follow others
pub can_follow : (xs : List Column) (column : Column) → AreColumns (xs ++ column ∷ []) → (length xs < 32) × IsColumn column × (named column.name xs ≡ false)
can_follow xs column all = (
  let h = all.few in omega (arith, length-append xs (column ∷ [])),
  and_first (is_column_name column.name) true (and_second (list_all (λ c. is_column_name c.name) xs) (list_all (λ c. is_column_name c.name) (column ∷ [])) (sym (list_all-append (λ c. is_column_name c.name) xs (column ∷ [])) ∙ all.each)),
  distinct_last xs column all.distinct,
)

from_test : (b : Bool) → IsTrue (not b) → b ≡ false
from_test true h = absurd (cc h)
from_test false h = refl

pub follows : (xs : List Column) (column : Column) (name : List ℕ) (b : Bool) → AreColumns xs → IsColumn column → length xs < 32 → name ≡ column.name → b ≡ named name xs → (IsTrue (not b) → AreColumns (xs ++ column ∷ [])) × (AreColumns (xs ++ column ∷ []) → IsTrue (not b))
follows xs column name b before is small e found =
    let known : b ≡ named column.name xs = found ∙ ap (λ (n : List ℕ). named n xs) e in
    (λ h. AreColumns-push xs column before is small (sym known ∙ from_test b h), λ all. ap not (known ∙ (can_follow xs column all).2))

-- ---- schemas

pub pieces-schema_text : (first : Column) (others : List Column) → Each (first ∷ others) → pieces_of (schema_text (first ∷ others)) ≡ map column_text (first ∷ others)
pieces-schema_text first [] p = slice_split_none (λ byte. byte == 44) (column_text first) (no_comma first (each_head first [] p))
pieces-schema_text first (second ∷ others) p =
    slice_split_at (λ byte. byte == 44) (column_text first) 44 (schema_text (second ∷ others)) (no_comma first (each_head first (second ∷ others) p)) refl
    ∙ ap (λ (rest : List (List ℕ)). column_text first ∷ rest) (pieces-schema_text second others (each_tail first (second ∷ others) p))

pub pieces_of_schema : (schema : List Column) → IsSchema schema → pieces_of (schema_text schema) ≡ map column_text schema
pieces_of_schema [] is = absurd (let h = is.some in omega arith)
pieces_of_schema (first ∷ others) is = pieces-schema_text first others is.columns.each

-- the piece behind columns is bad where it spells none that can follow them
pub first_bad : (text : List ℕ) (xs : List Column) (at : ℕ) (piece : List ℕ) → AreColumns xs → map column_text xs ≡ take at (pieces_of text) → at < length (pieces_of text) → piece ≡ get_or (pieces_of text) at piece
    → ((column : Column) → piece ≡ column_text column → AreColumns (xs ++ column ∷ []) → ⊥) → IsFirstBad text at
first_bad text xs at piece are texts small is none = record {
  within = small;
  before = (xs, are, sym texts);
  here = λ found.
      let more : take (at + 1) (pieces_of text) ≡ take at (pieces_of text) ++ get_or (pieces_of text) at piece ∷ [] = take_more (pieces_of text) at piece small in
      let pushed : map column_text xs ++ piece ∷ [] ≡ map column_text found.0 = ap (λ (front : List (List ℕ)). front ++ piece ∷ []) texts ∙ ap (λ (p : List ℕ). take at (pieces_of text) ++ p ∷ []) is ∙ sym more ∙ found.2 in
      let r = splits xs found.0 piece are.each found.1.each pushed in
      none r.0 r.2 (subst AreColumns r.1 found.1);
}

-- the same at a loop that has gone over the pieces before it
pub stops : (text : List ℕ) (xs : List Column) (at n : ℕ) (gone : List (List ℕ)) (piece : List ℕ) → AreColumns xs → map column_text xs ≡ gone → length gone ≡ n → at ≡ length xs → gone ≡ take n (pieces_of text) → n < length (pieces_of text) → piece ≡ get_or (pieces_of text) n piece
    → ((column : Column) → piece ≡ column_text column → AreColumns (xs ++ column ∷ []) → ⊥) → IsFirstBad text at
stops text xs at n gone piece are texts long is front small here none =
    let same : n ≡ at = sym long ∙ sym (ap length texts) ∙ length-map xs column_text ∙ sym is in
    subst (IsFirstBad text) same (first_bad text xs n piece are (texts ∙ front) small here none)

pub not_bad : (text : List ℕ) (schema : List Column) (at : ℕ) → IsSchema schema → text ≡ schema_text schema → IsFirstBad text at → ⊥
not_bad text schema at is e bad =
    let pieces : pieces_of text ≡ map column_text schema = ap pieces_of e ∙ pieces_of_schema schema is in
    bad.here (take (at + 1) schema, AreColumns-front (take (at + 1) schema) (drop (at + 1) schema) (subst AreColumns (sym (take-append-drop (at + 1) schema)) is.columns), ap (λ (ps : List (List ℕ)). take (at + 1) ps) pieces ∙ take-map column_text (at + 1) schema)

pub same_schema : (s t : List Column) → IsSchema s → IsSchema t → schema_text s ≡ schema_text t → s ≡ t
same_schema s t p q e = same_columns s t p.columns.each q.columns.each (sym (pieces_of_schema s p) ∙ ap pieces_of e ∙ pieces_of_schema t q)

pub only : (text : List ℕ) (schema : List Column) (r : Result (List Column) SchemaError) → IsSchema schema → text ≡ schema_text schema → IfOk r (λ found. IsSchema found × (text ≡ schema_text found)) → SaysBad text r → IsOnly schema r
only text schema (Ok found) is e ok bad = same_schema found schema ok.0 is (sym ok.1 ∙ e)
only text schema (Err errors.NoMemory) is e ok bad = tt
only text schema (Err (errors.BadSchema at)) is e ok bad = not_bad text schema at is e bad

-- the text of a first column and others
pub schema_text-cons : (first : Column) (others : List Column) → schema_text (first ∷ others) ≡ column_text first ++ flat_map (λ column. 44 ∷ column_text column) others
schema_text-cons first [] = sym (append-nil (column_text first))
schema_text-cons first (second ∷ others) = ap (λ (rest : List ℕ). column_text first ++ 44 ∷ rest) (schema_text-cons second others)

-- a first column and then others are the text of all
pub put : (old mid new : List ℕ) (columns : List Column) (first : Column) (others : List Column) → columns ≡ first ∷ others → mid ≡ old ++ column_text first → new ≡ mid ++ flat_map (λ column. 44 ∷ column_text column) others → new ≡ old ++ schema_text columns
put old mid new columns first others e first_put others_put =
    let more : List ℕ = flat_map (λ column. 44 ∷ column_text column) others in
    others_put
    ∙ ap (λ (t : List ℕ). t ++ more) first_put
    ∙ append_assoc old (column_text first) more
    ∙ ap (λ (t : List ℕ). old ++ t) (sym (schema_text-cons first others))
    ∙ ap (λ (cs : List Column). old ++ schema_text cs) (sym e)
