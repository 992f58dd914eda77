-- The lines of a config, and which line of bytes is the first that no config has.
use Rattle.std.proofs.Common.{◌≡◌, ◌≢◌, ℕ, ◌+◌, Bool, true, false, List, [], ◌∷◌, ◌++◌, take, drop, refl, sym, ◌∙◌, ap, subst, arith, append_assoc, Option, Some, None, Result, Ok, Err}
use Rattle.std.specs.Prelude.{codes, ◌==◌, not, slice_get, if◌then◌else◌, IfOk, option_and_then}
use Rattle.std.specs.List.{list_all, slice_split, onto_first, concat, IsDistinct}
use Rattle.std.specs.Option.{option_to_list}
use Rattle.std.proofs.lemmas.Bool.Decides.{Decides-eqb}
use Rattle.std.proofs.lemmas.List.{append-nil, append_cancel_left, append_cancel_right}
use Rattle.std.proofs.lemmas.List.Folds.{list_all-append}
use Rattle.std.proofs.lemmas.List.Splits.{slice_split_at}
use Rattle.mx_base.specs.declared.part.Part.{Part}
use Rattle.mx_base.specs.declared.part.Part.TheVariants.{Files}
use Rattle.mx_schema.specs.declared.column.Column.{Column}
use Rattle.mx_schema.specs.declared.column.ColumnKind.TheVariants as kinds
use Rattle.mx_schema.specs.Columns.{schema_text, IsSchema, is_column_name}
use Rattle.mx_schema.proofs.ColumnLemmas.{and_both, and_first, and_second, All-lacks, same_schema}
use Rattle.mx_props.specs.declared.error.PropsError.{PropsError}
use Rattle.mx_props.specs.declared.error.PropsError.TheVariants as errors
use Rattle.mx_props.specs.Config.{Config, IsConfig, AreAvailable, IsApart, parts_text, available_line, building_line, version_line, schema_line, config_lines, config_text}
use Rattle.mx_props.specs.Lines.{lines_of, IsFirstBad, SaysBadLine, SaysWhy, IsOnly}
use Rattle.mx_props.specs.Version.{version_in, version_of, version_number}
use Rattle.mx_props.specs.Reading.{IsOneLine, Refuses}
use Rattle.mx_props.proofs.PartLemmas.{parts_plain, parts_text-injective, one_text-injective}
use Rattle.mx_props.proofs.LineLemmas.{schema_plain, available_some}
use Rattle.mx_props.proofs.Texts.{plain_one_line, line_shape}

-- ---- a config that stands for the lines that are not looked at

some_schema : List Column
some_schema = record { name = 97 ∷ []; kind = kinds.Boolean; nullable = false } ∷ []

some_schema_is : IsSchema some_schema
unfolding some_schema is_column_name IsDistinct
some_schema_is = record { some = omega arith; columns = record { few = omega arith; each = refl; distinct = (tt, tt) } }

files : List Part
files = Files ∷ []

files_are : AreAvailable files
unfolding files
files_are = record { files = refl; rising = refl }

-- ---- lines

head_not : (x : ℕ) (xs : List ℕ) → IsOneLine (x ∷ xs) → (x == 10) ≡ false
head_not x xs one = from (x == 10) (and_first (not (x == 10)) (list_all (λ y. not (y == 10)) xs) one)
  where
    from : (b : Bool) → not b ≡ true → b ≡ false
    from true h = absurd (cc h)
    from false h = refl

lines-line : (line rest : List ℕ) → IsOneLine line → lines_of ((line ++ 10 ∷ []) ++ rest) ≡ (line ++ 10 ∷ []) ∷ lines_of rest
lines-line [] rest one = refl
lines-line (x ∷ line) rest one =
    ap (λ (b : Bool). if b then (10 ∷ []) ∷ lines_of ((line ++ 10 ∷ []) ++ rest) else onto_first x (lines_of ((line ++ 10 ∷ []) ++ rest))) (head_not x line one)
    ∙ ap (onto_first x) (lines-line line rest (and_second (not (x == 10)) (list_all (λ y. not (y == 10)) line) one))

keyed_lines : (key text rest : List ℕ) → IsOneLine key → IsOneLine text → lines_of ((key ++ (text ++ 10 ∷ [])) ++ rest) ≡ (key ++ (text ++ 10 ∷ [])) ∷ lines_of rest
keyed_lines key text rest p q =
    subst (λ (line : List ℕ). lines_of (line ++ rest) ≡ line ∷ lines_of rest) (append_assoc key text (10 ∷ []))
    (lines-line (key ++ text) rest (list_all-append (λ x. not (x == 10)) key text ∙ and_both _ _ p q))

available_lines : (parts : List Part) (rest : List ℕ) → lines_of (available_line parts ++ rest) ≡ available_line parts ∷ lines_of rest
unfolding available_line
available_lines parts rest = keyed_lines (codes "hoodie.table.metadata.partitions=") (parts_text parts) rest refl (plain_one_line (parts_text parts) (parts_plain parts))

building_lines : (building : Option Part) (rest : List ℕ) → lines_of (building_line building ++ rest) ≡ building_line building ∷ lines_of rest
unfolding building_line
building_lines building rest = keyed_lines (codes "hoodie.table.metadata.partitions.inflight=") (parts_text (option_to_list building)) rest refl (plain_one_line (parts_text (option_to_list building)) (parts_plain (option_to_list building)))

version_lines : (rest : List ℕ) → lines_of (version_line ++ rest) ≡ version_line ∷ lines_of rest
unfolding version_line
version_lines rest = lines-line (codes "hoodie.table.version=6") rest refl

schema_lines : (schema : List Column) (rest : List ℕ) → IsSchema schema → lines_of (schema_line schema ++ rest) ≡ schema_line schema ∷ lines_of rest
unfolding schema_line
schema_lines schema rest is = keyed_lines (codes "mdt.schema=") (schema_text schema) rest refl (plain_one_line (schema_text schema) (schema_plain schema is))

concat-onto_first : (x : ℕ) (lines : List (List ℕ)) → concat (onto_first x lines) ≡ x ∷ concat lines
concat-onto_first x [] = refl
concat-onto_first x (line ∷ lines) = refl

joined : (b : ℕ) (bytes : List ℕ) (t : Bool) → (b == 10) ≡ t → concat (lines_of bytes) ≡ bytes → concat (if t then (10 ∷ []) ∷ lines_of bytes else onto_first b (lines_of bytes)) ≡ b ∷ bytes
joined b bytes true e rest = let same : b ≡ 10 = (Decides-eqb b 10).0 e in ap (λ (more : List ℕ). 10 ∷ more) rest ∙ ap (λ (x : ℕ). x ∷ bytes) (sym same)
joined b bytes false e rest = concat-onto_first b (lines_of bytes) ∙ ap (λ (more : List ℕ). b ∷ more) rest

concat-lines_of : (bytes : List ℕ) → concat (lines_of bytes) ≡ bytes
concat-lines_of [] = refl
concat-lines_of (b ∷ bytes) = joined b bytes (b == 10) refl (concat-lines_of bytes)

-- the first line stands in front
front_line : (lines : List (List ℕ)) (line : List ℕ) → take 1 lines ≡ line ∷ [] → concat lines ≡ line ++ concat (drop 1 lines)
front_line [] line e = absurd (cc e)
front_line (x ∷ lines) line e = let same : x ≡ line = cc e in ap (λ (l : List ℕ). l ++ concat lines) same

in_front : (bytes line : List ℕ) → take 1 (lines_of bytes) ≡ line ∷ [] → bytes ≡ line ++ concat (drop 1 (lines_of bytes))
in_front bytes line e = sym (concat-lines_of bytes) ∙ front_line (lines_of bytes) line e

take_none : (xs ys : List (List ℕ)) → take 0 xs ≡ take 0 ys
take_none [] [] = refl
take_none [] (y ∷ ys) = refl
take_none (x ∷ xs) [] = refl
take_none (x ∷ xs) (y ∷ ys) = refl

same_head : (x y : List ℕ) (xs ys : List (List ℕ)) → x ∷ xs ≡ y ∷ ys → x ≡ y
same_head x y xs ys e = cc e

same_tail : (x y : List ℕ) (xs ys : List (List ℕ)) → x ∷ xs ≡ y ∷ ys → xs ≡ ys
same_tail x y xs ys e = cc e

available_line-injective : (xs ys : List Part) → AreAvailable xs → AreAvailable ys → available_line xs ≡ available_line ys → xs ≡ ys
unfolding available_line
available_line-injective xs ys p q e =
    parts_text-injective xs ys (available_some xs p) (available_some ys q)
    (append_cancel_right (parts_text xs) (parts_text ys) (10 ∷ []) (append_cancel_left (codes "hoodie.table.metadata.partitions=") (parts_text xs ++ 10 ∷ []) (parts_text ys ++ 10 ∷ []) e))

building_line-injective : (a b : Option Part) → building_line a ≡ building_line b → a ≡ b
unfolding building_line
building_line-injective a b e =
    one_text-injective a b
    (append_cancel_right (parts_text (option_to_list a)) (parts_text (option_to_list b)) (10 ∷ []) (append_cancel_left (codes "hoodie.table.metadata.partitions.inflight=") (parts_text (option_to_list a) ++ 10 ∷ []) (parts_text (option_to_list b) ++ 10 ∷ []) e))

schema_line-injective : (s t : List Column) → IsSchema s → IsSchema t → schema_line s ≡ schema_line t → s ≡ t
unfolding schema_line
schema_line-injective s t p q e =
    same_schema s t p q
    (append_cancel_right (schema_text s) (schema_text t) (10 ∷ []) (append_cancel_left (codes "mdt.schema=") (schema_text s ++ 10 ∷ []) (schema_text t ++ 10 ∷ []) e))

-- ---- the first bad line

bad_first : (bytes : List ℕ) → ((parts : List Part) (rest : List ℕ) → AreAvailable parts → bytes ≢ available_line parts ++ rest) → IsFirstBad bytes 0
bad_first bytes none = record {
  before = (record { available = files; building = None; schema = some_schema }, record { available = files_are; building = tt; schema = some_schema_is }, take_none (lines_of bytes) (config_lines (record { available = files; building = None; schema = some_schema })));
  here = λ found. none found.0.available (concat (drop 1 (lines_of bytes))) found.1.available (in_front bytes (available_line found.0.available) (found.2 ∙ ap (λ (ls : List (List ℕ)). available_line found.0.available ∷ ls) (take_none (building_line found.0.building ∷ version_line ∷ schema_line found.0.schema ∷ []) [])));
}

bad_second : (bytes after : List ℕ) (parts : List Part) → AreAvailable parts → bytes ≡ available_line parts ++ after → ((building : Option Part) (rest : List ℕ) → IsApart parts building → after ≢ building_line building ++ rest) → IsFirstBad bytes 1
bad_second bytes after parts are e none =
    let lines : lines_of bytes ≡ available_line parts ∷ lines_of after = ap lines_of e ∙ available_lines parts after in
    record {
      before = (record { available = parts; building = None; schema = some_schema }, record { available = are; building = tt; schema = some_schema_is }, ap (take 1) lines);
      here = λ found.
          let both : available_line parts ∷ take 1 (lines_of after) ≡ available_line found.0.available ∷ building_line found.0.building ∷ [] = sym (ap (take 2) lines) ∙ found.2 in
          let same : found.0.available ≡ parts = sym (available_line-injective parts found.0.available are found.1.available (same_head _ _ _ _ both)) in
          none found.0.building (concat (drop 1 (lines_of after))) (subst (λ (ps : List Part). IsApart ps found.0.building) same found.1.building) (in_front after (building_line found.0.building) (same_tail _ _ _ _ both));
    }

bad_third : (bytes after behind : List ℕ) (parts : List Part) (building : Option Part) → AreAvailable parts → bytes ≡ available_line parts ++ after → IsApart parts building → after ≡ building_line building ++ behind → ((rest : List ℕ) → behind ≢ version_line ++ rest) → IsFirstBad bytes 2
bad_third bytes after behind parts building are e apart f none =
    let lines : lines_of bytes ≡ available_line parts ∷ building_line building ∷ lines_of behind = ap lines_of e ∙ available_lines parts after ∙ ap (λ (ls : List (List ℕ)). available_line parts ∷ ls) (ap lines_of f ∙ building_lines building behind) in
    record {
      before = (record { available = parts; building = building; schema = some_schema }, record { available = are; building = apart; schema = some_schema_is }, ap (take 2) lines);
      here = λ found.
          let all : available_line parts ∷ building_line building ∷ take 1 (lines_of behind) ≡ available_line found.0.available ∷ building_line found.0.building ∷ version_line ∷ [] = sym (ap (take 3) lines) ∙ found.2 in
          none (concat (drop 1 (lines_of behind))) (in_front behind version_line (same_tail _ _ _ _ (same_tail _ _ _ _ all)));
    }

bad_fourth : (bytes after behind left : List ℕ) (parts : List Part) (building : Option Part) → AreAvailable parts → bytes ≡ available_line parts ++ after → IsApart parts building → after ≡ building_line building ++ behind → behind ≡ version_line ++ left
    → ((schema : List Column) (rest : List ℕ) → IsSchema schema → left ≢ schema_line schema ++ rest) → IsFirstBad bytes 3
bad_fourth bytes after behind left parts building are e apart f g none =
    let lines : lines_of bytes ≡ available_line parts ∷ building_line building ∷ version_line ∷ lines_of left =
    ap lines_of e ∙ available_lines parts after ∙ ap (λ (ls : List (List ℕ)). available_line parts ∷ ls) (ap lines_of f ∙ building_lines building behind ∙ ap (λ (ls : List (List ℕ)). building_line building ∷ ls) (ap lines_of g ∙ version_lines left)) in
    record {
      before = (record { available = parts; building = building; schema = some_schema }, record { available = are; building = apart; schema = some_schema_is }, ap (take 3) lines);
      here = λ found.
          let all : available_line parts ∷ building_line building ∷ version_line ∷ take 1 (lines_of left) ≡ available_line found.0.available ∷ building_line found.0.building ∷ version_line ∷ schema_line found.0.schema ∷ [] = sym (ap (take 4) lines) ∙ found.2 in
          none found.0.schema (concat (drop 1 (lines_of left))) found.1.schema (in_front left (schema_line found.0.schema) (same_tail _ _ _ _ (same_tail _ _ _ _ (same_tail _ _ _ _ all))));
    }

no_first : (lines : List (List ℕ)) → take 1 lines ≡ [] → lines ≡ []
no_first [] e = refl
no_first (line ∷ lines) e = absurd (cc e)

bad_end : (bytes after behind left more : List ℕ) (config : Config) → IsConfig config → bytes ≡ available_line config.available ++ after → after ≡ building_line config.building ++ behind → behind ≡ version_line ++ left → left ≡ schema_line config.schema ++ more → more ≢ [] → IsFirstBad bytes 4
bad_end bytes after behind left more config is e f g h some =
    let lines : lines_of bytes ≡ available_line config.available ∷ building_line config.building ∷ version_line ∷ schema_line config.schema ∷ lines_of more =
    ap lines_of e ∙ available_lines config.available after ∙ ap (λ (ls : List (List ℕ)). available_line config.available ∷ ls) (ap lines_of f ∙ building_lines config.building behind ∙ ap (λ (ls : List (List ℕ)). building_line config.building ∷ ls) (ap lines_of g ∙ version_lines left ∙ ap (λ (ls : List (List ℕ)). version_line ∷ ls) (ap lines_of h ∙ schema_lines config.schema more is.schema))) in
    record {
      before = (config, is, ap (take 4) lines);
      here = λ found.
          let all : available_line config.available ∷ building_line config.building ∷ version_line ∷ schema_line config.schema ∷ take 1 (lines_of more) ≡ available_line found.0.available ∷ building_line found.0.building ∷ version_line ∷ schema_line found.0.schema ∷ [] = sym (ap (take 5) lines) ∙ found.2 in
          some (sym (concat-lines_of more) ∙ ap concat (no_first (lines_of more) (same_tail _ _ _ _ (same_tail _ _ _ _ (same_tail _ _ _ _ (same_tail _ _ _ _ all))))));
    }

-- ---- refusals of the readers

pub refused_first : {T : Type 0} (bytes : List ℕ) (out : Result T PropsError) (e : PropsError) → out ≡ Err e → Refuses AreAvailable 0 available_line bytes e → SaysBadLine bytes out
refused_first {T} bytes out e is why = subst (λ (r : Result T PropsError). SaysBadLine bytes r) (sym is) (says e why)
  where
    says : (e : PropsError) → Refuses AreAvailable 0 available_line bytes e → SaysBadLine {T = T} bytes (Err e)
    says errors.NoMemory why = tt
    says (errors.BadProps line) why = subst (IsFirstBad bytes) (sym why.0) (bad_first bytes why.1)
    says (errors.Version found) why = absurd why

pub refused_second : {T : Type 0} (bytes after : List ℕ) (parts : List Part) (out : Result T PropsError) (e : PropsError) → out ≡ Err e → AreAvailable parts × (bytes ≡ available_line parts ++ after) → Refuses (IsApart parts) 1 building_line after e → SaysBadLine bytes out
refused_second {T} bytes after parts out e is first why = subst (λ (r : Result T PropsError). SaysBadLine bytes r) (sym is) (says e why)
  where
    says : (e : PropsError) → Refuses (IsApart parts) 1 building_line after e → SaysBadLine {T = T} bytes (Err e)
    says errors.NoMemory why = tt
    says (errors.BadProps line) why = subst (IsFirstBad bytes) (sym why.0) (bad_second bytes after parts first.0 first.1 why.1)
    says (errors.Version found) why = absurd why

pub refused_third : (bytes after behind : List ℕ) (parts : List Part) (building : Option Part) → AreAvailable parts × (bytes ≡ available_line parts ++ after) → IsApart parts building × (after ≡ building_line building ++ behind) → ((rest : List ℕ) → behind ≢ version_line ++ rest) → IsFirstBad bytes 2
refused_third bytes after behind parts building first second none = bad_third bytes after behind parts building first.0 first.1 second.0 second.1 none

pub refused_fourth : {T : Type 0} (bytes after behind left : List ℕ) (parts : List Part) (building : Option Part) (out : Result T PropsError) (e : PropsError) → out ≡ Err e → AreAvailable parts × (bytes ≡ available_line parts ++ after) → IsApart parts building × (after ≡ building_line building ++ behind) → behind ≡ version_line ++ left
    → Refuses IsSchema 3 schema_line left e → SaysBadLine bytes out
refused_fourth {T} bytes after behind left parts building out e is first second third why = subst (λ (r : Result T PropsError). SaysBadLine bytes r) (sym is) (says e why)
  where
    says : (e : PropsError) → Refuses IsSchema 3 schema_line left e → SaysBadLine {T = T} bytes (Err e)
    says errors.NoMemory why = tt
    says (errors.BadProps line) why = subst (IsFirstBad bytes) (sym why.0) (bad_fourth bytes after behind left parts building first.0 first.1 second.0 second.1 third why.1)
    says (errors.Version found) why = absurd why

pub refused_end : (bytes after behind left more : List ℕ) (parts : List Part) (building : Option Part) (schema : List Column) → AreAvailable parts × (bytes ≡ available_line parts ++ after) → IsApart parts building × (after ≡ building_line building ++ behind) → behind ≡ version_line ++ left → IsSchema schema × (left ≡ schema_line schema ++ more) → more ≢ [] → IsFirstBad bytes 4
refused_end bytes after behind left more parts building schema first second third fourth some =
    bad_end bytes after behind left more (record { available = parts; building = building; schema = schema }) (record { available = first.0; building = second.0; schema = fourth.0 }) first.1 second.1 third fourth.1 some

-- ---- a config's text

pub whole : (bytes after behind left more : List ℕ) (parts : List Part) (building : Option Part) (schema : List Column) → AreAvailable parts × (bytes ≡ available_line parts ++ after) → IsApart parts building × (after ≡ building_line building ++ behind) → behind ≡ version_line ++ left → IsSchema schema × (left ≡ schema_line schema ++ more) → more ≡ []
    → IsConfig (record { available = parts; building = building; schema = schema }) × (bytes ≡ config_text (record { available = parts; building = building; schema = schema }))
whole bytes after behind left more parts building schema first second third fourth none = (
  record { available = first.0; building = second.0; schema = fourth.0 },
  first.1 ∙ ap (λ (r : List ℕ). available_line parts ++ r) (second.1 ∙ ap (λ (r : List ℕ). building_line building ++ r) (third ∙ ap (λ (r : List ℕ). version_line ++ r) (fourth.1 ∙ ap (λ (r : List ℕ). schema_line schema ++ r) none))),
)

lines-config_text : (config : Config) → IsConfig config → lines_of (config_text config) ≡ config_lines config
lines-config_text config is =
    available_lines config.available (building_line config.building ++ (version_line ++ (schema_line config.schema ++ [])))
    ∙ ap (λ (ls : List (List ℕ)). available_line config.available ∷ ls) (building_lines config.building (version_line ++ (schema_line config.schema ++ []))
    ∙ ap (λ (ls : List (List ℕ)). building_line config.building ∷ ls) (version_lines (schema_line config.schema ++ [])
    ∙ ap (λ (ls : List (List ℕ)). version_line ∷ ls) (schema_lines config.schema [] is.schema)))

same_config : (a b : Config) → IsConfig a → IsConfig b → config_text a ≡ config_text b → a ≡ b
same_config a b p q e =
    let lines : config_lines a ≡ config_lines b = sym (lines-config_text a p) ∙ ap lines_of e ∙ lines-config_text b q in
    let available : a.available ≡ b.available = available_line-injective a.available b.available p.available q.available (same_head _ _ _ _ lines) in
    let building : a.building ≡ b.building = building_line-injective a.building b.building (same_head _ _ _ _ (same_tail _ _ _ _ lines)) in
    let schema : a.schema ≡ b.schema = schema_line-injective a.schema b.schema p.schema q.schema (same_head _ _ _ _ (same_tail _ _ _ _ (same_tail _ _ _ _ (same_tail _ _ _ _ lines)))) in
    λ i. record { available = available i; building = building i; schema = schema i }

not_bad : (bytes : List ℕ) (config : Config) (line : ℕ) → IsConfig config → bytes ≡ config_text config → IsFirstBad bytes line → ⊥
not_bad bytes config line is e bad = bad.here (config, is, ap (λ (b : List ℕ). take (line + 1) (lines_of b)) e ∙ ap (take (line + 1)) (lines-config_text config is))

keyed_split : (key text rest : List ℕ) → IsOneLine key → IsOneLine text → slice_split (λ byte. byte == 10) ((key ++ (text ++ 10 ∷ [])) ++ rest) ≡ (key ++ text) ∷ slice_split (λ byte. byte == 10) rest
keyed_split key text rest p q =
    ap (slice_split (λ byte. byte == 10)) (line_shape key text rest ∙ sym (append_assoc key text (10 ∷ rest)))
    ∙ slice_split_at (λ byte. byte == 10) (key ++ text) 10 rest (All-lacks 10 (key ++ text) (list_all-append (λ x. not (x == 10)) key text ∙ and_both _ _ p q)) refl

is_six : version_of (codes "hoodie.table.version=6") ≡ Some 6
unfolding version_of version_number
is_six = refl

third_piece : (x y z : List ℕ) (zs : List (List ℕ)) → slice_get (x ∷ y ∷ z ∷ zs) 2 ≡ Some z
third_piece x y z zs = refl

version_again : (config : Config) → version_in (config_text config) ≡ Some 6
unfolding available_line building_line version_line
version_again config =
    let last : List ℕ = schema_line config.schema ++ [] in
    let first = keyed_split (codes "hoodie.table.metadata.partitions=") (parts_text config.available) (building_line config.building ++ (version_line ++ last)) refl (plain_one_line (parts_text config.available) (parts_plain config.available)) in
    let second = keyed_split (codes "hoodie.table.metadata.partitions.inflight=") (parts_text (option_to_list config.building)) (version_line ++ last) refl (plain_one_line (parts_text (option_to_list config.building)) (parts_plain (option_to_list config.building))) in
    let third = slice_split_at (λ byte. byte == 10) (codes "hoodie.table.version=6") 10 last (All-lacks 10 (codes "hoodie.table.version=6") refl) refl in
    ap (λ (ps : List (List ℕ)). option_and_then version_of (slice_get ps 2))
    (first ∙ ap (λ (ps : List (List ℕ)). (codes "hoodie.table.metadata.partitions=" ++ parts_text config.available) ∷ ps) (second ∙ ap (λ (ps : List (List ℕ)). (codes "hoodie.table.metadata.partitions.inflight=" ++ parts_text (option_to_list config.building)) ∷ ps) third))
    ∙ is_six

pub only : (bytes : List ℕ) (config : Config) (r : Result Config PropsError) → IsConfig config → bytes ≡ config_text config → IfOk r (λ found. IsConfig found × (bytes ≡ config_text found)) → SaysWhy bytes r → IsOnly config r
only bytes config (Ok found) is e ok why = same_config found config ok.0 is (sym ok.1 ∙ e)
only bytes config (Err errors.NoMemory) is e ok why = tt
only bytes config (Err (errors.BadProps line)) is e ok why = not_bad bytes config line is e why
only bytes config (Err (errors.Version found)) is e ok why =
    let six : Some 6 ≡ Some found = sym (version_again config) ∙ sym (ap version_in e) ∙ why.gives in
    why.other (cc six)

pub bad_why : (bytes : List ℕ) (r : Result Config PropsError) → SaysBadLine bytes r → SaysWhy bytes r
bad_why bytes (Ok config) bad = tt
bad_why bytes (Err errors.NoMemory) bad = tt
bad_why bytes (Err (errors.BadProps line)) bad = bad
bad_why bytes (Err (errors.Version found)) bad = absurd bad

-- what is printed is the text
pub printed : (config : Config) (a b s : List ℕ) → a ≡ parts_text config.available → b ≡ parts_text (option_to_list config.building) → s ≡ schema_text config.schema
    → codes "hoodie.table.metadata.partitions=" ++ (a ++ 10 ∷ (codes "hoodie.table.metadata.partitions.inflight=" ++ (b ++ 10 ∷ (codes "hoodie.table.version=6" ++ 10 ∷ (codes "mdt.schema=" ++ (s ++ 10 ∷ [])))))) ≡ config_text config
unfolding available_line building_line version_line schema_line
printed config a b s p q r =
    let last : List ℕ = codes "mdt.schema=" ++ (schema_text config.schema ++ 10 ∷ []) in
    let third : List ℕ = codes "hoodie.table.version=6" ++ 10 ∷ last in
    let end : schema_line config.schema ++ [] ≡ last = append-nil (schema_line config.schema) in
    ap (λ (x : List ℕ). codes "hoodie.table.metadata.partitions=" ++ (x ++ 10 ∷ (codes "hoodie.table.metadata.partitions.inflight=" ++ (b ++ 10 ∷ (codes "hoodie.table.version=6" ++ 10 ∷ (codes "mdt.schema=" ++ (s ++ 10 ∷ []))))))) p
    ∙ ap (λ (x : List ℕ). codes "hoodie.table.metadata.partitions=" ++ (parts_text config.available ++ 10 ∷ (codes "hoodie.table.metadata.partitions.inflight=" ++ (x ++ 10 ∷ (codes "hoodie.table.version=6" ++ 10 ∷ (codes "mdt.schema=" ++ (s ++ 10 ∷ []))))))) q
    ∙ ap (λ (x : List ℕ). codes "hoodie.table.metadata.partitions=" ++ (parts_text config.available ++ 10 ∷ (codes "hoodie.table.metadata.partitions.inflight=" ++ (parts_text (option_to_list config.building) ++ 10 ∷ (codes "hoodie.table.version=6" ++ 10 ∷ (codes "mdt.schema=" ++ (x ++ 10 ∷ []))))))) r
    ∙ sym (line_shape (codes "hoodie.table.metadata.partitions=") (parts_text config.available) (codes "hoodie.table.metadata.partitions.inflight=" ++ (parts_text (option_to_list config.building) ++ 10 ∷ third)))
    ∙ sym (ap (λ (x : List ℕ). available_line config.available ++ x) (line_shape (codes "hoodie.table.metadata.partitions.inflight=") (parts_text (option_to_list config.building)) third))
    ∙ sym (ap (λ (x : List ℕ). available_line config.available ++ (building_line config.building ++ (version_line ++ x))) end)
