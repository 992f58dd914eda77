-- What is read of a file's end is what stands there.
use Rattle.std.proofs.Common.{◌≡◌, ℕ, ◌+◌, ◌-◌, ◌^◌, ◌<◌, ◌≤◌, Bool, true, false, ◌||◌, cond, eqb, ltb, leb, List, [], ◌++◌, length, take, drop, Result, Ok, Err, refl, sym, ap, subst, ◌∙◌, arith, length-append, append_assoc, append-nil}
use Rattle.std.specs.Int.{w32, to_le_bytes, from_le_bytes}
use Rattle.std.specs.List.{AllByRecursion}
use Rattle.std.specs.Str.{IsUtf8}
use Rattle.std.proofs.lemmas.Bool.{eqb-true, eq-eqb, leb-true, le-leb, ltb-false, le-ltb, or_from, or_parts}
use Rattle.std.proofs.lemmas.Slice.Eq.{bytes_eq-Decides}
use Rattle.std.proofs.lemmas.List.{take-take, take_at, drop_at, take-append-drop, length-take, length-drop}
use Rattle.std.proofs.Math.ListN.{drop_of_length-le}
use Rattle.std.proofs.lemmas.Nat.{le_bytes_4, from_le_bytes-to_le_bytes_4}
use Rattle.mx_lists.proofs.Codecs.{IsBytes, IsBytes-drop, IsBytes-take}
use Rattle.mx_thrift.specs.declared.error.ThriftError.{ThriftError}
use Rattle.mx_thrift.specs.Grammar as thrift
use Rattle.mx_thrift.specs.Decoding.{struct_at}
use Rattle.mx_thrift.proofs.Values.{found, reads_back}
use Rattle.mx_schema.specs.declared.column.Column.{Column}
use Rattle.mx_schema.specs.Columns.{IsSchema}
use Rattle.mx_parquet.specs.declared.row.FullRow.{FullRow}
use Rattle.mx_parquet.specs.declared.error.ParquetError.{ParquetError}
use Rattle.mx_parquet.specs.declared.error.ParquetError.TheVariants as errors
use Rattle.mx_parquet.specs.declared.layout.Layout.{Layout}
use Rattle.mx_parquet.specs.Columns.{columns_of}
use Rattle.mx_parquet.specs.Pages.{number}
use Rattle.mx_parquet.specs.Encoding.{magic}
use Rattle.mx_parquet.specs.Shape.{Struct}
use Rattle.mx_parquet.specs.Held.{IsLaidOut}
use Rattle.mx_parquet.specs.Decoding.{IsFullRow, Decodes}
use Rattle.mx_parquet.specs.Reading.{Read}
use Rattle.mx_parquet.specs.Footer.{layout_in, rows_in}
use Rattle.mx_parquet.specs.Opening.{is_magic, said_length, footer_place, filling, struct_from, judged, said_at, layout_at, file_layout}
use Rattle.mx_parquet.proofs.Files.{magic-length}
use Rattle.mx_parquet.proofs.GroupsSay.{layout_says, layout_reads, layout_few, layout_sum}

-- ---- the place of the footer

tests : (a b c d : Bool) (x y z at : ℕ) → cond a (Err 0) (cond b (cond c (cond d (Ok x) (Err y)) (Err z)) (Err 0)) ≡ Ok at → (a ≡ false) × (b ≡ true) × (c ≡ true) × (d ≡ true) × (x ≡ at)
tests true b c d x y z at e = absurd cc
tests false false c d x y z at e = absurd cc
tests false true false d x y z at e = absurd cc
tests false true true false x y z at e = absurd cc
tests false true true true x y z at e = (refl, refl, refl, refl, cc)

-- a file with a footer between the magics, which begins at a place
pub record Frames (file : List ℕ) (at : ℕ) : Type 0 where
  pub few : length file ≤ 4_194_304
  pub front : List ℕ
  pub footer : List ℕ
  pub small : length footer < 2 ^ 32
  pub place : at ≡ length (magic ++ front)
  pub parts : file ≡ magic ++ front ++ footer ++ number w32 (length footer) ++ magic

pub place_says : (file : List ℕ) (at : ℕ) → IsBytes file → footer_place file ≡ Ok at → Frames file at
unfolding footer_place number
place_says file at fits e =
    let len = length file in
    let n = said_length file in
    let t = tests (ltb len 12 || ltb 4_194_304 len) (is_magic (take 4 file)) (is_magic (drop (len - 4) file)) (leb (n + 12) len) (len - 8 - n) (len - 8) (len - 4) at e in
    let size = or_parts (ltb len 12) (ltb 4_194_304 len) t.0 in
    let least : 12 ≤ len = ltb-false len 12 size.0 in
    let most : len ≤ 4_194_304 = ltb-false 4_194_304 len size.1 in
    let room : n + 12 ≤ len = leb-true (n + 12) len t.3 in
    let first : take 4 file ≡ magic = (bytes_eq-Decides (take 4 file) magic).0 t.1 in
    let last : drop (len - 4) file ≡ magic = (bytes_eq-Decides (drop (len - 4) file) magic).0 t.2 in
    let x = take (len - 4) file in
    let y = take (len - 8) x in
    let number4 = drop (len - 8) x in
    let z = take at y in
    let footer = drop at y in
    let front = drop 4 z in
    let x-len : length x ≡ len - 4 = omega (arith, length-take (len - 4) file) in
    let y-len : length y ≡ len - 8 = omega (arith, length-take (len - 8) x, x-len) in
    let number-len : length number4 ≡ 4 = omega (arith, length-drop (len - 8) x, x-len) in
    let footer-len : length footer ≡ n = omega (arith, length-drop at y, y-len, t.4) in
    let number-is : to_le_bytes w32 n ≡ number4 = le_bytes_4 number4 n number-len (IsBytes-drop (len - 8) x (IsBytes-take (len - 4) file fits)) refl in
    let begins : take 4 z ≡ magic =
    take-take 4 at y (omega (arith, t.4)) ∙ take-take 4 (len - 8) x (omega arith) ∙ take-take 4 (len - 4) file (omega arith) ∙ first in
    let z-is : magic ++ front ≡ z = ap (λ (m : List ℕ). m ++ front) (sym begins) ∙ take-append-drop 4 z in
    let number-says : number w32 (length footer) ≡ number4 = ap (number w32) footer-len ∙ number-is in
    let all : magic ++ front ++ footer ++ number w32 (length footer) ++ magic ≡ file =
    ap (λ (m : List ℕ). m ++ footer ++ number w32 (length footer) ++ magic) z-is
    ∙ ap (λ (m : List ℕ). m ++ number w32 (length footer) ++ magic) (take-append-drop at y)
    ∙ ap (λ (m : List ℕ). y ++ m ++ magic) number-says
    ∙ ap (λ (m : List ℕ). m ++ magic) (take-append-drop (len - 8) x)
    ∙ ap (λ (m : List ℕ). x ++ m) (sym last) ∙ take-append-drop (len - 4) file in
    record {
      few = most;
      front = front;
      footer = footer;
      small = omega (arith, footer-len);
      place = omega (arith, ap length z-is, length-take at y, y-len, t.4);
      parts = sym all;
    }

-- lengths of the parts
frame-length : (file : List ℕ) (at : ℕ) (is : Frames file at) → length file ≡ length is.front + length is.footer + 12
unfolding number
frame-length file at is =
    omega (
      arith,
      ap length is.parts,
      length-append (magic ++ is.front ++ is.footer ++ number w32 (length is.footer)) magic,
      length-append (magic ++ is.front ++ is.footer) (number w32 (length is.footer)),
      length-append (magic ++ is.front) is.footer,
      length-append magic is.front,
      magic-length,
    )

pub place_reads : (file : List ℕ) (at : ℕ) → Frames file at → footer_place file ≡ Ok at
unfolding footer_place number
place_reads file at is =
    let len = length file in
    let size = frame-length file at is in
    let z = magic ++ is.front in
    let y = z ++ is.footer in
    let x = y ++ number w32 (length is.footer) in
    let z-len : length z ≡ 4 + length is.front = omega (arith, length-append magic is.front, magic-length) in
    let y-len : length y ≡ len - 8 = omega (arith, length-append z is.footer, z-len, size) in
    let number-len : length (number w32 (length is.footer)) ≡ 4 = refl in
    let x-len : length x ≡ len - 4 = omega (arith, length-append y (number w32 (length is.footer)), number-len, y-len, size) in
    let x-is : take (len - 4) file ≡ x = ap (take (len - 4)) is.parts ∙ take_at x magic (len - 4) x-len in
    let last : drop (len - 4) file ≡ magic = ap (drop (len - 4)) is.parts ∙ drop_at x magic (len - 4) x-len in
    let y-is : take (len - 8) file ≡ y = sym (take-take (len - 8) (len - 4) file (omega arith)) ∙ ap (take (len - 8)) x-is ∙ take_at y (number w32 (length is.footer)) (len - 8) y-len in
    let z-is : take (length z) file ≡ z = sym (take-take (length z) (len - 8) file (omega (arith, z-len, size))) ∙ ap (take (length z)) y-is ∙ take_at z is.footer (length z) refl in
    let first : take 4 file ≡ magic = sym (take-take 4 (length z) file (omega (arith, z-len))) ∙ ap (take 4) z-is ∙ take_at magic is.front 4 magic-length in
    let number-is : drop (len - 8) (take (len - 4) file) ≡ number w32 (length is.footer) = ap (drop (len - 8)) x-is ∙ drop_at y (number w32 (length is.footer)) (len - 8) y-len in
    let said : said_length file ≡ length is.footer = ap (from_le_bytes w32) number-is ∙ from_le_bytes-to_le_bytes_4 (length is.footer) is.small in
    let place : len - 8 - said_length file ≡ at = omega (arith, said, is.place, z-len, size) in
    rw (
      or_from (ltb len 12) (ltb 4_194_304 len) (le-ltb len 12 (omega (arith, size))) (le-ltb 4_194_304 len is.few),
      (bytes_eq-Decides (take 4 file) magic).1 first,
      (bytes_eq-Decides (drop (len - 4) file) magic).1 last,
      le-leb (said_length file + 12) len (omega (arith, said, size)),
      place,
    ) refl

pub front_is : (file : List ℕ) (at : ℕ) (is : Frames file at) → take (length file - 8) file ≡ (magic ++ is.front) ++ is.footer
unfolding number
front_is file at is =
    let len = length file in
    let size = frame-length file at is in
    let y = magic ++ is.front ++ is.footer in
    let behind = number w32 (length is.footer) ++ magic in
    let y-len : length y ≡ len - 8 = omega (arith, length-append (magic ++ is.front) is.footer, length-append magic is.front, magic-length, size) in
    ap (take (len - 8)) (is.parts ∙ append_assoc y (number w32 (length is.footer)) magic) ∙ take_at y behind (len - 8) y-len

-- ---- the struct that fills the bytes

ended : (len : ℕ) (x : Struct × ℕ) (fields : Struct) (b : Bool) → eqb x.1 len ≡ b → cond b (Ok x.0) (Err (errors.BadParquet x.1)) ≡ Ok fields → (x.1 ≡ len) × (x.0 ≡ fields)
ended len x fields true is e = (eqb-true x.1 len is, cc)
ended len x fields false is e = absurd cc

filled : (bytes : List ℕ) (at : ℕ) (fields : Struct) (r : Result (Struct × ℕ) ThriftError) → IsBytes bytes → struct_at bytes at ≡ r → filling (length bytes) r ≡ Ok fields → thrift.Decodes (drop at bytes) fields
filled bytes at fields (Ok x) fits is e =
    let f = found bytes at (Ok x) fits is in
    let g = ended (length bytes) x fields (eqb x.1 (length bytes)) refl e in
    let nothing : drop x.1 bytes ≡ [] = drop_of_length-le bytes (omega (arith, g.0)) in
    let whole : f.0 ≡ drop at bytes = sym (f.1.1 ∙ ap (λ (rest : List ℕ). f.0 ++ rest) nothing ∙ append-nil f.0) in
    subst (λ (text : List ℕ). thrift.Decodes text fields) whole (subst (λ (s : Struct). thrift.Decodes f.0 s) g.1 f.2)
filled bytes at fields (Err error) fits is e = absurd cc

pub struct_says : (bytes : List ℕ) (at : ℕ) (fields : Struct) → IsBytes bytes → struct_from bytes at ≡ Ok fields → thrift.Decodes (drop at bytes) fields
unfolding struct_from
struct_says bytes at fields fits e = filled bytes at fields (struct_at bytes at) fits refl e

pub struct_reads : (front text : List ℕ) (fields : Struct) → thrift.Decodes text fields → struct_from (front ++ text) (length front) ≡ Ok fields
unfolding struct_from
struct_reads front text fields is =
    let read : struct_at (front ++ text) (length front) ≡ Ok (fields, length front + length text) =
    ap (λ (t : List ℕ). struct_at (front ++ t) (length front)) (sym (append-nil text)) ∙ reads_back fields text front [] is in
    rw (read, eq-eqb (length front + length text) (length (front ++ text)) (sym (length-append front text))) refl

-- ---- the whole

judged_ok : {A : Type 0} (at : ℕ) (r : Read A) (x : A) → judged at r ≡ Ok x → r ≡ Ok x
judged_ok at (Ok y) x e = let same : y ≡ x = cc in ap (λ (z : _). Ok z) same
judged_ok at (Err flaw) x e = absurd cc

said_ok : (len at : ℕ) (r : Result Struct ParquetError) (layout : Layout) → said_at len at r ≡ Ok layout → (fields : Struct) × (r ≡ Ok fields) × (layout_in len fields ≡ Ok layout)
said_ok len at (Ok fields) layout e = (fields, refl, judged_ok at (layout_in len fields) layout e)
said_ok len at (Err error) layout e = absurd cc

placed_ok : (file : List ℕ) (r : Result ℕ ℕ) (layout : Layout) → layout_at file r ≡ Ok layout → (at : ℕ) × (r ≡ Ok at) × (said_at (length file) at (struct_from (take (length file - 8) file) at) ≡ Ok layout)
placed_ok file (Ok at) layout e = (at, refl, e)
placed_ok file (Err at) layout e = absurd cc

pub file_says : (file : List ℕ) (layout : Layout) (schema : List Column) (rows : List FullRow) → IsBytes file → file_layout file ≡ Ok layout → IsLaidOut file layout schema rows
    → IsSchema schema → AllByRecursion (IsFullRow schema) rows → Decodes file schema rows
unfolding file_layout
file_says file layout schema rows fits e laid is_schema each =
    let p = placed_ok file (footer_place file) layout e in
    let s = said_ok (length file) p.0 (struct_from (take (length file - 8) file) p.0) layout p.2 in
    let frame = place_says file p.0 fits p.1 in
    let y = take (length file - 8) file in
    let behind : drop p.0 y ≡ frame.footer = ap (drop p.0) (front_is file p.0 frame) ∙ drop_at (magic ++ frame.front) frame.footer p.0 (sym frame.place) in
    record {
      few_bytes = frame.few;
      few_rows = layout_few (length file) s.0 layout (length rows) s.2 laid.counted;
      is_schema = is_schema;
      each = each;
      front = frame.front;
      footer = frame.footer;
      small = frame.small;
      parts = frame.parts;
      fields = s.0;
      said = subst (λ (text : List ℕ). thrift.Decodes text s.0) behind (struct_says y p.0 s.0 (IsBytes-take (length file - 8) file fits) s.1);
      is_footer = layout_says file s.0 layout schema rows s.2 laid;
    }

pub file_reads : (file : List ℕ) (schema : List Column) (rows : List FullRow) → AllByRecursion (λ column. IsUtf8 column.name) (columns_of schema) → Decodes file schema rows
    → (layout : Layout) × (file_layout file ≡ Ok layout) × IsLaidOut file layout schema rows
unfolding file_layout
file_reads file schema rows utf8 is =
    let at = length (magic ++ is.front) in
    let frame : Frames file at = record { few = is.few_bytes; front = is.front; footer = is.footer; small = is.small; place = refl; parts = is.parts } in
    let layout = layout_reads file is.fields schema rows utf8 is.few_rows is.is_footer in
    let read : struct_from (take (length file - 8) file) at ≡ Ok is.fields =
    ap (λ (bytes : List ℕ). struct_from bytes at) (front_is file at frame) ∙ struct_reads (magic ++ is.front) is.footer is.fields is.said in
    (layout.0, rw (place_reads file at frame, read, layout.1) refl, layout.2)

pub file_opened : (file : List ℕ) (layout : Layout) → IsBytes file → file_layout file ≡ Ok layout → (length file ≤ 4_194_304) × (rows_in layout.groups ≡ layout.row_count)
unfolding file_layout
file_opened file layout fits e =
    let p = placed_ok file (footer_place file) layout e in
    let s = said_ok (length file) p.0 (struct_from (take (length file - 8) file) p.0) layout p.2 in
    ((place_says file p.0 fits p.1).few, layout_sum (length file) s.0 layout s.2)
