-- What a layout says is what a footer of such chunks says.
use Rattle.std.proofs.Common.{◌≡◌, ℕ, ◌+◌, ◌≤◌, ℤ, pos, Bool, true, false, cond, eqb, leb, List, [], ◌∷◌, length, map, Ok, refl, sym, ap, subst, ◌∙◌, arith}
use Rattle.std.specs.List.{AllByRecursion, AllZip}
use Rattle.std.specs.Str.{IsUtf8}
use lib.Pointwise.{pointwise}
use Rattle.std.proofs.lemmas.Bool.{eqb-true, eq-eqb, leb-true, le-leb}
use Rattle.std.proofs.lemmas.Slice.Eq.{bytes_eq-Decides}
use Rattle.std.specs.Prelude.{nat_eq}
use Rattle.mx_thrift.specs.declared.value.Value.{Value}
use Rattle.mx_thrift.specs.declared.value.Value.TheVariants as values
use Rattle.mx_schema.specs.declared.cell.Cell.{Cell}
use Rattle.mx_schema.specs.declared.column.Column.{Column}
use Rattle.mx_schema.specs.declared.column.ColumnKind.{ColumnKind}
use Rattle.mx_parquet.specs.declared.error.Feature.TheVariants as features
use Rattle.mx_parquet.specs.declared.layout.ChunkPlace.{ChunkPlace}
use Rattle.mx_parquet.specs.Decoding.{Has, HasNo, IsElement, IsRoot, IsChunk, ArePages, values_of, is_id}
use Rattle.mx_parquet.specs.Shape.{Struct, type_code}
use Rattle.mx_parquet.specs.Held.{chunk_bytes}
use Rattle.mx_parquet.specs.Reading.{Read, ◌>>=◌, bad, unsupported, as_struct, as_bytes, int_in, long_in, bytes_in, struct_in, list_in, is_missing, count_of, each_in}
use Rattle.mx_parquet.specs.Footer.{element_in, element_at, root_at, columns_below, columns_in, kind_of, typed, named, uncompressed, counted, placed, data_in, chunk_at}
use Rattle.mx_parquet.proofs.OfKind.{is_struct, is_bytes}
use Rattle.mx_parquet.proofs.Said.{bind_ok, good, ok_is, struct_is, bytes_is, says_int, reads_int, says_long, reads_long, says_bytes, reads_bytes, says_struct, reads_struct, says_list, reads_list, is_id_is, is_id_same, count_is, missing_is, passed}
use Rattle.mx_parquet.proofs.ElementsSay.{element_says, element_reads, kind_reads}

-- ---- elements

pub elements_say : (vs : List Value) (cs : List Column) → each_in element_at vs ≡ Ok cs → (elements : List Struct) × (vs ≡ map values.Struct elements) × AllZip IsElement cs elements
unfolding each_in
elements_say [] cs e = ([], refl, subst (λ (xs : List Column). AllZip IsElement xs []) (ok_is [] cs e) tt)
elements_say (v ∷ vs) cs e =
    let first = bind_ok (element_at v) (λ c. each_in element_at vs >>= λ ds. good (c ∷ ds)) cs e in
    let rest = bind_ok (each_in element_at vs) (λ ds. good (first.0 ∷ ds)) cs first.2 in
    let fields = bind_ok (as_struct v) element_in first.0 first.1 in
    let others = elements_say vs rest.0 rest.1 in
    let is : v ∷ vs ≡ values.Struct fields.0 ∷ map values.Struct others.0 = ap (λ (u : Value). u ∷ vs) (struct_is v fields.0 fields.1) ∙ ap (λ (us : List Value). values.Struct fields.0 ∷ us) others.1 in
    (fields.0 ∷ others.0, is, subst (λ (xs : List Column). AllZip IsElement xs (fields.0 ∷ others.0)) (ok_is (first.0 ∷ rest.0) cs rest.2) (element_says fields.0 first.0 fields.2, others.2))

pub elements_read : (cs : List Column) (elements : List Struct) → AllByRecursion (λ c. IsUtf8 c.name) cs → AllZip IsElement cs elements → each_in element_at (map values.Struct elements) ≡ Ok cs
unfolding each_in
elements_read [] [] utf8 is = refl
elements_read [] (s ∷ ss) utf8 is = absurd is
elements_read (c ∷ cs) [] utf8 is = absurd is
elements_read (c ∷ cs) (s ∷ ss) utf8 is = rw (is_struct (values.Struct s) s refl, element_reads s c utf8.0 is.0, elements_read cs ss utf8.1 is.1) refl

pub root_says : (v : Value) (n : ℕ) → root_at v ≡ Ok n → (root : Struct) × (v ≡ values.Struct root) × IsRoot root n
unfolding root_at
root_says v n e =
    let root = bind_ok (as_struct v) (λ root. bytes_in 4 root >>= λ name. int_in 5 root >>= λ count. count_of count) n e in
    let name = bind_ok (bytes_in 4 root.0) (λ name. int_in 5 root.0 >>= λ count. count_of count) n root.2 in
    let count = bind_ok (int_in 5 root.0) (λ count. count_of count) n name.2 in (
      root.0,
      struct_is v root.0 root.1,
      record {
        name = name.0;
        named = says_bytes 4 root.0 name.0 name.1;
        counted = says_int 5 root.0 (pos n) (count.1 ∙ ap (λ (k : ℤ). good k) (count_is count.0 n count.2));
      },
    )

pub root_reads : (root : Struct) (n : ℕ) → IsRoot root n → root_at (values.Struct root) ≡ Ok n
unfolding root_at
root_reads root n is = rw (is_struct (values.Struct root) root refl, reads_bytes 4 root is.name is.named, reads_int 5 root (pos n) is.counted) refl

-- the elements of a footer, for its columns
pub record Describes (footer : Struct) (columns : List Column) : Type 0 where
  pub root : Struct
  pub elements : List Struct
  pub is_root : IsRoot root (length columns)
  pub are_elements : AllZip IsElement columns elements
  pub described : Has 2 footer (values.List 12 (values.Struct root ∷ map values.Struct elements))

below_says : (footer : Struct) (items : List Value) (columns : List Column) → list_in 12 2 footer ≡ Ok items → columns_below items ≡ Ok columns → Describes footer columns
below_says footer [] columns said e = absurd cc
below_says footer (v ∷ vs) columns said e =
    let count = bind_ok (root_at v) (λ count. each_in element_at vs >>= λ cs. cond (eqb (length cs) count) (good cs) bad) columns e in
    let cs = bind_ok (each_in element_at vs) (λ cs. cond (eqb (length cs) count.0) (good cs) bad) columns count.2 in
    let same = passed (eqb (length cs.0) count.0) cs.0 columns cs.2 in
    let root = root_says v count.0 count.1 in
    let elements = elements_say vs cs.0 cs.1 in
    let len : count.0 ≡ length columns = sym (eqb-true (length cs.0) count.0 same.0) ∙ ap length same.1 in
    let items : v ∷ vs ≡ values.Struct root.0 ∷ map values.Struct elements.0 = ap (λ (u : Value). u ∷ vs) root.1 ∙ ap (λ (us : List Value). values.Struct root.0 ∷ us) elements.1 in
    record {
      root = root.0;
      elements = elements.0;
      is_root = subst (λ (n : ℕ). IsRoot root.0 n) len root.2;
      are_elements = subst (λ (xs : List Column). AllZip IsElement xs elements.0) same.1 elements.2;
      described = says_list 12 2 footer (values.Struct root.0 ∷ map values.Struct elements.0) (said ∙ ap (λ (us : List Value). good us) items);
    }

pub columns_say : (footer : Struct) (columns : List Column) → columns_in footer ≡ Ok columns → Describes footer columns
unfolding columns_in
columns_say footer columns e =
    let items = bind_ok (list_in 12 2 footer) columns_below columns e in
    below_says footer items.0 columns items.1 items.2

pub columns_read : (footer : Struct) (columns : List Column) → AllByRecursion (λ c. IsUtf8 c.name) columns → Describes footer columns → columns_in footer ≡ Ok columns
unfolding columns_in
columns_read footer columns utf8 is =
    rw (
      reads_list 12 2 footer (values.Struct is.root ∷ map values.Struct is.elements) is.described,
      root_reads is.root (length columns) is.is_root,
      elements_read columns is.elements utf8 is.are_elements,
      eq-eqb (length columns) (length columns) refl,
    ) refl

-- ---- chunks

type_says : (kind : ColumnKind) (n : ℤ) (k : ColumnKind) → typed kind n ≡ Ok k → n ≡ pos (type_code kind)
type_says kind n k e =
    let found = bind_ok (kind_of n) (λ found. cond (is_id (type_code kind) n) (good found) bad) k e in
    is_id_is (type_code kind) n (passed (is_id (type_code kind) n) found.0 k found.2).0

type_reads : (kind : ColumnKind) → typed kind (pos (type_code kind)) ≡ Ok kind
type_reads kind = rw (kind_reads kind, is_id_same (type_code kind)) refl

name_says : (name : List ℕ) (path : List Value) (text : List ℕ) → named name path ≡ Ok text → path ≡ values.Bytes name ∷ []
name_says name [] text e = absurd cc
name_says name (v ∷ []) text e =
    let found = bind_ok (as_bytes v) (λ found. cond (pointwise nat_eq found name) (good found) bad) text e in
    let same = passed (pointwise nat_eq found.0 name) found.0 text found.2 in
    ap (λ (u : Value). u ∷ []) (bytes_is v found.0 found.1 ∙ ap (λ (t : List ℕ). values.Bytes t) ((bytes_eq-Decides found.0 name).0 same.0))
name_says name (v ∷ w ∷ more) text e = absurd cc

name_reads : (name : List ℕ) → named name (values.Bytes name ∷ []) ≡ Ok name
name_reads name = rw (is_bytes (values.Bytes name) name refl, (bytes_eq-Decides name name).1 refl) refl

codec_by : (n m : ℤ) (b : Bool) → is_id 0 n ≡ b → cond b (good n) (unsupported features.Codec) ≡ Ok m → n ≡ pos 0
codec_by n m true is e = is_id_is 0 n is
codec_by n m false is e = absurd cc

pub count_says : (wanted : ℕ) (n : ℤ) (m : ℕ) → counted wanted n ≡ Ok m → n ≡ pos wanted
count_says wanted n m e =
    let count = bind_ok (count_of n) (λ count. cond (eqb count wanted) (good count) bad) m e in
    let same = passed (eqb count.0 wanted) count.0 m count.2 in
    count_is n count.0 count.1 ∙ ap pos (eqb-true count.0 wanted same.0)

pub count_reads : (wanted : ℕ) → counted wanted (pos wanted) ≡ Ok wanted
count_reads wanted = rw (eq-eqb wanted wanted refl) refl

-- the last of what is said of a chunk
last_by : (len offset size : ℕ) (place : ChunkPlace) (b : Bool) (vs : List Value) → is_missing vs ≡ b → cond b (placed len offset size) (unsupported features.Page) ≡ Ok place
    → (vs ≡ []) × (offset + size ≤ len) × (place.offset ≡ offset) × (place.size ≡ size)
last_by len offset size place true vs is e =
    let p = passed (leb (offset + size) len) (record { offset = offset; size = size }) place e in
    (missing_is vs is, leb-true _ _ p.0, ap (λ (q : ChunkPlace). q.offset) (sym p.1), ap (λ (q : ChunkPlace). q.size) (sym p.1))
last_by len offset size place false vs is e = absurd cc

-- what is said of a chunk beside its pages
pub record Says (len row_count : ℕ) (column : Column) (fields : Struct) (place : ChunkPlace) : Type 0 where
  pub file_offset : ℤ
  pub offset_said : Has 2 fields (values.Long file_offset)
  pub inner : Struct
  pub inside : Has 3 fields (values.Struct inner)
  pub typed : Has 1 inner (values.Int (pos (type_code column.kind)))
  pub encodings : List Value
  pub encoded : Has 2 inner (values.List 5 encodings)
  pub named : Has 3 inner (values.List 8 (values.Bytes column.name ∷ []))
  pub plain_codec : Has 4 inner (values.Int (pos 0))
  pub counted : Has 5 inner (values.Long (pos row_count))
  pub whole : ℤ
  pub whole_said : Has 6 inner (values.Long whole)
  pub sized : Has 7 inner (values.Long (pos place.size))
  pub placed : Has 9 inner (values.Long (pos place.offset))
  pub no_dictionary : HasNo 11 inner
  pub within : place.offset + place.size ≤ len

-- what is said in the ColumnMetaData
record Inside (len row_count : ℕ) (column : Column) (inner : Struct) (place : ChunkPlace) : Type 0 where
  pub typed : Has 1 inner (values.Int (pos (type_code column.kind)))
  pub encodings : List Value
  pub encoded : Has 2 inner (values.List 5 encodings)
  pub named : Has 3 inner (values.List 8 (values.Bytes column.name ∷ []))
  pub plain_codec : Has 4 inner (values.Int (pos 0))
  pub counted : Has 5 inner (values.Long (pos row_count))
  pub whole : ℤ
  pub whole_said : Has 6 inner (values.Long whole)
  pub sized : Has 7 inner (values.Long (pos place.size))
  pub placed : Has 9 inner (values.Long (pos place.offset))
  pub no_dictionary : HasNo 11 inner
  pub within : place.offset + place.size ≤ len

module _ (len row_count : ℕ) (column : Column) (inner : Struct) where
  abbrev step12 : ℕ → ℕ → Read ChunkPlace
  step12 size offset = cond (is_missing (values_of 11 inner)) (placed len offset size) (unsupported features.Page)

  abbrev step10 : ℕ → Read ChunkPlace
  step10 size = long_in 9 inner >>= λ long_offset. count_of long_offset >>= λ offset. step12 size offset

  abbrev step8 : Read ChunkPlace
  step8 = long_in 6 inner >>= λ whole. long_in 7 inner >>= λ long_size. count_of long_size >>= λ size. step10 size

  abbrev step6 : Read ChunkPlace
  step6 = int_in 4 inner >>= λ codec. uncompressed codec >>= λ plain. long_in 5 inner >>= λ said. counted row_count said >>= λ count. step8

  abbrev step3 : Read ChunkPlace
  step3 = list_in 5 2 inner >>= λ encodings. list_in 8 3 inner >>= λ path. named column.name path >>= λ name. step6

  data_says : (place : ChunkPlace) → data_in len row_count column inner ≡ Ok place → Inside len row_count column inner place
  unfolding data_in
  data_says place e =
      let code = bind_ok (int_in 1 inner) (λ code. typed column.kind code >>= λ kind. step3) place e in
      let kind = bind_ok (typed column.kind code.0) (λ kind. step3) place code.2 in
      let encodings = bind_ok (list_in 5 2 inner) (λ encodings. list_in 8 3 inner >>= λ path. named column.name path >>= λ name. step6) place kind.2 in
      let path = bind_ok (list_in 8 3 inner) (λ path. named column.name path >>= λ name. step6) place encodings.2 in
      let name = bind_ok (named column.name path.0) (λ name. step6) place path.2 in
      let codec = bind_ok (int_in 4 inner) (λ codec. uncompressed codec >>= λ plain. long_in 5 inner >>= λ said. counted row_count said >>= λ count. step8) place name.2 in
      let plain = bind_ok (uncompressed codec.0) (λ plain. long_in 5 inner >>= λ said. counted row_count said >>= λ count. step8) place codec.2 in
      let said = bind_ok (long_in 5 inner) (λ said. counted row_count said >>= λ count. step8) place plain.2 in
      let count = bind_ok (counted row_count said.0) (λ count. step8) place said.2 in
      let whole = bind_ok (long_in 6 inner) (λ whole. long_in 7 inner >>= λ long_size. count_of long_size >>= λ size. step10 size) place count.2 in
      let long_size = bind_ok (long_in 7 inner) (λ long_size. count_of long_size >>= λ size. step10 size) place whole.2 in
      let size = bind_ok (count_of long_size.0) (λ size. step10 size) place long_size.2 in
      let long_offset = bind_ok (long_in 9 inner) (λ long_offset. count_of long_offset >>= λ offset. step12 size.0 offset) place size.2 in
      let offset = bind_ok (count_of long_offset.0) (λ offset. step12 size.0 offset) place long_offset.2 in
      let last = last_by len offset.0 size.0 place (is_missing (values_of 11 inner)) (values_of 11 inner) refl offset.2 in
      record {
        typed = says_int 1 inner (pos (type_code column.kind)) (code.1 ∙ ap (λ (k : ℤ). good k) (type_says column.kind code.0 kind.0 kind.1));
        encodings = encodings.0;
        encoded = says_list 5 2 inner encodings.0 encodings.1;
        named = says_list 8 3 inner (values.Bytes column.name ∷ []) (path.1 ∙ ap (λ (vs : List Value). good vs) (name_says column.name path.0 name.0 name.1));
        plain_codec = says_int 4 inner (pos 0) (codec.1 ∙ ap (λ (k : ℤ). good k) (codec_by codec.0 plain.0 (is_id 0 codec.0) refl plain.1));
        counted = says_long 5 inner (pos row_count) (said.1 ∙ ap (λ (k : ℤ). good k) (count_says row_count said.0 count.0 count.1));
        whole = whole.0;
        whole_said = says_long 6 inner whole.0 whole.1;
        sized = says_long 7 inner (pos place.size) (long_size.1 ∙ ap (λ (k : ℤ). good k) (count_is long_size.0 size.0 size.1 ∙ ap pos (sym last.3)));
        placed = says_long 9 inner (pos place.offset) (long_offset.1 ∙ ap (λ (k : ℤ). good k) (count_is long_offset.0 offset.0 offset.1 ∙ ap pos (sym last.2)));
        no_dictionary = last.0;
        within = omega (arith, last.1, last.2, last.3);
      }

  data_reads : (place : ChunkPlace) → Inside len row_count column inner place → data_in len row_count column inner ≡ Ok place
  unfolding data_in
  data_reads place is =
      rw (
        reads_int 1 inner (pos (type_code column.kind)) is.typed,
        type_reads column.kind,
        reads_list 5 2 inner is.encodings is.encoded,
        reads_list 8 3 inner (values.Bytes column.name ∷ []) is.named,
        name_reads column.name,
        reads_int 4 inner (pos 0) is.plain_codec,
        reads_long 5 inner (pos row_count) is.counted,
        count_reads row_count,
        reads_long 6 inner is.whole is.whole_said,
        reads_long 7 inner (pos place.size) is.sized,
        reads_long 9 inner (pos place.offset) is.placed,
        is.no_dictionary,
        le-leb (place.offset + place.size) len is.within,
      ) refl

pub chunk_says : (len row_count : ℕ) (column : Column) (value : Value) (place : ChunkPlace) → chunk_at len row_count column value ≡ Ok place → (fields : Struct) × (value ≡ values.Struct fields) × Says len row_count column fields place
unfolding chunk_at
chunk_says len row_count column value place e =
    let fields = bind_ok (as_struct value) (λ chunk. long_in 2 chunk >>= λ offset. struct_in 3 chunk >>= λ inner. data_in len row_count column inner) place e in
    let offset = bind_ok (long_in 2 fields.0) (λ offset. struct_in 3 fields.0 >>= λ inner. data_in len row_count column inner) place fields.2 in
    let inner = bind_ok (struct_in 3 fields.0) (λ inner. data_in len row_count column inner) place offset.2 in
    let is = data_says len row_count column inner.0 place inner.2 in (
      fields.0,
      struct_is value fields.0 fields.1,
      record {
        file_offset = offset.0;
        offset_said = says_long 2 fields.0 offset.0 offset.1;
        inner = inner.0;
        inside = says_struct 3 fields.0 inner.0 inner.1;
        typed = is.typed;
        encodings = is.encodings;
        encoded = is.encoded;
        named = is.named;
        plain_codec = is.plain_codec;
        counted = is.counted;
        whole = is.whole;
        whole_said = is.whole_said;
        sized = is.sized;
        placed = is.placed;
        no_dictionary = is.no_dictionary;
        within = is.within;
      },
    )

pub chunk_reads : (len row_count : ℕ) (column : Column) (fields : Struct) (place : ChunkPlace) → Says len row_count column fields place → chunk_at len row_count column (values.Struct fields) ≡ Ok place
unfolding chunk_at
chunk_reads len row_count column fields place is =
    let inside : Inside len row_count column is.inner place = record {
      typed = is.typed;
      encodings = is.encodings;
      encoded = is.encoded;
      named = is.named;
      plain_codec = is.plain_codec;
      counted = is.counted;
      whole = is.whole;
      whole_said = is.whole_said;
      sized = is.sized;
      placed = is.placed;
      no_dictionary = is.no_dictionary;
      within = is.within;
    } in
    rw (
      is_struct (values.Struct fields) fields refl,
      reads_long 2 fields is.file_offset is.offset_said,
      reads_struct 3 fields is.inner is.inside,
    ) (data_reads len row_count column is.inner place inside)

-- ---- chunks with their pages

pub is_chunk : (file : List ℕ) (row_count : ℕ) (column : Column) (fields : Struct) (place : ChunkPlace) (held : List Cell) → Says (length file) row_count column fields place
    → ArePages column (chunk_bytes file place) held → length held ≡ row_count → IsChunk file column fields held
is_chunk file row_count column fields place held is pages len = record {
  file_offset = is.file_offset;
  offset_said = is.offset_said;
  inner = is.inner;
  inside = is.inside;
  typed = is.typed;
  encodings = is.encodings;
  encoded = is.encoded;
  named = is.named;
  plain_codec = is.plain_codec;
  counted = subst (λ (n : ℕ). Has 5 is.inner (values.Long (pos n))) (sym len) is.counted;
  whole = is.whole;
  whole_said = is.whole_said;
  size = place.size;
  offset = place.offset;
  sized = is.sized;
  placed = is.placed;
  no_dictionary = is.no_dictionary;
  within = is.within;
  pages = pages;
}

abbrev pub place_of : (file : List ℕ) (column : Column) (fields : Struct) (held : List Cell) → IsChunk file column fields held → ChunkPlace
place_of file column fields held is = record { offset = is.offset; size = is.size }

pub said_of : (file : List ℕ) (row_count : ℕ) (column : Column) (fields : Struct) (held : List Cell) (is : IsChunk file column fields held) → length held ≡ row_count → Says (length file) row_count column fields (place_of file column fields held is)
said_of file row_count column fields held is len = record {
  file_offset = is.file_offset;
  offset_said = is.offset_said;
  inner = is.inner;
  inside = is.inside;
  typed = is.typed;
  encodings = is.encodings;
  encoded = is.encoded;
  named = is.named;
  plain_codec = is.plain_codec;
  counted = subst (λ (n : ℕ). Has 5 is.inner (values.Long (pos n))) len is.counted;
  whole = is.whole;
  whole_said = is.whole_said;
  sized = is.sized;
  placed = is.placed;
  no_dictionary = is.no_dictionary;
  within = is.within;
}
