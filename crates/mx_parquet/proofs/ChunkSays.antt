-- What is read of the pages of a chunk are the cells that they stand for.
use Rattle.std.proofs.Common.{◌≡◌, ℕ, ℤ, ◌+◌, ◌-◌, ◌<◌, ◌≤◌, pos, List, [], ◌∷◌, ◌++◌, length, map, take, drop, flat_map, Result, Ok, Err, refl, sym, ap, subst, ◌∙◌, append_assoc, append-nil, length-append, arith}
use Rattle.std.specs.List.{AllByRecursion}
use Rattle.std.proofs.lemmas.List.{length-drop, length-take, length-map, drop-drop, drop_at, drop_all, take-append-drop, take_at}
use Rattle.std.proofs.lemmas.List.Concat.{flat_map-cons}
use Rattle.mx_avro.specs.Decoding.{StandsAt}
use Rattle.mx_schema.specs.declared.cell.Cell.{Cell}
use Rattle.mx_schema.specs.declared.column.Column.{Column}
use Rattle.mx_thrift.specs.declared.value.Field.{Field}
use Rattle.mx_thrift.specs.Grammar as thrift
use Rattle.mx_thrift.specs.Grammar.{DecodesFields, DecodesValue}
use Rattle.mx_thrift.specs.Decoding.{IsOnly}
use Rattle.mx_parquet.specs.declared.error.Flaw.{Flaw}
use Rattle.mx_parquet.specs.declared.error.ParquetError.{ParquetError}
use Rattle.mx_parquet.specs.declared.error.ParquetError.TheVariants as errors
use Rattle.mx_parquet.specs.declared.header.PageSize.{PageSize}
use Rattle.mx_parquet.specs.Decoding.{IsPageHeader, IsPageOf, FoundPage, IsFoundPage, ArePages}
use Rattle.mx_parquet.specs.Shape.{Struct}
use Rattle.mx_parquet.specs.Reading.{Read}
use Rattle.mx_parquet.specs.Headers.{header_in}
use Rattle.mx_parquet.specs.Chunks.{fitted, fitted_front, ReadsAt, IsHeaderIn, IsBodyIn, IsPageIn, FillPages}
use Rattle.mx_parquet.proofs.HeadersSay.{header_says, header_reads}
use Rattle.mx_parquet.proofs.Said.{ok_is}

-- ---- answers

pub none_at : {X A : Type 0} (as_read : A → A) (view : X → A) (Meets : A → Type 0) (e : ParquetError) → ((y : A) → Meets y → ⊥) → ReadsAt as_read view Meets (Err e)
none_at as_read view Meets errors.NoMemory none = tt
none_at as_read view Meets (errors.BadParquet at) none = none
none_at as_read view Meets (errors.Unsupported what) none = none

-- nothing meets a condition that asks for more
pub still_none : {X Y A B : Type 0} (as_a : A → A) (as_b : B → B) (view_a : X → A) (view_b : Y → B) (MeetsA : A → Type 0) (MeetsB : B → Type 0) (e : ParquetError)
    → ((b : B) → MeetsB b → (a : A) × MeetsA a) → ReadsAt as_a view_a MeetsA (Err e) → ReadsAt as_b view_b MeetsB (Err e)
still_none as_a as_b view_a view_b MeetsA MeetsB errors.NoMemory also none = tt
still_none as_a as_b view_a view_b MeetsA MeetsB (errors.BadParquet at) also none = λ b is. let p = also b is in none p.0 p.1
still_none as_a as_b view_a view_b MeetsA MeetsB (errors.Unsupported what) also none = λ b is. let p = also b is in none p.0 p.1

-- ---- headers

fields_some : (last : ℤ) (bytes : List ℕ) (fields : List Field) → DecodesFields (DecodesValue 15) last bytes fields → 0 < length bytes
fields_some last bytes [] is = omega (arith, ap length is)
fields_some last bytes (field ∷ fields) (front, rest, parts, is_field, more) =
    omega (arith, ap length parts, length-append front rest, fields_some field.id rest fields more)

pub struct_some : (bytes : List ℕ) (fields : Struct) → thrift.Decodes bytes fields → 0 < length bytes
struct_some bytes fields is = fields_some (pos 0) bytes fields is

pub header_goes_on : (bytes : List ℕ) (at end : ℕ) (fields : Struct) → at ≤ length bytes → (text : List ℕ) × StandsAt bytes at text end × thrift.Decodes text fields
    → (at < end) × (end ≤ length bytes)
header_goes_on bytes at end fields within (text, stands, is) =
    let some = struct_some text fields is in
    let len : length bytes - at ≡ length text + (length bytes - end) = omega (arith, ap length stands.1, length-append text (drop end bytes), length-drop at bytes, length-drop end bytes) in
    (omega (arith, stands.0, some), omega (arith, stands.0, some, len, within))

-- a header that stands at a place is the one that was read
the_header : (bytes : List ℕ) (at end : ℕ) (fields : Struct) (y : PageSize × List ℕ)
    → ((fs : List Field) (text rest : List ℕ) → drop at bytes ≡ text ++ rest → thrift.Decodes text fs → IsOnly {A = Struct × ℕ} (fs, at + length text) (Ok (fields, end)))
    → IsHeaderIn (drop at bytes) y → (header_in fields ≡ Ok y.0) × (y.1 ≡ drop end bytes)
the_header bytes at end fields y only is =
    let same : (fields, end) ≡ (is.fields, at + length is.header) = only is.fields is.header y.1 is.parts is.said in
    let first : fields ≡ is.fields = ap (λ (p : Struct × ℕ). p.0) same in
    let second : end ≡ at + length is.header = ap (λ (p : Struct × ℕ). p.1) same in (
      ap header_in first ∙ header_reads is.fields y.0 is.headed,
      sym (drop_at is.header y.1 (length is.header) refl) ∙ ap (drop (length is.header)) (sym is.parts) ∙ drop-drop (length is.header) at bytes ∙ ap (λ (n : ℕ). drop n bytes) (sym second),
    )

pub header_found : (bytes : List ℕ) (at end : ℕ) (fields : Struct) (size : PageSize) → (text : List ℕ) × StandsAt bytes at text end × thrift.Decodes text fields
    → ((fs : List Field) (text rest : List ℕ) → drop at bytes ≡ text ++ rest → thrift.Decodes text fs → IsOnly {A = Struct × ℕ} (fs, at + length text) (Ok (fields, end)))
    → header_in fields ≡ Ok size
    → IsHeaderIn (drop at bytes) (size, drop end bytes) × ((y : PageSize × List ℕ) → IsHeaderIn (drop at bytes) y → y ≡ (size, drop end bytes))
header_found bytes at end fields size (text, stands, said) only is = (
  record { header = text; fields = fields; parts = stands.1; said = said; headed = header_says fields size is },
  λ y has.
      let h = the_header bytes at end fields y only has in
      ap (λ (s : PageSize). (s, y.1)) (ok_is y.0 size (sym h.0 ∙ is)) ∙ ap (λ (r : List ℕ). (size, r)) h.1,
)

pub no_header : (bytes : List ℕ) (at end : ℕ) (fields : Struct) (flaw : Flaw)
    → ((fs : List Field) (text rest : List ℕ) → drop at bytes ≡ text ++ rest → thrift.Decodes text fs → IsOnly {A = Struct × ℕ} (fs, at + length text) (Ok (fields, end)))
    → header_in fields ≡ Err flaw → (y : PageSize × List ℕ) → IsHeaderIn (drop at bytes) y → ⊥
no_header bytes at end fields flaw only is y has = not_both (the_header bytes at end fields y only has).0 is
  where
    not_both : {r : Read PageSize} {x : PageSize} {flaw : Flaw} → r ≡ Ok x → r ≡ Err flaw → ⊥
    not_both e f = absurd cc

-- ---- bodies

pub too_short : (column : Column) (most : ℕ) (size : PageSize) (bytes : List ℕ) (at : ℕ) → at ≤ length bytes → length bytes < at + size.size
    → (y : List Cell × List ℕ) → IsBodyIn column most size (drop at bytes) y → ⊥
too_short column most size bytes at within short y is =
    absurd (omega (arith, ap length is.parts, length-append is.body y.1, is.sized, length-drop at bytes, within, short))

pub body_found : (column : Column) (most : ℕ) (size : PageSize) (bytes : List ℕ) (at : ℕ) (body : List ℕ) (held : List Cell) → at + size.size ≤ length bytes → size.value_count ≤ most
    → body ≡ take size.size (drop at bytes)
    → (IsPageOf column body held × (length held ≡ size.value_count)) × ((other : List Cell) → IsPageOf column body other × (length other ≡ size.value_count) → map fitted other ≡ held)
    → IsBodyIn column most size (drop at bytes) (held, drop (at + size.size) bytes)
    × ((y : List Cell × List ℕ) → IsBodyIn column most size (drop at bytes) y → fitted_front y ≡ (held, drop (at + size.size) bytes))
body_found column most size bytes at body held within few is one =
    let after : drop size.size (drop at bytes) ≡ drop (at + size.size) bytes = drop-drop size.size at bytes in
    let len : length body ≡ size.size = omega (arith, ap length is, length-take size.size (drop at bytes), length-drop at bytes, within) in (
      record {
        body = body;
        parts = sym (take-append-drop size.size (drop at bytes)) ∙ ap (λ (b : List ℕ). b ++ drop size.size (drop at bytes)) (sym is) ∙ ap (λ (r : List ℕ). body ++ r) after;
        sized = len;
        counted = one.0.1;
        few = omega (arith, one.0.1, few);
        is_page = one.0.0;
      },
      λ y has.
          let same : has.body ≡ body = sym (take_at has.body y.1 size.size has.sized) ∙ ap (take size.size) (sym has.parts) ∙ sym is in
          let rest : y.1 ≡ drop (at + size.size) bytes = sym (drop_at has.body y.1 size.size has.sized) ∙ ap (drop size.size) (sym has.parts) ∙ after in
          let cells : map fitted y.0 ≡ held = one.1 y.0 (subst (λ (b : List ℕ). IsPageOf column b y.0) same has.is_page, has.counted) in
          ap (λ (cs : List Cell). (cs, y.1)) cells ∙ ap (λ (r : List ℕ). (held, r)) rest,
    )

-- ---- pages

page_joins : (column : Column) (most : ℕ) (bytes : List ℕ) (size : PageSize) (mid : List ℕ) (x : List Cell × List ℕ) → IsHeaderIn bytes (size, mid) → IsBodyIn column most size mid x → IsPageIn column most bytes x
page_joins column most bytes size mid x h b = record {
  page = record { header = h.header; fields = h.fields; body = b.body; held = x.0 };
  found = record { said = h.said; headed = subst (λ (n : ℕ). IsPageHeader h.fields (length x.0) n) (sym b.sized) (subst (λ (n : ℕ). IsPageHeader h.fields n size.size) (sym b.counted) h.headed); is_page = b.is_page };
  parts = h.parts ∙ ap (λ (r : List ℕ). h.header ++ r) b.parts ∙ sym (append_assoc h.header b.body x.1);
  all = refl;
  few = b.few;
}

abbrev size_of : FoundPage → PageSize
size_of page = record { value_count = length page.held; size = length page.body }

page_splits : (column : Column) (most : ℕ) (bytes : List ℕ) (x : List Cell × List ℕ) (is : IsPageIn column most bytes x)
    → IsHeaderIn bytes (size_of is.page, is.page.body ++ x.1) × IsBodyIn column most (size_of is.page) (is.page.body ++ x.1) x
page_splits column most bytes x is = (
  record { header = is.page.header; fields = is.page.fields; parts = is.parts ∙ append_assoc is.page.header is.page.body x.1; said = is.found.said; headed = is.found.headed },
  record {
    body = is.page.body;
    parts = refl;
    sized = refl;
    counted = ap length (sym is.all);
    few = is.few;
    is_page = subst (IsPageOf column is.page.body) is.all is.found.is_page;
  },
)

pub no_page_at : {X Y : Type 0} (view : X → PageSize × List ℕ) (page_view : Y → List Cell × List ℕ) (column : Column) (most : ℕ) (bytes : List ℕ) (e : ParquetError)
    → ReadsAt (λ x. x) view (IsHeaderIn bytes) (Err e) → ReadsAt fitted_front page_view (IsPageIn column most bytes) (Err e)
no_page_at view page_view column most bytes e none =
    still_none (λ x. x) fitted_front view page_view (IsHeaderIn bytes) (IsPageIn column most bytes) e (λ x is. ((size_of is.page, is.page.body ++ x.1), (page_splits column most bytes x is).0)) none

-- the body of a page that stands behind the header that was read
body_behind : (column : Column) (most : ℕ) (bytes : List ℕ) (size : PageSize) (mid : List ℕ) (x : List Cell × List ℕ) → ((y : PageSize × List ℕ) → IsHeaderIn bytes y → y ≡ (size, mid)) → IsPageIn column most bytes x
    → IsBodyIn column most size mid x
body_behind column most bytes size mid x only is =
    let p = page_splits column most bytes x is in
    subst (λ (y : PageSize × List ℕ). IsBodyIn column most y.0 y.1 x) (only (size_of is.page, is.page.body ++ x.1) p.0) p.1

pub page_read_at : {X : Type 0} (view : X → List Cell × List ℕ) (column : Column) (most : ℕ) (bytes : List ℕ) (size : PageSize) (mid : List ℕ) (r : Result X ParquetError)
    → IsHeaderIn bytes (size, mid) × ((y : PageSize × List ℕ) → IsHeaderIn bytes y → y ≡ (size, mid))
    → ReadsAt fitted_front view (IsBodyIn column most size mid) r → ReadsAt fitted_front view (IsPageIn column most bytes) r
page_read_at view column most bytes size mid (Ok x) h b = (page_joins column most bytes size mid (view x) h.0 b.0, λ y is. b.1 y (body_behind column most bytes size mid y h.1 is))
page_read_at view column most bytes size mid (Err errors.NoMemory) h b = tt
page_read_at view column most bytes size mid (Err (errors.BadParquet at)) h b = λ y is. b y (body_behind column most bytes size mid y h.1 is)
page_read_at view column most bytes size mid (Err (errors.Unsupported what)) h b = λ y is. b y (body_behind column most bytes size mid y h.1 is)

-- ---- all pages

pages_none : (column : Column) → ArePages column [] []
pages_none column = record { pages = []; each = tt; fill = refl; all = refl }

abbrev page_bytes : FoundPage → List ℕ
page_bytes page = page.header ++ page.body

pub pages_more : (column : Column) (bytes rest : List ℕ) (page : FoundPage) (held more : List Cell) → IsFoundPage column page → bytes ≡ page.header ++ page.body ++ rest → page.held ≡ held
    → ArePages column rest more → ArePages column bytes (held ++ more)
pages_more column bytes rest page held more found parts all are = record {
  pages = page ∷ are.pages;
  each = (found, are.each);
  fill = parts ∙ ap (λ (b : List ℕ). page_bytes page ++ b) are.fill ∙ sym (flat_map-cons page_bytes page are.pages);
  all = ap (λ (cs : List Cell). cs ++ more) (sym all) ∙ ap (λ (cs : List Cell). page.held ++ cs) are.all ∙ sym (flat_map-cons (λ p. p.held) page are.pages);
}

-- the first of the pages that fill bytes
record First (column : Column) (bytes : List ℕ) (held : List Cell) : Type 0 where
  pub page : FoundPage
  pub found : IsFoundPage column page
  pub rest : List ℕ
  pub more : List Cell
  pub parts : bytes ≡ page.header ++ page.body ++ rest
  pub all : held ≡ page.held ++ more
  pub others : ArePages column rest more

first_by : (column : Column) (bytes : List ℕ) (held : List Cell) (pages : List FoundPage) → 0 < length bytes → AllByRecursion (IsFoundPage column) pages
    → bytes ≡ flat_map page_bytes pages → held ≡ flat_map (λ page. page.held) pages → First column bytes held
first_by column bytes held [] some each fill all = absurd (omega (arith, ap length fill, some))
first_by column bytes held (page ∷ pages) some each fill all = record {
  page = page;
  found = each.0;
  rest = flat_map page_bytes pages;
  more = flat_map (λ p. p.held) pages;
  parts = fill ∙ flat_map-cons page_bytes page pages;
  all = all ∙ flat_map-cons (λ p. p.held) page pages;
  others = record { pages = pages; each = each.1; fill = refl; all = refl };
}

pages_end : (column : Column) (held : List Cell) (pages : List FoundPage) → AllByRecursion (IsFoundPage column) pages
    → [] ≡ flat_map page_bytes pages → held ≡ flat_map (λ page. page.held) pages → held ≡ []
pages_end column held [] each fill all = all
pages_end column held (page ∷ pages) each fill all =
    let some = struct_some page.header page.fields each.0.said in
    let parts = ap length (fill ∙ flat_map-cons page_bytes page pages) in
    absurd (omega (arith, parts, length-append (page_bytes page) (flat_map page_bytes pages), length-append page.header page.body, some))

-- ---- as a loop reads them

-- what is read of pages, up to a place, of those that fill all of the bytes with so many cells
pub record ReadUpTo (column : Column) (count : ℕ) (bytes left : List ℕ) (cells : List Cell) : Type 0 where
  pub joins : (more : List Cell) → ArePages column left more → ArePages column bytes (cells ++ more)
  pub splits : (held : List Cell) → FillPages column count bytes held → (more : List Cell) × (map fitted held ≡ cells ++ map fitted more) × ArePages column left more

map-append : {A B : Type 0} (f : A → B) (xs ys : List A) → map f (xs ++ ys) ≡ map f xs ++ map f ys
map-append f [] ys = refl
map-append f (x ∷ xs) ys = ap (λ (r : List _). f x ∷ r) (map-append f xs ys)

page_in_front : (column : Column) (most : ℕ) (bytes : List ℕ) (held : List Cell) (f : First column bytes held) → length held ≤ most → IsPageIn column most bytes (f.page.held, f.rest)
page_in_front column most bytes held f few = record {
  page = f.page;
  found = f.found;
  parts = f.parts;
  all = refl;
  few = omega (arith, ap length f.all, length-append f.page.held f.more, few);
}

-- how many cells are left of those that are read
length-left : (held cells more : List Cell) → map fitted held ≡ cells ++ map fitted more → length held ≡ length cells + length more
length-left held cells more is =
    sym (length-map held fitted) ∙ ap length is ∙ length-append cells (map fitted more) ∙ ap (λ (n : ℕ). length cells + n) (length-map more fitted)

-- the page that stands behind what was read
record Next (column : Column) (count : ℕ) (bytes : List ℕ) (cells held : List Cell) : Type 0 where
  pub first : List Cell
  pub more : List Cell
  pub rest : List ℕ
  pub all : map fitted held ≡ cells ++ (map fitted first ++ map fitted more)
  pub is_page : IsPageIn column (count - length cells) bytes (first, rest)
  pub others : ArePages column rest more

next_page : (column : Column) (count : ℕ) (all bytes : List ℕ) (cells held : List Cell) → 0 < length bytes → length cells ≤ count → ReadUpTo column count all bytes cells → FillPages column count all held
    → Next column count bytes cells held
next_page column count all bytes cells held some few so_far is =
    let s = so_far.splits held is in
    let f = first_by column bytes s.0 s.2.pages some s.2.each s.2.fill s.2.all in
    record {
      first = f.page.held;
      more = f.more;
      rest = f.rest;
      all = s.1 ∙ ap (λ (cs : List Cell). cells ++ map fitted cs) f.all ∙ ap (λ (cs : List Cell). cells ++ cs) (map-append fitted f.page.held f.more);
      is_page = page_in_front column (count - length cells) bytes s.0 f (omega (arith, length-left held cells s.0 s.1, is.1, few));
      others = f.others;
    }

pub no_further : {X : Type 0} (view : X → List Cell × List ℕ) (column : Column) (count : ℕ) (all bytes : List ℕ) (at : ℕ) (cells : List Cell) (e : ParquetError)
    → at < length bytes → length cells ≤ count → ReadUpTo column count all (drop at bytes) cells
    → ReadsAt fitted_front view (IsPageIn column (count - length cells) (drop at bytes)) (Err e)
    → ReadsAt (map fitted) (λ (x : List Cell). x) (FillPages column count all) (Err e)
no_further view column count all bytes at cells e some few so_far none =
    still_none fitted_front (map fitted) view (λ (x : List Cell). x) (IsPageIn column (count - length cells) (drop at bytes)) (FillPages column count all) e (
    λ held is.
    let n = next_page column count all (drop at bytes) cells held (omega (arith, length-drop at bytes, some)) few so_far is in
    ((n.first, n.rest), n.is_page)
    )
    none

pub one_page_more : (column : Column) (count : ℕ) (all bytes : List ℕ) (at end : ℕ) (cells held next : List Cell) → at < length bytes → length cells ≤ count → ReadUpTo column count all (drop at bytes) cells
    → IsPageIn column (count - length cells) (drop at bytes) (held, drop end bytes)
    × ((y : List Cell × List ℕ) → IsPageIn column (count - length cells) (drop at bytes) y → fitted_front y ≡ (held, drop end bytes))
    → next ≡ cells ++ held → ReadUpTo column count all (drop end bytes) next × (length next ≤ count)
one_page_more column count all bytes at end cells held next some few so_far one grown =
    let page = one.0 in (
      rw grown (
          record {
            joins = λ more are.
                subst (ArePages column all) (sym (append_assoc cells held more)) (
                so_far.joins (held ++ more) (pages_more column (drop at bytes) (drop end bytes) page.page held more page.found page.parts page.all are)
                );
            splits = λ other is.
                let n = next_page column count all (drop at bytes) cells other (omega (arith, length-drop at bytes, some)) few so_far is in
                let same = one.1 (n.first, n.rest) n.is_page in
                let first : map fitted n.first ≡ held = ap (λ (p : List Cell × List ℕ). p.0) same in
                let rest : n.rest ≡ drop end bytes = ap (λ (p : List Cell × List ℕ). p.1) same in (
                  n.more,
                  n.all ∙ ap (λ (cs : List Cell). cells ++ (cs ++ map fitted n.more)) first ∙ sym (append_assoc cells held (map fitted n.more)),
                  subst (λ (b : List ℕ). ArePages column b n.more) rest n.others,
                );
          }
          ),
      omega (arith, ap length grown, length-append cells held, page.few, few),
    )

-- nothing is left at the end
at_end : (column : Column) (count : ℕ) (all bytes : List ℕ) (at : ℕ) (cells held : List Cell) → length bytes ≤ at → ReadUpTo column count all (drop at bytes) cells → FillPages column count all held → map fitted held ≡ cells
at_end column count all bytes at cells held end so_far is =
    let s = so_far.splits held is in
    let are : ArePages column [] s.0 = subst (λ (b : List ℕ). ArePages column b s.0) (drop_all at bytes end) s.2 in
    let none : s.0 ≡ [] = pages_end column s.0 are.pages are.each are.fill are.all in
    s.1 ∙ ap (λ (cs : List Cell). cells ++ map fitted cs) none ∙ append-nil cells

pub other_count : (column : Column) (count : ℕ) (all bytes : List ℕ) (at : ℕ) (cells : List Cell) → length bytes ≤ at → (length cells ≡ count → ⊥) → ReadUpTo column count all (drop at bytes) cells
    → (held : List Cell) → FillPages column count all held → ⊥
other_count column count all bytes at cells end other so_far held is =
    other (ap length (sym (at_end column count all bytes at cells held end so_far is)) ∙ length-map held fitted ∙ is.1)

pub all_pages : (column : Column) (count : ℕ) (all bytes : List ℕ) (at : ℕ) (cells found : List Cell) → length bytes ≤ at → length cells ≡ count → ReadUpTo column count all (drop at bytes) cells → found ≡ cells
    → FillPages column count all found × ((held : List Cell) → FillPages column count all held → map fitted held ≡ found)
all_pages column count all bytes at cells found end as_many so_far is =
    let whole : ArePages column all (cells ++ []) = so_far.joins [] (subst (λ (b : List ℕ). ArePages column b []) (sym (drop_all at bytes end)) (pages_none column)) in (
      (subst (ArePages column all) (append-nil cells ∙ sym is) whole, ap length is ∙ as_many),
      λ held fills. at_end column count all bytes at cells held end so_far fills ∙ sym is,
    )
