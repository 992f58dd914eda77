-- What is read of the header of a page is what it says.
use Rattle.std.proofs.Common.{◌≡◌, ℕ, ℤ, pos, Bool, true, false, cond, Ok, Err, refl, sym, ap, ◌∙◌}
use Rattle.mx_thrift.specs.declared.value.Value.TheVariants as values
use Rattle.mx_parquet.specs.declared.error.Feature.TheVariants as features
use Rattle.mx_parquet.specs.declared.error.Flaw.{Flaw}
use Rattle.mx_parquet.specs.declared.error.Flaw.TheVariants as flaws
use Rattle.mx_parquet.specs.declared.header.PageSize.{PageSize}
use Rattle.mx_parquet.specs.Decoding.{Has, IsPageHeader, is_id}
use Rattle.mx_parquet.specs.Shape.{Struct}
use Rattle.mx_parquet.specs.Reading.{◌>>=◌, int_in, struct_in, count_of}
use Rattle.mx_parquet.specs.Footer.{counted}
use Rattle.mx_parquet.specs.Headers.{needed_number, data_page_in, header_in}
use Rattle.mx_parquet.proofs.Said.{bind_ok, good, ok_is, says_int, reads_int, says_struct, reads_struct, is_id_is, is_id_same, count_is}
use Rattle.mx_parquet.proofs.LayoutsSay.{count_says, count_reads}

needed_by : (wanted : ℕ) (flaw : Flaw) (n m : ℤ) (b : Bool) → is_id wanted n ≡ b → cond b (good n) (Err flaw) ≡ Ok m → n ≡ pos wanted
needed_by wanted flaw n m true is e = is_id_is wanted n is
needed_by wanted flaw n m false is e = absurd cc

needed_says : (wanted : ℕ) (flaw : Flaw) (id : ℕ) (fields : Struct) (n m : ℤ) → int_in id fields ≡ Ok n → needed_number wanted flaw n ≡ Ok m → Has id fields (values.Int (pos wanted))
needed_says wanted flaw id fields n m said e = says_int id fields (pos wanted) (said ∙ ap (λ (k : ℤ). good k) (needed_by wanted flaw n m (is_id wanted n) refl e))

needed_reads : (wanted : ℕ) (flaw : Flaw) → needed_number wanted flaw (pos wanted) ≡ Ok (pos wanted)
needed_reads wanted flaw = rw (is_id_same wanted) refl

-- what the inner struct of a header says
record Inside (inner : Struct) (value_count : ℕ) : Type 0 where
  pub counted : Has 1 inner (values.Int (pos value_count))
  pub encoding : Has 2 inner (values.Int (pos 0))
  pub definition : Has 3 inner (values.Int (pos 3))
  pub repetition : Has 4 inner (values.Int (pos 3))

abbrev made : ℕ → ℕ → PageSize
made value_count size = record { value_count = value_count; size = size }

inner_says : (size : ℕ) (inner : Struct) (page : PageSize) → data_page_in size inner ≡ Ok page → Inside inner page.value_count × (page.size ≡ size)
unfolding data_page_in
inner_says size inner page e =
    let said = bind_ok (int_in 1 inner) (λ said. count_of said >>= λ count. int_in 2 inner >>= λ encoding. needed_number 0 (flaws.Unsupported features.Encoding) encoding >>= λ plain. int_in 3 inner >>= λ definition. needed_number 3 flaws.Bad definition >>= λ levels. int_in 4 inner >>= λ repetition. needed_number 3 flaws.Bad repetition >>= λ repeated. good (made count size)) page e in
    let count = bind_ok (count_of said.0) (λ count. int_in 2 inner >>= λ encoding. needed_number 0 (flaws.Unsupported features.Encoding) encoding >>= λ plain. int_in 3 inner >>= λ definition. needed_number 3 flaws.Bad definition >>= λ levels. int_in 4 inner >>= λ repetition. needed_number 3 flaws.Bad repetition >>= λ repeated. good (made count size)) page said.2 in
    let encoding = bind_ok (int_in 2 inner) (λ encoding. needed_number 0 (flaws.Unsupported features.Encoding) encoding >>= λ plain. int_in 3 inner >>= λ definition. needed_number 3 flaws.Bad definition >>= λ levels. int_in 4 inner >>= λ repetition. needed_number 3 flaws.Bad repetition >>= λ repeated. good (made count.0 size)) page count.2 in
    let plain = bind_ok (needed_number 0 (flaws.Unsupported features.Encoding) encoding.0) (λ plain. int_in 3 inner >>= λ definition. needed_number 3 flaws.Bad definition >>= λ levels. int_in 4 inner >>= λ repetition. needed_number 3 flaws.Bad repetition >>= λ repeated. good (made count.0 size)) page encoding.2 in
    let definition = bind_ok (int_in 3 inner) (λ definition. needed_number 3 flaws.Bad definition >>= λ levels. int_in 4 inner >>= λ repetition. needed_number 3 flaws.Bad repetition >>= λ repeated. good (made count.0 size)) page plain.2 in
    let levels = bind_ok (needed_number 3 flaws.Bad definition.0) (λ levels. int_in 4 inner >>= λ repetition. needed_number 3 flaws.Bad repetition >>= λ repeated. good (made count.0 size)) page definition.2 in
    let repetition = bind_ok (int_in 4 inner) (λ repetition. needed_number 3 flaws.Bad repetition >>= λ repeated. good (made count.0 size)) page levels.2 in
    let repeated = bind_ok (needed_number 3 flaws.Bad repetition.0) (λ repeated. good (made count.0 size)) page repetition.2 in
    let is : made count.0 size ≡ page = ok_is (made count.0 size) page repeated.2 in (
      record {
        counted = says_int 1 inner (pos page.value_count) (said.1 ∙ ap (λ (k : ℤ). good k) (count_is said.0 count.0 count.1 ∙ ap (λ (p : PageSize). pos p.value_count) is));
        encoding = needed_says 0 (flaws.Unsupported features.Encoding) 2 inner encoding.0 plain.0 encoding.1 plain.1;
        definition = needed_says 3 flaws.Bad 3 inner definition.0 levels.0 definition.1 levels.1;
        repetition = needed_says 3 flaws.Bad 4 inner repetition.0 repeated.0 repetition.1 repeated.1;
      },
      sym (ap (λ (p : PageSize). p.size) is),
    )

inner_reads : (size : ℕ) (inner : Struct) (value_count : ℕ) → Inside inner value_count → data_page_in size inner ≡ Ok (made value_count size)
unfolding data_page_in
inner_reads size inner value_count is =
    rw (reads_int 1 inner (pos value_count) is.counted, reads_int 2 inner (pos 0) is.encoding, reads_int 3 inner (pos 3) is.definition, reads_int 4 inner (pos 3) is.repetition) refl

pub header_says : (fields : Struct) (page : PageSize) → header_in fields ≡ Ok page → IsPageHeader fields page.value_count page.size
unfolding header_in
header_says fields page e =
    let kind = bind_ok (int_in 1 fields) (λ kind. needed_number 0 (flaws.Unsupported features.Page) kind >>= λ data_page. int_in 2 fields >>= λ said. count_of said >>= λ size. int_in 3 fields >>= λ compressed. counted size compressed >>= λ same. struct_in 5 fields >>= λ inner. data_page_in size inner) page e in
    let data_page = bind_ok (needed_number 0 (flaws.Unsupported features.Page) kind.0) (λ data_page. int_in 2 fields >>= λ said. count_of said >>= λ size. int_in 3 fields >>= λ compressed. counted size compressed >>= λ same. struct_in 5 fields >>= λ inner. data_page_in size inner) page kind.2 in
    let said = bind_ok (int_in 2 fields) (λ said. count_of said >>= λ size. int_in 3 fields >>= λ compressed. counted size compressed >>= λ same. struct_in 5 fields >>= λ inner. data_page_in size inner) page data_page.2 in
    let size = bind_ok (count_of said.0) (λ size. int_in 3 fields >>= λ compressed. counted size compressed >>= λ same. struct_in 5 fields >>= λ inner. data_page_in size inner) page said.2 in
    let compressed = bind_ok (int_in 3 fields) (λ compressed. counted size.0 compressed >>= λ same. struct_in 5 fields >>= λ inner. data_page_in size.0 inner) page size.2 in
    let same = bind_ok (counted size.0 compressed.0) (λ same. struct_in 5 fields >>= λ inner. data_page_in size.0 inner) page compressed.2 in
    let inner = bind_ok (struct_in 5 fields) (λ inner. data_page_in size.0 inner) page same.2 in
    let inside = inner_says size.0 inner.0 page inner.2 in
    record {
      data_page = needed_says 0 (flaws.Unsupported features.Page) 1 fields kind.0 data_page.0 kind.1 data_page.1;
      uncompressed = says_int 2 fields (pos page.size) (said.1 ∙ ap (λ (k : ℤ). good k) (count_is said.0 size.0 size.1 ∙ ap pos (sym inside.1)));
      compressed = says_int 3 fields (pos page.size) (compressed.1 ∙ ap (λ (k : ℤ). good k) (count_says size.0 compressed.0 same.0 same.1 ∙ ap pos (sym inside.1)));
      inner = inner.0;
      inside = says_struct 5 fields inner.0 inner.1;
      counted = inside.0.counted;
      encoding = inside.0.encoding;
      definition = inside.0.definition;
      repetition = inside.0.repetition;
    }

pub header_reads : (fields : Struct) (page : PageSize) → IsPageHeader fields page.value_count page.size → header_in fields ≡ Ok page
unfolding header_in
header_reads fields page is =
    rw (
      reads_int 1 fields (pos 0) is.data_page,
      reads_int 2 fields (pos page.size) is.uncompressed,
      reads_int 3 fields (pos page.size) is.compressed,
      count_reads page.size,
      reads_struct 5 fields is.inner is.inside,
      inner_reads page.size is.inner page.value_count (record { counted = is.counted; encoding = is.encoding; definition = is.definition; repetition = is.repetition }),
    ) refl
