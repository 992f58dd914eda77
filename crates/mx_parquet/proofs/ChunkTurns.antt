-- Reading a chunk of each column in turn, as a loop does.
use Rattle.std.proofs.Common.{◌≡◌, ℕ, length, List, [], ◌∷◌, ◌++◌, Ok, Err, refl, sym, ap, ◌∙◌, append-nil}
use Rattle.std.proofs.lemmas.List.{nil_from_length}
use Rattle.mx_schema.specs.declared.column.Column.{Column}
use Rattle.mx_thrift.specs.declared.value.Value.{Value}
use Rattle.mx_parquet.specs.declared.error.Flaw.TheVariants as flaws
use Rattle.mx_parquet.specs.declared.error.Failure.{Failure}
use Rattle.mx_parquet.specs.declared.error.Failure.TheVariants as failures
use Rattle.mx_parquet.specs.declared.layout.ChunkPlace.{ChunkPlace}
use Rattle.mx_parquet.specs.Reading.{Read, Fails}
use Rattle.mx_parquet.specs.Footer.{chunk_at, chunks_in}
use Rattle.mx_parquet.proofs.InTurn.{with_front, regroup}

pub one_chunk : (len rows : ℕ) (front next : List ChunkPlace) (column : Column) (columns more : List Column) (value : Value) (values behind : List Value) (place : ChunkPlace) (total : Read (List ChunkPlace))
    → columns ≡ column ∷ more → values ≡ value ∷ behind → next ≡ front ++ place ∷ [] → chunk_at len rows column value ≡ Ok place
    → with_front front (chunks_in len rows columns values) ≡ total → with_front next (chunks_in len rows more behind) ≡ total
unfolding chunks_in
one_chunk len rows front next column columns more value values behind place total is has grown h so_far =
    let one : with_front front (chunks_in len rows columns values) ≡ with_front (front ++ place ∷ []) (chunks_in len rows more behind) = rw (is, has, h) (regroup front place (chunks_in len rows more behind)) in
    rw grown (sym one ∙ so_far)

pub bad_chunk : (e : Failure) (len rows : ℕ) (front : List ChunkPlace) (column : Column) (columns more : List Column) (value : Value) (values behind : List Value) (total : Read (List ChunkPlace))
    → columns ≡ column ∷ more → values ≡ value ∷ behind → Fails e (chunk_at len rows column value)
    → with_front front (chunks_in len rows columns values) ≡ total → Fails e total
unfolding chunks_in
bad_chunk failures.NoMemory len rows front column columns more value values behind total is has h so_far = tt
bad_chunk (failures.Flawed flaw) len rows front column columns more value values behind total is has h so_far =
    let one : with_front front (chunks_in len rows columns values) ≡ Err flaw = rw (is, has, h) refl in
    sym so_far ∙ one

pub no_chunk : (len rows : ℕ) (front : List ChunkPlace) (column : Column) (columns more : List Column) (values : List Value) (total : Read (List ChunkPlace))
    → columns ≡ column ∷ more → length values ≡ 0 → with_front front (chunks_in len rows columns values) ≡ total → total ≡ Err flaws.Bad
unfolding chunks_in
no_chunk len rows front column columns more values total is none so_far =
    let one : with_front front (chunks_in len rows columns values) ≡ Err flaws.Bad = rw (is, nil_from_length values none) refl in
    sym so_far ∙ one

left_over : (len rows : ℕ) (front : List ChunkPlace) (values : List Value) (total : Read (List ChunkPlace))
    → (length values ≡ 0 → ⊥) → with_front front (chunks_in len rows [] values) ≡ total → total ≡ Err flaws.Bad
unfolding chunks_in
left_over len rows front [] total some so_far = absurd (some refl)
left_over len rows front (value ∷ values) total some so_far = sym so_far

pub further_chunk : (len rows : ℕ) (front : List ChunkPlace) (columns : List Column) (values : List Value) (total : Read (List ChunkPlace))
    → length columns ≡ 0 → (length values ≡ 0 → ⊥) → with_front front (chunks_in len rows columns values) ≡ total → total ≡ Err flaws.Bad
further_chunk len rows front columns values total none some so_far =
    left_over len rows front values total some (ap (λ (cs : List Column). with_front front (chunks_in len rows cs values)) (sym (nil_from_length columns none)) ∙ so_far)

pub all_chunks : (len rows : ℕ) (front : List ChunkPlace) (columns : List Column) (values : List Value) (total : Read (List ChunkPlace))
    → length columns ≡ 0 → length values ≡ 0 → with_front front (chunks_in len rows columns values) ≡ total → total ≡ Ok front
unfolding chunks_in
all_chunks len rows front columns values total none nothing so_far =
    let one : with_front front (chunks_in len rows columns values) ≡ Ok front = rw (nil_from_length columns none, nil_from_length values nothing) (ap (λ (zs : List ChunkPlace). Ok zs) (append-nil front)) in
    sym so_far ∙ one
