-- Reading a cell for each level in turn, as a loop does.
use Rattle.std.proofs.Common.{◌≡◌, ℕ, Bool, length, List, [], ◌∷◌, ◌++◌, Ok, Err, refl, sym, ap, ◌∙◌, append_assoc, append-nil}
use Rattle.std.specs.Str.{IsUtf8}
use Rattle.std.proofs.lemmas.List.{nil_from_length}
use Rattle.std.proofs.lemmas.Str.{is_utf8-from_IsUtf8}
use Rattle.mx_schema.specs.declared.cell.Cell.{Cell}
use Rattle.mx_schema.specs.declared.cell.Cell.TheVariants as cells
use Rattle.mx_schema.specs.declared.column.ColumnKind.{ColumnKind}
use Rattle.mx_schema.specs.declared.column.ColumnKind.TheVariants as kinds
use Rattle.mx_parquet.specs.declared.error.Flaw.TheVariants as flaws
use Rattle.mx_parquet.specs.declared.error.Failure.{Failure}
use Rattle.mx_parquet.specs.declared.error.Failure.TheVariants as failures
use Rattle.mx_parquet.specs.Reading.{Read, Fails}
use Rattle.mx_parquet.specs.Values.{sized_in, value_in, cell_in, at_end, plain_in, flag_in, flags_in}
use Rattle.mx_parquet.proofs.InTurn.{with_front, regroup}
use Rattle.mx_parquet.proofs.Texts.{no_utf8}

-- ---- texts

pub text_reads : (bytes text rest found : List ℕ) → sized_in bytes ≡ Ok (text, rest) → IsUtf8 text → found ≡ text → value_in kinds.Text bytes ≡ Ok (cells.Text found, rest)
unfolding value_in
text_reads bytes text rest found e good same = rw (e, is_utf8-from_IsUtf8 text good, same) refl

pub no_text : (bytes text rest : List ℕ) → sized_in bytes ≡ Ok (text, rest) → (IsUtf8 text → ⊥) → value_in kinds.Text bytes ≡ Err flaws.Bad
unfolding value_in
no_text bytes text rest e wrong = rw (e, no_utf8 text _ refl wrong) refl

-- ---- numbers and texts

pub one_cell : (kind : ColumnKind) (front next : List Cell) (level : Bool) (levels more : List Bool) (cell : Cell) (bytes behind : List ℕ) (total : Read (List Cell))
    → levels ≡ level ∷ more → next ≡ front ++ cell ∷ [] → cell_in kind level bytes ≡ Ok (cell, behind)
    → with_front front (plain_in kind levels bytes) ≡ total → with_front next (plain_in kind more behind) ≡ total
unfolding plain_in
one_cell kind front next level levels more cell bytes behind total is grown h so_far =
    let one : with_front front (plain_in kind levels bytes) ≡ with_front (front ++ cell ∷ []) (plain_in kind more behind) = rw (is, h) (regroup front cell (plain_in kind more behind)) in
    rw grown (sym one ∙ so_far)

pub no_cell : (e : Failure) (kind : ColumnKind) (front : List Cell) (level : Bool) (levels more : List Bool) (bytes : List ℕ) (total : Read (List Cell))
    → levels ≡ level ∷ more → Fails e (cell_in kind level bytes) → with_front front (plain_in kind levels bytes) ≡ total → Fails e total
unfolding plain_in
no_cell failures.NoMemory kind front level levels more bytes total is h so_far = tt
no_cell (failures.Flawed flaw) kind front level levels more bytes total is h so_far =
    let one : with_front front (plain_in kind levels bytes) ≡ Err flaw = rw (is, h) refl in
    sym so_far ∙ one

further_bytes : (bytes : List ℕ) → (length bytes ≡ 0 → ⊥) → at_end bytes ≡ Err flaws.Bad
further_bytes [] some = absurd (some refl)
further_bytes (byte ∷ bytes) some = refl

pub bytes_left : (kind : ColumnKind) (front : List Cell) (levels : List Bool) (bytes : List ℕ) (total : Read (List Cell))
    → length levels ≡ 0 → (length bytes ≡ 0 → ⊥) → with_front front (plain_in kind levels bytes) ≡ total → total ≡ Err flaws.Bad
unfolding plain_in
bytes_left kind front levels bytes total none some so_far =
    let one : with_front front (plain_in kind levels bytes) ≡ Err flaws.Bad = rw (nil_from_length levels none, further_bytes bytes some) refl in
    sym so_far ∙ one

pub all_cells : (kind : ColumnKind) (front : List Cell) (levels : List Bool) (bytes : List ℕ) (total : Read (List Cell))
    → length levels ≡ 0 → length bytes ≡ 0 → with_front front (plain_in kind levels bytes) ≡ total → total ≡ Ok front
unfolding plain_in
all_cells kind front levels bytes total none end so_far =
    let one : with_front front (plain_in kind levels bytes) ≡ Ok front = rw (nil_from_length levels none, nil_from_length bytes end) (ap (λ (cs : List Cell). Ok cs) (append-nil front)) in
    sym so_far ∙ one

-- ---- truth values

pub one_flag : (front next : List Cell) (level : Bool) (levels more : List Bool) (cell : Cell) (flags behind : List Bool) (total : List Cell)
    → levels ≡ level ∷ more → next ≡ front ++ cell ∷ [] → (cell, behind) ≡ flag_in level flags
    → front ++ flags_in levels flags ≡ total → next ++ flags_in more behind ≡ total
unfolding flags_in
one_flag front next level levels more cell flags behind total is grown h so_far =
    let one : flags_in levels flags ≡ cell ∷ flags_in more behind = rw (is, sym h) refl in
    rw grown (append_assoc front (cell ∷ []) (flags_in more behind) ∙ ap (λ (cs : List Cell). front ++ cs) (sym one) ∙ so_far)

pub all_flags : (front : List Cell) (levels flags : List Bool) (total : List Cell) → length levels ≡ 0 → front ++ flags_in levels flags ≡ total → front ≡ total
unfolding flags_in
all_flags front levels flags total none so_far =
    let one : front ++ flags_in levels flags ≡ front = rw (nil_from_length levels none) (append-nil front) in
    sym one ∙ so_far
