-- The rows of row groups in turn are the only ones that are read so.
use Rattle.std.proofs.Common.{◌≡◌, ℕ, zero, suc, ◌+◌, ◌-◌, ◌<◌, ◌≤◌, get_or, List, [], ◌∷◌, ◌++◌, length, map, replicate, flat_map, Err, refl, sym, ap, subst, ◌∙◌, append_assoc, append-nil, arith, inl, inr}
use Rattle.std.specs.List.{AllByRecursion}
use Rattle.std.proofs.lemmas.List.Concat.{flat_map-cons}
use Rattle.std.proofs.lemmas.List.{map-append, length-replicate, nil_from_length}
use Rattle.mx_schema.specs.declared.cell.Cell.{Cell}
use Rattle.mx_schema.specs.declared.cell.Cell.TheVariants as cells
use Rattle.mx_schema.specs.declared.column.Column.{Column}
use Rattle.mx_parquet.specs.declared.row.FullRow.{FullRow}
use Rattle.mx_parquet.specs.declared.layout.ChunkPlace.{ChunkPlace}
use Rattle.mx_parquet.specs.declared.error.ParquetError.{ParquetError}
use Rattle.mx_parquet.specs.Columns.{row_cells, cell_at, cells_at}
use Rattle.mx_parquet.specs.Chunks.{fitted}
use Rattle.mx_parquet.specs.declared.layout.Group.{Group}
use Rattle.mx_parquet.proofs.FaultsSay.{tells_more}
use Rattle.mx_parquet.specs.Faults.{TellsFault, IsColumnsFault, IsGroupsFault}
use Rattle.mx_parquet.specs.Filling.{blank, HoldColumns, AreFilled, IsGroupOf, AreGroupsOf, AreRowsOf, Refuses, ReadAs, fitted_row}
use Rattle.mx_parquet.proofs.RowsSay.{refuses_more}

-- ---- row groups

-- the rows of the row groups up to some, which are left
pub record GroupsUpTo (file : List ℕ) (columns : List Column) (groups left : List Group) (rows : List FullRow) : Type 0 where
  pub joins : (more : List FullRow) → AreRowsOf file columns left more → AreRowsOf file columns groups (rows ++ more)
  pub splits : (all : List FullRow) → AreRowsOf file columns groups all → (more : List FullRow) × (map fitted_row all ≡ rows ++ map fitted_row more) × AreRowsOf file columns left more
  pub faults : (e : ParquetError) → IsGroupsFault file columns left e → IsGroupsFault file columns groups e

-- the rows of the first group
record FirstRows (file : List ℕ) (columns : List Column) (group : Group) (groups : List Group) (all : List FullRow) : Type 0 where
  pub rows : List FullRow
  pub is_group : IsGroupOf file columns group rows
  pub more : List FullRow
  pub others : AreRowsOf file columns groups more
  pub parts : all ≡ rows ++ more

first_rows : (file : List ℕ) (columns : List Column) (group : Group) (groups : List Group) (all : List FullRow) (parts : List (List FullRow)) → AreGroupsOf file columns (group ∷ groups) parts
    → all ≡ flat_map (λ (part : List FullRow). part) parts → FirstRows file columns group groups all
first_rows file columns group groups all [] each is = absurd each
first_rows file columns group groups all (rows ∷ parts) each is = record {
  rows = rows;
  is_group = each.0;
  more = flat_map (λ (part : List FullRow). part) parts;
  others = record { parts = parts; each = each.1; all = refl };
  parts = is ∙ flat_map-cons (λ (part : List FullRow). part) rows parts;
}

pub one_group_more : (file : List ℕ) (columns : List Column) (groups left behind : List Group) (group : Group) (rows more next : List FullRow) → left ≡ group ∷ behind → GroupsUpTo file columns groups left rows
    → IsGroupOf file columns group more → ((others : List FullRow) → IsGroupOf file columns group others → map fitted_row others ≡ more) → next ≡ rows ++ more → GroupsUpTo file columns groups behind next
one_group_more file columns groups left behind group rows more next is so_far is_group only grown =
    let s = subst (λ (l : List Group). GroupsUpTo file columns groups l rows) is so_far in
    rw grown (
    record {
      joins = λ others are.
          subst (AreRowsOf file columns groups) (sym (append_assoc rows more others)) (
          s.joins (more ++ others) (
          record {
            parts = more ∷ are.parts;
            each = (is_group, are.each);
            all = ap (λ (rs : List FullRow). more ++ rs) are.all ∙ sym (flat_map-cons (λ (part : List FullRow). part) more are.parts);
          }
          )
          );
      faults = λ e fault. s.faults e (inr (more, is_group, fault));
      splits = λ all are.
          let p = s.splits all are in
          let f = first_rows file columns group behind p.0 p.2.parts p.2.each p.2.all in (
            f.more,
            p.1 ∙ ap (λ (rs : List FullRow). rows ++ map fitted_row rs) f.parts ∙ ap (λ (rs : List FullRow). rows ++ rs) (map-append fitted_row f.rows f.more)
                ∙ ap (λ (rs : List FullRow). rows ++ (rs ++ map fitted_row f.more)) (only f.rows f.is_group) ∙ sym (append_assoc rows more (map fitted_row f.more)),
            f.others,
          );
    }
    )

pub no_group : (X Y : Type 0) (file : List ℕ) (columns : List Column) (groups left behind : List Group) (group : Group) (rows : List FullRow) (e : ParquetError) → left ≡ group ∷ behind → GroupsUpTo file columns groups left rows
    → Refuses {X = X} (IsGroupOf file columns group) (Err e) → Refuses {X = Y} (AreRowsOf file columns groups) (Err e)
no_group X Y file columns groups left behind group rows e is so_far none =
    let s = subst (λ (l : List Group). GroupsUpTo file columns groups l rows) is so_far in
    refuses_more X Y (IsGroupOf file columns group) (AreRowsOf file columns groups) e (
    λ all are.
    let p = s.splits all are in
    let f = first_rows file columns group behind p.0 p.2.parts p.2.each p.2.all in
    (f.rows, f.is_group)
    )
    none

pub all_groups : (file : List ℕ) (columns : List Column) (groups left : List Group) (rows : List FullRow) → length left ≡ 0 → GroupsUpTo file columns groups left rows → AreRowsOf file columns groups rows
all_groups file columns groups left rows none so_far =
    let s = subst (λ (l : List Group). GroupsUpTo file columns groups l rows) (nil_from_length left none) so_far in
    subst (AreRowsOf file columns groups) (append-nil rows) (s.joins [] (record { parts = []; each = tt; all = refl }))

pub only_groups : (file : List ℕ) (columns : List Column) (groups left : List Group) (rows : List FullRow) → length left ≡ 0 → GroupsUpTo file columns groups left rows
    → (others : List FullRow) → AreRowsOf file columns groups others → map fitted_row others ≡ rows
only_groups file columns groups left rows none so_far others are =
    let p = so_far.splits others are in
    let end = subst (λ (l : List Group). AreRowsOf file columns l p.0) (nil_from_length left none) p.2 in
    let nothing : p.0 ≡ [] = no_parts end.parts end.each end.all in
    p.1 ∙ ap (λ (rs : List FullRow). rows ++ map fitted_row rs) nothing ∙ append-nil rows
  where
    no_parts : {rs : List FullRow} (parts : List (List FullRow)) → AreGroupsOf file columns [] parts → rs ≡ flat_map (λ (part : List FullRow). part) parts → rs ≡ []
    no_parts [] each all = all
    no_parts (part ∷ parts) each all = absurd each

-- ---- one row for all that are read so

ext_fitted : (xs ys : List Cell) → length xs ≡ length ys → ((q : ℕ) → q < length xs → fitted (get_or xs q cells.Null) ≡ get_or ys q cells.Null) → map fitted xs ≡ ys
ext_fitted [] [] len same = refl
ext_fitted [] (y ∷ ys) len same = absurd (omega (arith, len))
ext_fitted (x ∷ xs) [] len same = absurd (omega (arith, len))
ext_fitted (x ∷ xs) (y ∷ ys) len same =
    ap (λ (c : Cell). c ∷ map fitted xs) (same 0 (omega arith)) ∙ ap (λ (cs : List Cell). y ∷ cs) (ext_fitted xs ys (omega (arith, len)) (λ q lt. same (suc q) (omega (arith, lt))))

same_texts : (row other : FullRow) → map fitted (row_cells row) ≡ row_cells other → fitted_row row ≡ other
same_texts row other is =
    let a : row.commit_time ≡ other.commit_time = cc in
    let b : row.commit_seqno ≡ other.commit_seqno = cc in
    let c : row.record_key ≡ other.record_key = cc in
    let d : row.partition_path ≡ other.partition_path = cc in
    let e : row.file_name ≡ other.file_name = cc in
    let f : map fitted row.cells ≡ other.cells = cc in
    ap (λ (t : List ℕ). made t row.commit_seqno row.record_key row.partition_path row.file_name (map fitted row.cells)) a
    ∙ ap (λ (t : List ℕ). made other.commit_time t row.record_key row.partition_path row.file_name (map fitted row.cells)) b
    ∙ ap (λ (t : List ℕ). made other.commit_time other.commit_seqno t row.partition_path row.file_name (map fitted row.cells)) c
    ∙ ap (λ (t : List ℕ). made other.commit_time other.commit_seqno other.record_key t row.file_name (map fitted row.cells)) d
    ∙ ap (λ (t : List ℕ). made other.commit_time other.commit_seqno other.record_key other.partition_path t (map fitted row.cells)) e
    ∙ ap (made other.commit_time other.commit_seqno other.record_key other.partition_path other.file_name) f
  where
    made : List ℕ → List ℕ → List ℕ → List ℕ → List ℕ → List Cell → FullRow
    made a b c d e cells = record { commit_time = a; commit_seqno = b; record_key = c; partition_path = d; file_name = e; cells = cells }

row_same : (count : ℕ) (row other : FullRow) → 5 ≤ count → length row.cells ≡ count - 5 → length other.cells ≡ count - 5 → ((q : ℕ) → q < count → fitted (cell_at q row) ≡ cell_at q other) → fitted_row row ≡ other
row_same count row other five one two same =
    same_texts row other (ext_fitted (row_cells row) (row_cells other) (omega (arith, one, two)) (λ q lt. same q (omega (arith, lt, one, five))))

cons_is : {A : Type 0} (x y : A) (xs ys : List A) → x ∷ xs ≡ y ∷ ys → (x ≡ y) × (xs ≡ ys)
cons_is x y xs ys e = (cc, cc)

rows_same : (count : ℕ) (rows others : List FullRow) → 5 ≤ count → length rows ≡ length others → AllByRecursion (λ row. length row.cells ≡ count - 5) rows → AllByRecursion (λ row. length row.cells ≡ count - 5) others
    → ((q : ℕ) → q < count → map fitted (cells_at q rows) ≡ cells_at q others) → map fitted_row rows ≡ others
rows_same count [] [] five len one two same = refl
rows_same count [] (other ∷ others) five len one two same = absurd (omega (arith, len))
rows_same count (row ∷ rows) [] five len one two same = absurd (omega (arith, len))
rows_same count (row ∷ rows) (other ∷ others) five len one two same =
    let parts = λ (q : ℕ) (lt : q < count). cons_is (fitted (cell_at q row)) (cell_at q other) (map fitted (cells_at q rows)) (cells_at q others) (same q lt) in
    ap (λ (r : FullRow). r ∷ map fitted_row rows) (row_same count row other five one.0 two.0 (λ q lt. (parts q lt).0))
    ∙ ap (λ (rs : List FullRow). other ∷ rs) (rows_same count rows others five (omega (arith, len)) one.1 two.1 (λ q lt. (parts q lt).1))

read_at : (place : ℕ) (columns : List Column) (rows others : List FullRow) → ReadAs place columns rows others → (q p : ℕ) → q < length columns → p ≡ place + q → map fitted (cells_at p rows) ≡ cells_at p others
read_at place [] rows others same q p lt is = absurd (omega (arith, lt))
read_at place (column ∷ columns) rows others same zero p lt is =
    let at : place ≡ p = omega (arith, is) in subst (λ (n : ℕ). map fitted (cells_at n rows) ≡ cells_at n others) at same.0
read_at place (column ∷ columns) rows others same (suc q) p lt is = read_at (place + 1) columns rows others same.1 q p (omega (arith, lt)) (omega (arith, is))

pub group_only : (file : List ℕ) (columns : List Column) (group : Group) (chunks : List ChunkPlace) (before rows others : List FullRow) → 5 ≤ length columns → before ≡ replicate group.row_count blank
    → chunks ≡ group.chunks → AreFilled file (length before) 0 columns chunks before rows → IsGroupOf file columns group others → map fitted_row others ≡ rows
group_only file columns group chunks before rows others five blanks_are these are is =
    let len : length before ≡ group.row_count = ap length blanks_are ∙ length-replicate group.row_count blank in
    let held = subst (λ (cs : List ChunkPlace). HoldColumns file (length before) 0 columns cs others) (sym these) (subst (λ (n : ℕ). HoldColumns file n 0 columns group.chunks others) (sym len) is.held) in
    let same = are.only others held in
    rows_same (length columns) others rows five (omega (arith, is.counted, are.as_many, len)) is.as_long (long rows are.as_long) (λ q lt. read_at 0 columns others rows same q q lt (omega arith))
  where
    long : (rs : List FullRow) → AllByRecursion (λ row. length row.cells ≡ 0 + length columns - 5) rs → AllByRecursion (λ row. length row.cells ≡ length columns - 5) rs
    long [] all = tt
    long (r ∷ rs) all = (omega (arith, all.0), long rs all.1)

pub group_fault : (X Y : Type 0) (file : List ℕ) (columns : List Column) (groups left behind : List Group) (group : Group) (rows : List FullRow) (e : ParquetError) → left ≡ group ∷ behind → GroupsUpTo file columns groups left rows
    → TellsFault {X = X} (IsColumnsFault file group.row_count 0 columns group.chunks) (Err e) → TellsFault {X = Y} (IsGroupsFault file columns groups) (Err e)
group_fault X Y file columns groups left behind group rows e is so_far told =
    let s = subst (λ (l : List Group). GroupsUpTo file columns groups l rows) is so_far in
    tells_more X Y (IsColumnsFault file group.row_count 0 columns group.chunks) (IsGroupsFault file columns groups) e (λ fault. s.faults e (inl fault)) told
