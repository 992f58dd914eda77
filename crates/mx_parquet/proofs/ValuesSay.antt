-- What is read of the values of a page are the cells that they stand for.
use Rattle.std.proofs.Common.{◌≡◌, ℕ, zero, suc, ◌+◌, ◌*◌, ◌/◌, ◌^◌, ◌<◌, ◌≤◌, Bool, true, false, eqb, ltb, cond, List, [], ◌∷◌, ◌++◌, length, map, take, drop, flat_map, Ok, Err, refl, sym, ap, subst, ◌∙◌, append_assoc, length-append, arith}
use Rattle.std.specs.Int.{w32, w64, from_le_bytes, cast_signed, cast_unsigned, div_ceil}
use Rattle.std.specs.List.{AllByRecursion}
use Rattle.std.specs.Str.{IsUtf8, is_utf8}
use Rattle.std.proofs.lemmas.Bool.{le-ltb, ltb-false}
use Rattle.std.proofs.lemmas.Bool.Decides.{nat_tests}
use Rattle.std.proofs.lemmas.Int.{of_z-to_z}
use Rattle.std.proofs.lemmas.List.{take_at, drop_at, take-append-drop, length-take}
use Rattle.std.proofs.lemmas.List.Concat.{flat_map-cons}
use Rattle.std.proofs.lemmas.Nat.{le_bytes_4, le_bytes_8, from_le_bytes-to_le_bytes_4}
use Rattle.std.proofs.lemmas.Str.{IsUtf8-from_is_utf8, is_utf8-from_IsUtf8}
use Rattle.mx_lists.proofs.Codecs.{IsBytes, IsBytes-drop, IsBytes-take}
use Rattle.mx_schema.specs.declared.cell.Cell.{Cell}
use Rattle.mx_schema.specs.declared.cell.Cell.TheVariants as cells
use Rattle.mx_schema.specs.declared.column.ColumnKind.{ColumnKind}
use Rattle.mx_schema.specs.declared.column.ColumnKind.TheVariants as kinds
use Rattle.mx_levels.specs.Encoding.{bits}
use Rattle.mx_parquet.specs.Pages.{number, is_present, plain, truths}
use Rattle.mx_parquet.specs.Decoding.{AreBits, AreValues}
use Rattle.mx_parquet.specs.Reading.{◌>>=◌}
use Rattle.mx_parquet.specs.Values.{front_in, sized_in, text_of, value_in, cell_in, at_end, plain_in, flags_in, present_count, truths_in, cells_in}
use Rattle.mx_parquet.specs.Chunks.{fitted, IsOfKind, AreCells}
use Rattle.mx_parquet.proofs.Said.{bind_ok, good, ok_is}

-- ---- the front of bytes

record Parted (count : ℕ) (bytes : List ℕ) (x : List ℕ × List ℕ) : Type 0 where
  pub parts : bytes ≡ x.0 ++ x.1
  pub len : length x.0 ≡ count
  pub front_fits : IsBytes x.0
  pub rest_fits : IsBytes x.1

front_by : (count : ℕ) (bytes : List ℕ) (x : List ℕ × List ℕ) (b : Bool) → IsBytes bytes → ltb (length bytes) count ≡ b
    → cond b (Err Rattle.mx_parquet.specs.declared.error.Flaw.TheVariants.Bad) (good (take count bytes, drop count bytes)) ≡ Ok x → Parted count bytes x
front_by count bytes x true fits lt e = absurd cc
front_by count bytes x false fits lt e =
    let long : count ≤ length bytes = ltb-false _ _ lt in
    subst (λ (p : List ℕ × List ℕ). Parted count bytes p) (ok_is (take count bytes, drop count bytes) x e) (
    record {
      parts = sym (take-append-drop count bytes);
      len = omega (arith, length-take count bytes);
      front_fits = IsBytes-take count bytes fits;
      rest_fits = IsBytes-drop count bytes fits;
    }
    )

front_says : (count : ℕ) (bytes : List ℕ) (x : List ℕ × List ℕ) → IsBytes bytes → front_in count bytes ≡ Ok x → Parted count bytes x
unfolding front_in
front_says count bytes x fits e = front_by count bytes x (ltb (length bytes) count) fits refl e

front_reads : (count : ℕ) (front rest : List ℕ) → length front ≡ count → front_in count (front ++ rest) ≡ Ok (front, rest)
unfolding front_in
front_reads count front rest len =
    rw (le-ltb (length (front ++ rest)) count (omega (arith, length-append front rest)), take_at front rest count len, drop_at front rest count len) refl

-- ---- one value

number_again : (bytes : List ℕ) → IsBytes bytes → length bytes ≡ 4 → number w32 (cast_unsigned w32 (cast_signed w32 (from_le_bytes w32 bytes))) ≡ bytes
unfolding number
number_again bytes fits len =
    let small : from_le_bytes w32 bytes < 2 ^ 32 = omega (arith, fits 0, fits 1, fits 2, fits 3) in
    le_bytes_4 bytes _ len fits (of_z-to_z w32 (from_le_bytes w32 bytes) small)

long_again : (bytes : List ℕ) → IsBytes bytes → length bytes ≡ 8 → number w64 (cast_unsigned w64 (cast_signed w64 (from_le_bytes w64 bytes))) ≡ bytes
unfolding number
long_again bytes fits len =
    let small : from_le_bytes w64 bytes < 2 ^ 64 = omega (arith, fits 0, fits 1, fits 2, fits 3, fits 4, fits 5, fits 6, fits 7) in
    le_bytes_8 bytes _ len fits (of_z-to_z w64 (from_le_bytes w64 bytes) small)

len_again : (bytes : List ℕ) → IsBytes bytes → length bytes ≡ 4 → number w32 (from_le_bytes w32 bytes) ≡ bytes
unfolding number
len_again bytes fits len = le_bytes_4 bytes _ len fits refl

number-from : (n : ℕ) → n < 2 ^ 32 → from_le_bytes w32 (number w32 n) ≡ n
unfolding number
number-from n small = from_le_bytes-to_le_bytes_4 n small

number-length32 : (n : ℕ) → length (number w32 n) ≡ 4
unfolding number
number-length32 n = refl

number-length64 : (n : ℕ) → length (number w64 n) ≡ 8
unfolding number
number-length64 n = refl

-- bytes behind their length
pub record Sized (bytes : List ℕ) (x : List ℕ × List ℕ) : Type 0 where
  pub parts : bytes ≡ number w32 (length x.0) ++ x.0 ++ x.1
  pub short : length x.0 < 2 ^ 32
  pub rest_fits : IsBytes x.1

pub sized_says : (bytes : List ℕ) (x : List ℕ × List ℕ) → IsBytes bytes → sized_in bytes ≡ Ok x → Sized bytes x
unfolding sized_in
sized_says bytes x fits e =
    let p = bind_ok (front_in 4 bytes) (λ len. front_in (from_le_bytes w32 len.0) len.1) x e in
    let f = front_says 4 bytes p.0 fits p.1 in
    let g = front_says (from_le_bytes w32 p.0.0) p.0.1 x f.rest_fits p.2 in
    let h = f.front_fits in
    let small : from_le_bytes w32 p.0.0 < 2 ^ 32 = omega (arith, h 0, h 1, h 2, h 3) in
    let len : number w32 (length x.0) ≡ p.0.0 = ap (number w32) g.len ∙ len_again p.0.0 f.front_fits f.len in
    record {
      parts = f.parts ∙ ap (λ (b : List ℕ). p.0.0 ++ b) g.parts ∙ ap (λ (b : List ℕ). b ++ (x.0 ++ x.1)) (sym len) ∙ sym (append_assoc (number w32 (length x.0)) x.0 x.1);
      short = omega (arith, g.len, small);
      rest_fits = g.rest_fits;
    }

pub sized_reads : (body rest : List ℕ) → length body < 2 ^ 32 → sized_in (number w32 (length body) ++ body ++ rest) ≡ Ok (body, rest)
unfolding sized_in
sized_reads body rest short =
    rw (
      append_assoc (number w32 (length body)) body rest,
      front_reads 4 (number w32 (length body)) (body ++ rest) (number-length32 (length body)),
      front_reads (from_le_bytes w32 (number w32 (length body))) body rest (sym (number-from (length body) short)),
    )
    refl

-- a value in front of bytes
record IsValue (kind : ColumnKind) (bytes : List ℕ) (x : Cell × List ℕ) : Type 0 where
  pub parts : bytes ≡ plain x.0 ++ x.1
  pub is_one : is_present x.0 ≡ true
  pub kinded : IsOfKind kind x.0
  pub rest_fits : IsBytes x.1

text_by : (text rest : List ℕ) (x : Cell × List ℕ) (b : Bool) → is_utf8 text ≡ b
    → cond b (good (cells.Text text, rest)) (Err Rattle.mx_parquet.specs.declared.error.Flaw.TheVariants.Bad) ≡ Ok x → IsUtf8 text × ((cells.Text text, rest) ≡ x)
text_by text rest x true is e = (IsUtf8-from_is_utf8 text is, ok_is (cells.Text text, rest) x e)
text_by text rest x false is e = absurd cc

value_says : (kind : ColumnKind) (bytes : List ℕ) (x : Cell × List ℕ) → IsBytes bytes → value_in kind bytes ≡ Ok x → IsValue kind bytes x
unfolding value_in
value_says kinds.Boolean bytes x fits e = absurd cc
value_says kinds.Int32 bytes x fits e =
    let p = bind_ok (front_in 4 bytes) (λ parts. good (cells.Small (cast_signed w32 (from_le_bytes w32 parts.0)), parts.1)) x e in
    let f = front_says 4 bytes p.0 fits p.1 in
    subst (IsValue kinds.Int32 bytes) (ok_is (cells.Small (cast_signed w32 (from_le_bytes w32 p.0.0)), p.0.1) x p.2) (
    record {
      parts = f.parts ∙ ap (λ (b : List ℕ). b ++ p.0.1) (sym (number_again p.0.0 f.front_fits f.len));
      is_one = refl;
      kinded = refl;
      rest_fits = f.rest_fits;
    }
    )
value_says kinds.Int64 bytes x fits e =
    let p = bind_ok (front_in 8 bytes) (λ parts. good (cells.Whole (cast_signed w64 (from_le_bytes w64 parts.0)), parts.1)) x e in
    let f = front_says 8 bytes p.0 fits p.1 in
    subst (IsValue kinds.Int64 bytes) (ok_is (cells.Whole (cast_signed w64 (from_le_bytes w64 p.0.0)), p.0.1) x p.2) (
    record {
      parts = f.parts ∙ ap (λ (b : List ℕ). b ++ p.0.1) (sym (long_again p.0.0 f.front_fits f.len));
      is_one = refl;
      kinded = refl;
      rest_fits = f.rest_fits;
    }
    )
value_says kinds.Text bytes x fits e =
    let q = bind_ok (sized_in bytes) text_of x e in
    let g = sized_says bytes q.0 fits q.1 in
    let t = text_by q.0.0 q.0.1 x (is_utf8 q.0.0) refl q.2 in
    subst (IsValue kinds.Text bytes) t.1 (
    record {
      parts = g.parts;
      is_one = refl;
      kinded = (refl, t.0);
      rest_fits = g.rest_fits;
    }
    )

-- a kind of values that stand as bytes
abbrev IsPlain : ColumnKind → Type 0
IsPlain kinds.Boolean = ⊥
IsPlain kinds.Int32 = Unit {0}
IsPlain kinds.Int64 = Unit {0}
IsPlain kinds.Text = Unit {0}

value_reads : (kind : ColumnKind) (cell : Cell) (rest : List ℕ) → IsPlain kind → is_present cell ≡ true → IsOfKind kind cell → length (plain cell) < 2 ^ 32 → value_in kind (plain cell ++ rest) ≡ Ok (fitted cell, rest)
unfolding value_in
value_reads kind cells.Null rest plain_kind one is short = absurd cc
value_reads kind (cells.Flag flag) rest plain_kind one is short = absurd (subst IsPlain is plain_kind)
value_reads kind (cells.Small n) rest plain_kind one is short =
    rw (is, front_reads 4 (number w32 (cast_unsigned w32 n)) rest (number-length32 (cast_unsigned w32 n))) refl
value_reads kind (cells.Whole n) rest plain_kind one is short =
    rw (is, front_reads 8 (number w64 (cast_unsigned w64 n)) rest (number-length64 (cast_unsigned w64 n))) refl
value_reads kind (cells.Text text) rest plain_kind one is short =
    let small : length text < 2 ^ 32 = omega (arith, short, length-append (number w32 (length text)) text) in
    rw (
      is.0,
      sized_reads text rest small,
      is_utf8-from_IsUtf8 text is.1,
    )
    refl

-- ---- numbers and texts

at_end_says : (bytes : List ℕ) (held : List Cell) → at_end bytes ≡ Ok held → (bytes ≡ []) × (held ≡ [])
at_end_says [] held e = (refl, sym (ok_is [] held e))
at_end_says (byte ∷ bytes) held e = absurd cc

-- cells of these levels that stand in these bytes
record ArePlain (kind : ColumnKind) (levels : List Bool) (bytes : List ℕ) (held : List Cell) : Type 0 where
  pub present : map is_present held ≡ levels
  pub valued : bytes ≡ flat_map plain held
  pub each : AllByRecursion (IsOfKind kind) held

-- one more cell in front
record InFront (kind : ColumnKind) (level : Bool) (bytes : List ℕ) (x : Cell × List ℕ) : Type 0 where
  pub parts : bytes ≡ plain x.0 ++ x.1
  pub is_level : is_present x.0 ≡ level
  pub kinded : IsOfKind kind x.0
  pub rest_fits : IsBytes x.1

cell_says : (kind : ColumnKind) (level : Bool) (bytes : List ℕ) (x : Cell × List ℕ) → IsBytes bytes → cell_in kind level bytes ≡ Ok x → InFront kind level bytes x
cell_says kind false bytes x fits e = subst (InFront kind false bytes) (ok_is (cells.Null, bytes) x e) (record { parts = refl; is_level = refl; kinded = tt; rest_fits = fits })
cell_says kind true bytes x fits e =
    let v = value_says kind bytes x fits e in
    record { parts = v.parts; is_level = v.is_one; kinded = v.kinded; rest_fits = v.rest_fits }

plain_says : (kind : ColumnKind) (levels : List Bool) (bytes : List ℕ) (held : List Cell) → IsBytes bytes → plain_in kind levels bytes ≡ Ok held → ArePlain kind levels bytes held
unfolding plain_in
plain_says kind [] bytes held fits e =
    let p = at_end_says bytes held e in
    rw (p.0, p.1) (record { present = refl; valued = refl; each = tt })
plain_says kind (level ∷ levels) bytes held fits e =
    let p = bind_ok (cell_in kind level bytes) (λ x. plain_in kind levels x.1 >>= λ cells. good (x.0 ∷ cells)) held e in
    let f = cell_says kind level bytes p.0 fits p.1 in
    let q = bind_ok (plain_in kind levels p.0.1) (λ cells. good (p.0.0 ∷ cells)) held p.2 in
    let r = plain_says kind levels p.0.1 q.0 f.rest_fits q.1 in
    subst (ArePlain kind (level ∷ levels) bytes) (ok_is (p.0.0 ∷ q.0) held q.2) (
    record {
      present = ap (λ (b : Bool). b ∷ map is_present q.0) f.is_level ∙ ap (λ (ls : List Bool). level ∷ ls) r.present;
      valued = f.parts ∙ ap (λ (b : List ℕ). plain p.0.0 ++ b) r.valued ∙ sym (flat_map-cons plain p.0.0 q.0);
      each = (f.kinded, r.each);
    }
    )

cell_reads : (kind : ColumnKind) (cell : Cell) (rest : List ℕ) (level : Bool) → is_present cell ≡ level → IsPlain kind → IsOfKind kind cell → length (plain cell) < 2 ^ 32
    → cell_in kind level (plain cell ++ rest) ≡ Ok (fitted cell, rest)
cell_reads kind cells.Null rest true is plain_kind kinded short = absurd cc
cell_reads kind cells.Null rest false is plain_kind kinded short = refl
cell_reads kind (cells.Flag flag) rest level is plain_kind kinded short = rw (sym is) (value_reads kind (cells.Flag flag) rest plain_kind refl kinded short)
cell_reads kind (cells.Small n) rest level is plain_kind kinded short = rw (sym is) (value_reads kind (cells.Small n) rest plain_kind refl kinded short)
cell_reads kind (cells.Whole n) rest level is plain_kind kinded short = rw (sym is) (value_reads kind (cells.Whole n) rest plain_kind refl kinded short)
cell_reads kind (cells.Text text) rest level is plain_kind kinded short = rw (sym is) (value_reads kind (cells.Text text) rest plain_kind refl kinded short)

plain_reads : (kind : ColumnKind) (held : List Cell) → IsPlain kind → length (flat_map plain held) < 2 ^ 32 → AllByRecursion (IsOfKind kind) held
    → plain_in kind (map is_present held) (flat_map plain held) ≡ Ok (map fitted held)
unfolding plain_in
plain_reads kind [] plain_kind short each = refl
plain_reads kind (cell ∷ held) plain_kind short each =
    let parts = flat_map-cons plain cell held in
    let len : length (flat_map plain (cell ∷ held)) ≡ length (plain cell) + length (flat_map plain held) = ap length parts ∙ length-append (plain cell) (flat_map plain held) in
    rw (
      parts,
      cell_reads kind cell (flat_map plain held) (is_present cell) refl plain_kind each.0 (omega (arith, len, short)),
      plain_reads kind held plain_kind (omega (arith, len, short)) each.1,
    )
    refl

-- ---- truth values

count-true : (levels : List Bool) → present_count (true ∷ levels) ≡ suc (present_count levels)
unfolding present_count
count-true levels = refl

count-false : (levels : List Bool) → present_count (false ∷ levels) ≡ present_count levels
unfolding present_count
count-false levels = refl

count-nil : present_count [] ≡ 0
unfolding present_count
count-nil = refl

-- cells of these levels with these truth values
record AreFlags (levels flags : List Bool) (held : List Cell) : Type 0 where
  pub present : map is_present held ≡ levels
  pub truth : flat_map truths held ≡ take (present_count levels) flags
  pub each : AllByRecursion (IsOfKind kinds.Boolean) held

flags_say : (levels flags : List Bool) → present_count levels ≤ length flags → AreFlags levels flags (flags_in levels flags)
unfolding flags_in
flags_say [] flags enough = record { present = refl; truth = ap (λ (n : ℕ). take n flags) (sym count-nil); each = tt }
flags_say (false ∷ levels) flags enough =
    let count = count-false levels in
    let r = flags_say levels flags (omega (arith, count, enough)) in
    let same : present_count levels ≡ present_count (false ∷ levels) = omega (arith, count) in
    record {
      present = ap (λ (ls : List Bool). false ∷ ls) r.present;
      truth = flat_map-cons truths cells.Null (flags_in levels flags) ∙ r.truth ∙ ap (λ (n : ℕ). take n flags) same;
      each = (tt, r.each);
    }
flags_say (true ∷ levels) [] enough = absurd (omega (arith, count-true levels, enough))
flags_say (true ∷ levels) (flag ∷ flags) enough =
    let count = count-true levels in
    let r = flags_say levels flags (omega (arith, count, enough)) in
    let same : suc (present_count levels) ≡ present_count (true ∷ levels) = omega (arith, count) in
    record {
      present = ap (λ (ls : List Bool). true ∷ ls) r.present;
      truth = flat_map-cons truths (cells.Flag flag) (flags_in levels flags) ∙ ap (λ (fs : List Bool). flag ∷ fs) r.truth ∙ ap (λ (n : ℕ). take n (flag ∷ flags)) same;
      each = (refl, r.each);
    }

bits-length : (n m : ℕ) → length (bits n m) ≡ n
unfolding bits
bits-length zero m = refl
bits-length (suc n) m = ap suc (bits-length n (m / 2))

all_bits-length : (bytes : List ℕ) → length (flat_map (bits 8) bytes) ≡ 8 * length bytes
all_bits-length [] = refl
all_bits-length (byte ∷ bytes) =
    let parts = ap length (flat_map-cons (bits 8) byte bytes) ∙ length-append (bits 8 byte) (flat_map (bits 8) bytes) in
    omega (arith, parts, bits-length 8 byte, all_bits-length bytes)

truths_by : (levels : List Bool) (bytes : List ℕ) (held : List Cell) (b : Bool) → eqb (length bytes) (div_ceil (present_count levels) 8) ≡ b
    → cond b (good (flags_in levels (flat_map (bits 8) bytes))) (Err Rattle.mx_parquet.specs.declared.error.Flaw.TheVariants.Bad) ≡ Ok held → AreCells kinds.Boolean levels bytes held
truths_by levels bytes held false is e = absurd cc
truths_by levels bytes held true is e =
    let len : length bytes ≡ div_ceil (present_count levels) 8 = grind (arith, nat_tests) in
    let flags = flat_map (bits 8) bytes in
    let enough : present_count levels ≤ length flags = omega (arith, len, all_bits-length bytes) in
    let r = flags_say levels flags enough in
    let count : length (flat_map truths (flags_in levels flags)) ≡ present_count levels = omega (arith, ap length r.truth, length-take (present_count levels) flags, enough) in
    subst (AreCells kinds.Boolean levels bytes) (ok_is (flags_in levels flags) held e) (
    record {
      present = r.present;
      valued = (len ∙ ap (λ (n : ℕ). div_ceil n 8) (sym count), ap (λ (n : ℕ). take n flags) count ∙ sym r.truth);
      each = r.each;
    }
    )

count-truths : (held : List Cell) → AllByRecursion (IsOfKind kinds.Boolean) held → present_count (map is_present held) ≡ length (flat_map truths held)
count-truths [] each = count-nil
count-truths (cells.Null ∷ held) each = count-false (map is_present held) ∙ count-truths held each.1 ∙ ap length (sym (flat_map-cons truths cells.Null held))
count-truths (cells.Flag flag ∷ held) each =
    count-true (map is_present held) ∙ ap suc (count-truths held each.1) ∙ ap length (sym (flat_map-cons truths (cells.Flag flag) held))
count-truths (cells.Small n ∷ held) each = absurd (no_small each.0)
  where
    no_small : kinds.Boolean ≡ kinds.Int32 → ⊥
    no_small e = absurd cc
count-truths (cells.Whole n ∷ held) each = absurd (no_whole each.0)
  where
    no_whole : kinds.Boolean ≡ kinds.Int64 → ⊥
    no_whole e = absurd cc
count-truths (cells.Text text ∷ held) each = absurd (no_text each.0.0)
  where
    no_text : kinds.Boolean ≡ kinds.Text → ⊥
    no_text e = absurd cc

flags_read : (held : List Cell) (flags : List Bool) → AllByRecursion (IsOfKind kinds.Boolean) held → take (length (flat_map truths held)) flags ≡ flat_map truths held
    → flags_in (map is_present held) flags ≡ map fitted held
unfolding flags_in
flags_read [] flags each is = refl
flags_read (cells.Null ∷ held) flags each is = ap (λ (cs : List Cell). cells.Null ∷ cs) (flags_read held flags each.1 (rw (sym (flat_map-cons truths cells.Null held)) is))
flags_read (cells.Flag flag ∷ held) flags each is =
    with_flag flag held flags each.1 (ap (λ (fs : List Bool). take (length fs) flags) (sym (flat_map-cons truths (cells.Flag flag) held)) ∙ is ∙ flat_map-cons truths (cells.Flag flag) held) (flags_read held)
  where
    with_flag : (flag : Bool) (held : List Cell) (flags : List Bool) → AllByRecursion (IsOfKind kinds.Boolean) held → take (suc (length (flat_map truths held))) flags ≡ flag ∷ flat_map truths held
        → ((more : List Bool) → AllByRecursion (IsOfKind kinds.Boolean) held → take (length (flat_map truths held)) more ≡ flat_map truths held → flags_in (map is_present held) more ≡ map fitted held)
        → flags_in (true ∷ map is_present held) flags ≡ cells.Flag flag ∷ map fitted held
    with_flag flag held [] each is more = absurd cc
    with_flag flag held (first ∷ flags) each is more =
        let same : first ≡ flag = cc in
        let others : take (length (flat_map truths held)) flags ≡ flat_map truths held = cc in
        ap (λ (b : Bool). cells.Flag b ∷ flags_in (map is_present held) flags) same ∙ ap (λ (cs : List Cell). cells.Flag flag ∷ cs) (more flags each others)
flags_read (cells.Small n ∷ held) flags each is = absurd (no_small each.0)
  where
    no_small : kinds.Boolean ≡ kinds.Int32 → ⊥
    no_small e = absurd cc
flags_read (cells.Whole n ∷ held) flags each is = absurd (no_whole each.0)
  where
    no_whole : kinds.Boolean ≡ kinds.Int64 → ⊥
    no_whole e = absurd cc
flags_read (cells.Text text ∷ held) flags each is = absurd (no_text each.0.0)
  where
    no_text : kinds.Boolean ≡ kinds.Text → ⊥
    no_text e = absurd cc

truths_read : (held : List Cell) (bytes : List ℕ) → AllByRecursion (IsOfKind kinds.Boolean) held → AreBits bytes (flat_map truths held) → truths_in (map is_present held) bytes ≡ Ok (map fitted held)
unfolding truths_in
truths_read held bytes each bits_are =
    let count = count-truths held each in
    let len : eqb (length bytes) (div_ceil (present_count (map is_present held)) 8) ≡ true = rw (count, bits_are.0) (grind (arith, nat_tests)) in
    rw (len, flags_read held (flat_map (bits 8) bytes) each bits_are.1) refl

-- ---- every kind

from_plain : (kind : ColumnKind) (levels : List Bool) (bytes : List ℕ) (held : List Cell) → (bytes ≡ flat_map plain held → AreValues kind bytes held) → ArePlain kind levels bytes held → AreCells kind levels bytes held
from_plain kind levels bytes held same are = record { present = are.present; valued = same are.valued; each = are.each }

pub cells_say : (kind : ColumnKind) (levels : List Bool) (bytes : List ℕ) (held : List Cell) → IsBytes bytes → cells_in kind levels bytes ≡ Ok held → AreCells kind levels bytes held
unfolding truths_in
cells_say kinds.Boolean levels bytes held fits e = truths_by levels bytes held _ refl e
cells_say kinds.Int32 levels bytes held fits e = from_plain kinds.Int32 levels bytes held (λ is. is) (plain_says kinds.Int32 levels bytes held fits e)
cells_say kinds.Int64 levels bytes held fits e = from_plain kinds.Int64 levels bytes held (λ is. is) (plain_says kinds.Int64 levels bytes held fits e)
cells_say kinds.Text levels bytes held fits e = from_plain kinds.Text levels bytes held (λ is. is) (plain_says kinds.Text levels bytes held fits e)

pub cells_read : (kind : ColumnKind) (levels : List Bool) (bytes : List ℕ) (held : List Cell) → length bytes < 2 ^ 32 → AreCells kind levels bytes held → cells_in kind levels bytes ≡ Ok (map fitted held)
cells_read kinds.Boolean levels bytes held short are = rw (sym are.present) (truths_read held bytes are.each are.valued)
cells_read kinds.Int32 levels bytes held short are = rw (sym are.present, are.valued) (plain_reads kinds.Int32 held tt (subst (λ (b : List ℕ). length b < 2 ^ 32) are.valued short) are.each)
cells_read kinds.Int64 levels bytes held short are = rw (sym are.present, are.valued) (plain_reads kinds.Int64 held tt (subst (λ (b : List ℕ). length b < 2 ^ 32) are.valued short) are.each)
cells_read kinds.Text levels bytes held short are = rw (sym are.present, are.valued) (plain_reads kinds.Text held tt (subst (λ (b : List ℕ). length b < 2 ^ 32) are.valued short) are.each)
