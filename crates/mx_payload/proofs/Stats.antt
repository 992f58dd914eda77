-- Stats, filters and instants are read as they were written, and were written as they are read.
use Rattle.std.proofs.Common.{◌≡◌, ℕ, zero, suc, ◌-◌, ◌%◌, ◌^◌, ◌<◌, ◌≤◌, Bool, true, false, cond, not, eqb, ltb, ◌&&◌, List, ◌++◌, length, Ok, Err, refl, sym, ap, subst, ◌∙◌, append_assoc, arith, inl, inr}
use Rattle.std.proofs.lemmas.Bool.{eqb-true, ltb-true, ltb-false, lt-ltb, eq-eqb, ne_eqb, and_parts}
use Rattle.std.proofs.lemmas.Bool.Decides.{nat_tests}
use Rattle.mx_avro.specs.Encoding.{bytes_encoding}
use Rattle.mx_avro.proofs.Groups.{chosen}
use Rattle.mx_schema.specs.declared.cell.Cell.{Cell}
use Rattle.mx_schema.specs.declared.cell.Cell.TheVariants as cells
use Rattle.mx_schema.specs.declared.column_stat.ColumnStat.{ColumnStat}
use Rattle.mx_payload.specs.Rules.{IsLong, IsCell, IsStat, IsEmptyStat, IsFilter}
use Rattle.mx_payload.specs.Encoding.{long, flag, cell_bytes, stat_bytes}
use Rattle.mx_payload.specs.Decoding.{is_null, empty_fields, checked_stat, Facts, facts_in, stat_of_facts, deleted_of_facts, stat_in, is_same, filter_in, instant_in}
use Rattle.mx_lists.proofs.Codecs.{Took, Codec, bind_ok, ok_is}
use Rattle.mx_payload.proofs.Codecs.{both_codec, passing_codec, stated}
use Rattle.mx_payload.proofs.Parts.{Any, natural_codec, bytes_codec, flag_codec, cell_codec}

facts_codec : Codec facts_in (λ x. cell_bytes x.0 ++ (cell_bytes x.1.0 ++ (long x.1.1.0 ++ (long x.1.1.1.0 ++ (long x.1.1.1.1.0 ++ (long x.1.1.1.1.1.0 ++ flag x.1.1.1.1.1.1))))))
    (λ x. IsCell x.0 × (IsCell x.1.0 × (IsLong x.1.1.0 × (IsLong x.1.1.1.0 × (IsLong x.1.1.1.1.0 × (IsLong x.1.1.1.1.1.0 × Any x.1.1.1.1.1.1))))))
facts_codec = both_codec cell_codec (both_codec cell_codec (both_codec natural_codec (both_codec natural_codec (both_codec natural_codec (both_codec natural_codec flag_codec)))))

facts : ColumnStat → Bool → Facts
facts s deleted = (s.min, (s.max, (s.values, (s.nulls, (s.size, (s.uncompressed, deleted))))))

stat-parts : (s : ColumnStat) (deleted : Bool) → stat_bytes s deleted ≡ cell_bytes s.min ++ (cell_bytes s.max ++ (long s.values ++ (long s.nulls ++ (long s.size ++ (long s.uncompressed ++ flag deleted)))))
stat-parts s deleted = regroup (cell_bytes s.min) (cell_bytes s.max) (long s.values) (long s.nulls) (long s.size) (long s.uncompressed) (flag deleted)
  where
    regroup : (a b c d e f g : List ℕ) → a ++ b ++ c ++ d ++ e ++ f ++ g ≡ a ++ (b ++ (c ++ (d ++ (e ++ (f ++ g)))))
    regroup a b c d e f g = simp append_assoc

null_is : (c : Cell) → is_null c ≡ true → c ≡ cells.Null
null_is cells.Null e = refl
null_is (cells.Flag b) e = absurd cc
null_is (cells.Small n) e = absurd cc
null_is (cells.Whole n) e = absurd cc
null_is (cells.Text t) e = absurd cc

none_said : (a b : Bool) (v n s u : ℕ) → 6 ≤ cond (not a) 0 (cond (not b) 1 (cond (ltb 0 v) 2 (cond (ltb 0 n) 3 (cond (ltb 0 s) 4 (cond (ltb 0 u) 5 6)))))
    → (a ≡ true) × (b ≡ true) × (v ≡ 0) × (n ≡ 0) × (s ≡ 0) × (u ≡ 0)
none_said false b v n s u h = absurd (omega arith)
none_said true false v n s u h = absurd (omega arith)
none_said true true v n s u h = (refl, refl, grind (arith, nat_tests), grind (arith, nat_tests), grind (arith, nat_tests), grind (arith, nat_tests))

empty_is : (s : ColumnStat) → 6 ≤ empty_fields s → IsEmptyStat s
empty_is s h =
    let p = none_said (is_null s.min) (is_null s.max) s.values s.nulls s.size s.uncompressed h in
    record { min = null_is s.min p.0; max = null_is s.max p.1; values = p.2; nulls = p.3; size = p.4; uncompressed = p.5 }

is_empty : (s : ColumnStat) → IsEmptyStat s → empty_fields s ≡ 6
is_empty s h = let a = h.min in let b = h.max in let c = h.values in let d = h.nulls in let e = h.size in let f = h.uncompressed in rw (a, b, c, d, e, f) refl

checked_ok : (left : ℕ) (s : ColumnStat) (deleted : Bool) (rest : List ℕ) (y : (ColumnStat × Bool) × List ℕ) → checked_stat left s deleted rest ≡ Ok y → (((s, deleted), rest) ≡ y) × (deleted ≡ true → IsEmptyStat s)
checked_ok left s false rest y e = (ok_is _ _ e, λ h. absurd cc)
checked_ok left s true rest y e = elim (chosen (ltb (empty_fields s) 6) (Err (left - empty_fields s)) (Ok ((s, true), rest)) (Ok y) e) [
  | inl p ↦ absurd (let q = p.1 in cc)
  | inr p ↦ (ok_is _ _ p.1, λ h. empty_is s (ltb-false _ _ p.0))
]

is_checked : (left : ℕ) (s : ColumnStat) (deleted : Bool) (rest : List ℕ) → (deleted ≡ true → IsEmptyStat s) → checked_stat left s deleted rest ≡ Ok ((s, deleted), rest)
is_checked left s false rest h = refl
is_checked left s true rest h = let six = is_empty s (h refl) in rw six refl

pub stat_codec : Codec stat_in (λ x. stat_bytes x.0 x.1) (λ x. IsStat x.0 x.1)
unfolding stat_in facts
stat_codec = record {
  again = λ x rest good.
      let s = x.0 in
      ap (λ (bytes : List ℕ). stat_in (bytes ++ rest)) (stat-parts s x.1)
      ∙ rw (facts_codec.again (facts s x.1) rest (good.min, (good.max, (good.values, (good.nulls, (good.size, (good.uncompressed, tt)))))))
      (is_checked _ s x.1 rest good.silent);
  takes = λ bytes y bs e.
      let a = bind_ok (facts_in bytes) (λ x. checked_stat (length bytes) (stat_of_facts x.0) (deleted_of_facts x.0) x.1) y e in
      let t = facts_codec.takes bytes a.0 bs a.1 in
      let s = stat_of_facts a.0.0 in
      let deleted = deleted_of_facts a.0.0 in
      let g = checked_ok (length bytes) s deleted a.0.1 y a.2 in
      let good : IsStat s deleted = record { min = t.1.0; max = t.1.1.0; values = t.1.1.1.0; nulls = t.1.1.1.1.0; size = t.1.1.1.1.1.0; uncompressed = t.1.1.1.1.1.1.0; silent = g.1 } in
      subst (λ (z : (ColumnStat × Bool) × List ℕ). Took bytes (stat_bytes z.0.0 z.0.1) z.1 × IsStat z.0.0 z.0.1) g.0 (subst (λ (k : List ℕ). Took bytes k a.0.1) (sym (stat-parts s deleted)) t.0, good);
}

-- ---- filters

abbrev Filter : List ℕ × Bool → Type 0
Filter x = IsLong (length x.0) × IsFilter x.0 x.1

filter_is : (len : ℕ) (bits : List ℕ) (deleted : Bool) → length bits ≡ len → eqb (len % 8) 0 ≡ true → is_same (eqb len 0) deleted ≡ true → IsFilter bits deleted
filter_is zero bits true is e f = is
filter_is zero bits false is e f = absurd cc
filter_is (suc n) bits true is e f = absurd (let some : eqb (suc n) 0 ≡ false = ne_eqb (suc n) 0 (λ h. omega arith) in let g : is_same false true ≡ true = subst (λ (b : Bool). is_same b true ≡ true) some f in cc)
filter_is (suc n) bits false is e f = (omega arith, let h = eqb-true (suc n % 8) 0 e in ap (λ (k : ℕ). k % 8) is ∙ h)

is_filter-whole : (bits : List ℕ) (deleted : Bool) → IsFilter bits deleted → eqb (length bits % 8) 0 ≡ true
is_filter-whole bits true h = eq-eqb _ _ (omega arith)
is_filter-whole bits false h = eq-eqb _ _ h.1

is_filter-same : (bits : List ℕ) (deleted : Bool) → IsFilter bits deleted → is_same (eqb (length bits) 0) deleted ≡ true
is_filter-same bits true h = let none : eqb (length bits) 0 ≡ true = eq-eqb _ _ h in rw none refl
is_filter-same bits false h = let some : eqb (length bits) 0 ≡ false = ne_eqb _ _ (λ e. omega (arith, h.0)) in rw some refl

pub filter_codec : Codec filter_in (λ x. bytes_encoding x.0 ++ flag x.1) Filter
unfolding filter_in
filter_codec = stated Filter (λ x good. (good.0.0.0, filter_is (length x.0) x.0 x.1 refl good.0.0.1 good.1))
    (λ x good. (((good.0, is_filter-whole x.0 x.1 good.1), tt), is_filter-same x.0 x.1 good.1))
    (passing_codec (λ x. is_same (eqb (length x.0) 0) x.1) (both_codec (passing_codec (λ bits. eqb (length bits % 8) 0) bytes_codec) flag_codec))

-- ---- instants

abbrev Instant : ℕ → Type 0
Instant n = (0 < n) × (n < 10 ^ 17)

pub instant_codec : Codec instant_in long Instant
unfolding instant_in
instant_codec = stated Instant
    (λ n good. let p = and_parts (ltb 0 n) (ltb n (10 ^ 17)) good.1 in (ltb-true 0 n p.0, ltb-true n (10 ^ 17) p.1))
    (λ n good. let low : ltb 0 n ≡ true = lt-ltb 0 n good.0 in let high : ltb n (10 ^ 17) ≡ true = lt-ltb n (10 ^ 17) good.1 in (omega (arith, good.1), rw (low, high) refl))
    (passing_codec (λ n. ltb 0 n && ltb n (10 ^ 17)) natural_codec)
