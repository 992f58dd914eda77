-- Reading values one behind the other, as a loop does.
use Rattle.std.proofs.Common.{◌≡◌, ℕ, zero, suc, ◌-◌, ◌+◌, ◌≤◌, ◌<◌, ◌≢◌, ℤ, List, [], ◌∷◌, ◌++◌, Option, Some, None, Ok, Err, refl, sym, ap, ◌∙◌, append_assoc, append-nil, arith}
use Rattle.mx_thrift.specs.declared.error.Fault.{Fault}
use Rattle.mx_thrift.specs.declared.error.Fault.TheVariants as faults
use Rattle.mx_thrift.specs.declared.error.Rule.TheVariants as rules
use Rattle.mx_thrift.specs.declared.kind.Kind.{Kind}
use Rattle.mx_thrift.specs.declared.value.Value.{Value}
use Rattle.mx_thrift.specs.declared.value.Field.{Field}
use Rattle.mx_thrift.specs.Decoding.{◌>>=◌, Read, Reader, Fails, broken, in_turn, field_in, more_fields, fields_in, leaf_in, over_in, value_in}

-- what was read before, and what is still read
abbrev pub with_front : {A : Type 0} → List A → Read (List A × List ℕ) → Read (List A × List ℕ)
with_front front read = read >>= λ x. Ok (front ++ x.0, x.1)

pub no_front : {A : Type 0} (r : Read (List A × List ℕ)) → with_front [] r ≡ r
no_front (Ok x) = refl
no_front (Err e) = refl

regroup : {A : Type 0} (front : List A) (v : A) (r : Read (List A × List ℕ)) → with_front front (r >>= λ x. Ok (v ∷ x.0, x.1)) ≡ with_front (front ++ v ∷ []) r
regroup front v (Ok x) = ap (λ (vs : List _). Ok (vs, x.1)) (simp append_assoc)
regroup front v (Err e) = refl

pub goes_on : {A : Type 0} (read : Reader A) (front : List A) (count i : ℕ) (bytes : List ℕ) (v : A) (after : List ℕ) (total : Read (List A × List ℕ)) → i < count → read bytes ≡ Ok (v, after)
    → with_front front (in_turn read (count - i) bytes) ≡ total → with_front (front ++ v ∷ []) (in_turn read (count - (i + 1)) after) ≡ total
unfolding in_turn
goes_on read front count i bytes v after total lt h so_far =
    let k : count - i ≡ suc (count - (i + 1)) = omega arith in
    let one : with_front front (in_turn read (count - i) bytes) ≡ with_front (front ++ v ∷ []) (in_turn read (count - (i + 1)) after) = rw (k, h) (regroup front v (in_turn read (count - (i + 1)) after)) in
    sym one ∙ so_far

pub ends : {A : Type 0} (e : Fault) (read : Reader A) (front : List A) (count i : ℕ) (bytes : List ℕ) (total : Read (List A × List ℕ)) → i < count → Fails e (read bytes)
    → with_front front (in_turn read (count - i) bytes) ≡ total → Fails e total
unfolding in_turn
ends faults.NoMemory read front count i bytes total lt h so_far = tt
ends (faults.Broken rule left) read front count i bytes total lt h so_far =
    let k : count - i ≡ suc (count - (i + 1)) = omega arith in
    let one : with_front front (in_turn read (count - i) bytes) ≡ Err (rule, left) = rw (k, h) refl in
    sym so_far ∙ one

pub is_done : {A : Type 0} (read : Reader A) (front : List A) (count i : ℕ) (bytes : List ℕ) (total : Read (List A × List ℕ)) → count ≤ i → with_front front (in_turn read (count - i) bytes) ≡ total → total ≡ Ok (front, bytes)
unfolding in_turn
is_done read front count i bytes total le so_far =
    let k : count - i ≡ 0 = omega arith in
    let one : with_front front (in_turn read (count - i) bytes) ≡ Ok (front, bytes) = rw k (ap (λ (vs : List _). Ok (vs, bytes)) (append-nil front)) in
    sym so_far ∙ one

-- ---- fields

module _ (inner : Kind → Reader Value) (front : List Field) (most i : ℕ) (last : ℤ) (bytes : List ℕ) (total : Read (List Field × List ℕ)) (so_far : with_front front (fields_in inner (most - i) last bytes) ≡ total) where
  one_more : (x : Option Field × List ℕ) → i < most → field_in inner last bytes ≡ Ok x → with_front front (more_fields (fields_in inner (most - (i + 1))) x.0 x.1) ≡ total
  unfolding fields_in
  one_more x lt e =
      let k : most - i ≡ suc (most - (i + 1)) = omega arith in
      let one : with_front front (fields_in inner (most - i) last bytes) ≡ with_front front (more_fields (fields_in inner (most - (i + 1))) x.0 x.1) = rw (k, e) refl in
      sym one ∙ so_far

  pub struct_goes_on : (o : Option Field) (f : Field) (after : List ℕ) → o ≡ Some f → i < most → field_in inner last bytes ≡ Ok (o, after) → with_front (front ++ f ∷ []) (fields_in inner (most - (i + 1)) f.id after) ≡ total
  struct_goes_on o f after is lt e =
      let read : field_in inner last bytes ≡ Ok (Some f, after) = e ∙ ap (λ (x : Option Field). Ok (x, after)) is in
      sym (regroup front f (fields_in inner (most - (i + 1)) f.id after)) ∙ one_more (Some f, after) lt read

  pub struct_ends : (o : Option Field) (behind : List ℕ) → o ≡ None → i < most → field_in inner last bytes ≡ Ok (o, behind) → total ≡ Ok (front, behind)
  struct_ends None behind is lt e =
      let one : with_front front (more_fields (fields_in inner (most - (i + 1))) None behind) ≡ Ok (front, behind) = ap (λ (vs : List Field). Ok (vs, behind)) (append-nil front) in
      sym (one_more (None, behind) lt e) ∙ one
  struct_ends (Some f) behind is lt e = absurd cc

  pub field_fails : (e : Fault) → i < most → Fails e (field_in inner last bytes) → Fails e total
  unfolding fields_in
  field_fails faults.NoMemory lt h = tt
  field_fails (faults.Broken rule left) lt h =
      let k : most - i ≡ suc (most - (i + 1)) = omega arith in
      let one : with_front front (fields_in inner (most - i) last bytes) ≡ Err (rule, left) = rw (k, h) refl in
      sym so_far ∙ one

  pub fields_run_out : most ≤ i → total ≡ broken rules.Short bytes
  unfolding fields_in
  fields_run_out le =
      let k : most - i ≡ 0 = omega arith in
      let one : with_front front (fields_in inner (most - i) last bytes) ≡ broken rules.Short bytes = rw k refl in
      sym so_far ∙ one

-- ---- depth

pub value_leaf : (depth : ℕ) → depth ≡ 0 → value_in depth ≡ leaf_in
unfolding value_in
value_leaf zero e = refl
value_leaf (suc depth) e = absurd cc

pub value_over : (depth : ℕ) → depth ≢ 0 → value_in depth ≡ over_in (value_in (depth - 1))
unfolding value_in
value_over zero ne = absurd (ne refl)
value_over (suc depth) ne = let k : suc depth - 1 ≡ depth = omega arith in rw k refl
