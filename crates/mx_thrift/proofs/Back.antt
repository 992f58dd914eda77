-- What was written is in the grammar and reads back.
use Rattle.std.proofs.Common.{◌≡◌, ℕ, ◌+◌, List, ◌++◌, length, Result, Ok, Err, sym, subst}
use Rattle.std.specs.Prelude.{IfOk}
use Rattle.mx_thrift.specs.declared.value.Field.{Field}
use Rattle.mx_thrift.specs.Grammar.{Decodes}
use Rattle.mx_thrift.specs.Decoding.{struct_at}
use Rattle.mx_thrift.specs.Encoding.{written, IsWritable}
use Rattle.mx_thrift.proofs.Values.{reads_back}
use Rattle.mx_thrift.proofs.Written.{written_decodes}

decodes_as : (bytes : List ℕ) (fields : List Field) → IsWritable fields → bytes ≡ written fields → Decodes bytes fields
decodes_as bytes fields can e = subst (λ (text : List ℕ). Decodes text fields) (sym e) (written_decodes fields can)

module _ {X E : Type 0} (view : X → List ℕ) (fields : List Field) (can : IsWritable fields) where
  pub decodes : (r : Result X E) → IfOk r (λ out. view out ≡ written fields) → IfOk r (λ out. Decodes (view out) fields)
  decodes (Ok out) e = decodes_as (view out) fields can e
  decodes (Err d) e = tt

  pub reads : (r : Result X E) → IfOk r (λ out. view out ≡ written fields)
      → IfOk r (λ out. (front rest : List ℕ) → struct_at (front ++ (view out ++ rest)) (length front) ≡ Ok (fields, length front + length (view out)))
  reads (Ok out) e = λ front rest. reads_back fields (view out) front rest (decodes_as (view out) fields can e)
  reads (Err d) e = tt
