use Rattle.std.proofs.Common.{◌≡◌, ap, sym, ◌∙◌, ℕ, List}
use Rattle.mx_thrift.specs.Encoding.{written_value}
use Rattle.mx_thrift.specs.declared.value.Value.{Value}
use Rattle.mx_thrift.proofs.Forms.{form-Int, form-Long, form-Bytes, form-List, form-Struct, form_other}
use Rattle.mx_thrift.proofs.writing.code_of.Goals as goal

code_is : (v w : Value) (x : ℕ × List ℕ) → v ≡ w → written_value w ≡ x → x.0 ≡ (written_value v).0
code_is v w x is e = sym (ap (λ (u : Value). (written_value u).0) is ∙ ap (λ (y : ℕ × List ℕ). y.0) e)

pub returns-in-Int-clause-value : goal.returns-in-Int-clause-value
returns-in-Int-clause-value c = code_is _ _ _ c.in-Int.is (form-Int _)

pub returns-in-Long-clause-value : goal.returns-in-Long-clause-value
returns-in-Long-clause-value c = code_is _ _ _ c.in-Long.is (form-Long _)

pub returns-in-Bytes-clause-value : goal.returns-in-Bytes-clause-value
returns-in-Bytes-clause-value c = code_is _ _ _ c.in-Bytes.is (form-Bytes _)

pub returns-in-List-clause-value : goal.returns-in-List-clause-value
returns-in-List-clause-value c = code_is _ _ _ c.in-List.is (form-List _ _)

pub returns-in-Struct-clause-value : goal.returns-in-Struct-clause-value
returns-in-Struct-clause-value c = code_is _ _ _ c.in-Struct.is (form-Struct _)

pub returns-in_default-clause-value : goal.returns-in_default-clause-value
returns-in_default-clause-value c =
    let d = c.in_default in
    sym (ap (λ (y : ℕ × List ℕ). y.0) (form_other c.args.value.now d.not-Int d.not-Long d.not-Bytes d.not-List d.not-Struct))
