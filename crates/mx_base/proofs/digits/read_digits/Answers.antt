use Rattle.std.proofs.Common.{◌≤◌, ℕ, List, get_or, length, subst, sym, arith}
use Rattle.mx_base.proofs.Places.{each_digit, below_17}
use Rattle.mx_base.proofs.digits.read_digits.Goals.{then-byte-lt48-via-then-byte-lt48, then-byte-lt48-via-else-byte-lt48+then-byte-gt57}
use Rattle.mx_base.proofs.digits.read_digits.Goals as goal

pub returns-then-byte-lt48 : goal.returns-then-byte-lt48
returns-then-byte-lt48 c n same =
    let k : ℕ = length c.args.bytes.now in
    let e = subst (λ (t : List ℕ). (48 ≤ get_or t c.loop-byte.byte-index 0) × (get_or t c.loop-byte.byte-index 0 ≤ 57)) (sym same) (each_digit k n c.loop-byte.byte-index 0 (omega arith)) in
    absurd (elim c.then-byte-lt48.branch [
      | then-byte-lt48-via-then-byte-lt48 w ↦ omega (arith, e.0, w.if-byte-lt48.true)
      | then-byte-lt48-via-else-byte-lt48+then-byte-gt57 w ↦ omega (arith, e.1, w.if-byte-gt57.true)
    ])

pub overflow_mul-number : goal.overflow_mul-number
overflow_mul-number c = omega (arith, below_17 c.loop-byte.byte-index c.loop-byte.number (omega arith) c.loop-byte.invariant.small)

pub overflow_add-number : goal.overflow_add-number
overflow_add-number c = omega (arith, below_17 c.loop-byte.byte-index c.loop-byte.number (omega arith) c.loop-byte.invariant.small)
