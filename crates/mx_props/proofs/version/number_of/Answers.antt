use Rattle.std.proofs.Common.{◌<◌, ◌≤◌, ◌^◌, ℕ, lit<, arith}
use Rattle.std.proofs.Math.Nat.{pow-le-pow_right}
use Rattle.mx_props.proofs.version.number_of.Goals as goal

below_9 : (k n : ℕ) → k ≤ 8 → n < 10 ^ k → n < 10 ^ 8
below_9 k n le h = omega (arith, h, pow-le-pow_right {n = 10} (lit< tt) le)

pub overflow_mul-number : goal.overflow_mul-number
overflow_mul-number c = omega (arith, below_9 c.loop-digit.digit-index c.loop-digit.number (omega arith) c.loop-digit.invariant.small)

pub overflow_add-number : goal.overflow_add-number
overflow_add-number c = omega (arith, below_9 c.loop-digit.digit-index c.loop-digit.number (omega arith) c.loop-digit.invariant.small)
