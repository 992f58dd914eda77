use mir.Val.{bool_byte}
use Rattle.std.proofs.Common.{true, false, get_or, ◌≡◌, ◌-◌, ◌<◌, ◌≤◌, ℕ, List, Bool, length, drop, arith}
use Rattle.std.proofs.lemmas.List.{length-take}
use Rattle.mx_parquet.specs.Pages.{bit_sum}
use Rattle.mx_parquet.proofs.Pages.{bit_sum-small}
use Rattle.mx_parquet.proofs.page.+byte_of.Goals as goal

small : (n : ℕ) (bits : List Bool) → n ≡ bit_sum bits → length bits ≤ 7 → n < 128
small n bits is le = omega (arith, is, bit_sum-small 7 bits le)

bit_small : (b : Bool) → bool_byte b ≤ 1
bit_small true = omega arith
bit_small false = omega arith

pub overflow_mul-result : goal.overflow_mul-result
overflow_mul-result t c = omega (arith, small c.byte_of.result _ c.byte_of.ensures (omega (arith, length-take (length c.args.bits.now - 1) (drop 1 c.args.bits.now), c.requires)))

pub overflow_add-result : goal.overflow_add-result
overflow_add-result t c = omega (arith, bit_small (get_or c.args.bits.now 0 false), c.from.ensures, small c.byte_of.result _ c.byte_of.ensures (omega (arith, length-take (length c.args.bits.now - 1) (drop 1 c.args.bits.now), c.requires)))
