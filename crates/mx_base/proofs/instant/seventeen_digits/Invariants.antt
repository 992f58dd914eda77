use Rattle.std.proofs.Common.{◌≡◌, ◌≤◌, ◌++◌, drop, length}
use Rattle.mx_base.specs.Digits.{digits, instant_text}
use Rattle.mx_base.proofs.instant.seventeen_digits.Given as goal

abbrev pub invariant-loop-place : goal.invariant-loop-place
invariant-loop-place l = record { printed : digits l.place l.rest ++ drop l.place l.out ≡ instant_text l.fn.number; within : l.place ≤ 17; len : length l.out ≡ 17 }

abbrev pub decreases-loop-place : goal.decreases-loop-place
decreases-loop-place l = l.place
