use Rattle.std.proofs.Common.{◌≡◌, map}
use Rattle.mx_payload.specs.Rules.{plain}
use Rattle.mx_merge.specs.Shown.{sizes_left}
use Rattle.mx_merge.proofs.sizes.with_names.Given as goal

abbrev pub invariant-loop-name : goal.invariant-loop-name
invariant-loop-name l = l.sizes ≡ sizes_left l.fn.sizes (map plain l.yielded)
