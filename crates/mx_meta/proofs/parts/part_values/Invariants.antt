use Rattle.std.proofs.Common.{◌≡◌, take, map}
use Rattle.serde_json.specs.Data.{string}
use Rattle.serde_json.specs.View.{view}
use Rattle.mx_base.specs.Parts.{part_name}
use Rattle.mx_meta.proofs.parts.part_values.Given as goal

abbrev pub invariant-loop-part : goal.invariant-loop-part
invariant-loop-part l = map view l.values.items ≡ map (λ part. string (part_name part)) (take l.part-index l.parts)
