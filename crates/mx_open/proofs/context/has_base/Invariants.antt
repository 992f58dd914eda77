use Rattle.std.proofs.Common.{All, take}
use Rattle.mx_folder.specs.Reading.{IsBaseOf}
use Rattle.mx_open.proofs.context.has_base.Given as goal

abbrev pub invariant-loop-path : goal.invariant-loop-path
invariant-loop-path l = All (λ path. ¬ (IsBaseOf l.part path)) (take l.path-index l.bases)
