use Rattle.std.specs.Prelude.{◌≡◌, take}
use Rattle.mx_hub.specs.Answers.{paths_at}
use Rattle.mx_hub.proofs.asks.paths_of.Given as goal

abbrev pub invariant-loop-file : goal.invariant-loop-file
invariant-loop-file l = l.paths ≡ paths_at (take l.file-index l.files) l.at
