use Rattle.std.proofs.Common.{◌≡◌, map, All}
use Rattle.mx_payload.specs.Rules.{IsText}
use Rattle.mx_files.proofs.words.Words.names.Given as goal

abbrev pub invariant-loop-name : goal.invariant-loop-name
invariant-loop-name l = record {
  names : l.names.items ≡ map (λ name. name.now) l.yielded;
  texts : All IsText l.names.items;
}
