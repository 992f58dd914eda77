use Rattle.std.proofs.Common.{◌≡◌, map, All}
use Rattle.mx_payload.specs.Rules.{IsText}
use Rattle.mx_files.specs.Delta.{word_of}
use Rattle.mx_files.proofs.words.Words.words.Given as goal

abbrev pub invariant-loop-name : goal.invariant-loop-name
invariant-loop-name l = record {
  words : l.words.items ≡ map (λ e. word_of (e.0.now, e.1.now)) l.yielded;
  texts : All (λ word. IsText word.name) l.words.items;
}
