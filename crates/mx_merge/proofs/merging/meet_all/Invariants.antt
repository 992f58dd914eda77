use Rattle.std.proofs.Common.{◌≡◌, ℕ, List, drop}
use Rattle.std.specs.List.{fold}
use Rattle.mx_merge.specs.Said.{heard, asked, known_at, IsKnown}
use Rattle.mx_merge.proofs.merging.meet_all.Given as goal

abbrev pub invariant-loop-entry : goal.invariant-loop-entry
invariant-loop-entry l =
    ((key : List ℕ) → fold heard (known_at l.met key) (asked l.prefix key (drop l.entry-index l.entries)) ≡ fold heard (known_at l.fn.met key) (asked l.prefix key l.entries)) × ((key : List ℕ) → IsKnown (known_at l.met key))
