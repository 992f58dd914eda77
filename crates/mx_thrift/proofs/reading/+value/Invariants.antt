use Rattle.std.proofs.Common.{◌≡◌, ◌-◌, ◌+◌, ◌*◌, length, pos}
use Rattle.mx_thrift.specs.Decoding.{both, in_turn, fields_in, value_in}
use Rattle.mx_thrift.proofs.Turns.{with_front}
use Rattle.mx_thrift.proofs.reading.+value.Given as goal

abbrev pub decreases-value_of : goal.decreases-value_of
decreases-value_of l = 5 * l.depth

abbrev pub decreases-over_of : goal.decreases-over_of
decreases-over_of l = 5 * l.inner + 4

abbrev pub decreases-list_of : goal.decreases-list_of
decreases-list_of l = 5 * l.inner + 3

abbrev pub decreases-map_of : goal.decreases-map_of
decreases-map_of l = 5 * l.inner + 3

abbrev pub decreases-struct_of : goal.decreases-struct_of
decreases-struct_of l = 5 * l.inner + 3

abbrev pub decreases-items_of : goal.decreases-items_of
decreases-items_of l = 5 * l.inner + 2

abbrev pub decreases-pairs_of : goal.decreases-pairs_of
decreases-pairs_of l = 5 * l.inner + 2

abbrev pub decreases-pair_of : goal.decreases-pair_of
decreases-pair_of l = 5 * l.inner + 1

abbrev pub decreases-field_of : goal.decreases-field_of
decreases-field_of l = 5 * l.inner + 2

abbrev pub decreases-held_of : goal.decreases-held_of
decreases-held_of l = 5 * l.inner + 1

abbrev pub invariant-items_of-loop : goal.invariant-items_of-loop
invariant-items_of-loop l = with_front l.items (in_turn (value_in l.inner l.kind) (l.count - l.counter) l.rest) ≡ in_turn (value_in l.inner l.kind) l.count l.bytes

abbrev pub invariant-pairs_of-loop : goal.invariant-pairs_of-loop
invariant-pairs_of-loop l =
    let read = both (value_in l.inner l.kinds.0) (value_in l.inner l.kinds.1) in
    with_front l.pairs (in_turn read (l.count - l.counter) l.rest) ≡ in_turn read l.count l.bytes

abbrev pub invariant-struct_of-loop : goal.invariant-struct_of-loop
invariant-struct_of-loop l = with_front l.fields (fields_in (value_in l.inner) (length l.bytes - l.counter) l.last l.rest) ≡ fields_in (value_in l.inner) (length l.bytes) (pos 0) l.bytes
