use Rattle.std.proofs.Common.{◌≡◌, ◌≤◌, ◌-◌, length, Ok}
use Rattle.mx_lists.specs.Reading.{◌>>=◌}
use Rattle.mx_hfile.specs.Decoding.{entries_in}
use Rattle.mx_hfile.specs.Seen.{earlier}
use Rattle.mx_hfile.specs.Ranges.{value_place, search_body}
use Rattle.mx_hfile.proofs.searching.value_in.Given as goal

abbrev pub invariant-loop-key : goal.invariant-loop-key
invariant-loop-key l = record {
  read : (entries_in (length l.rest) (length l.body) l.last l.rest >>= λ entries. Ok (earlier l.found (value_place l.key (l.len - length l.rest) entries))) ≡ search_body l.key (l.len - length l.body) l.body;
  within : length l.rest ≤ length l.body;
}

abbrev pub decreases-loop-key : goal.decreases-loop-key
decreases-loop-key l = length l.rest
