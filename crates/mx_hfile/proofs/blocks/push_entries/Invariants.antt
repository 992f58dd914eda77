use Rattle.std.proofs.Common.{◌≡◌, ◌≤◌, [], length}
use Rattle.mx_hfile.specs.Decoding.{entries_in, last_key}
use Rattle.mx_hfile.specs.Seen.{behind}
use Rattle.mx_hfile.proofs.blocks.push_entries.Given as goal

abbrev pub invariant-loop-rest : goal.invariant-loop-rest
invariant-loop-rest l = record {
  read : behind l.entries.items (entries_in (length l.rest) l.len l.last l.rest) ≡ behind l.fn.entries.items (entries_in (length l.bytes) l.len l.fn.last l.bytes);
  last : l.last ≡ last_key [] l.entries.items;
  within : length l.rest ≤ l.len;
}

abbrev pub decreases-loop-rest : goal.decreases-loop-rest
decreases-loop-rest l = length l.rest
