use Rattle.std.proofs.Common.{◌≡◌, map, All}
use Rattle.serde_json.specs.View.{view}
use Rattle.mx_ask.specs.Asks.{file_data, IsFileRows}
use Rattle.mx_ask.proofs.reading.files_in.Given as goal

abbrev pub invariant-loop-item : goal.invariant-loop-item
invariant-loop-item l = (map view l.yielded ≡ map file_data l.files) × All IsFileRows l.files
