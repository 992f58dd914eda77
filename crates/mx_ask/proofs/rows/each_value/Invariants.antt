use Rattle.std.proofs.Common.{◌≡◌, map, All}
use Rattle.serde_json.specs.View.{view}
use Rattle.mx_ask.specs.Rows.{value_data, IsRowValue}
use Rattle.mx_ask.proofs.rows.each_value.Given as goal

abbrev pub invariant-loop-item : goal.invariant-loop-item
invariant-loop-item l = (map view l.yielded ≡ map value_data l.row) × All IsRowValue l.row
