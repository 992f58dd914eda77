use Rattle.std.proofs.Common.{◌≡◌, map, All}
use Rattle.serde_json.specs.View.{view}
use Rattle.mx_ask.specs.Rows.{row_data, IsRow}
use Rattle.mx_ask.proofs.rows.each_row.Given as goal

abbrev pub invariant-loop-item : goal.invariant-loop-item
invariant-loop-item l = (map view l.yielded ≡ map row_data l.rows) × All IsRow l.rows
