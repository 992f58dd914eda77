use Rattle.std.proofs.Common.{◌≡◌, take, map}
use Rattle.serde_json.specs.View.{view}
use Rattle.mx_ask.specs.Replies.{size_data}
use Rattle.mx_ask.proofs.printing.size_values.Given as goal

abbrev pub invariant-loop-file : goal.invariant-loop-file
invariant-loop-file l = map view l.values.items ≡ map size_data (take l.file-index l.files)
