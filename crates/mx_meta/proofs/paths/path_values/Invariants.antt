use Rattle.std.proofs.Common.{◌≡◌, take, map, All}
use Rattle.serde_json.specs.Data.{string}
use Rattle.serde_json.specs.View.{view}
use Rattle.mx_base.specs.Names.{IsPath}
use Rattle.mx_meta.proofs.paths.path_values.Given as goal

abbrev pub invariant-loop-path : goal.invariant-loop-path
invariant-loop-path l = record {
  made : map view l.values.items ≡ map string (take l.path-index l.paths);
  named : All IsPath (take l.path-index l.paths);
}
