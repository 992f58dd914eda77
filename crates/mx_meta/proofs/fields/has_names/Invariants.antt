use Rattle.std.proofs.Common.{◌≡◌, map}
use Rattle.std.specs.Str.{bytes_eq}
use Rattle.std.specs.Cmp.Lexicographic.{pointwise}
use Rattle.serde_json.specs.View.{members_view}
use Rattle.mx_meta.specs.Json.{names_of}
use Rattle.mx_meta.proofs.fields.has_names.Given as goal

-- what is left decides
abbrev pub invariant-loop-name : goal.invariant-loop-name
invariant-loop-name l =
    pointwise bytes_eq (names_of (members_view l.name-iterator)) (map (λ name. name.now) l.left)
    ≡ pointwise bytes_eq (names_of (members_view l.initial.name-iterator)) (map (λ name. name.now) l.names)
