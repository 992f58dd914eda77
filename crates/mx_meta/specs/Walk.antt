-- The code's way to the fault of an object. No public clause speaks of it.
use Rattle.std.specs.Prelude.{ℕ, List, [], ◌∷◌, map, if◌then◌else◌, Option, Some, None}
use Rattle.std.specs.Ordering.{nat_cmp, match_ordering}
use Rattle.std.specs.Cmp.Lexicographic.{slice_cmp}
use Rattle.serde_json.specs.Data.{Members, no_members, member}
use Rattle.mx_meta.specs.Fields as fields
use Rattle.mx_meta.specs.declared.checking.Field.{Field}

-- fields of the code, as definitions speak of them
abbrev pub fields_shown : List Field → List fields.Field
fields_shown shown = map (λ f. record { name = f.name.now; reads = f.reads }) shown

-- the first place where the names, or what stands there, part from what is expected
abbrev pub first_bad : List fields.Field → Members → Option (List ℕ)
first_bad [] no_members = None
first_bad [] (member name d ms) = Some name
first_bad (f ∷ more) no_members = Some f.name
first_bad (f ∷ more) (member name d ms) =
    match_ordering (slice_cmp nat_cmp f.name name) (Some f.name) (if f.reads then first_bad more ms else Some f.name) (Some name)
