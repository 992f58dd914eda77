-- The types of values, by their codes.
use Rattle.std.specs.Prelude.{ℕ, ◌==◌, ◌||◌, if◌then◌else◌, Option, Some, None}
use Rattle.mx_thrift.specs.declared.kind.Kind.{Kind}
use Rattle.mx_thrift.specs.declared.kind.Kind.TheVariants as kinds

-- the type that a code names: 1 and 2 are the two truth values
unfoldable pub kind_of_code : ℕ → Option Kind
kind_of_code code =
    if code == 1 || code == 2 then Some kinds.Flag
    else if code == 3 then Some kinds.Byte
    else if code == 4 then Some kinds.Short
    else if code == 5 then Some kinds.Int
    else if code == 6 then Some kinds.Long
    else if code == 7 then Some kinds.Double
    else if code == 8 then Some kinds.Bytes
    else if code == 9 then Some kinds.List
    else if code == 10 then Some kinds.Set
    else if code == 11 then Some kinds.Map
    else if code == 12 then Some kinds.Struct
    else None
