use Rattle.std.proofs.Common.{◌≡◌, flat_map, take}
use Rattle.mx_levels.specs.Encoding.{bits}
use Rattle.mx_parquet.proofs.values.bits_of.Given as goal

abbrev pub invariant-loop-byte : goal.invariant-loop-byte
invariant-loop-byte l = l.flags.items ≡ flat_map (bits 8) (take l.byte-index l.bytes)
