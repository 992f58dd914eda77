-- Where the entries of a name stand.
use Rattle.std.specs.Prelude.{ℕ, ◌%◌, List, take}
use Rattle.std.specs.Int.{from_be_bytes, w32}
use Rattle.md5.specs.Md5.{md5}
use Rattle.mx_base.specs.Parts.{shard_count}
use Rattle.mx_base.specs.declared.part.Part.{Part}

-- the first four bytes of the name's MD5, as a big-endian number, modulo the number of shards
unfoldable pub shard_of : Part → List ℕ → ℕ
shard_of part name = from_be_bytes w32 (take 4 (md5 name)) % shard_count part
