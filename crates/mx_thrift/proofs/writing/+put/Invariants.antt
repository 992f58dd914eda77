use Rattle.std.proofs.Common.{◌≡◌, ◌++◌, pos, drop, map, flat_map}
use Rattle.mx_thrift.specs.Encoding.{struct_bytes, written_value, written_field}
use Rattle.mx_thrift.proofs.writing.+put.Given as goal

abbrev pub invariant-put_items-loop-item : goal.invariant-put_items-loop-item
invariant-put_items-loop-item l = l.out.items ++ flat_map (λ item. item.1) (map written_value (drop l.item-index l.items)) ≡ l.fn.out.items ++ flat_map (λ item. item.1) (map written_value l.items)

abbrev pub invariant-put_struct-loop-field : goal.invariant-put_struct-loop-field
invariant-put_struct-loop-field l = l.out.items ++ struct_bytes l.last (map written_field (drop l.field-index l.fields)) ≡ l.fn.out.items ++ struct_bytes (pos 0) (map written_field l.fields)
