use Rattle.std.proofs.Common.{◌∙◌, ◌++◌, map, arith, ap, List, ℕ}
use Rattle.mx_hfile.specs.Encoding.{blocks_of, place_of, blocks_bytes}
use Rattle.mx_hfile.proofs.PlaceLemmas.{index-length}
use Rattle.mx_hfile.proofs.DividingLemmas.{encoding-length, length-map, assembled, few_blocks}
use Rattle.mx_hfile.proofs.writing.write.Goals as goal

pub overflow_add-sizes : goal.overflow_add-sizes
overflow_add-sizes c = omega (arith, encoding-length c.args.entries.now, c.sizes_of-sizes.ensures.data_len, c.sizes_of-sizes.ensures.index_len, c.requires.room)

pub overflow_add-sizes-2 : goal.overflow_add-sizes-2
overflow_add-sizes-2 c = omega (arith, encoding-length c.args.entries.now, c.sizes_of-sizes.ensures.data_len, c.sizes_of-sizes.ensures.index_len, c.requires.room)

pub put_blocks-requires-clause-room : goal.put_blocks-requires-clause-room
put_blocks-requires-clause-room c = omega (arith, encoding-length c.args.entries.now, c.requires.room)

pub put_index-requires-clause-room : goal.put_index-requires-clause-room
put_index-requires-clause-room c = omega (arith, encoding-length c.args.entries.now, c.requires.room)

pub put_index-requires-clause-len : goal.put_index-requires-clause-len
put_index-requires-clause-len c =
    let all = encoding-length c.args.entries.now in
    let i = index-length (map place_of (blocks_of c.args.entries.now)) in
    (omega (arith, all, i, c.sizes_of-sizes.ensures.index_len, c.requires.room), omega (arith, all, i, c.sizes_of-sizes.ensures.index_len, c.requires.room))

pub put_index-requires-clause-block_count : goal.put_index-requires-clause-block_count
put_index-requires-clause-block_count c =
    let few = few_blocks (blocks_of c.args.entries.now) in
    (omega (arith, length-map place_of (blocks_of c.args.entries.now), c.sizes_of-sizes.ensures.block_count), omega (arith, few, encoding-length c.args.entries.now, c.sizes_of-sizes.ensures.block_count, c.requires.room))

pub put_trailer-requires : goal.put_trailer-requires
put_trailer-requires c = omega (arith, few_blocks (blocks_of c.args.entries.now), encoding-length c.args.entries.now, c.sizes_of-sizes.ensures.block_count, c.requires.room)

pub returns : goal.returns
returns c =
    let all = encoding-length c.args.entries.now in
    assembled c.args.entries.now _ _ _ _ _ _ _ (c.in_ok-put_blocks.ensures ∙ ap (λ (x : List ℕ). x ++ blocks_bytes (blocks_of c.args.entries.now)) c.in_ok-out.ensures.items) c.in_ok-put_index.ensures c.in_ok-put_trailer.ensures
    (omega (arith, all, c.sizes_of-sizes.ensures.data_len, c.requires.room)) (omega (arith, all, c.sizes_of-sizes.ensures.index_len, c.requires.room)) (omega arith) c.sizes_of-sizes.ensures.block_count
