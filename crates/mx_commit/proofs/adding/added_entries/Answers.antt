use Rattle.std.proofs.Common.{◌≡◌, [], rules}
use Rattle.mx_files.specs.Delta.{AreShards}
use Rattle.mx_commit.specs.Changes.{files_added}
use Rattle.mx_commit.proofs.AddedLemmas.{no_shard}
use Rattle.mx_commit.proofs.adding.added_entries.Goals as goal

pub returns : goal.returns
returns c =
    let are : AreShards (files_added c.args.files.now c.args.at) [] c.in_ok-shards.shards.items = search rules in
    let none : c.in_ok-shards.shards.items ≡ [] = search rules in
    no_shard (files_added c.args.files.now c.args.at) c.in_ok-shards.shards.items c.new.result.items are none c.new.ensures.items
