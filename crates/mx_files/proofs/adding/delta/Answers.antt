use Rattle.std.proofs.Common.{◌≢◌, ◌∙◌, [], ◌++◌, ap, refl, fold}
use Rattle.std.proofs.lemmas.List.Elements.{recursion_from_All}
use Rattle.mx_base.specs.Names.{IsPartition}
use Rattle.mx_base.specs.declared.entry.FileAt.{FileAt}
use Rattle.mx_files.specs.Said.{SaidMap, with_new_file, with_gone_file}
use Rattle.mx_files.proofs.EntryLemmas.{is_delta, are_shards, some_new, some_gone}
use Rattle.mx_files.proofs.adding.delta.Goals.{else-is_empty-via-then-is_empty+else-is_empty-2, else-is_empty-via-else-is_empty}
use Rattle.mx_files.proofs.adding.delta.Goals as goal

pub returns : goal.returns
returns c =
    let is = c.in_ok-say_gone.ensures.said ∙ ap (λ (s : SaidMap). fold with_gone_file s c.args.gone.now) (c.in_ok-say_new.ensures.said ∙ ap (λ (s : SaidMap). fold with_new_file s c.args.news.now) c.new-said.ensures) in
    let delta = is_delta c.args.news.now c.args.gone.now c.say_gone.new.said c.in_ok-entries.field-0
    (recursion_from_All (λ (f : FileAt). IsPartition f.partition) c.args.news.now c.in_ok-say_new.ensures.partitions)
    (recursion_from_All (λ (f : FileAt). IsPartition f.partition) c.args.gone.now c.in_ok-say_gone.ensures.partitions)
    is c.in_ok-entries.ensures.entries c.in_ok-entries.ensures.fits in
    let some : c.args.news.now ++ c.args.gone.now ≢ [] = elim c.else-is_empty.branch [ else-is_empty-via-then-is_empty+else-is_empty-2 w ↦ some_gone c.args.news.now c.args.gone.now w.if-is_empty-2.ensures | else-is_empty-via-else-is_empty w ↦ some_new c.args.news.now c.args.gone.now w.if-is_empty.ensures ] in
    are_shards c.args.news.now c.args.gone.now c.new-shards.result.items c.push.new.self.items _ c.new-shards.ensures.items c.in_ok-push.ensures.items some refl delta
