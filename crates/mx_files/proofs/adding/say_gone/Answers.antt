use Rattle.std.proofs.Common.{◌∙◌, fold, take, ap, sym, subst}
use Rattle.std.proofs.lemmas.List.Elements.{All-more}
use Rattle.std.proofs.lemmas.List.Sums.{fold_more}
use Rattle.mx_base.specs.Names.{IsPartition}
use Rattle.mx_base.specs.declared.entry.FileAt.{FileAt}
use Rattle.mx_files.specs.Said.{SaidMap, with_gone_file}
use Rattle.mx_files.proofs.adding.say_gone.Goals as goal

pub loop-file-preserved : goal.loop-file-preserved
loop-file-preserved c =
    let file = c.file-item.result in
    let i = c.loop-file.file-index in
    record {
      said = c.in_ok-say_gone_file.ensures.said
          ∙ ap (λ (s : SaidMap). with_gone_file s file) c.loop-file.invariant.said
          ∙ ap (λ (f : FileAt). with_gone_file (fold with_gone_file c.args.said.now (take i c.args.gone.now)) f) c.file-item.is
          ∙ sym (fold_more with_gone_file c.args.said.now c.args.gone.now i file c.loop-file-test.true);
      partitions = All-more (λ (f : FileAt). IsPartition f.partition) c.args.gone.now i file c.loop-file-test.true c.loop-file.invariant.partitions
          (subst (λ (f : FileAt). IsPartition f.partition) c.file-item.is c.in_ok-say_gone_file.ensures.partition);
    }
