use Rattle.std.proofs.Common.{sym, subst}
use Rattle.std.specs.List.{AllZip}
use Rattle.mx_base.specs.declared.object_name.ActionKind.TheVariants.{Commit, Clean, Rollback, Indexing}
use Rattle.mx_timeline.specs.Timeline.{IsNameOf}
use Rattle.mx_timeline.proofs.NamesLemmas.{each_is_path}
use Rattle.mx_timeline.proofs.StageLemmas.{stages_are, instants_are, instants_all}
use Rattle.mx_timeline.proofs.timeline.Timeline.of.Goals as goal

pub returns-clause-ok : goal.returns-clause-ok
returns-clause-ok c =
    let objects = c.as_slice-objects.result.now in
    let zip = subst (AllZip IsNameOf c.args.names.now) (sym c.as_slice-objects.ensures) c.in_ok-objects.ensures.ok in record {
      commits = stages_are c.args.names.now objects zip Commit c.in_ok-of.field-0 c.in_ok-of.ensures.begun c.in_ok-of.ensures.completed;
      cleans = stages_are c.args.names.now objects zip Clean c.in_ok-of-2.field-0 c.in_ok-of-2.ensures.begun c.in_ok-of-2.ensures.completed;
      rollbacks = stages_are c.args.names.now objects zip Rollback c.in_ok-of-3.field-0 c.in_ok-of-3.ensures.begun c.in_ok-of-3.ensures.completed;
      indexings = stages_are c.args.names.now objects zip Indexing c.in_ok-of-4.field-0 c.in_ok-of-4.ensures.begun c.in_ok-of-4.ensures.completed;
      instants = instants_are c.args.names.now objects zip c.in_ok-all_instants.field-0 c.in_ok-all_instants.ensures;
      all_instants = instants_all c.args.names.now objects zip c.in_ok-all_instants.field-0 c.in_ok-all_instants.ensures;
    }

pub returns-clause-names : goal.returns-clause-names
returns-clause-names c = each_is_path c.args.names.now c.in_ok-objects.objects c.in_ok-objects.ensures.ok
