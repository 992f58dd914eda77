use Rattle.mx_meta.proofs.FieldLemmas.{names_sorted}
use Rattle.mx_meta.proofs.checking.first_bad.Goals as goal

pub returns-in_default-clause-sorted : goal.returns-in_default-clause-sorted
returns-in_default-clause-sorted c = names_sorted c.args.members.now.entries c.iter-name-items.ensures.ordered

pub returns-in-Greater-clause-sorted : goal.returns-in-Greater-clause-sorted
returns-in-Greater-clause-sorted c = names_sorted c.args.members.now.entries c.iter-name-items.ensures.ordered

pub returns-in_default-cmp-clause-sorted : goal.returns-in_default-cmp-clause-sorted
returns-in_default-cmp-clause-sorted c = names_sorted c.args.members.now.entries c.iter-name-items.ensures.ordered

pub returns-in-empty-clause-sorted : goal.returns-in-empty-clause-sorted
returns-in-empty-clause-sorted c = names_sorted c.args.members.now.entries c.iter-name-items.ensures.ordered

pub returns-in-len1-up-left-clause-sorted : goal.returns-in-len1-up-left-clause-sorted
returns-in-len1-up-left-clause-sorted c = names_sorted c.args.members.now.entries c.iter-name-items.ensures.ordered
