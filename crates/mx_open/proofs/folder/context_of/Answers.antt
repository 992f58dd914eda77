use Rattle.mx_open.proofs.OpeningLemmas.{is_context}
use Rattle.mx_open.proofs.folder.context_of.Goals as goal

pub returns : goal.returns
returns c = is_context c.args.held.now c.args.config.now c.in_ok-available.available c.in_ok-paths.field-0.paths c.in_ok-paths.field-0.unread c.requires.said c.in_ok-available.ensures c.in_ok-paths.ensures
