use Rattle.mx_lookup.proofs.KeptLemmas.{reads_same}
use Rattle.mx_hub.proofs.asks.reply_to.Goals as goal

pub returns-in-Commit-clause-reads_on : goal.returns-in-Commit-clause-reads_on
returns-in-Commit-clause-reads_on g c = reads_same (g.S.Store.reads c.args.table.now.store) (g.S.Store.reads c.commit_replied.new.table.store) c.commit_replied.ensures.reads
