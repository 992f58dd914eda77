use Rattle.mx_open.specs.Leaving.{logs_in}
use Rattle.mx_folder.specs.Reading.{IsLogOf}
use Rattle.mx_open.proofs.LeavingLemmas.{picked_more}
use Rattle.mx_open.proofs.pending.logs_of.Goals as goal

pub loop-path-preserved : goal.loop-path-preserved
loop-path-preserved c at has =
    picked_more (IsLogOf at) c.args.names.now (logs_in c.loop-path.logs at) (logs_in c.note_log.new.logs at) c.loop-path.path-index c.path-item.result c.loop-path-test.true c.path-item.is (c.loop-path.invariant at has)
    (c.in_ok-note_log.ensures at has)
