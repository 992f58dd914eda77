use Rattle.std.proofs.Common.{◌+◌, ◌∙◌}
use Rattle.mx_lines.proofs.Pieces.{rest-more, within-more, written-more}
use Rattle.mx_lines.proofs.whole.write_all.Goals as goal

pub loop-rest-preserved : goal.loop-rest-preserved
loop-rest-preserved g c =
    let i = c.loop-rest.invariant in
    let n = c.in_ok-count.count in (
      i.0 + n,
      rest-more c.args.bytes.now c.loop-rest.rest.now i.0 n i.1 i.2 c.in_ok-count.ensures.bound,
      within-more c.args.bytes.now c.loop-rest.rest.now i.0 n i.1 i.2 c.in_ok-count.ensures.bound,
      written-more c.args.bytes.now c.loop-rest.rest.now i.0 n i.1 i.2 c.in_ok-count.ensures.bound (g.O.Sink.written c.args.sink.now) (g.O.Sink.written c.loop-rest.sink) _ i.3 c.in_ok-count.ensures.bytes.0,
      c.in_ok-count.ensures.cause ∙ i.4,
    )
