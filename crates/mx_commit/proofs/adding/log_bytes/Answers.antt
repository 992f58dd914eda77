use Rattle.std.proofs.Common.{◌≤◌, length, arith}
use Rattle.mx_hfile.specs.Encoding.{encoding}
use Rattle.mx_commit.proofs.AddedLemmas.{log_reads}
use Rattle.mx_commit.proofs.adding.log_bytes.Goals as goal

pub returns-clause-reads : goal.returns-clause-reads
returns-clause-reads c =
    let room : length (encoding c.args.entries.now) ≤ 268_435_456 = grind (arith, c.size.ensures, c.if-size.false) in
    log_reads c.args.at c.args.entries.now c.requires.meant (omega (arith, c.number-number.ensures.bound, c.number-number.ensures.value)) c.requires.entries room
