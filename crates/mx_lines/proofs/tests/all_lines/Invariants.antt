use Rattle.mx_lines.specs.Ahead.{budget}
use Rattle.mx_lines.proofs.tests.all_lines.Given as goal

abbrev pub decreases-loop-bytes : goal.decreases-loop-bytes
decreases-loop-bytes l = budget l.ahead
