use Rattle.std.proofs.lemmas.Bool.Decides.{Decides-eqb}
use Rattle.std.proofs.lemmas.Slice.Eq.{strip_prefix_is}
use Rattle.mx_props.specs.Config.{version_line}
use Rattle.mx_props.proofs.reading.after_version.Goals as goal

pub returns : goal.returns
unfolding version_line
returns c = strip_prefix_is Decides-eqb c.args.bytes.now version_line c.strip_prefix.result c.strip_prefix.ensures.cases
