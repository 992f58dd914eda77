use Rattle.std.proofs.Common.{◌∙◌, ap}
use Rattle.mx_base.specs.Objects.{object_path}
use Rattle.mx_open.proofs.OpeningLemmas.{bases_stand, bases_none}
use Rattle.mx_open.proofs.folder.bases_in.Goals as goal

pub returns-in-Some : goal.returns-in-Some
returns-in-Some c =
    c.read_bases.ensures c.args.held.now
    (bases_stand c.args.held.now c.in_ok-path.path c.in-Some.bytes.now c.as_slice.result.now (c.in_ok-path.ensures ∙ ap object_path c.indexing.ensures) c.in-Some.ensures c.as_slice.ensures)

pub returns : goal.returns
returns c = bases_none c.args.held.now c.in_ok-path.path c.new.result (c.in_ok-path.ensures ∙ ap object_path c.indexing.ensures) c.in-None.ensures c.new.ensures
