use Rattle.std.proofs.Common.{◌∙◌, sym, ap}
use Rattle.std.specs.Prelude.{option_and_then}
use Rattle.mx_meta.specs.Places.{place_in}
use Rattle.mx_meta.proofs.PlaceLemmas.{place_found}
use Rattle.mx_meta.proofs.places.place_of.Goals as goal

pub returns-in-Some : goal.returns-in-Some
returns-in-Some c =
    c.place_in.ensures ∙ sym (ap (option_and_then (place_in c.args.file)) c.in-Some.is)
    ∙ place_found c.args.file c.args.path.now c.of.result c.of.ensures.found c.of.ensures.only

pub returns-in-None : goal.returns-in-None
returns-in-None c =
    sym (ap (option_and_then (place_in c.args.file)) c.in-None.is)
    ∙ place_found c.args.file c.args.path.now c.of.result c.of.ensures.found c.of.ensures.only
