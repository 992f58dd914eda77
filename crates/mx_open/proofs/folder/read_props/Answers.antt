use Rattle.std.proofs.Common.{List, ℕ, Some, Err, sym, ◌∙◌, ap, subst}
use Rattle.mx_props.specs.Lines.{IsOnly, SaysWhy}
use Rattle.mx_props.specs.declared.error.PropsError.{PropsError}
use Rattle.mx_open.proofs.KindLemmas.{same_value}
use Rattle.mx_open.proofs.OpeningLemmas.{is_current, of_version}
use Rattle.mx_open.proofs.folder.read_props.Goals as goal

pub returns-in-Ok : goal.returns-in-Ok
returns-in-Ok c objects stands =
    (is_current objects c.args.bytes.now stands (λ found gives. absurd (cc (c.in-Ok.ensures.version found gives))), c.in-Ok.ensures.ok.0, stands ∙ ap (λ (bytes : List ℕ). Some bytes) c.in-Ok.ensures.ok.1)

pub returns-in-Err-BadProps : goal.returns-in-Err-BadProps
returns-in-Err-BadProps c objects stands = (
  is_current objects c.args.bytes.now stands (λ found gives. absurd (cc (c.in-Err-BadProps.ensures.version found gives, c.in-Err-BadProps.field-0-is))),
  λ config is reads. subst (λ (e : PropsError). IsOnly config (Err e)) c.in-Err-BadProps.field-0-is (c.in-Err-BadProps.ensures.only config is (same_value c.args.bytes.now _ (sym stands ∙ reads))),
)

pub returns-in-Err-Version : goal.returns-in-Err-Version
returns-in-Err-Version c objects stands =
    of_version objects c.args.bytes.now c.in-Err-Version.found c.from.result stands
    (subst (λ (e : PropsError). SaysWhy c.args.bytes.now (Err e)) c.in-Err-Version.field-0-is c.in-Err-Version.ensures.why) c.from.ensures
