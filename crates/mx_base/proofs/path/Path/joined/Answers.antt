use Rattle.std.proofs.Common.{ℕ, List, ◌++◌, sym, ap, ◌∙◌, subst}
use Rattle.std.specs.Str.{IsAscii}
use Rattle.mx_base.specs.Names.{IsPath}
use Rattle.mx_base.proofs.NameLemmas.{IsAscii-instant_text}
use Rattle.mx_base.proofs.path.Path.joined.Goals as goal

pub ascii_text-digits-requires : goal.ascii_text-digits-requires
ascii_text-digits-requires c = subst IsAscii (sym c.print-digits.ensures) (IsAscii-instant_text c.args.at)

pub returns : goal.returns
returns c = c.in_ok-format.ensures.ok ∙ ap (λ (digits : List ℕ). c.args.front.now ++ (digits ++ c.args.ending.now)) (c.ascii_text-digits.ensures ∙ c.print-digits.ensures)

pub invariant_of-result : goal.invariant_of-result
invariant_of-result c = subst IsPath (sym (returns c)) c.requires
