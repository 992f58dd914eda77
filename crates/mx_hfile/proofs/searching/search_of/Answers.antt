use Rattle.std.proofs.Common.{◌≡◌, ◌-◌, ◌∙◌, length, false, eqb, Option, ℕ, Result, arith, sym, subst}
use Rattle.mx_lists.specs.Reading.{Gives}
use Rattle.mx_lists.proofs.Codecs.{IsBytes}
use Rattle.mx_hfile.proofs.SearchLemmas.{body-left, search_whole}
use Rattle.mx_hfile.proofs.searching.search_of.Goals as goal

pub value_in-requires : goal.value_in-requires
value_in-requires c =
    let fits : IsBytes c.args.block.now = λ i. omega (arith, c.type_inv.block i) in
    let len = body-left c.args.block.now c.in_ok-body.body.now fits c.in_ok-body.ensures.read in
    omega (arith, len)

pub returns-clause-read : goal.returns-clause-read
returns-clause-read c =
    let bytes = c.args.block.now in
    let body = c.in_ok-body.body.now in
    let fits : IsBytes bytes = λ i. omega (arith, c.type_inv.block i) in
    let len = body-left bytes body fits c.in_ok-body.ensures.read in
    let some : eqb (length body) 0 ≡ false = sym c.is_empty.ensures ∙ c.if-is_empty.false in
    let whole = search_whole c.args.key.now bytes body (length bytes - length body) (omega arith) c.in_ok-body.ensures.read some (omega (arith, len)) in
    subst (λ (r : Result (Option (ℕ × ℕ)) ℕ). Gives (λ (found : Option (ℕ × ℕ)). found) c.value_in.result r) (sym whole) c.value_in.ensures.read
