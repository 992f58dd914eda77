use Rattle.std.proofs.Common.{◌≡◌, ℕ, List, ◌∷◌, ◌++◌, ◌∙◌, ap, sym, rules}
use Rattle.std.proofs.lemmas.Result.{err_from_is_err_and}
use Rattle.std.proofs.lemmas.Map.Iter.{btree_map_turn, rest_so_far, rest_more}
use Rattle.std.specs.Cmp.Lexicographic.{nat_list_cmp_total}
use Rattle.mx_merge.specs.declared.known.Known.{Known}
use Rattle.std.proofs.lemmas.List.{map-id}
use Rattle.mx_merge.proofs.EntryLemmas.{known_here, entries-push, stops}
use Rattle.mx_merge.proofs.merging.shown_entries.Goals as goal

pub push_shown-requires : goal.push_shown-requires
push_shown-requires c =
    let turn = btree_map_turn (λ (x : List ℕ × Known). x) c.loop-key.yielded c.into_iter-key-iterator.result c.loop-key.key-iterator c.next.new.self c.next.result (c.in-Some.key, c.in-Some.known) c.loop-key.yielded_by c.in-Some.is c.next.ensures.steps
    nat_list_cmp_total c.args.met (search rules) (search rules) in
    known_here c.args.met c.in-Some.key c.in-Some.known turn.1 c.requires

pub loop-key-preserved : goal.loop-key-preserved
loop-key-preserved c =
    entries-push c.loop-key.yielded (c.in-Some.key, c.in-Some.known) c.loop-key.entries c.push_shown.new.entries c.loop-key.invariant c.in_ok-push_shown.ensures.shown c.in_ok-push_shown.ensures.pushed

pub returns-in_err-push_shown-clause-tells : goal.returns-in_err-push_shown-clause-tells
returns-in_err-push_shown-clause-tells c =
    let p = err_from_is_err_and c.from_residual.result c.from_residual.ensures.1 in
    let all = rest_so_far (λ (x : List ℕ × Known). x) c.loop-key.yielded c.into_iter-key-iterator.result c.loop-key.key-iterator c.loop-key.yielded_by in
    let one = rest_more (λ (x : List ℕ × Known). x) c.loop-key.key-iterator c.next.new.self c.next.result (c.in-Some.key, c.in-Some.known) c.in-Some.is c.next.ensures.steps in
    let parts : c.args.met.entries ≡ c.loop-key.yielded ++ (c.in-Some.key, c.in-Some.known) ∷ c.next.new.self =
    sym c.into_iter-key-iterator.ensures.into_iter_gives.0 ∙ all ∙ ap (λ (xs : List (List ℕ × Known)). xs ++ c.loop-key.key-iterator) (map-id c.loop-key.yielded) ∙ ap (λ (xs : List (List ℕ × Known)). c.loop-key.yielded ++ xs) one in
    rw (p.1, p.2) (stops c.args.met.entries c.loop-key.yielded c.in-Some.key c.in-Some.known c.next.new.self c.in_err-push_shown.field-0.0 parts c.loop-key.invariant.shown c.in_err-push_shown.ensures.fails)
