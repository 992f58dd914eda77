use Rattle.std.proofs.Common.{◌≡◌, ℕ, ◌+◌, ◌∙◌, ◌++◌, ◌∷◌, [], List, map, drop, get_or, ap, sym, subst, arith}
use Rattle.std.proofs.lemmas.List.{map_push, map_more}
use Rattle.std.proofs.lemmas.List.Sums.{sum_by-cons, sum_by_push}
use Rattle.mx_hfile.specs.declared.listing.Listing.{Listing}
use Rattle.mx_hfile.specs.declared.loading.Held.{Held}
use Rattle.mx_hfile.specs.Encoding.{Place}
use Rattle.mx_hfile.specs.Seen.{seen}
use Rattle.mx_hfile.specs.Held.{held_place, Follow}
use Rattle.mx_hfile.proofs.Loops.{drop_next}
use Rattle.mx_hfile.proofs.HeldLemmas.{total, follow-push}
use Rattle.mx_hfile.proofs.loading.held_of.Goals as goal

abbrev none : Listing
none = record { len = 0; key = record { ref_ptr = (0, 0); now = [] } }

pub loop-listing-preserved : goal.loop-listing-preserved
loop-listing-preserved c =
    let l = c.loop-listing in
    let ls = c.args.listings.now in
    let i = l.listing-index in
    let x = get_or ls i none in
    let h : Held = record { at = l.at; len = x.len; key = x.key.now } in
    let pushed : c.push.new.self.items ≡ l.held.items ++ h ∷ [] =
    c.in_ok-push.ensures.items ∙ ap (λ (k : List ℕ). l.held.items ++ record { at = l.at; len = x.len; key = k } ∷ []) c.in_ok-from_slice.ensures in
    let places : map held_place c.push.new.self.items ≡ map held_place l.held.items ++ held_place h ∷ [] = ap (map held_place) pushed ∙ map_push held_place l.held.items h in
    let sum = ap total places ∙ sum_by_push (λ (p : Place). p.len) (map held_place l.held.items) (held_place h) in
    let more = ap total (ap (map seen) (drop_next ls i none c.loop-listing-test.true)) ∙ sum_by-cons (λ (p : Place). p.len) (seen x) (map seen (drop (i + 1) ls)) in
    record {
      places = places ∙ ap (λ (ps : List Place). ps ++ held_place h ∷ []) l.invariant.places ∙ sym (map_more seen ls i none c.loop-listing-test.true);
      at = omega (arith, sum, l.invariant.at, c.from.ensures);
      follow = subst (Follow 0) (sym pushed) (follow-push 0 l.held.items h l.invariant.follow (omega (arith, l.invariant.at)));
      room = omega (arith, more, l.invariant.room, c.from.ensures);
    }
