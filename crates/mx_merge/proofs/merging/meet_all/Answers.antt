use Rattle.std.proofs.Common.{◌≡◌, ◌+◌, ◌∷◌, ◌∙◌, ℕ, List, ap, sym, drop}
use Rattle.std.specs.Prelude.{nat_eq}
use Rattle.std.specs.List.{starts_with, fold}
use Rattle.mx_merge.specs.Said.{heard, asked, known_at}
use Rattle.mx_merge.proofs.MetLemmas.{goes_on, goes_by, next}
use Rattle.mx_merge.proofs.merging.meet_all.Goals as goal
use Rattle.mx_merge.proofs.merging.meet_all.Goals.{then-starts_with+in_ok-meet, else-starts_with}

pub loop-entry-preserved : goal.loop-entry-preserved
loop-entry-preserved c =
    let i = c.loop-entry.entry-index in
    let entries = c.args.entries.now in
    let prefix = c.args.prefix.now in
    let e = c.entry-item.result in
    let rest = drop (i + 1) entries in
    let parts : drop i entries ≡ e ∷ rest = next entries i e c.loop-entry-test.true c.entry-item.is in
    let test : c.starts_with.result ≡ starts_with nat_eq e.key prefix = c.starts_with.ensures.value ∙ ap (λ (k : List ℕ). starts_with nat_eq k prefix) c.as_slice.ensures in
    elim c.if-starts_with.branch [
      | then-starts_with+in_ok-meet w ↦ rw w.met-is (
        λ key. goes_on prefix key e (drop i entries) rest (known_at c.loop-entry.met key) (known_at w.meet.new.met key) (fold heard (known_at c.args.met.now key) (asked prefix key entries)) parts (c.loop-entry.invariant.0 key) (sym test ∙ w.if-starts_with.true) (w.in_ok-meet.ensures.known key),
        w.in_ok-meet.ensures.kept,
      )
      | else-starts_with w ↦ rw w.met-is (
        λ key. goes_by prefix key e (drop i entries) rest (known_at c.loop-entry.met key) (known_at c.loop-entry.met key) (fold heard (known_at c.args.met.now key) (asked prefix key entries)) parts (c.loop-entry.invariant.0 key) (sym test ∙ w.if-starts_with.false),
        c.loop-entry.invariant.1,
      )
    ]
