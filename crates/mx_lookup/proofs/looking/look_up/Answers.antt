use Rattle.std.proofs.Common.{◌≡◌, List, ℕ, Option, sym, ap, subst}
use Rattle.mx_base.specs.declared.entry.Entry.{Entry}
use Rattle.mx_merge.specs.declared.log.Log.{Log}
use Rattle.mx_merge.specs.Merged.{AreRead, shown_on, slice_entries}
use Rattle.mx_store.specs.declared.change.Change.{Change}
use Rattle.mx_world.specs.Mirror.{IsMirrorOf}
use Rattle.mx_world.specs.State.{Standing}
use Rattle.mx_lookup.specs.Looking.{AreLogs, ReadsAll, log_paths}
use Rattle.mx_lookup.proofs.LookLemmas.{answer_found}
use Rattle.mx_lookup.proofs.looking.look_up.Goals as goal

pub returns-clause-answer : goal.returns-clause-answer
returns-clause-answer g c =
    let reads = g.S.Store.reads in
    let journal = g.S.Store.journal in
    let instants = c.in_ok-instants.instants in
    let base = c.in_ok-base.base in
    let logs = c.in_ok-logs.logs.items in
    let found = c.in_ok-found.found in
    answer_found g.N.Named.opening (journal c.args.table.now.store) c.args.table.now.mirror c.args.table.now.last c.args.table.now.applied c.args.table.now.doubt c.requires.sure c.mirror.ensures.stands
    c.args.question.now c.key_of.ensures.named c.args.asked c.pinned-at.result instants base logs c.in_ok-reply_of.field-0 (reads c.args.table.now.store) (reads c.base_read.new.table.store) (reads c.logs_read.new.table.store)
    (λ o is. c.pinned-at.ensures o (subst (IsMirrorOf o) (sym c.mirror.ensures.value) is))
    (λ o is. c.in_ok-instants.ensures o (subst (IsMirrorOf o) (sym c.mirror-2.ensures.value) is))
    c.in_ok-base.ensures.entries
    (subst (λ (j : Option (List Change)). AreLogs j instants logs) (ap (λ (s : Standing). s.journal) c.in_ok-base.ensures.same)
    (subst (λ (ts : List ℕ). AreLogs (journal c.base_read.new.table.store) ts logs) c.as_slice.ensures c.in_ok-logs.ensures.logs))
    c.in_ok-base.ensures.reads
    (subst (λ (ts : List ℕ). ReadsAll (log_paths ts) (reads c.base_read.new.table.store) (reads c.logs_read.new.table.store)) c.as_slice.ensures c.in_ok-logs.ensures.reads)
    found
    (subst (λ (key : List ℕ). AreRead key (slice_entries base logs) → found ≡ shown_on key (slice_entries base logs)) c.key_of.ensures.key
    (subst (λ (es : List Entry). AreRead c.key_of.result.now (slice_entries es logs) → found ≡ shown_on c.key_of.result.now (slice_entries es logs)) c.as_slice-2.ensures
    (subst (λ (ls : List Log). AreRead c.key_of.result.now (slice_entries c.as_slice-2.result.now ls) → found ≡ shown_on c.key_of.result.now (slice_entries c.as_slice-2.result.now ls)) c.as_slice-3.ensures.value c.in_ok-found.ensures)))
    c.in_ok-reply_of.ensures.reply
