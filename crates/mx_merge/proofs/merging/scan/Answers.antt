use Rattle.std.proofs.Common.{◌∙◌, List, sym}
use Rattle.std.proofs.lemmas.List.{at_drop_all}
use Rattle.std.specs.List.{fold, flat_map}
use Rattle.mx_merge.specs.declared.log.Log.{Log}
use Rattle.mx_merge.specs.Merged.{slice_entries}
use Rattle.mx_merge.specs.Said.{heard, asked, known_at}
use Rattle.mx_merge.proofs.MetLemmas.{all_read}
use Rattle.mx_merge.proofs.MergeLemmas.{merges_told}
use Rattle.mx_merge.proofs.merging.scan.Goals as goal

pub returns : goal.returns
returns c =
    let prefix = c.args.prefix.now in
    merges_told prefix (slice_entries c.args.base.now c.args.logs.now) c.loop-log.met
    (λ key.
    let known = known_at c.loop-log.met key in
    all_read prefix key known
    ∙ sym (at_drop_all (λ (logs : List Log). fold heard known (asked prefix key (flat_map (λ (log : Log). log.entries) logs))) c.args.logs.now c.loop-log.log-index c.loop-log-test.false)
    ∙ c.loop-log.invariant.0 key)
    c.shown_entries.result c.shown_entries.ensures.ordered c.shown_entries.ensures.tells
