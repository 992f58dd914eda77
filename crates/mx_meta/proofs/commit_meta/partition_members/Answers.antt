use Rattle.std.proofs.Common.{ℕ, List, All, ap, ◌∙◌, subst}
use Rattle.std.specs.Prelude.{string_bytes}
use Rattle.serde_json.specs.Data.{array, put, Data}
use Rattle.serde_json.specs.View.{members_view, items_view, items_of}
use Rattle.serde_json.proofs.Views.{members_view-insert_entry, view-Array}
use Rattle.serde_json.specs.declared.value.Value.TheVariants.{Array}
use Rattle.mx_meta.specs.CommitText.{HasNames, HasNamesWithin, stats_data}
use Rattle.mx_meta.proofs.JsonLemmas.{named_more}
use Rattle.mx_meta.proofs.CommitLemmas.{partitions_more}
use Rattle.mx_meta.proofs.commit_meta.partition_members.Goals as goal

pub loop-written-preserved : goal.loop-written-preserved
loop-written-preserved c = record {
  made = partitions_more (members_view c.loop-written.members.entries) (members_view c.insert.new.self.entries) (array (items_view c.in_ok-stats.stats.items)) c.args.partitions.now c.loop-written.written-index c.written-item.result
      (ap members_view c.in_ok-insert.ensures.entries
      ∙ members_view-insert_entry c.loop-written.members.entries c.in_ok-name.name (Array c.in_ok-stats.stats)
      ∙ ap (λ (d : Data). put (string_bytes c.in_ok-name.name) d (members_view c.loop-written.members.entries)) (view-Array c.in_ok-stats.stats)
      ∙ ap (λ (name : List ℕ). put name (array (items_view c.in_ok-stats.stats.items)) (members_view c.loop-written.members.entries)) (c.in_ok-name.ensures.ok ∙ c.as_str.ensures.value))
      c.loop-written.invariant.made (ap (λ ds. array (items_of ds)) c.in_ok-stats.ensures.value ∙ ap stats_data c.as_slice.ensures) c.loop-written-test.true c.written-item.is;
  named = named_more HasNamesWithin c.args.partitions.now c.loop-written.written-index c.written-item.result
      c.loop-written.invariant.named (record { partition = c.as_str.ensures.grammar; stats = subst (All HasNames) c.as_slice.ensures c.in_ok-stats.ensures.names }) c.loop-written-test.true c.written-item.is;
}
