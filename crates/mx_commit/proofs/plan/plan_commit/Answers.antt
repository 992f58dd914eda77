use Rattle.std.proofs.Common.{rules, ◌≡◌, List, [], Some, subst}
use Rattle.mx_base.specs.declared.entry.Entry.{Entry}
use Rattle.mx_files.specs.Delta.{IsDelta}
use Rattle.mx_folder.specs.Slices.{log_of}
use Rattle.mx_log.specs.Encoding.{log_encoding}
use Rattle.mx_meta.specs.ShardFiles.{delta_meta_data, delta_meta_of}
use Rattle.serde_json.specs.Written.{compact_text}
use Rattle.mx_commit.specs.declared.new_file.NewFile.{NewFile}
use Rattle.mx_commit.specs.Changes.{commit_changes, files_added, logs_written}
use Rattle.mx_commit.proofs.AddedLemmas.{spelled}
use Rattle.mx_commit.proofs.PlanLemmas.{entries_apart, small_counts}
use Rattle.mx_commit.proofs.plan.plan_commit.Goals as goal

pub meta_of-requires : goal.meta_of-requires
meta_of-requires c = record { apart = entries_apart c.args.files c.args.at c.args.written.now c.requires.apart c.requires.entries }

pub returns-clause-plan : goal.returns-clause-plan
returns-clause-plan c =
    let meta = c.in_ok-meta.meta in
    let entries = c.in_ok-entries.entries.items in
    let are : c.push_completion.new.changes.items ≡ commit_changes c.args.files c.args.at entries meta = search rules in
    let is_delta : IsDelta (files_added c.args.files c.args.at) [] entries = subst (λ (files : List NewFile). IsDelta (files_added files c.args.at) [] entries) c.as_slice.ensures c.in_ok-entries.ensures in
    record {
      entries = entries;
      is_delta = is_delta;
      meta = meta;
      is_meta = c.in_ok-meta.ensures;
      are = are;
      reads = record {
        planned = c.in_ok-push_files.ensures.reads;
        added = subst (λ (es : List Entry). log_of c.args.at (log_encoding c.args.at es) ≡ Some es) c.as_slice-3.ensures.value c.in_ok-push_logs.ensures.added;
        payloads = spelled (files_added c.args.files c.args.at) [] entries is_delta;
        logs = subst (λ (files : List NewFile). delta_meta_of (compact_text (delta_meta_data (logs_written files c.args.at))) ≡ Some (logs_written files c.args.at)) c.as_slice-2.ensures c.in_ok-push_logs.ensures.logs;
        completes = c.in_ok-push_completion.ensures.reads (small_counts c.args.written.now meta c.in_ok-meta.ensures c.in_ok-check_counts.ensures);
      };
    }
