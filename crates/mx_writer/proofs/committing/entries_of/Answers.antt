use Rattle.std.proofs.Common.{List, [], ◌∷◌, ◌++◌, take, sym, ◌∙◌, ap, subst}
use Rattle.std.proofs.lemmas.List.{take_more}
use Rattle.mx_commit.specs.declared.new_file.NewFile.{NewFile}
use Rattle.mx_commit.specs.declared.written.Written.{Written}
use Rattle.mx_writer.specs.Commit.{AreEntries}
use Rattle.mx_writer.proofs.EntryLemmas.{more_entries}
use Rattle.mx_writer.proofs.committing.entries_of.Goals as goal

pub loop-file-preserved : goal.loop-file-preserved
loop-file-preserved g c =
    let files = c.args.files.now in
    let i = c.loop-file.file-index in
    let more = more_entries (g.S.Store.journal c.args.table.now.store) (take i files) c.args.at c.loop-file.entries.items c.file-item.result c.in_ok-entry_of.field-0 c.loop-file.invariant c.in_ok-entry_of.ensures in
    let are = take_more files i c.file-item.result c.loop-file-test.true ∙ ap (λ (x : NewFile). take i files ++ x ∷ []) (sym c.file-item.is) in
    subst (λ (fs : List NewFile). AreEntries (g.S.Store.journal c.args.table.now.store) fs c.args.at c.push.new.self.items) (sym are)
    (subst (λ (ws : List Written). AreEntries (g.S.Store.journal c.args.table.now.store) (take i files ++ c.file-item.result ∷ []) c.args.at ws) (sym c.in_ok-push.ensures.items) more)
