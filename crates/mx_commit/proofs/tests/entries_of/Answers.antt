use Rattle.std.proofs.Common.{◌≡◌, List, [], ◌∷◌, ◌++◌, take, sym, ◌∙◌, ap, subst}
use Rattle.std.proofs.lemmas.List.{take_more}
use Rattle.mx_commit.specs.declared.new_file.NewFile.{NewFile}
use Rattle.mx_commit.specs.declared.written.Written.{Written}
use Rattle.mx_commit.specs.Written.{AreWritten}
use Rattle.mx_commit.proofs.WrittenLemmas.{more_written}
use Rattle.mx_commit.proofs.tests.entries_of.Goals as goal

pub loop-file-preserved : goal.loop-file-preserved
loop-file-preserved c =
    let files = c.args.files.now in
    let i = c.loop-file.file-index in
    let more = more_written (take i files) c.args.at c.loop-file.entries.items c.file-item.result c.before_of.result c.in_ok-written_file.field-0 c.loop-file.invariant c.in_ok-written_file.ensures in
    let are = take_more files i c.file-item.result c.loop-file-test.true ∙ ap (λ (x : NewFile). take i files ++ x ∷ []) (sym c.file-item.is) in
    subst (λ (fs : List NewFile). AreWritten fs c.args.at c.push.new.self.items) (sym are)
    (subst (λ (ws : List Written). AreWritten (take i files ++ c.file-item.result ∷ []) c.args.at ws) (sym c.in_ok-push.ensures.items) more)
