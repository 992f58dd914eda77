use Rattle.std.proofs.Common.{◌≡◌, ◌<◌, ◌^◌, All, take}
use Rattle.mx_base.specs.declared.entry.FileAt.{FileAt}
use Rattle.mx_commit.specs.Changes.{files_added}
use Rattle.mx_commit.proofs.adding.added_files.Given as goal

abbrev pub invariant-loop-file : goal.invariant-loop-file
invariant-loop-file l = record {
  added : l.added.items ≡ files_added (take l.file-index l.files) l.at;
  small : All (λ (file : FileAt). file.size < 2 ^ 63) l.added.items;
}
