-- What the maps say of one partition, and of the newest instant.
use Rattle.std.proofs.Common.{◌≡◌, ◌≤◌, ℕ, Bool, true, false, cond, List, [], ◌∷◌, Option, Some, refl, ◌∙◌, ap, arith}
use Rattle.std.specs.Prelude.{unwrap_or, bytes_eq, nat_le, fold}
use Rattle.std.specs.Cmp.Lexicographic.{nat_list_cmp_total}
use Rattle.std.specs.FinMap as finmap
use Rattle.std.proofs.lemmas.Slice.Eq.{bytes_eq-Decides}
use Rattle.std.proofs.lemmas.Bool.Decides.{nat_tests}
use Rattle.mx_base.specs.declared.entry.FileAt.{FileAt}
use Rattle.mx_model.specs.declared.action.Action.{Action}
use Rattle.mx_model.specs.Timeline.{actions_upto, newest}
use Rattle.mx_merge.specs.Shown.{SizeMap}
use Rattle.mx_files.specs.Files.{FilesMap, name_of, sizes_in, with_file, files_map}
use Rattle.mx_model.specs.Maps.{with_file_in}
use Rattle.mx_lists.proofs.TreeLemmas.{R, tied}

-- one more file changes the sizes of its own partition
module _ (files : FilesMap) (file : FileAt) (partition : List ℕ) where
  chosen : (b : Bool) → bytes_eq file.partition partition ≡ b →
      unwrap_or (cond b (Some (finmap.insert (sizes_in files file.partition) (name_of file) file.size)) (finmap.get files partition)) finmap.empty ≡ cond b (finmap.insert (sizes_in files partition) (name_of file) file.size) (sizes_in files partition)
  chosen true is = ap (λ (p : List ℕ). finmap.insert (sizes_in files p) (name_of file) file.size) ((bytes_eq-Decides file.partition partition).0 is)
  chosen false is = refl

  pub sizes_in-with_file : sizes_in (with_file files file) partition ≡ with_file_in partition (sizes_in files partition) file
  sizes_in-with_file =
      let grown : SizeMap = finmap.insert (sizes_in files file.partition) (name_of file) file.size in
      ap (λ (o : Option SizeMap). unwrap_or o finmap.empty) (finmap.get-insert nat_list_cmp_total files file.partition grown partition)
      ∙ ap (λ (b : Bool). unwrap_or (cond b (Some grown) (finmap.get files partition)) finmap.empty) (tied file.partition partition)
      ∙ chosen (bytes_eq file.partition partition) refl

sizes_in-fold : (files : List FileAt) (partition : List ℕ) (map : FilesMap) → sizes_in (fold with_file map files) partition ≡ fold (with_file_in partition) (sizes_in map partition) files
sizes_in-fold [] partition map = refl
sizes_in-fold (file ∷ files) partition map =
    sizes_in-fold files partition (with_file map file)
    ∙ ap (λ (sizes : SizeMap). fold (with_file_in partition) sizes files) (sizes_in-with_file map file partition)

-- the sizes of a partition are those of its own files, each in turn
pub sizes_in-files_map : (files : List FileAt) (partition : List ℕ) → sizes_in (files_map files) partition ≡ fold (with_file_in partition) finmap.empty files
sizes_in-files_map files partition =
    sizes_in-fold files partition finmap.empty
    ∙ ap (λ (o : Option SizeMap). fold (with_file_in partition) (unwrap_or o finmap.empty) files) (finmap.get-empty R partition)

-- every action is at most at an instant that none is above
upto_all : (actions : List Action) (at : ℕ) → newest actions ≤ at → actions_upto actions at ≡ actions
upto_all [] at below = refl
upto_all (action ∷ actions) at below =
    let first : nat_le action.at at ≡ true = grind (arith, nat_tests) in
    ap (λ (b : Bool). cond b (action ∷ actions_upto actions at) (actions_upto actions at)) first
    ∙ ap (λ (rest : List Action). action ∷ rest) (upto_all actions at (omega (arith, below)))

pub actions_upto-newest : (actions : List Action) → actions_upto actions (newest actions) ≡ actions
actions_upto-newest actions = upto_all actions (newest actions) (omega arith)
