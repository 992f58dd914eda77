-- The entries of a commit's files, and which commit wrote a group last.
use Rattle.std.proofs.Common.{◌≡◌, ◌≢◌, ℕ, List, [], ◌∷◌, ◌++◌, Option, Some, None, sym, subst}
use Rattle.std.specs.Prelude.{All, IfSome}
use Rattle.std.proofs.lemmas.List.Elements.{All-nil, All-push}
use Rattle.mx_commit.specs.declared.new_file.NewFile.{NewFile}
use Rattle.mx_base.specs.Paths.{group_name}
use Rattle.mx_commit.specs.declared.written.Written.{Written}
use Rattle.mx_commit.proofs.WrittenLemmas.{more_written}
use Rattle.mx_groups.specs.Groups.{IsNewestOf}
use Rattle.mx_store.specs.Objects.{Objects, objects_of}
use Rattle.mx_store.specs.declared.change.Change.{Change}
use Rattle.mx_world.specs.declared.mirror.Mirror.{Mirror}
use Rattle.mx_world.specs.Mirror.{IsMirrorOf}
use Rattle.mx_world.specs.State.{Stands}
use Rattle.mx_writer.specs.Commit.{AreEntries, IsCommitBefore, IsEntryOf, TellsBefore}

-- ---- which commit wrote a group last

module _ (opening journal : Option (List Change)) (m : Mirror) (last applied : ℕ) (doubt : Option Change) (sure : doubt ≡ None) (stands : Stands opening journal m last applied doubt) where
  known : Stands opening journal m last applied None
  known = subst (λ (d : Option Change). Stands opening journal m last applied d) sure stands

  from_mirror : (P : Objects → Type 0) → ((o : Objects) → IsMirrorOf o m → P o) → (o s : Option (List Change)) → Stands o s m last applied None → IfSome s (λ (j : List Change). P (objects_of j))
  from_mirror P is (Some first) (Some j) holds = is (objects_of j) holds.mirror_is
  from_mirror P is (Some first) None holds = tt
  from_mirror P is None None holds = tt
  from_mirror P is None (Some j) holds = absurd (cc holds)

  -- what the mirror tells of a folder holds of the one that the journal leaves, where it is told
  pub is_told : (P : Objects → Type 0) → ((o : Objects) → IsMirrorOf o m → P o) → IfSome journal (λ (j : List Change). P (objects_of j))
  is_told P is = from_mirror P is opening journal known

  pub newest_is : (group : List ℕ) (newest : ℕ) → ((o : Objects) → IsMirrorOf o m → IsNewestOf o group newest) → IfSome journal (λ (j : List Change). IsNewestOf (objects_of j) group newest)
  newest_is group newest is = from_mirror (λ o. IsNewestOf o group newest) is opening journal known

pub before_none : (journal : Option (List Change)) (group : List ℕ) (newest : ℕ) → newest ≡ 0 → IfSome journal (λ (j : List Change). IsNewestOf (objects_of j) group newest) → IfSome journal (λ (j : List Change). IsCommitBefore (objects_of j) group None)
before_none None group newest none is = tt
before_none (Some j) group newest none is = subst (λ (n : ℕ). IsNewestOf (objects_of j) group n) none is

pub before_some : (journal : Option (List Change)) (group : List ℕ) (newest : ℕ) → newest ≢ 0 → IfSome journal (λ (j : List Change). IsNewestOf (objects_of j) group newest) → IfSome journal (λ (j : List Change). IsCommitBefore (objects_of j) group (Some newest))
before_some None group newest some is = tt
before_some (Some j) group newest some is = (some, is)

-- ---- one entry more

tells : (journal : Option (List Change)) (file : NewFile) (at : ℕ) (w : Written) → IsEntryOf journal file at w → IfSome journal (λ (j : List Change). TellsBefore (objects_of j) w)
tells None file at w is = tt
tells (Some j) file at w is = subst (λ (x : Written). IsCommitBefore (objects_of j) (group_name x.partition x.stat.file_id) x.stat.prev_commit) (sym is.1) is.2

all_tell : (journal : Option (List Change)) (ws : List Written) (w : Written) → IfSome journal (λ (j : List Change). All (TellsBefore (objects_of j)) ws) → IfSome journal (λ (j : List Change). TellsBefore (objects_of j) w) → IfSome journal (λ (j : List Change). All (TellsBefore (objects_of j)) (ws ++ w ∷ []))
all_tell None ws w all one = tt
all_tell (Some j) ws w all one = All-push (TellsBefore (objects_of j)) ws w all one

pub more_entries : (journal : Option (List Change)) (files : List NewFile) (at : ℕ) (ws : List Written) (file : NewFile) (w : Written) → AreEntries journal files at ws → IsEntryOf journal file at w → AreEntries journal (files ++ file ∷ []) at (ws ++ w ∷ [])
more_entries journal files at ws file w are is = (more_written files at ws file is.0 w are.0 is.1, all_tell journal ws w are.1 (tells journal file at w is))

pub no_entries : (journal : Option (List Change)) (at : ℕ) → AreEntries journal [] at []
no_entries None at = (tt, tt)
no_entries (Some j) at = (tt, All-nil (TellsBefore (objects_of j)))
