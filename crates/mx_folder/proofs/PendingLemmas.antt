-- Nothing that counts rests on a commit before it is completed, nor on what stands outside `.hoodie/` and no commit lists.
use Rattle.std.proofs.Common.{◌≡◌, ◌≢◌, inl, inr, ℕ, false, List, refl, sym, ◌∙◌, ap, subst}
use Rattle.mx_base.specs.Objects.{IsObjectName, object_path}
use Rattle.mx_base.specs.declared.object_name.ObjectName.{ObjectName}
use Rattle.mx_base.specs.declared.object_name.ObjectName.TheVariants.{Config, Timeline, Metadata, Base, Log}
use Rattle.mx_base.proofs.ObjectLemmas.{object_path-injective}
use Rattle.mx_store.specs.Objects.{Objects}
use Rattle.mx_folder.specs.Named.{commit_name, delta_name, log_name, first_base, first_bases, is_hidden, IsHidden}
use Rattle.mx_folder.specs.Actions.{IsCompleted}
use Rattle.mx_folder.specs.Files.{Lists}
use Rattle.mx_folder.specs.Folder.{IsNeeded}
use Rattle.mx_folder.specs.Reading.{IsDataFileOf}
use Rattle.mx_folder.specs.Steps.{IsLoose, IsMadeBefore}
use Rattle.mx_folder.proofs.ListedLemmas.{data_outside, lists_outside, lists_completed}
use Rattle.mx_folder.proofs.NamedLemmas.{object_at-stands, is_delta_name}

-- each object stands below `.hoodie/`
pub hidden_object : (name : ObjectName) → IsHidden (object_path name)
unfolding object_path
hidden_object Config = refl
hidden_object (Timeline at kind state) = refl
hidden_object (Metadata at kind completed) = refl
hidden_object (Base part shard upto kind) = refl
hidden_object (Log part shard at) = refl

delta_named : (o : Objects) (at : ℕ) → IsCompleted o at → IsObjectName (delta_name at)
delta_named o at done = is_delta_name at (object_at-stands o (commit_name at) done).0

log_named : (o : Objects) (at : ℕ) → IsCompleted o at → IsObjectName (log_name at)
log_named o at done = (object_at-stands o (commit_name at) done).0

module _ (o : Objects) (t : ℕ) (name : ObjectName) (is : IsObjectName name) (made : IsMadeBefore t name) (pending : ¬ (IsCompleted o t)) where
  -- a name of the path is this one
  as_name : (other : ObjectName) → IsObjectName other → object_path name ≡ object_path other → IsMadeBefore t other
  as_name other is_other same = subst (IsMadeBefore t) (object_path-injective name other is is_other same) made

  not_completed : (at : ℕ) → IsCompleted o at → at ≢ t
  not_completed at done same = pending (subst (IsCompleted o) same done)

  unneeded : IsNeeded o (object_path name) → ⊥
  unneeded (inl delta) = not_completed delta.0 delta.1 (as_name (delta_name delta.0) (delta_named o delta.0 delta.1) delta.2)
  unneeded (inr (inl log)) = not_completed log.at log.completed (as_name (Log log.part log.shard log.at) log.is_name log.is_log)
  unneeded (inr (inr base)) = as_name (Base base.part base.is_base.0 base.is_base.1 base.is_base.2) base.is_base.3 base.is_base.4

  pub pending_loose : IsLoose o (object_path name)
  pending_loose = record {
    config = λ same. as_name Config refl same;
    base = λ same. as_name first_base refl same;
    bases = λ same. as_name first_bases refl same;
    commits = λ at is_commit same. as_name (commit_name at) is_commit same;
    logs = λ at done same. not_completed at done (as_name (log_name at) (log_named o at done) same);
    unneeded = unneeded;
    unlisted = λ lists. absurd (cc (sym (lists_outside o (object_path name) lists) ∙ hidden_object name));
  }

-- ---- what stands outside

module _ (o : Objects) (x : List ℕ) (outer : is_hidden x ≡ false) where
  apart : (name : ObjectName) → x ≢ object_path name
  apart name same = absurd (cc (sym outer ∙ ap is_hidden same ∙ hidden_object name))

  pub unneeded_outside : IsNeeded o x → ⊥
  unneeded_outside (inl delta) = apart (delta_name delta.0) delta.2
  unneeded_outside (inr (inl log)) = apart (Log log.part log.shard log.at) log.is_log
  unneeded_outside (inr (inr base)) = apart (Base base.part base.is_base.0 base.is_base.1 base.is_base.2) base.is_base.4

  pub outside_loose : ¬ (Lists o x) → IsLoose o x
  outside_loose unlisted = record {
    config = apart Config;
    base = apart first_base;
    bases = apart first_bases;
    commits = λ at is. apart (commit_name at);
    logs = λ at done. apart (log_name at);
    unneeded = unneeded_outside;
    unlisted = unlisted;
  }

-- a data file of a commit that is not completed
pub pending_file_loose : (o : Objects) (at : ℕ) (path : List ℕ) → IsDataFileOf at path → ¬ (IsCompleted o at) → IsLoose o path
pending_file_loose o at path of pending = outside_loose o path (data_outside path of.0 of.1) (λ lists. pending (lists_completed o path lists at of))
