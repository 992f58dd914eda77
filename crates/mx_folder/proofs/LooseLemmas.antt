-- A change at a path on which nothing that counts rests.
use Rattle.std.proofs.Common.{◌≡◌, ◌≢◌, inl, inr, ⊎_elim, ℕ, arith, List, Option, sym, ◌∙◌, ap, subst}
use Rattle.std.specs.Prelude.{◌++◌, option_and_then}
use Rattle.mx_base.specs.Objects.{object_path}
use Rattle.mx_base.specs.declared.object_name.ObjectName.TheVariants.{Config}
use Rattle.mx_meta.specs.ShardFiles.{delta_meta_of}
use Rattle.mx_base.specs.declared.entry.Entry.{Entry}
use Rattle.mx_model.specs.declared.action.Action.{Action}
use Rattle.mx_model.specs.Listing.{listed_files}
use Rattle.mx_files.specs.Files.{files_map, expected_on}
use Rattle.mx_merge.specs.Merged.{shown_on}
use Rattle.mx_store.specs.Objects.{Objects}
use Rattle.mx_store.proofs.Paths.{cases_path}
use Rattle.mx_folder.specs.Named.{object_at, commit_name, delta_name, log_name, first_base, first_bases}
use Rattle.mx_folder.specs.Actions.{IsCompleted, actions_upto}
use Rattle.mx_folder.specs.Slices.{base_entries, logged_entries}
use Rattle.mx_folder.specs.Files.{Lists, HoldsRows}
use Rattle.mx_folder.specs.Folder.{IsObjectAt, IsNeeded, IsSound, IsOpenable, IsValidTable}
use Rattle.mx_folder.specs.Steps.{DifferAt, IsLoose, MayStand}
use Rattle.mx_folder.proofs.ListedLemmas.{lists_same, holds_same}
use Rattle.mx_folder.proofs.NamedLemmas.{object_at-same, is_some_same}
use Rattle.mx_folder.proofs.ReadingLemmas.{available_from, named_bases-same, reads_same}
use Rattle.mx_folder.proofs.ActionLemmas.{actions_upto-same, base_entries-same, logged_entries-same}

module _ (o n : Objects) (x : List ℕ) (differ : DifferAt x o n) (loose : IsLoose o x) where
  config_same : object_at n Config ≡ object_at o Config
  config_same = object_at-same o n Config (λ _. differ (object_path Config) (λ same. loose.config (sym same)))

  bases_same : object_at n first_bases ≡ object_at o first_bases
  bases_same = object_at-same o n first_bases (λ _. differ (object_path first_bases) (λ same. loose.bases (sym same)))

  base_same : object_at n first_base ≡ object_at o first_base
  base_same = object_at-same o n first_base (λ _. differ (object_path first_base) (λ same. loose.base (sym same)))

  commit_same : (at : ℕ) → object_at n (commit_name at) ≡ object_at o (commit_name at)
  commit_same at = object_at-same o n (commit_name at) (λ is. differ (object_path (commit_name at)) (λ same. loose.commits at is (sym same)))

  log_same : (at : ℕ) → IsCompleted o at → object_at n (log_name at) ≡ object_at o (log_name at)
  log_same at done = object_at-same o n (log_name at) (λ is. differ (object_path (log_name at)) (λ same. loose.logs at done (sym same)))

  delta_same : (at : ℕ) → IsCompleted o at → object_at n (delta_name at) ≡ object_at o (delta_name at)
  delta_same at done = object_at-same o n (delta_name at) (λ is. differ (object_path (delta_name at)) (λ same. loose.unneeded (inl (at, done, sym same))))

  completed_from : (at : ℕ) → IsCompleted n at → IsCompleted o at
  completed_from at done = is_some_same _ _ (sym (commit_same at)) done

  needed_from : (q : List ℕ) → IsNeeded n q → IsNeeded o q
  needed_from q (inl delta) = inl (delta.0, completed_from delta.0 delta.1, delta.2)
  needed_from q (inr (inl log)) =
      let done = completed_from log.at log.completed in inr (inl (record {
        at = log.at;
        completed = done;
        logs = log.logs;
        delta = ap (λ (b : Option (List ℕ)). option_and_then delta_meta_of b) (sym (delta_same log.at done)) ∙ log.delta;
        among = log.among;
        part = log.part;
        shard = log.shard;
        is_name = log.is_name;
        is_log = log.is_log;
        available = available_from o n config_same bases_same log.part log.available;
      }))
  needed_from q (inr (inr base)) = inr (inr (record {
    meta = base.meta;
    named = sym (named_bases-same o n config_same bases_same) ∙ base.named;
    among = base.among;
    part = base.part;
    is_base = base.is_base;
    available = available_from o n config_same bases_same base.part base.available;
  }))

  reads_at : (q bytes : List ℕ) → IsObjectAt o q bytes → IsObjectAt n q bytes
  reads_at q bytes is = record { name = is.name; is_name = is.is_name; path_is = is.path_is; reads = reads_same o n config_same bases_same is.name bytes is.reads }

  sound_other : (q : List ℕ) → q ≢ x → IsSound o q → IsSound n q
  sound_other q other sound = record {
    object = λ bytes hidden stands. reads_at q bytes (sound.object bytes hidden (sym (differ q other) ∙ stands));
    present = λ needed. is_some_same _ _ (differ q other) (sound.present (needed_from q needed));
  }

  sound_here : MayStand o n x → IsSound n x
  sound_here may = record {
    object = λ bytes hidden stands. reads_at x bytes (may bytes hidden stands);
    present = λ needed. absurd (loose.unneeded (needed_from x needed));
  }

  pub loose_opens : IsOpenable o → MayStand o n x → IsOpenable n
  loose_opens opens may = record {
    config = is_some_same _ _ config_same opens.config;
    sound = λ q. ⊎_elim (λ (same : q ≡ x). subst (IsSound n) (sym same) (sound_here may)) (λ (other : q ≢ x). sound_other q other (opens.sound q)) (cases_path q x);
  }

  actions_same : (p : ℕ) → actions_upto n p ≡ actions_upto o p
  actions_same p = actions_upto-same o n p (λ at within. commit_same at) p (omega arith)

  loose_holds : IsValidTable o → (q : List ℕ) → Lists n q → HoldsRows n q
  loose_holds valid q lists =
      let before = lists_same o n q lists (actions_same lists.upto) in
      holds_same o n q config_same (differ q (λ same. loose.unlisted (subst (Lists o) same before))) (valid.holds q before)

  pub loose_keeps : IsValidTable o → MayStand o n x → IsValidTable n
  loose_keeps valid may = record {
    opens = loose_opens valid.opens may;
    shows = λ p key.
        let same = actions_same p in
        ap (λ (done : List Action). shown_on key (base_entries n ++ logged_entries n done)) same
        ∙ ap (λ (es : List Entry). shown_on key (base_entries n ++ es)) (logged_entries-same o n log_same p)
        ∙ ap (λ (es : List Entry). shown_on key (es ++ logged_entries o (actions_upto o p))) (base_entries-same o n base_same)
        ∙ valid.shows p key
        ∙ ap (λ (done : List Action). expected_on key (files_map (listed_files done))) (sym same);
    holds = loose_holds valid;
  }
