-- The create that completes a commit.
use Rattle.std.proofs.Common.{◌≡◌, ◌≢◌, ◌⊎◌, inl, inr, ⊎_elim, ℕ, ◌≤◌, ◌<◌, true, false, List, [], ◌∷◌, ◌++◌, Option, Some, None, IsSome, refl, sym, ◌∙◌, ap, subst}
use Rattle.std.specs.Prelude.{option_and_then, option_to_list, fold, Contains, unwrap_or, nat_eq}
use Rattle.std.specs.FinMap as finmap
use Rattle.std.proofs.lemmas.Bool.{cases_lt}
use Rattle.std.proofs.lemmas.Bool.Decides.{eqb_tells}
use Rattle.std.proofs.lemmas.List.Elements.{All-contains, Contains-append_cases}
use Rattle.std.proofs.lemmas.Grind.{flat_map-append, fold-append}
use Rattle.std.proofs.lemmas.List.{append-nil, append_assoc}
use Rattle.mx_base.specs.Objects.{object_path}
use Rattle.mx_base.specs.declared.object_name.ObjectName.{ObjectName}
use Rattle.mx_base.specs.declared.object_name.ObjectName.TheVariants.{Config, Timeline}
use Rattle.mx_meta.specs.CommitText.{commit_meta_of}
use Rattle.mx_meta.specs.ShardFiles.{delta_meta_of}
use Rattle.mx_base.specs.declared.entry.Entry.{Entry}
use Rattle.mx_base.specs.declared.entry.FileAt.{FileAt}
use Rattle.mx_model.specs.declared.action.Action.{Action}
use Rattle.mx_model.specs.Listing.{files_of, listed_files}
use Rattle.mx_files.specs.Files.{files_map, with_file, expected_on}
use Rattle.mx_merge.specs.Shown.{shown}
use Rattle.mx_merge.specs.Merged.{payloads_on_key, shown_on}
use Rattle.mx_folder.proofs.SliceLemmas.{shown_on-append}
use Rattle.mx_payload.specs.declared.payload.Payload.{Payload}
use Rattle.mx_store.specs.Objects.{Objects, at_path}
use Rattle.mx_store.proofs.Paths.{cases_path}
use Rattle.mx_folder.specs.Named.{object_at, commit_name, delta_name, log_name, first_base, first_bases, is_hidden}
use Rattle.mx_folder.specs.Actions.{IsCompleted, action_at, actions_upto}
use Rattle.mx_folder.specs.Slices.{base_entries, entries_at, logged_entries, slice_at}
use Rattle.mx_folder.specs.Files.{Lists, HoldsRows, place_of}
use Rattle.mx_folder.specs.Folder.{IsObjectAt, IsNeeded, IsSound, IsOpenable, IsValidTable}
use Rattle.mx_folder.specs.Steps.{DifferAt, MayComplete}
use Rattle.mx_folder.proofs.ListedLemmas.{lists_outside, lists_same, holds_same}
use Rattle.mx_folder.proofs.PendingLemmas.{hidden_object}
use Rattle.mx_folder.proofs.NamedLemmas.{object_at-same, object_at-is, object_at-none, object_at-some, other_path, is_some_same}
use Rattle.mx_folder.proofs.ReadingLemmas.{available_from, named_bases-same, reads_same}
use Rattle.mx_folder.proofs.ActionLemmas.{action_at-some, base_entries-same, entries_at-same, upto_before, upto_from, logged_entries-same}

-- the instant that a name of a commit is of
commit_at : ObjectName → ℕ → ℕ
commit_at (Timeline at kind state) other = at
commit_at name other = other

module _ (o n : Objects) (at : ℕ) (bytes : List ℕ) (may : MayComplete o at bytes) (stands : at_path n (object_path (commit_name at)) ≡ Some bytes) (differ : DifferAt (object_path (commit_name at)) o n) where
  name_same : (name : ObjectName) → name ≢ commit_name at → object_at n name ≡ object_at o name
  name_same name other = object_at-same o n name (λ is. differ (object_path name) (other_path name (commit_name at) is may.is_name other))

  config_same : object_at n Config ≡ object_at o Config
  config_same = name_same Config (λ same. absurd (cc same))

  bases_same : object_at n first_bases ≡ object_at o first_bases
  bases_same = name_same first_bases (λ same. absurd (cc same))

  delta_same : (a : ℕ) → object_at n (delta_name a) ≡ object_at o (delta_name a)
  delta_same a = name_same (delta_name a) (λ same. absurd (cc same))

  log_same : (a : ℕ) → object_at n (log_name a) ≡ object_at o (log_name a)
  log_same a = name_same (log_name a) (λ same. absurd (cc same))

  commit_same : (a : ℕ) → a ≢ at → object_at n (commit_name a) ≡ object_at o (commit_name a)
  unfolding commit_at
  commit_same a other = name_same (commit_name a) (λ same. other (ap (λ (name : ObjectName). commit_at name a) same))

  completed_from : (a : ℕ) → a ≢ at → IsCompleted n a → IsCompleted o a
  completed_from a other done = is_some_same _ _ (sym (commit_same a other)) done

  delta_stands : at_path o (object_path (delta_name at)) ≡ Some may.delta
  delta_stands = let found = object_at-some o (delta_name at) may.delta may.delta_at in found.1

  needed_from : (q : List ℕ) → IsNeeded n q → IsNeeded o q ⊎ IsSome (at_path o q)
  needed_from q (inl delta) = ⊎_elim
      (λ (here : (nat_eq delta.0 at ≡ true) × (delta.0 ≡ at)).
      let path : q ≡ object_path (delta_name at) = delta.2 ∙ ap (λ (a : ℕ). object_path (delta_name a)) here.1 in
      inr (is_some_same _ _ (ap (at_path o) path ∙ delta_stands) refl))
      (λ (there : (nat_eq delta.0 at ≡ false) × (delta.0 ≢ at)). inl (inl (delta.0, completed_from delta.0 there.1 delta.1, delta.2)))
      (eqb_tells delta.0 at)
  needed_from q (inr (inl log)) = ⊎_elim
      (λ (here : (nat_eq log.at at ≡ true) × (log.at ≡ at)).
      let said : option_and_then delta_meta_of (object_at o (delta_name log.at)) ≡ Some log.logs = ap (λ (b : Option (List ℕ)). option_and_then delta_meta_of b) (sym (delta_same log.at)) ∙ log.delta in
      let known : option_and_then delta_meta_of (object_at o (delta_name log.at)) ≡ Some may.logs = ap (λ (a : ℕ). option_and_then delta_meta_of (object_at o (delta_name a))) here.1 ∙ ap (λ (b : Option (List ℕ)). option_and_then delta_meta_of b) may.delta_at ∙ may.delta_reads in
      let same : log.logs ≡ may.logs = ap (λ (x : Option (List (List ℕ))). unwrap_or x log.logs) (sym said ∙ known) in
      inr (All-contains (λ path. IsSome (at_path o path)) may.logs q may.stand (subst (λ (logs : List (List ℕ)). Contains logs q) same log.among)))
      (λ (there : (nat_eq log.at at ≡ false) × (log.at ≢ at)). inl (inr (inl (record {
        at = log.at;
        completed = completed_from log.at there.1 log.completed;
        logs = log.logs;
        delta = ap (λ (b : Option (List ℕ)). option_and_then delta_meta_of b) (sym (delta_same log.at)) ∙ log.delta;
        among = log.among;
        part = log.part;
        shard = log.shard;
        is_name = log.is_name;
        is_log = log.is_log;
        available = available_from o n config_same bases_same log.part log.available;
      }))))
      (eqb_tells log.at at)
  needed_from q (inr (inr base)) = inl (inr (inr (record {
    meta = base.meta;
    named = sym (named_bases-same o n config_same bases_same) ∙ base.named;
    among = base.among;
    part = base.part;
    is_base = base.is_base;
    available = available_from o n config_same bases_same base.part base.available;
  })))

  reads_at : (q b : List ℕ) → IsObjectAt o q b → IsObjectAt n q b
  reads_at q b is = record { name = is.name; is_name = is.is_name; path_is = is.path_is; reads = reads_same o n config_same bases_same is.name b is.reads }

  stands_in : (q : List ℕ) → q ≢ object_path (commit_name at) → IsSome (at_path o q) → IsSome (at_path n q)
  stands_in q other h = is_some_same _ _ (differ q other) h

  sound_other : (q : List ℕ) → q ≢ object_path (commit_name at) → IsSound o q → IsSound n q
  sound_other q other sound = record {
    object = λ b hidden is. reads_at q b (sound.object b hidden (sym (differ q other) ∙ is));
    present = λ needed. stands_in q other (⊎_elim sound.present (λ (h : IsSome (at_path o q)). h) (needed_from q needed));
  }

  same_bytes : (b : List ℕ) → at_path n (object_path (commit_name at)) ≡ Some b → bytes ≡ b
  same_bytes b is = ap (λ (x : Option (List ℕ)). unwrap_or x b) (sym stands ∙ is)

  sound_here : IsSound n (object_path (commit_name at))
  sound_here = record {
    object = λ b hidden is. record {
      name = commit_name at;
      is_name = may.is_name;
      path_is = refl;
      reads = (may.meta, ap commit_meta_of (sym (same_bytes b is)) ∙ may.reads, may.names);
    };
    present = λ needed. is_some_same _ _ stands refl;
  }

  pub completion_opens : IsOpenable o → IsOpenable n
  completion_opens opens = record {
    config = is_some_same _ _ config_same opens.config;
    sound = λ q. ⊎_elim
        (λ (same : q ≡ object_path (commit_name at)). subst (IsSound n) (sym same) sound_here)
        (λ (other : q ≢ object_path (commit_name at)). sound_other q other (opens.sound q))
        (cases_path q (object_path (commit_name at)));
  }

  abbrev action : Action
  action = record { at = at; meta = may.meta }

  counts : action_at n at ≡ Some action
  counts = action_at-some n at bytes may.meta (object_at-is n (commit_name at) may.is_name ∙ stands) may.reads

  none_before : object_at o (commit_name at) ≡ None
  none_before = object_at-none o (commit_name at) may.absent

  base_same : base_entries n ≡ base_entries o
  base_same = base_entries-same o n (name_same first_base (λ same. absurd (cc same)))

  logged_same : (p : ℕ) → logged_entries n (actions_upto o p) ≡ logged_entries o (actions_upto o p)
  logged_same p = logged_entries-same o n (λ a done. log_same a) p

  -- the slice of the commits before is the same
  early_slice : (p : ℕ) → base_entries n ++ logged_entries n (actions_upto o p) ≡ slice_at o p
  early_slice p = ap (λ (es : List Entry). es ++ logged_entries n (actions_upto o p)) base_same ∙ ap (λ (es : List Entry). base_entries o ++ es) (logged_same p)

  -- the slice with the commit has its log behind
  late_slice : (p : ℕ) → actions_upto n p ≡ actions_upto o p ++ action ∷ [] → slice_at n p ≡ slice_at o p ++ entries_at o at
  late_slice p grown =
      ap (λ (done : List Action). base_entries n ++ logged_entries n done) grown
      ∙ ap (λ (es : List Entry). base_entries n ++ es) (flat_map-append (λ (a : Action). entries_at n a.at) (actions_upto o p) (action ∷ []))
      ∙ sym (append_assoc (base_entries n) (logged_entries n (actions_upto o p)) (logged_entries n (action ∷ [])))
      ∙ ap (λ (es : List Entry). es ++ logged_entries n (action ∷ [])) (early_slice p)
      ∙ ap (λ (es : List Entry). slice_at o p ++ es) (append-nil (entries_at n at) ∙ entries_at-same o n at (log_same at))

  -- the files with the commit's are those that its object lists behind the others
  late_files : (p : ℕ) → actions_upto n p ≡ actions_upto o p ++ action ∷ [] → files_map (listed_files (actions_upto n p)) ≡ fold with_file (files_map (listed_files (actions_upto o p))) (files_of action)
  late_files p grown =
      ap (λ (done : List Action). files_map (listed_files done)) grown
      ∙ ap (λ (fs : List FileAt). files_map fs) (flat_map-append files_of (actions_upto o p) (action ∷ []) ∙ ap (λ (fs : List FileAt). listed_files (actions_upto o p) ++ fs) (append-nil (files_of action)))
      ∙ fold-append with_file finmap.empty (listed_files (actions_upto o p)) (files_of action)

  pub completion_shows : IsValidTable o → (p : ℕ) (key : List ℕ) → shown_on key (slice_at n p) ≡ expected_on key (files_map (listed_files (actions_upto n p)))
  completion_shows valid p key = ⊎_elim (λ (before : p < at). early before) (λ (within : at ≤ p). late (upto_from o n at commit_same none_before may.newest action counts p within)) (cases_lt p at)
    where
      early : p < at → shown_on key (slice_at n p) ≡ expected_on key (files_map (listed_files (actions_upto n p)))
      early before =
          let same = upto_before o n at commit_same none_before may.newest action counts p before in
          ap (λ (done : List Action). shown_on key (base_entries n ++ logged_entries n done)) same
          ∙ ap (shown_on key) (early_slice p)
          ∙ valid.shows p key
          ∙ ap (λ (done : List Action). expected_on key (files_map (listed_files done))) (sym same)

      late : actions_upto n p ≡ actions_upto o p ++ action ∷ [] → shown_on key (slice_at n p) ≡ expected_on key (files_map (listed_files (actions_upto n p)))
      late grown =
          ap (shown_on key) (late_slice p grown)
          ∙ shown_on-append key (slice_at o p) (entries_at o at)
          ∙ ap (λ (x : Option Payload). shown (option_to_list x ++ payloads_on_key key (entries_at o at))) (valid.shows p key)
          ∙ may.logged (files_map (listed_files (actions_upto o p))) key
          ∙ ap (expected_on key) (sym (late_files p grown))

  -- what is listed now was listed before, or is a file that the object lists
  listed_from : (q : List ℕ) → Lists n q → Lists o q ⊎ HoldsRows o q
  listed_from q lists = ⊎_elim
      (λ (before : lists.upto < at). inl (lists_same o n q lists (upto_before o n at commit_same none_before may.newest action counts lists.upto before)))
      (λ (within : at ≤ lists.upto). late (upto_from o n at commit_same none_before may.newest action counts lists.upto within))
      (cases_lt lists.upto at)
    where
      late : actions_upto n lists.upto ≡ actions_upto o lists.upto ++ action ∷ [] → Lists o q ⊎ HoldsRows o q
      late grown =
          let files : listed_files (actions_upto n lists.upto) ≡ listed_files (actions_upto o lists.upto) ++ files_of action =
          ap listed_files grown ∙ flat_map-append files_of (actions_upto o lists.upto) (action ∷ []) ∙ ap (λ (fs : List FileAt). listed_files (actions_upto o lists.upto) ++ fs) (append-nil (files_of action)) in
          ⊎_elim
          (λ (older : Contains (listed_files (actions_upto o lists.upto)) lists.file). inl (record { upto = lists.upto; file = lists.file; among = older; path_is = lists.path_is }))
          (λ (newer : Contains (files_of action) lists.file). inr (subst (HoldsRows o) (sym lists.path_is) (All-contains (λ (file : FileAt). HoldsRows o (place_of file)) (files_of action) lists.file may.held newer)))
          (Contains-append_cases (listed_files (actions_upto o lists.upto)) (files_of action) lists.file (subst (λ (fs : List FileAt). Contains fs lists.file) files lists.among))

  completion_holds : IsValidTable o → (q : List ℕ) → Lists n q → HoldsRows n q
  completion_holds valid q lists = holds_same o n q config_same
      (differ q (λ same. absurd (cc (sym (lists_outside n q lists) ∙ ap is_hidden same ∙ hidden_object (commit_name at)))))
      (⊎_elim (valid.holds q) (λ (h : HoldsRows o q). h) (listed_from q lists))

  pub completion_keeps : IsValidTable o → IsValidTable n
  completion_keeps valid = record { opens = completion_opens valid.opens; shows = completion_shows valid; holds = completion_holds valid }
