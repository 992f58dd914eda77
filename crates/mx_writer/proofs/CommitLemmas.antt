-- The changes of a commit may be made in turn.
use Rattle.std.proofs.Common.{◌≡◌, inl, inr, ℕ, ◌+◌, ◌^◌, ◌≤◌, ◌<◌, arith, List, [], ◌∷◌, ◌++◌, Option, Some, None, IsSome, refl, sym, ◌∙◌, ap, subst}
use Rattle.std.specs.Prelude.{All, Contains, IfSome, get_or, max, unwrap_or, codes, option_and_then, option_to_list}
use Rattle.std.specs.FinMap as finmap
use Rattle.std.proofs.lemmas.List.Elements.{All-cons, All-nil, All-append, All-weaker, All-contains, All-contains_itself, All-map}
use Rattle.std.proofs.lemmas.List.{append_assoc}
use Rattle.serde_json.specs.Written.{compact_text}
use Rattle.mx_commit.specs.Written.{IsNamedFile}
use Rattle.mx_commit.specs.declared.new_file.NewFile.{NewFile}
use Rattle.mx_base.specs.Objects.{IsObjectName, object_path}
use Rattle.mx_base.specs.Paths.{data_path}
use Rattle.mx_base.specs.declared.object_name.ActionKind.TheVariants as action
use Rattle.mx_base.specs.declared.object_name.ActionState.TheVariants.{Requested}
use Rattle.mx_base.specs.declared.object_name.ObjectName.TheVariants.{Config, Timeline}
use Rattle.mx_store.specs.declared.change.Change.{Change}
use Rattle.mx_store.specs.declared.change.Change.TheVariants.{Create}
use Rattle.mx_store.specs.Journal.{AreAllowed}
use Rattle.mx_store.specs.Objects.{Objects, at_path, after_all, objects_of}
use Rattle.mx_store.proofs.Journal.{objects_of-push}
use Rattle.mx_store.proofs.Paths.{at_same, at_other}
use Rattle.mx_meta.specs.CommitText.{commit_meta_data}
use Rattle.mx_meta.specs.ShardFiles.{delta_meta_data}
use Rattle.mx_base.specs.declared.entry.Entry.{Entry}
use Rattle.mx_base.specs.declared.entry.FileAt.{FileAt}
use Rattle.mx_files.specs.Delta.{IsDelta, delta_on}
use Rattle.mx_files.specs.Files.{expected_on}
use Rattle.mx_files.proofs.DeltaLemmas.{shows_after}
use Rattle.mx_merge.specs.Shown.{shown}
use Rattle.mx_merge.specs.Merged.{payloads_on_key}
use Rattle.mx_payload.specs.declared.payload.Payload.{Payload}
use Rattle.mx_meta.specs.declared.commit_meta.CommitMeta.{CommitMeta}
use Rattle.mx_meta.specs.declared.commit_meta.PartitionStats.{PartitionStats}
use Rattle.mx_meta.specs.declared.commit_meta.WriteStat.{WriteStat}
use Rattle.mx_folder.specs.Named.{commit_name, delta_name, log_name}
use Rattle.mx_folder.specs.Pending.{requested_name, inflight_name, delta_mark}
use Rattle.mx_folder.specs.Actions.{IsCompleted}
use Rattle.mx_folder.specs.Slices.{log_of, entries_at}
use Rattle.mx_folder.specs.Files.{HoldsRows, IsSchemaOf, place_of}
use Rattle.mx_folder.specs.Folder.{IsValidTable}
use Rattle.mx_folder.specs.Reading.{NamesItsFiles}
use Rattle.mx_folder.specs.Steps.{MayComplete}
use Rattle.mx_folder.proofs.BeginLemmas.{empty_object}
use Rattle.mx_folder.proofs.CompletionLemmas.{completion_keeps}
use Rattle.mx_folder.proofs.NamedLemmas.{object_at-is, object_at-same, object_at-stands, other_path, none_from, after_all-append}
use Rattle.mx_model.specs.Listing.{files_of}
use Rattle.mx_schema.specs.declared.column.Column.{Column}
use Rattle.mx_world.specs.declared.mirror.Mirror.{Mirror}
use Rattle.mx_world.specs.Instants.{AreUpto, IsDrawnBy}
use Rattle.mx_world.specs.Mirror.{IsPlain}
use Rattle.mx_world.specs.State.{MayChange, Stands}
use Rattle.mx_world.specs.Turns.{MayChangeInTurn, MayMakeInTurn}
use Rattle.mx_commit.specs.declared.written.Written.{Written}
use Rattle.mx_commit.specs.Written.{data_file, new_group, AreWritten, AreApartFiles, IsMetaOf}
use Rattle.mx_commit.specs.Made.{IsFileOf}
use Rattle.mx_commit.specs.Changes.{files_planned, file_added, files_added, logs_written, data_changes, file_changes, added_changes, log_changes, early_changes, completion, commit_changes, ReadsBack, IsPlanOf}
use Rattle.mx_folder.proofs.FoldLemmas.{among}
use Rattle.mx_commit.proofs.ListingLemmas.{contains, back, logged_listed}
use Rattle.mx_world.proofs.DrawnLemmas.{named_instant}
use Rattle.mx_writer.proofs.EarlyLemmas.{AreApart, absent_above, AreEarly, early_instant, may_all_early, all_completed_after, drawn_rises, AreDistinct, all_absent, allowed_absent, kept, Creates, creates_front, created_stands}
use Rattle.mx_writer.proofs.ChangeLemmas.{same_max, both_early, both_apart, both_distinct, each_early_plain, early_apart, creates_data, named, delta_named, planned_all, data_early, object_apart, data_distinct, added_early, logs_all, logs_apart, log_changes_distinct, data_logs, log_after, delta_after, logs_after, paths_written}

module _ (files : List NewFile) (t : ℕ) (names : All IsNamedFile files) (apart : AreApartFiles new_group files) (meant : 0 < t) (small : t < 10 ^ 17) (written : List Written) (entries : AreWritten files t written) (es : List Entry) (is_log : IsDelta (files_added files t) [] es) (meta : CommitMeta) (is_meta : IsMetaOf written meta) (reads : ReadsBack files t es meta) where
  abbrev delta_text : List ℕ
  delta_text = compact_text (delta_meta_data (logs_written files t))

  abbrev is_named : IsObjectName (commit_name t)
  is_named = named t meant small

  abbrev is_delta : IsObjectName (delta_name t)
  is_delta = delta_named t meant small

  early : AreEarly t (early_changes files t es)
  early = (
    inl (requested_name t, is_named, refl, refl, λ o. empty_object),
    (
      inl (inflight_name t, is_named, refl, refl, λ o. (files_planned files t, reads.planned, planned_all t meant small files names)),
      both_early t (data_changes files t) (log_changes files t es) (data_early t meant small files names) (
        inl (delta_mark t, is_delta, refl, refl, λ o. empty_object),
        both_early t (added_changes files t es) (Create (object_path (delta_name t)) delta_text ∷ []) (added_early t meant small files es reads.added reads.payloads)
            (inl (delta_name t, is_delta, refl, refl, λ o. (logs_written files t, reads.logs, logs_all t meant small files)), tt),
      ),
    ),
  )

  distinct : AreDistinct (early_changes files t es)
  distinct = (
    (
      other_path (inflight_name t) (requested_name t) is_named is_named (λ same. absurd (cc same)),
      both_apart (object_path (requested_name t)) (data_changes files t) (log_changes files t es) (object_apart t meant small (requested_name t) files names)
          (logs_apart t meant small (object_path (requested_name t)) files es (other_path (delta_mark t) (requested_name t) is_delta is_named (λ same. absurd (cc same)))
          (other_path (log_name t) (requested_name t) is_named is_named (λ same. absurd (cc same))) (other_path (delta_name t) (requested_name t) is_delta is_named (λ same. absurd (cc same)))),
    ),
    (
      both_apart (object_path (inflight_name t)) (data_changes files t) (log_changes files t es) (object_apart t meant small (inflight_name t) files names)
          (logs_apart t meant small (object_path (inflight_name t)) files es (other_path (delta_mark t) (inflight_name t) is_delta is_named (λ same. absurd (cc same)))
          (other_path (log_name t) (inflight_name t) is_named is_named (λ same. absurd (cc same))) (other_path (delta_name t) (inflight_name t) is_delta is_named (λ same. absurd (cc same)))),
      both_distinct (data_changes files t) (log_changes files t es) (data_distinct t meant small files names apart) (log_changes_distinct t meant small files es) (data_logs t meant small files es files names),
    ),
  )

  -- what is made before the log
  abbrev front : List Change
  front = file_changes files t ++ Create (object_path (delta_mark t)) (codes "{}") ∷ []

  abbrev behind : List Change
  behind = added_changes files t es ++ Create (object_path (delta_name t)) delta_text ∷ []

  splits : front ++ behind ≡ early_changes files t es
  splits = append_assoc (file_changes files t) (Create (object_path (delta_mark t)) (codes "{}") ∷ []) behind

  log_apart : AreApart (object_path (log_name t)) front
  log_apart = (
    other_path (requested_name t) (log_name t) is_named is_named (λ same. absurd (cc same)),
    (
      other_path (inflight_name t) (log_name t) is_named is_named (λ same. absurd (cc same)),
      both_apart (object_path (log_name t)) (data_changes files t) (Create (object_path (delta_mark t)) (codes "{}") ∷ []) (object_apart t meant small (log_name t) files names)
          (other_path (delta_mark t) (log_name t) is_delta is_named (λ same. absurd (cc same)), tt),
    ),
  )

  names_files : NamesItsFiles t meta
  names_files =
      All-weaker (Contains meta.partitions) (λ (p : PartitionStats). All (λ (s : WriteStat). s.path ≡ data_path p.partition s.file_id t) p.stats)
      (λ p has. All-weaker (Contains p.stats) (λ (s : WriteStat). s.path ≡ data_path p.partition s.file_id t)
      (λ s in_p. All-contains (λ (w : Written). w.stat.path ≡ data_path w.partition w.stat.file_id t) written (record { partition = p.partition; stat = s }) (paths_written t meant small files written entries)
      (is_meta.only (record { partition = p.partition; stat = s }) (p, has, refl, in_p)))
      p.stats (All-contains_itself p.stats))
      meta.partitions (All-contains_itself meta.partitions)

  -- ---- over a journal in whose folder no name has so great an instant

  module _ (journal : List Change) (last : ℕ) (upto : AreUpto last (objects_of journal)) (above : last < t) where
    not_above : (at : ℕ) → IsCompleted (objects_of journal) at → at ≤ last
    not_above at done = let stands = object_at-stands (objects_of journal) (commit_name at) done in upto (object_path (commit_name at)) at stands.1 (inl (commit_name at, stands.0, refl, refl))

    pending : ¬ (IsCompleted (objects_of journal) t)
    pending done = omega (arith, above, not_above t done)

    allowed : AreAllowed (objects_of journal) (early_changes files t es)
    allowed = allowed_absent (objects_of journal) (early_changes files t es) distinct (all_absent (objects_of journal) last t (early_changes files t es) upto above early)

    abbrev before_it : Objects
    before_it = objects_of (journal ++ early_changes files t es)

    abbrev before_log : Objects
    before_log = after_all (objects_of journal) front

    here : before_it ≡ after_all before_log behind
    here = after_all-append finmap.empty journal (early_changes files t es) ∙ ap (after_all (objects_of journal)) (sym splits) ∙ after_all-append (objects_of journal) front behind

    no_log : at_path before_log (object_path (log_name t)) ≡ None
    no_log = kept (objects_of journal) (object_path (log_name t)) front log_apart ∙ absent_above (objects_of journal) last t (object_path (log_name t)) upto (inl (log_name t, is_named, refl, refl)) above

    completed_before : (at : ℕ) → IsCompleted before_it at → IsCompleted (objects_of journal) at
    completed_before at done = all_completed_after journal t (early_changes files t es) early pending at done

    added : (key : List ℕ) → payloads_on_key key (entries_at before_it t) ≡ option_to_list (delta_on key (files_added files t) [])
    unfolding entries_at
    added key =
        ap (λ (x : Option (List ℕ)). payloads_on_key key (unwrap_or (option_and_then (log_of t) x) [])) (object_at-is before_it (log_name t) is_named ∙ ap (λ (o : Objects). at_path o (object_path (log_name t))) here)
        ∙ log_after t meant small before_log files es delta_text no_log reads.added is_log key

    -- ---- the data files stand, and hold rows of the table's schema

    abbrev early_all : List Change
    early_all = early_changes files t es

    after_early : before_it ≡ after_all (objects_of journal) early_all
    after_early = after_all-append finmap.empty journal early_all

    data_stand : All (λ (file : NewFile). at_path before_it (data_file file t) ≡ Some file.bytes) files
    data_stand = All-weaker (λ (file : NewFile). Creates (data_file file t) file.bytes (data_changes files t)) (λ (file : NewFile). at_path before_it (data_file file t) ≡ Some file.bytes)
        (λ file creates. ap (λ (o : Objects). at_path o (data_file file t)) after_early
        ∙ created_stands (objects_of journal) (data_file file t) file.bytes early_all distinct (inr (inr (creates_front (data_file file t) file.bytes (data_changes files t) (log_changes files t es) creates))))
        files (creates_data t files)

    schema_then : (schema : List Column) → IsSchemaOf (objects_of journal) schema → IsSchemaOf before_it schema
    schema_then schema of_table = record {
      config = of_table.config;
      is_config = of_table.is_config;
      stands = object_at-same (objects_of journal) before_it Config (λ _. ap (λ (o : Objects). at_path o (object_path Config)) after_early ∙ kept (objects_of journal) (object_path Config) early_all (early_apart t early_all early)) ∙ of_table.stands;
      schema_is = of_table.schema_is;
    }

    data_held : (schema : List Column) → IsSchemaOf (objects_of journal) schema → All (IsFileOf schema) files → All (λ (file : NewFile). HoldsRows before_it (data_file file t)) files
    data_held schema of_table held = λ k d within.
        let rows = held k d within in
        record {
          schema = schema;
          of_table = schema_then schema of_table;
          bytes = (get_or files k d).bytes;
          stands = data_stand k d within;
          rows = rows.0;
          decodes = rows.1;
        }

    listed_held : (schema : List Column) → IsSchemaOf (objects_of journal) schema → All (IsFileOf schema) files → All (λ (file : FileAt). HoldsRows before_it (place_of file)) (files_of (record { at = t; meta = meta }))
    listed_held schema of_table held =
        let all : All (λ (file : FileAt). HoldsRows before_it (place_of file)) (files_added files t) = All-map (λ (file : FileAt). HoldsRows before_it (place_of file)) (file_added t) files (data_held schema of_table held) in
        All-weaker (Contains (files_of (record { at = t; meta = meta }))) (λ (file : FileAt). HoldsRows before_it (place_of file))
        (λ file is. All-contains (λ (f : FileAt). HoldsRows before_it (place_of f)) (files_added files t) file all
        (contains file (files_added files t) (back files t written meta apart entries is_meta file (among (files_of (record { at = t; meta = meta })) file is))))
        (files_of (record { at = t; meta = meta })) (All-contains_itself (files_of (record { at = t; meta = meta })))

    module _ (schema : List Column) (of_table : IsSchemaOf (objects_of journal) schema) (held : All (IsFileOf schema) files) where
      may_complete : MayComplete before_it t (compact_text (commit_meta_data meta))
      may_complete = record {
        is_name = is_named;
        absent = sym (object_at-is before_it (commit_name t) is_named) ∙ none_from _ (λ done. pending (completed_before t done));
        newest = λ other done. omega (arith, above, not_above other (completed_before other done));
        meta = meta;
        reads = reads.completes;
        names = names_files;
        delta = delta_text;
        delta_at = object_at-is before_it (delta_name t) is_delta ∙ ap (λ (o : Objects). at_path o (object_path (delta_name t))) here ∙ delta_after t meant small before_log files es delta_text;
        logs = logs_written files t;
        delta_reads = reads.logs;
        stand = subst (λ (o : Objects). All (λ (path : List ℕ). IsSome (at_path o path)) (logs_written files t)) (sym here) (logs_after t meant small before_log files es delta_text);
        logged = λ m key.
            ap (λ (ps : List Payload). shown (option_to_list (expected_on key m) ++ ps)) (added key)
            ∙ shows_after m (files_added files t) [] (All-nil _) key
            ∙ ap (expected_on key) (logged_listed files t written meta apart entries is_meta m);
        held = listed_held schema of_table held;
      }

      completes : (after : ℕ) → t ≤ after → MayChange (journal ++ early_changes files t es) after (completion t meta)
      completes after later = record {
        allowed = may_complete.absent;
        instants = λ at of. subst (λ (x : Option ℕ). unwrap_or x 0 ≤ after) (named_instant (object_path (commit_name t)) (commit_name t) is_named refl at of) later;
        keeps = λ valid. subst IsValidTable (sym (objects_of-push (journal ++ early_changes files t es) (completion t meta)))
            (completion_keeps before_it (finmap.insert before_it (object_path (commit_name t)) (compact_text (commit_meta_data meta))) t _ may_complete
            (at_same before_it (object_path (commit_name t)) _) (λ other differ. at_other before_it (object_path (commit_name t)) _ other differ) valid);
      }

      from_there : MayChangeInTurn journal t (commit_changes files t es meta)
      from_there = may_all_early journal t t (early_changes files t es) (completion t meta ∷ []) early allowed pending (omega arith)
          (λ after later then drawn. (completes then (omega (arith, later, drawn_rises (object_path (commit_name t)) after then drawn)), tt))

      may_commit : t ≡ last + 1 → MayChangeInTurn journal last (commit_changes files t es meta)
      may_commit next = λ after drawn. from_there after (again after drawn)
        where
          again : (after : ℕ) → IsDrawnBy (object_path (requested_name t)) last after → IsDrawnBy (object_path (requested_name t)) t after
          again after drawn = record {
            drawn = λ at requests.
                let is : at ≡ t = early_instant t (object_path (requested_name t)) (codes "{}") early.0 at (inl (Timeline at requests.0 Requested, requests.1, requests.2, refl)) in
                drawn.drawn t (action.Commit, is_named, refl) ∙ same_max last t next ∙ ap (max t) (sym is);
            kept = λ never. absurd (never t (action.Commit, is_named, refl));
          }

  may_commit_told : (schema : List Column) → All (IsFileOf schema) files → (opening journal : Option (List Change)) (m : Mirror) (last applied : ℕ) (doubt : Option Change) → Stands opening journal m last applied doubt
      → IfSome journal (λ (j : List Change). IsSchemaOf (objects_of j) schema) → t ≡ last + 1 → MayMakeInTurn journal doubt last (commit_changes files t es meta)
  may_commit_told schema held opening None m last applied doubt stands of_table next = tt
  may_commit_told schema held opening (Some journal) m last applied (Some change) stands of_table next = tt
  may_commit_told schema held None (Some journal) m last applied None stands of_table next = absurd (cc stands)
  may_commit_told schema held (Some opening) (Some journal) m last applied None stands of_table next = may_commit journal last stands.instants (omega (arith, next)) schema of_table held next

  commit_plain : All IsPlain (commit_changes files t es meta)
  commit_plain = All-append IsPlain (early_changes files t es) (completion t meta ∷ []) (each_early_plain t (early_changes files t es) early)
      (All-cons IsPlain (completion t meta) [] (other_path (commit_name t) Config is_named refl (λ same. absurd (cc same))) (All-nil IsPlain))

-- ---- a plan of them

module _ (files : List NewFile) (t : ℕ) (written : List Written) (changes : List Change) (names : All IsNamedFile files) (apart : AreApartFiles new_group files) (meant : 0 < t) (small : t < 10 ^ 17) (entries : AreWritten files t written) (plan : IsPlanOf files written t changes) where
  pub planned_plain : All IsPlain changes
  planned_plain = subst (All IsPlain) (sym plan.are) (commit_plain files t names apart meant small written entries plan.entries plan.is_delta plan.meta plan.is_meta plan.reads)

  pub planned_may : (schema : List Column) → All (IsFileOf schema) files → (opening journal : Option (List Change)) (m : Mirror) (last applied : ℕ) (doubt : Option Change) → Stands opening journal m last applied doubt
      → IfSome journal (λ (j : List Change). IsSchemaOf (objects_of j) schema) → t ≡ last + 1 → MayMakeInTurn journal doubt last changes
  planned_may schema held opening journal m last applied doubt stands of_table next =
      subst (λ (cs : List Change). MayMakeInTurn journal doubt last cs) (sym plan.are)
      (may_commit_told files t names apart meant small written entries plan.entries plan.is_delta plan.meta plan.is_meta plan.reads schema held opening journal m last applied doubt stands of_table next)
