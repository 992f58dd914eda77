-- A new table.
use Rattle.std.proofs.Common.{◌≡◌, ◌≢◌, ◌⊎◌, inl, inr, ⊎_elim, ℕ, zero, suc, ◌<◌, arith, get_or, List, [], ◌∷◌, ◌++◌, Option, Some, None, IsSome, refl, sym, ◌∙◌, ap, subst, codes}
use Rattle.std.specs.Prelude.{option_and_then, Contains, unwrap_or, Ok, length, ◌≤◌}
use Rattle.std.specs.Option.{option_to_list}
use Rattle.std.specs.FinMap as finmap
use Rattle.std.specs.Str.{is_utf8, chars}
use Rattle.std.proofs.lemmas.List.Elements.{All-from_recursion}
use Rattle.serde_json.proofs.OnLiterals.{serde_json_on_literals}
use Rattle.serde_json.specs.Written.{compact_text}
use Rattle.mx_base.specs.Digits.{instant_text}
use Rattle.mx_base.specs.Names.{is_path, is_segment}
use Rattle.mx_base.specs.Objects.{IsObjectName, object_path}
use Rattle.mx_base.specs.Paths.{instant_of}
use Rattle.mx_base.specs.declared.object_name.BaseKind.TheVariants as base
use Rattle.mx_base.specs.declared.object_name.ObjectName.{ObjectName}
use Rattle.mx_base.specs.declared.object_name.ObjectName.TheVariants.{Config}
use Rattle.mx_base.specs.declared.part.Part.TheVariants.{Files}
use Rattle.mx_meta.specs.Fields.{object_of}
use Rattle.mx_meta.specs.Json.{json_of, paths_in, paths_data, instant_in}
use Rattle.mx_meta.specs.Places.{stands_in_order, shard_object}
use Rattle.mx_meta.specs.ShardFiles.{base_meta_data, base_meta_in, base_meta_of, shard_files_in}
use Rattle.mx_meta.specs.Views.{Bases}
use Rattle.mx_model.specs.declared.action.Action.{Action}
use Rattle.mx_model.specs.Listing.{listed_files}
use Rattle.mx_files.specs.Files.{files_map, expected_on}
use Rattle.mx_files.proofs.DeltaLemmas.{expected-nothing}
use Rattle.mx_base.specs.declared.entry.Entry.{Entry}
use Rattle.mx_hfile.specs.Encoding.{encoding, blocks_of, number, data_magic, index_magic, trailer_magic}
use Rattle.mx_hfile.specs.Decoding.{file_in}
use Rattle.mx_hfile.proofs.FileLemmas.{file_again}
use Rattle.mx_merge.specs.Merged.{shown_on, payloads_on_key}
use Rattle.mx_merge.specs.Shown.{shown}
use Rattle.mx_props.specs.Config.{IsConfig, config_text}
use Rattle.mx_schema.specs.Columns.{IsSchema}
use Rattle.mx_schema.specs.declared.column.Column.{Column}
use Rattle.mx_store.specs.Objects.{Objects, at_path}
use Rattle.mx_store.proofs.Paths.{at_nothing, at_same, at_other, cases_path}
use Rattle.mx_folder.specs.Named.{object_at, commit_name, first_base, first_bases}
use Rattle.mx_folder.specs.Actions.{IsCompleted, action_at, actions_upto}
use Rattle.mx_folder.specs.Slices.{base_of, base_entries, logged_entries}
use Rattle.mx_folder.specs.Begin.{first_mark, first_meta, first_config}
use Rattle.mx_folder.specs.Reading.{IsEmptyObject, HasBase, named_bases, Reads, ReadsAsBase}
use Rattle.mx_folder.specs.Files.{Lists}
use Rattle.mx_folder.specs.Folder.{IsObjectAt, IsNeeded, IsOpenable, IsValidTable}
use Rattle.mx_folder.proofs.ListedLemmas.{listed_completed}
use Rattle.mx_folder.proofs.NamedLemmas.{object_at-is, object_at-stands, is_some_same, some_value, other_path}
use Rattle.mx_folder.proofs.ActionLemmas.{action_at-none}
use Rattle.mx_folder.proofs.SliceLemmas.{base_of-read}

pub empty_object : IsEmptyObject (codes "{}")
unfolding object_of json_of serde_json_on_literals is_utf8 chars
empty_object = refl

pub first_meta_reads : base_meta_of (compact_text (base_meta_data first_meta)) ≡ Some first_meta
unfolding base_meta_of base_meta_in object_of json_of base_meta_data serde_json_on_literals object_path instant_text instant_in instant_of paths_in paths_data shard_files_in stands_in_order shard_object is_utf8 chars is_path is_segment
first_meta_reads = refl

pub empty_length : length (encoding []) ≤ 268_435_456
unfolding encoding blocks_of number data_magic index_magic trailer_magic
empty_length = omega arith

empty_file : file_in (encoding []) ≡ Ok []
empty_file = file_again [] (record { rising = tt; each = tt }) empty_length

pub empty_base : base_of (encoding []) ≡ Some []
empty_base = base_of-read (encoding []) [] empty_file

pub empty_base_reads : ReadsAsBase (encoding [])
empty_base_reads = ([], empty_base, tt)

nothing_shown : (key : List ℕ) → shown_on key [] ≡ None
unfolding shown_on payloads_on_key shown
nothing_shown key = refl

-- an element of a list of one
only_one : {X : Type 0} (x y : X) → Contains (x ∷ []) y → y ≡ x
only_one {X} x y among = by_index among.0 among.1 among.2
  where
    by_index : (k : ℕ) → k < 1 → get_or (x ∷ []) k y ≡ y → y ≡ x
    by_index zero within found = sym found
    by_index (suc k) within found = absurd (omega (arith, within))

one_value : {A : Type 0} (x y : A) → ◌≡◌ {A = Option A} (Some x) (Some y) → x ≡ y
one_value x y same = ap (λ o. unwrap_or o x) same

-- what stands after a create stood before, or is what was made
after_create : (o : Objects) (p b q x : List ℕ) → at_path (finmap.insert o p b) q ≡ Some x → ((q ≡ p) × (x ≡ b)) ⊎ (at_path o q ≡ Some x)
after_create o p b q x stands = ⊎_elim
    (λ (same : q ≡ p). inl (same, one_value x b (sym stands ∙ ap (λ (r : List ℕ). at_path (finmap.insert o p b) r) same ∙ at_same o p b)))
    (λ (other : q ≢ p). inr (sym (at_other o p b q other) ∙ stands))
    (cases_path q p)

module _ (schema : List Column) where
  abbrev mark_objects : Objects
  mark_objects = finmap.insert finmap.empty (object_path first_mark) (codes "{}")

  abbrev base_objects : Objects
  base_objects = finmap.insert mark_objects (object_path first_base) (encoding [])

  abbrev meta_text : List ℕ
  meta_text = compact_text (base_meta_data first_meta)

  abbrev bases_objects : Objects
  bases_objects = finmap.insert base_objects (object_path first_bases) meta_text

  abbrev o : Objects
  o = finmap.insert bases_objects (object_path Config) (config_text (first_config schema))

  made : (q x : List ℕ) → at_path o q ≡ Some x →
      ((q ≡ object_path Config) × (x ≡ config_text (first_config schema)))
      ⊎ (((q ≡ object_path first_bases) × (x ≡ meta_text))
      ⊎ (((q ≡ object_path first_base) × (x ≡ encoding [])) ⊎ ((q ≡ object_path first_mark) × (x ≡ codes "{}"))))
  made q x stands = fourth (after_create bases_objects (object_path Config) (config_text (first_config schema)) q x stands)
    where
      first : (at_path mark_objects q ≡ Some x) → (q ≡ object_path first_mark) × (x ≡ codes "{}")
      first stands = ⊎_elim
          (λ (here : (q ≡ object_path first_mark) × (x ≡ codes "{}")). here)
          (λ (none : at_path finmap.empty q ≡ Some x). absurd (cc (sym (at_nothing q) ∙ none)))
          (after_create finmap.empty (object_path first_mark) (codes "{}") q x stands)

      second : (at_path base_objects q ≡ Some x) → ((q ≡ object_path first_base) × (x ≡ encoding [])) ⊎ ((q ≡ object_path first_mark) × (x ≡ codes "{}"))
      second stands = ⊎_elim
          (λ (here : (q ≡ object_path first_base) × (x ≡ encoding [])). inl here)
          (λ (there : at_path mark_objects q ≡ Some x). inr (first there))
          (after_create mark_objects (object_path first_base) (encoding []) q x stands)

      third : (at_path bases_objects q ≡ Some x) → ((q ≡ object_path first_bases) × (x ≡ meta_text)) ⊎ (((q ≡ object_path first_base) × (x ≡ encoding [])) ⊎ ((q ≡ object_path first_mark) × (x ≡ codes "{}")))
      third stands = ⊎_elim
          (λ (here : (q ≡ object_path first_bases) × (x ≡ meta_text)). inl here)
          (λ (there : at_path base_objects q ≡ Some x). inr (second there))
          (after_create base_objects (object_path first_bases) meta_text q x stands)

      fourth : ((q ≡ object_path Config) × (x ≡ config_text (first_config schema))) ⊎ (at_path bases_objects q ≡ Some x) →
          ((q ≡ object_path Config) × (x ≡ config_text (first_config schema)))
          ⊎ (((q ≡ object_path first_bases) × (x ≡ meta_text)) ⊎ (((q ≡ object_path first_base) × (x ≡ encoding [])) ⊎ ((q ≡ object_path first_mark) × (x ≡ codes "{}"))))
      fourth (inl here) = inl here
      fourth (inr there) = inr (third there)

  config_stands : at_path o (object_path Config) ≡ Some (config_text (first_config schema))
  config_stands = at_same bases_objects (object_path Config) (config_text (first_config schema))

  bases_stand : at_path o (object_path first_bases) ≡ Some meta_text
  bases_stand =
      at_other bases_objects (object_path Config) (config_text (first_config schema)) (object_path first_bases) (other_path first_bases Config refl refl (λ same. absurd (cc same)))
      ∙ at_same base_objects (object_path first_bases) meta_text

  base_stands : at_path o (object_path first_base) ≡ Some (encoding [])
  base_stands =
      at_other bases_objects (object_path Config) (config_text (first_config schema)) (object_path first_base) (other_path first_base Config refl refl (λ same. absurd (cc same)))
      ∙ at_other base_objects (object_path first_bases) meta_text (object_path first_base) (other_path first_base first_bases refl refl (λ same. absurd (cc same)))
      ∙ at_same mark_objects (object_path first_base) (encoding [])

  -- ---- no commit is completed

  pub none_completed : (at : ℕ) → IsCompleted o at → ⊥
  none_completed at done =
      let named = object_at-stands o (commit_name at) done in
      let found = some_value (at_path o (object_path (commit_name at))) named.1 in
      from named.0 (made (object_path (commit_name at)) found.0 found.1)
    where
      apart : IsObjectName (commit_name at) → (name : ObjectName) → IsObjectName name → commit_name at ≢ name → object_path (commit_name at) ≢ object_path name
      apart is_commit name is_other differ = other_path (commit_name at) name is_commit is_other differ

      from : {A B C D : Type 0} → IsObjectName (commit_name at) →
          ((object_path (commit_name at) ≡ object_path Config) × A)
          ⊎ (((object_path (commit_name at) ≡ object_path first_bases) × B)
          ⊎ (((object_path (commit_name at) ≡ object_path first_base) × C) ⊎ ((object_path (commit_name at) ≡ object_path first_mark) × D))) → ⊥
      from is_commit (inl here) = apart is_commit Config refl (λ same. absurd (cc same)) here.0
      from is_commit (inr (inl here)) = apart is_commit first_bases refl (λ same. absurd (cc same)) here.0
      from is_commit (inr (inr (inl here))) = apart is_commit first_base refl (λ same. absurd (cc same)) here.0
      from is_commit (inr (inr (inr here))) = apart is_commit first_mark refl (λ same. absurd (cc same)) here.0

  none_at : (at : ℕ) → action_at o at ≡ None
  none_at at = from (object_at o (commit_name at)) refl
    where
      from : (x : Option (List ℕ)) → object_at o (commit_name at) ≡ x → action_at o at ≡ None
      from None is = action_at-none o at is
      from (Some bytes) is = absurd (none_completed at (is_some_same _ _ is refl))

  no_actions : (at : ℕ) → actions_upto o at ≡ []
  unfolding actions_upto
  no_actions zero = ap option_to_list (none_at 0)
  no_actions (suc at) = ap (λ (done : List Action). done ++ option_to_list (action_at o (suc at))) (no_actions at) ∙ ap option_to_list (none_at (suc at))

  none_listed : (q : List ℕ) → Lists o q → ⊥
  none_listed q lists = none_completed lists.file.at (listed_completed o lists.upto lists.file lists.among)

  no_base_entries : base_entries o ≡ []
  unfolding base_entries
  no_base_entries = ap (λ (x : Option (List ℕ)). unwrap_or (option_and_then base_of x) []) (object_at-is o first_base refl ∙ base_stands) ∙ ap (λ (x : Option (List Entry)). unwrap_or x []) empty_base

  -- ---- each object is of its kind

  named : named_bases o ≡ Some first_meta
  named = ap (λ (x : Option (List ℕ)). option_and_then base_meta_of x) (object_at-is o first_bases refl ∙ bases_stand) ∙ first_meta_reads

  files_based : HasBase o Files
  files_based = (first_meta, object_path first_base, named, (0, omega arith, refl), (0, 0, base.Indexing, refl, refl))

  is_config : IsSchema schema → IsConfig (first_config schema)
  is_config is = record {
    available = record { files = refl; rising = refl };
    building = tt;
    schema = is;
  }

  config_reads : IsSchema schema → Reads o Config (config_text (first_config schema))
  config_reads is = record {
    config = first_config schema;
    is_config = is_config is;
    text = refl;
    based = λ _. All-from_recursion (HasBase o) (Files ∷ []) (files_based, tt);
  }

  object_made : (name : ObjectName) (q x bytes : List ℕ) → IsObjectName name → Reads o name bytes → q ≡ object_path name → x ≡ bytes → IsObjectAt o q x
  object_made name q x bytes is_name reads path text = record { name = name; is_name = is_name; path_is = path; reads = subst (Reads o name) (sym text) reads }

  object_of_kind : IsSchema schema → (q x : List ℕ) → at_path o q ≡ Some x → IsObjectAt o q x
  object_of_kind is q x stands = from (made q x stands)
    where
      from : ((q ≡ object_path Config) × (x ≡ config_text (first_config schema)))
          ⊎ (((q ≡ object_path first_bases) × (x ≡ meta_text)) ⊎ (((q ≡ object_path first_base) × (x ≡ encoding [])) ⊎ ((q ≡ object_path first_mark) × (x ≡ codes "{}")))) → IsObjectAt o q x
      from (inl here) = object_made Config q x (config_text (first_config schema)) refl (config_reads is) here.0 here.1
      from (inr (inl here)) = object_made first_bases q x meta_text refl (refl, first_meta_reads) here.0 here.1
      from (inr (inr (inl here))) = object_made first_base q x (encoding []) refl (refl, λ _. empty_base_reads) here.0 here.1
      from (inr (inr (inr here))) = object_made first_mark q x (codes "{}") refl (refl, empty_object) here.0 here.1

  needed_stands : (q : List ℕ) → IsNeeded o q → IsSome (at_path o q)
  needed_stands q (inl delta) = absurd (none_completed delta.0 delta.1)
  needed_stands q (inr (inl log)) = absurd (none_completed log.at log.completed)
  needed_stands q (inr (inr needed)) =
      let same : first_meta ≡ needed.meta = one_value first_meta needed.meta (sym named ∙ needed.named) in
      let among : Contains (object_path first_base ∷ []) q = subst (λ (meta : Bases). Contains meta.bases q) (sym same) needed.among in
      is_some_same _ _ (ap (λ (r : List ℕ). at_path o r) (only_one (object_path first_base) q among) ∙ base_stands) refl

  new_opens : IsSchema schema → IsOpenable o
  new_opens is = record {
    config = is_some_same _ _ (object_at-is o Config refl ∙ config_stands) refl;
    sound = λ q. record { object = λ x hidden stands. object_of_kind is q x stands; present = needed_stands q };
  }

  pub new_valid : IsSchema schema → IsValidTable o
  new_valid is = record {
    opens = new_opens is;
    shows = λ at key.
        ap (λ (done : List Action). shown_on key (base_entries o ++ logged_entries o done)) (no_actions at)
        ∙ ap (λ (es : List Entry). shown_on key (es ++ [])) no_base_entries
        ∙ nothing_shown key
        ∙ sym (expected-nothing key)
        ∙ ap (λ (done : List Action). expected_on key (files_map (listed_files done))) (sym (no_actions at));
    holds = λ q lists. absurd (none_listed q lists);
  }
