-- The changes of a commit, part by part: its data files, its log, and what its object names.
use Rattle.std.proofs.Common.{◌≡◌, ◌≢◌, inl, inr, ℕ, ◌+◌, ◌^◌, ◌<◌, arith, List, [], ◌∷◌, ◌++◌, Option, Some, None, IsSome, refl, sym, ◌∙◌, ap, subst}
use Rattle.std.specs.Prelude.{All, map, max, unwrap_or, option_and_then, option_to_list}
use Rattle.std.specs.FinMap as finmap
use Rattle.std.proofs.lemmas.List.Elements.{All-cons, All-nil, All-head, All-tail, All-weaker}
use Rattle.serde_json.specs.Written.{compact_text}
use Rattle.mx_commit.specs.Written.{IsNamedFile}
use Rattle.mx_commit.specs.declared.new_file.NewFile.{NewFile}
use Rattle.mx_base.specs.DataFiles.{IsDataFileAt}
use Rattle.mx_base.specs.Objects.{IsObjectName, object_path}
use Rattle.mx_base.specs.Paths.{data_path}
use Rattle.mx_base.specs.declared.object_name.ObjectName.{ObjectName}
use Rattle.mx_base.specs.declared.object_name.ObjectName.TheVariants.{Config}
use Rattle.mx_base.specs.declared.part.Part.TheVariants.{Files}
use Rattle.mx_base.proofs.DataLemmas.{one_file}
use Rattle.mx_base.proofs.NameLemmas.{length-IsFileId}
use Rattle.mx_store.specs.declared.change.Change.{Change}
use Rattle.mx_store.specs.declared.change.Change.TheVariants.{Create, Put, Delete}
use Rattle.mx_store.specs.Objects.{Objects, at_path, after_all}
use Rattle.mx_store.proofs.Paths.{at_same, at_other}
use Rattle.mx_meta.specs.ShardFiles.{delta_meta_data}
use Rattle.mx_base.specs.declared.entry.Entry.{Entry}
use Rattle.mx_files.specs.Delta.{IsDelta, delta_on}
use Rattle.mx_files.proofs.DeltaLemmas.{delta-nothing}
use Rattle.mx_log.specs.Encoding.{log_encoding}
use Rattle.mx_merge.specs.Merged.{payloads_on_key}
use Rattle.mx_payload.specs.declared.payload.Payload.{Payload}
use Rattle.mx_folder.specs.Named.{commit_name, delta_name, log_name}
use Rattle.mx_folder.specs.Pending.{delta_mark}
use Rattle.mx_folder.specs.Slices.{log_of}
use Rattle.mx_folder.specs.Reading.{SpellPayloads, IsDataFileOf, IsLogOf}
use Rattle.mx_folder.specs.Steps.{IsMadeBefore}
use Rattle.mx_folder.proofs.NamedLemmas.{other_path, is_some_same, is_commit_name, is_delta_name}
use Rattle.mx_world.specs.Mirror.{IsNoConfig, IsPlain}
use Rattle.mx_commit.specs.declared.written.Written.{Written}
use Rattle.mx_commit.specs.Written.{data_file, new_group, AreWritten, IsSameGroup, AreApartFiles}
use Rattle.mx_commit.specs.Changes.{files_added, logs_written, data_changes, added_changes, log_changes}
use Rattle.mx_writer.proofs.EarlyLemmas.{IsEarly, AreApart, never_both, AreEarly, AreDistinct, Creates}

pub same_max : (last t : ℕ) → t ≡ last + 1 → max last t ≡ max t t
same_max last t is = grind arith

-- ---- lists of changes

pub both_early : (t : ℕ) (xs ys : List Change) → AreEarly t xs → AreEarly t ys → AreEarly t (xs ++ ys)
both_early t [] ys left right = right
both_early t (Create path bytes ∷ xs) ys left right = (left.0, both_early t xs ys left.1 right)
both_early t (Put path bytes ∷ xs) ys left right = absurd left
both_early t (Delete path ∷ xs) ys left right = absurd left

pub both_apart : (path : List ℕ) (xs ys : List Change) → AreApart path xs → AreApart path ys → AreApart path (xs ++ ys)
both_apart path [] ys left right = right
both_apart path (Create other bytes ∷ xs) ys left right = (left.0, both_apart path xs ys left.1 right)
both_apart path (Put other bytes ∷ xs) ys left right = absurd left
both_apart path (Delete other ∷ xs) ys left right = absurd left

-- what the one list makes stands elsewhere than what the other does
abbrev pub EachApart : List Change → List Change → Type 0
EachApart [] ys = Unit {0}
EachApart (Create path bytes ∷ xs) ys = AreApart path ys × EachApart xs ys
EachApart (Put path bytes ∷ xs) ys = ⊥
EachApart (Delete path ∷ xs) ys = ⊥

pub both_distinct : (xs ys : List Change) → AreDistinct xs → AreDistinct ys → EachApart xs ys → AreDistinct (xs ++ ys)
both_distinct [] ys left right across = right
both_distinct (Create path bytes ∷ xs) ys left right across = (both_apart path xs ys left.0 across.0, both_distinct xs ys left.1 right across.1)
both_distinct (Put path bytes ∷ xs) ys left right across = absurd left
both_distinct (Delete path ∷ xs) ys left right across = absurd left

-- nothing early is the config
early_plain : (t : ℕ) (path bytes : List ℕ) → IsEarly t path bytes → IsNoConfig path
early_plain t path bytes (inl (name, named, is, made, reads)) same = other_path name Config named refl (λ config. subst (IsMadeBefore t) config made) (sym is ∙ same)
early_plain t path bytes (inr (file, stored, dated)) same = never_both path Config file same stored

pub each_early_plain : (t : ℕ) (changes : List Change) → AreEarly t changes → All IsPlain changes
each_early_plain t [] are = All-nil IsPlain
each_early_plain t (Create path bytes ∷ changes) are = All-cons IsPlain (Create path bytes) changes (early_plain t path bytes are.0) (each_early_plain t changes are.1)
each_early_plain t (Put path bytes ∷ changes) are = absurd are
each_early_plain t (Delete path ∷ changes) are = absurd are

pub early_apart : (t : ℕ) (changes : List Change) → AreEarly t changes → AreApart (object_path Config) changes
early_apart t [] are = tt
early_apart t (Create path bytes ∷ changes) are = (early_plain t path bytes are.0, early_apart t changes are.1)
early_apart t (Put path bytes ∷ changes) are = absurd are
early_apart t (Delete path ∷ changes) are = absurd are

-- ---- what is created stands

pub creates_data : (t : ℕ) (files : List NewFile) → All (λ (file : NewFile). Creates (data_file file t) file.bytes (data_changes files t)) files
creates_data t [] = All-nil _
creates_data t (file ∷ files) =
    All-cons (λ (f : NewFile). Creates (data_file f t) f.bytes (data_changes (file ∷ files) t)) file files (inl (refl, refl))
    (All-weaker (λ (f : NewFile). Creates (data_file f t) f.bytes (data_changes files t)) (λ (f : NewFile). Creates (data_file f t) f.bytes (data_changes (file ∷ files) t)) (λ f later. inr later) files (creates_data t files))

-- ---- the names of a commit

module _ (t : ℕ) (meant : 0 < t) (small : t < 10 ^ 17) where
  pub named : IsObjectName (commit_name t)
  named = is_commit_name t meant small

  pub delta_named : IsObjectName (delta_name t)
  delta_named = is_delta_name t named

  stored : (file : NewFile) → IsNamedFile file → IsDataFileAt (data_file file t) (record { partition = file.partition; file = file.file; at = t })
  stored file is = record { partition = is.partition; group = is.id; meant = meant; small = small; is = refl }

  is_data : (file : NewFile) → IsNamedFile file → IsDataFileOf t (data_file file t)
  is_data file is = (_, stored file is, refl)

  data_other : (file : NewFile) → IsNamedFile file → (name : ObjectName) → data_file file t ≢ object_path name
  data_other file is name same = never_both (data_file file t) name _ same (stored file is)

  -- ---- the data files

  pub planned_all : (files : List NewFile) → All IsNamedFile files → All (IsDataFileOf t) (map (λ (file : NewFile). data_file file t) files)
  planned_all [] are = All-nil (IsDataFileOf t)
  planned_all (file ∷ files) are = All-cons (IsDataFileOf t) (data_file file t) _ (is_data file (All-head IsNamedFile file files are)) (planned_all files (All-tail IsNamedFile file files are))

  pub data_early : (files : List NewFile) → All IsNamedFile files → AreEarly t (data_changes files t)
  data_early [] are = tt
  data_early (file ∷ files) are = (inr (is_data file (All-head IsNamedFile file files are)), data_early files (All-tail IsNamedFile file files are))

  -- no object stands where a data file does
  pub object_apart : (name : ObjectName) (files : List NewFile) → All IsNamedFile files → AreApart (object_path name) (data_changes files t)
  object_apart name [] are = tt
  object_apart name (file ∷ files) are = (data_other file (All-head IsNamedFile file files are) name, object_apart name files (All-tail IsNamedFile file files are))

  same_group : (x y : NewFile) → IsNamedFile x → IsNamedFile y → data_file y t ≡ data_file x t → IsSameGroup (new_group x) (new_group y)
  same_group x y is_x is_y same =
      let parts = one_file y.partition x.partition y.file x.file t t (length-IsFileId y.file is_y.id) (length-IsFileId x.file is_x.id) small small same in (sym parts.0, sym parts.1)

  file_apart : (file : NewFile) (files : List NewFile) → IsNamedFile file → All IsNamedFile files → All (λ (other : NewFile). ¬ (IsSameGroup (new_group file) (new_group other))) files → AreApart (data_file file t) (data_changes files t)
  file_apart file [] is are apart = tt
  file_apart file (other ∷ files) is are apart = (
    λ same. All-head (λ (o : NewFile). ¬ (IsSameGroup (new_group file) (new_group o))) other files apart (same_group file other is (All-head IsNamedFile other files are) same),
    file_apart file files is (All-tail IsNamedFile other files are) (All-tail (λ (o : NewFile). ¬ (IsSameGroup (new_group file) (new_group o))) other files apart),
  )

  pub data_distinct : (files : List NewFile) → All IsNamedFile files → AreApartFiles new_group files → AreDistinct (data_changes files t)
  data_distinct [] are apart = tt
  data_distinct (file ∷ files) are apart =
      (file_apart file files (All-head IsNamedFile file files are) (All-tail IsNamedFile file files are) apart.0, data_distinct files (All-tail IsNamedFile file files are) apart.1)

  -- ---- the log

  pub added_early : (files : List NewFile) (es : List Entry) → log_of t (log_encoding t es) ≡ Some es → SpellPayloads es → AreEarly t (added_changes files t es)
  added_early [] es reads spelled = tt
  added_early (file ∷ files) es reads spelled = (inl (log_name t, named, refl, refl, λ o available. (es, reads, spelled)), tt)

  pub logs_all : (files : List NewFile) → All (IsLogOf t) (logs_written files t)
  logs_all [] = All-nil (IsLogOf t)
  logs_all (file ∷ files) = All-cons (IsLogOf t) (object_path (log_name t)) [] (Files, 0, named, refl) (All-nil (IsLogOf t))

  added_apart : (path : List ℕ) (files : List NewFile) (es : List Entry) → object_path (log_name t) ≢ path → AreApart path (added_changes files t es)
  added_apart path [] es other = tt
  added_apart path (file ∷ files) es other = (other, tt)

  added_distinct : (files : List NewFile) (es : List Entry) → AreDistinct (added_changes files t es ++ Create (object_path (delta_name t)) (compact_text (delta_meta_data (logs_written files t))) ∷ [])
  added_distinct [] es = (tt, tt)
  added_distinct (file ∷ files) es = ((other_path (delta_name t) (log_name t) delta_named named (λ same. absurd (cc same)), tt), (tt, tt))

  -- what stands elsewhere than the log and the object that names it
  pub logs_apart : (path : List ℕ) (files : List NewFile) (es : List Entry) → object_path (delta_mark t) ≢ path → object_path (log_name t) ≢ path → object_path (delta_name t) ≢ path → AreApart path (log_changes files t es)
  logs_apart path files es mark log delta = (mark, both_apart path (added_changes files t es) _ (added_apart path files es log) (delta, tt))

  pub log_changes_distinct : (files : List NewFile) (es : List Entry) → AreDistinct (log_changes files t es)
  log_changes_distinct files es = (
    both_apart (object_path (delta_mark t)) (added_changes files t es) _ (added_apart (object_path (delta_mark t)) files es (other_path (log_name t) (delta_mark t) named delta_named (λ same. absurd (cc same))))
        (other_path (delta_name t) (delta_mark t) delta_named delta_named (λ same. absurd (cc same)), tt),
    added_distinct files es,
  )

  pub data_logs : (all : List NewFile) (es : List Entry) (files : List NewFile) → All IsNamedFile files → EachApart (data_changes files t) (log_changes all t es)
  data_logs all es [] are = tt
  data_logs all es (file ∷ files) are =
      let other = λ (name : ObjectName) (same : object_path name ≡ data_file file t). data_other file (All-head IsNamedFile file files are) name (sym same) in
      (logs_apart (data_file file t) all es (other (delta_mark t)) (other (log_name t)) (other (delta_name t)), data_logs all es files (All-tail IsNamedFile file files are))

  -- what the log adds, once it is made where nothing stood
  pub log_after : (o : Objects) (files : List NewFile) (es : List Entry) (text : List ℕ) → at_path o (object_path (log_name t)) ≡ None → log_of t (log_encoding t es) ≡ Some es → IsDelta (files_added files t) [] es → (key : List ℕ)
      → payloads_on_key key (unwrap_or (option_and_then (log_of t) (at_path (after_all o (added_changes files t es ++ Create (object_path (delta_name t)) text ∷ [])) (object_path (log_name t)))) []) ≡ option_to_list (delta_on key (files_added files t) [])
  unfolding payloads_on_key
  log_after o [] es text none reads is key =
      ap (λ (x : Option (List ℕ)). payloads_on_key key (unwrap_or (option_and_then (log_of t) x) []))
      (at_other o (object_path (delta_name t)) text (object_path (log_name t)) (other_path (log_name t) (delta_name t) named delta_named (λ same. absurd (cc same))) ∙ none)
      ∙ sym (ap (λ (x : Option Payload). option_to_list x) (delta-nothing key))
  log_after o (file ∷ files) es text none reads is key =
      ap (λ (x : Option (List ℕ)). payloads_on_key key (unwrap_or (option_and_then (log_of t) x) []))
      (at_other (finmap.insert o (object_path (log_name t)) (log_encoding t es)) (object_path (delta_name t)) text (object_path (log_name t)) (other_path (log_name t) (delta_name t) named delta_named (λ same. absurd (cc same)))
      ∙ at_same o (object_path (log_name t)) (log_encoding t es))
      ∙ ap (λ (x : Option (List Entry)). payloads_on_key key (unwrap_or x [])) reads
      ∙ is.payloads key

  pub delta_after : (o : Objects) (files : List NewFile) (es : List Entry) (text : List ℕ) → at_path (after_all o (added_changes files t es ++ Create (object_path (delta_name t)) text ∷ [])) (object_path (delta_name t)) ≡ Some text
  delta_after o [] es text = at_same o (object_path (delta_name t)) text
  delta_after o (file ∷ files) es text = at_same _ (object_path (delta_name t)) text

  pub logs_after : (o : Objects) (files : List NewFile) (es : List Entry) (text : List ℕ) → All (λ (path : List ℕ). IsSome (at_path (after_all o (added_changes files t es ++ Create (object_path (delta_name t)) text ∷ [])) path)) (logs_written files t)
  logs_after o [] es text = All-nil _
  logs_after o (file ∷ files) es text =
      All-cons (λ (path : List ℕ). IsSome (at_path (after_all o (added_changes (file ∷ files) t es ++ Create (object_path (delta_name t)) text ∷ [])) path)) (object_path (log_name t)) []
      (is_some_same _ _ (at_other (finmap.insert o (object_path (log_name t)) (log_encoding t es)) (object_path (delta_name t)) text (object_path (log_name t)) (other_path (log_name t) (delta_name t) named delta_named (λ same. absurd (cc same))) ∙ at_same o (object_path (log_name t)) (log_encoding t es)) refl)
      (All-nil _)

  -- ---- what the object names

  pub paths_written : (files : List NewFile) (written : List Written) → AreWritten files t written → All (λ (w : Written). w.stat.path ≡ data_path w.partition w.stat.file_id t) written
  paths_written files [] are = All-nil _
  paths_written [] (w ∷ ws) are = absurd are
  paths_written (file ∷ files) (w ∷ ws) are =
      All-cons (λ (x : Written). x.stat.path ≡ data_path x.partition x.stat.file_id t) w ws (subst (λ (x : Written). x.stat.path ≡ data_path x.partition x.stat.file_id t) (sym are.0.1) refl) (paths_written files ws are.1)
