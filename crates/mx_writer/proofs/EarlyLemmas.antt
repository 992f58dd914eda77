-- The objects that a commit makes before the one that completes it.
use Rattle.std.proofs.Common.{◌≡◌, ◌≢◌, ◌⊎◌, inl, inr, ⊎_elim, ℕ, ◌≤◌, ◌<◌, arith, List, [], ◌∷◌, ◌++◌, Option, Some, None, refl, sym, ◌∙◌, ap, subst, append_assoc}
use Rattle.std.specs.Prelude.{unwrap_or}
use Rattle.std.specs.FinMap as finmap
use Rattle.std.proofs.lemmas.Bool.{cases_lt}
use Rattle.std.proofs.lemmas.List.{append-nil}
use Rattle.std.proofs.lemmas.Option.{same_Some}
use Rattle.mx_base.specs.DataFiles.{IsDataFileAt}
use Rattle.mx_base.specs.Objects.{IsObjectName, object_path}
use Rattle.mx_base.specs.declared.data_file.DataFile.{DataFile}
use Rattle.mx_base.specs.declared.object_name.ActionKind.TheVariants as action
use Rattle.mx_base.specs.declared.object_name.ActionState.TheVariants.{Requested, Inflight, Completed}
use Rattle.mx_base.specs.declared.object_name.MetadataActionKind.TheVariants as metadata
use Rattle.mx_base.specs.declared.object_name.ObjectName.{ObjectName}
use Rattle.mx_base.specs.declared.object_name.ObjectName.TheVariants.{Config, Timeline, Metadata, Base, Log}
use Rattle.mx_base.proofs.DataLemmas.{the_file}
use Rattle.mx_base.proofs.NameLemmas.{length-IsFileId}
use Rattle.mx_store.specs.declared.change.Change.{Change}
use Rattle.mx_store.specs.declared.change.Change.TheVariants.{Create, Put, Delete}
use Rattle.mx_store.specs.Journal.{AreAllowed}
use Rattle.mx_store.specs.Objects.{Objects, at_path, after_all, objects_of}
use Rattle.mx_store.proofs.Journal.{objects_of-push}
use Rattle.mx_store.proofs.Paths.{at_same, at_other}
use Rattle.mx_folder.specs.Named.{commit_name, is_hidden}
use Rattle.mx_folder.specs.Actions.{IsCompleted}
use Rattle.mx_folder.specs.Folder.{IsValidTable}
use Rattle.mx_folder.specs.Reading.{Reads, IsDataFileOf}
use Rattle.mx_folder.specs.Steps.{IsLoose, MayStand, IsMadeBefore}
use Rattle.mx_folder.proofs.LooseLemmas.{loose_keeps}
use Rattle.mx_folder.proofs.NamedLemmas.{object_at-same, is_some_same}
use Rattle.mx_groups.proofs.GroupLemmas.{max_left}
use Rattle.mx_world.proofs.DrawnLemmas.{named_instant}
use Rattle.mx_folder.proofs.ListedLemmas.{data_outside}
use Rattle.mx_folder.proofs.PendingLemmas.{pending_loose, pending_file_loose, hidden_object}
use Rattle.mx_world.specs.Instants.{NamesInstant, AreUpto, Requests, IsDrawnBy, instant_of}
use Rattle.mx_world.specs.State.{MayChange}
use Rattle.mx_world.specs.Turns.{MayChangeInTurn}

-- ---- data files stand outside

pub never_both : (path : List ℕ) (name : ObjectName) (file : DataFile) → path ≡ object_path name → IsDataFileAt path file → ⊥
never_both path name file is stored = absurd (cc (sym (data_outside path file stored) ∙ ap is_hidden is ∙ hidden_object name))

-- ---- what a commit makes early

-- the object of a name of the instant, whose bytes are of its kind; or a data file of the instant
abbrev pub IsEarly : ℕ → List ℕ → List ℕ → Type 0
IsEarly t path bytes = ((name : ObjectName) × IsObjectName name × (path ≡ object_path name) × IsMadeBefore t name × ((o : Objects) → Reads o name bytes)) ⊎ IsDataFileOf t path

-- each of the changes creates such an object
abbrev pub AreEarly : ℕ → List Change → Type 0
AreEarly t [] = Unit {0}
AreEarly t (Create path bytes ∷ changes) = IsEarly t path bytes × AreEarly t changes
AreEarly t (Put path bytes ∷ changes) = ⊥
AreEarly t (Delete path ∷ changes) = ⊥

made_instant : (t : ℕ) (name : ObjectName) → IsMadeBefore t name → instant_of name ≡ Some t
made_instant t Config made = absurd made
made_instant t (Timeline at action.Commit Requested) made = ap (λ (n : ℕ). Some n) made
made_instant t (Timeline at action.Commit Inflight) made = ap (λ (n : ℕ). Some n) made
made_instant t (Timeline at action.Commit Completed) made = absurd made
made_instant t (Timeline at action.Clean state) made = absurd made
made_instant t (Timeline at action.Rollback state) made = absurd made
made_instant t (Timeline at action.Indexing state) made = absurd made
made_instant t (Metadata at metadata.DeltaCommit completed) made = ap (λ (n : ℕ). Some n) made
made_instant t (Metadata at metadata.Indexing completed) made = absurd made
made_instant t (Metadata at metadata.Compaction completed) made = absurd made
made_instant t (Metadata at metadata.Clean completed) made = absurd made
made_instant t (Base part shard upto kind) made = absurd made
made_instant t (Log part shard at) made = ap (λ (n : ℕ). Some n) made

pub early_instant : (t : ℕ) (path bytes : List ℕ) → IsEarly t path bytes → (at : ℕ) → NamesInstant path at → at ≡ t
early_instant t path bytes (inl (name, named, is, made, reads)) at names = same_Some at t (sym (named_instant path name named is at names) ∙ made_instant t name made)
early_instant t path bytes (inr (file, stored, dated)) at (inl (name, named, is, of)) = absurd (never_both path name file is stored)
early_instant t path bytes (inr (file, stored, dated)) at (inr (other, other_stored, other_dated)) =
    let same = the_file path file.partition file.file file.at other (length-IsFileId file.file stored.group) stored.small stored.is other_stored in
    sym other_dated ∙ sym same.2 ∙ dated

pub early_names : (t : ℕ) (path bytes : List ℕ) → IsEarly t path bytes → NamesInstant path t
early_names t path bytes (inl (name, named, is, made, reads)) = inl (name, named, is, made_instant t name made)
early_names t path bytes (inr file) = inr file

module _ (o : Objects) (t : ℕ) (path bytes : List ℕ) (pending : ¬ (IsCompleted o t)) where
  pub early_loose : IsEarly t path bytes → IsLoose o path
  early_loose (inl (name, named, is, made, reads)) = subst (IsLoose o) (sym is) (pending_loose o t name named made pending)
  early_loose (inr file) = pending_file_loose o t path file pending

  stands_then : (b : List ℕ) → at_path (finmap.insert o path bytes) path ≡ Some b → bytes ≡ b
  stands_then b is = ap (λ (x : Option (List ℕ)). unwrap_or x bytes) (sym (at_same o path bytes) ∙ is)

  early_stands : IsEarly t path bytes → MayStand o (finmap.insert o path bytes) path
  early_stands (inl (name, named, is, made, reads)) b hidden stands = record { name = name; is_name = named; path_is = is; reads = subst (Reads o name) (stands_then b stands) (reads o) }
  early_stands (inr (file, stored, dated)) b hidden stands = absurd (cc (sym (data_outside path file stored) ∙ hidden))

  -- no commit is completed by it
  pub early_completes : IsEarly t path bytes → (at : ℕ) → IsCompleted (finmap.insert o path bytes) at → IsCompleted o at
  early_completes early at done =
      is_some_same _ _ (sym (object_at-same o (finmap.insert o path bytes) (commit_name at) (λ named. at_other o path bytes (object_path (commit_name at)) (λ same. (early_loose early).commits at named (sym same))))) done

  pub early_keeps : IsEarly t path bytes → IsValidTable o → IsValidTable (finmap.insert o path bytes)
  early_keeps early valid = loose_keeps o (finmap.insert o path bytes) path (λ other differ. at_other o path bytes other differ) (early_loose early) valid (early_stands early)

-- an early object may be made
pub may_early : (journal : List Change) (t after : ℕ) (path bytes : List ℕ) → IsEarly t path bytes → at_path (objects_of journal) path ≡ None → ¬ (IsCompleted (objects_of journal) t) → t ≤ after → MayChange journal after (Create path bytes)
may_early journal t after path bytes early absent pending upto = record {
  allowed = absent;
  instants = λ at names. subst (λ (n : ℕ). n ≤ after) (sym (early_instant t path bytes early at names)) upto;
  keeps = λ valid. subst IsValidTable (sym (objects_of-push journal (Create path bytes))) (early_keeps (objects_of journal) t path bytes pending early valid);
}

-- ---- several of them

pub drawn_rises : (path : List ℕ) (last after : ℕ) → IsDrawnBy path last after → last ≤ after
drawn_rises path last after drawn = ⊎_elim
    (λ (less : after < last). absurd (let never : (at : ℕ) → ¬ (Requests path at) = λ at requests. absurd (omega (arith, less, drawn.drawn at requests, max_left last at)) in omega (arith, less, drawn.kept never)))
    (λ (rises : last ≤ after). rises)
    (cases_lt after last)

completed_after : (journal : List Change) (t : ℕ) (path bytes : List ℕ) → IsEarly t path bytes → ¬ (IsCompleted (objects_of journal) t) → (at : ℕ) → IsCompleted (objects_of (journal ++ Create path bytes ∷ [])) at → IsCompleted (objects_of journal) at
completed_after journal t path bytes early pending at done = early_completes (objects_of journal) t path bytes pending early at (subst (λ (o : Objects). IsCompleted o at) (objects_of-push journal (Create path bytes)) done)

-- early objects may be made in turn, and then what may be made behind them
pub may_all_early : (journal : List Change) (t last : ℕ) (early rest : List Change) → AreEarly t early → AreAllowed (objects_of journal) early → ¬ (IsCompleted (objects_of journal) t) → t ≤ last
    → ((after : ℕ) → t ≤ after → MayChangeInTurn (journal ++ early) after rest) → MayChangeInTurn journal last (early ++ rest)
may_all_early journal t last [] rest are allowed pending upto behind = subst (λ (j : List Change). MayChangeInTurn j last rest) (append-nil journal) (behind last upto)
may_all_early journal t last (Create path bytes ∷ early) rest are allowed pending upto behind = λ after drawn.
    let later : t ≤ after = omega (arith, upto, drawn_rises path last after drawn) in (
      may_early journal t after path bytes are.0 allowed.0 pending later,
      may_all_early (journal ++ Create path bytes ∷ []) t after early rest are.1 (subst (λ (o : Objects). AreAllowed o early) (sym (objects_of-push journal (Create path bytes))) allowed.1)
          (λ done. pending (completed_after journal t path bytes are.0 pending t done)) later
          (λ then within. subst (λ (j : List Change). MayChangeInTurn j then rest) (sym (append_assoc journal (Create path bytes ∷ []) early)) (behind then within)),
    )
may_all_early journal t last (Put path bytes ∷ early) rest are allowed pending upto behind = absurd are
may_all_early journal t last (Delete path ∷ early) rest are allowed pending upto behind = absurd are

-- what is completed after them was before
pub all_completed_after : (journal : List Change) (t : ℕ) (early : List Change) → AreEarly t early → ¬ (IsCompleted (objects_of journal) t) → (at : ℕ) → IsCompleted (objects_of (journal ++ early)) at → IsCompleted (objects_of journal) at
all_completed_after journal t [] are pending at done = subst (λ (j : List Change). IsCompleted (objects_of j) at) (append-nil journal) done
all_completed_after journal t (Create path bytes ∷ early) are pending at done =
    completed_after journal t path bytes are.0 pending at
    (all_completed_after (journal ++ Create path bytes ∷ []) t early are.1 (λ now. pending (completed_after journal t path bytes are.0 pending t now)) at
    (subst (λ (j : List Change). IsCompleted (objects_of j) at) (sym (append_assoc journal (Create path bytes ∷ []) early)) done))
all_completed_after journal t (Put path bytes ∷ early) are pending at done = absurd are
all_completed_after journal t (Delete path ∷ early) are pending at done = absurd are

-- ---- they are absent, and each at a path of its own

-- nothing stands at the path of an instant above all that are named
pub absent_above : (o : Objects) (last at : ℕ) (path : List ℕ) → AreUpto last o → NamesInstant path at → last < at → at_path o path ≡ None
absent_above o last at path upto names above = from (at_path o path) refl
  where
    from : (x : Option (List ℕ)) → at_path o path ≡ x → at_path o path ≡ None
    from None is = is
    from (Some bytes) is = absurd (omega (arith, above, upto path at (is_some_same _ _ is refl) names))

abbrev pub AreApart : List ℕ → List Change → Type 0
AreApart path [] = Unit {0}
AreApart path (Create other bytes ∷ changes) = (other ≢ path) × AreApart path changes
AreApart path (Put other bytes ∷ changes) = ⊥
AreApart path (Delete other ∷ changes) = ⊥

abbrev pub AreDistinct : List Change → Type 0
AreDistinct [] = Unit {0}
AreDistinct (Create path bytes ∷ changes) = AreApart path changes × AreDistinct changes
AreDistinct (Put path bytes ∷ changes) = ⊥
AreDistinct (Delete path ∷ changes) = ⊥

abbrev pub AreAbsent : Objects → List Change → Type 0
AreAbsent o [] = Unit {0}
AreAbsent o (Create path bytes ∷ changes) = (at_path o path ≡ None) × AreAbsent o changes
AreAbsent o (Put path bytes ∷ changes) = ⊥
AreAbsent o (Delete path ∷ changes) = ⊥

pub all_absent : (o : Objects) (last t : ℕ) (early : List Change) → AreUpto last o → last < t → AreEarly t early → AreAbsent o early
all_absent o last t [] upto above are = tt
all_absent o last t (Create path bytes ∷ early) upto above are = (absent_above o last t path upto (early_names t path bytes are.0) above, all_absent o last t early upto above are.1)
all_absent o last t (Put path bytes ∷ early) upto above are = absurd are
all_absent o last t (Delete path ∷ early) upto above are = absurd are

absent_still : (o : Objects) (path bytes : List ℕ) (changes : List Change) → AreApart path changes → AreAbsent o changes → AreAbsent (finmap.insert o path bytes) changes
absent_still o path bytes [] apart absent = tt
absent_still o path bytes (Create other more ∷ changes) apart absent = (at_other o path bytes other apart.0 ∙ absent.0, absent_still o path bytes changes apart.1 absent.1)
absent_still o path bytes (Put other more ∷ changes) apart absent = absurd apart
absent_still o path bytes (Delete other ∷ changes) apart absent = absurd apart

pub allowed_absent : (o : Objects) (changes : List Change) → AreDistinct changes → AreAbsent o changes → AreAllowed o changes
allowed_absent o [] distinct absent = tt
allowed_absent o (Create path bytes ∷ changes) distinct absent = (absent.0, allowed_absent (finmap.insert o path bytes) changes distinct.1 (absent_still o path bytes changes distinct.0 absent.1))
allowed_absent o (Put path bytes ∷ changes) distinct absent = absurd distinct
allowed_absent o (Delete path ∷ changes) distinct absent = absurd distinct

-- what stands elsewhere is as it was
pub kept : (o : Objects) (path : List ℕ) (changes : List Change) → AreApart path changes → at_path (after_all o changes) path ≡ at_path o path
kept o path [] apart = refl
kept o path (Create other bytes ∷ changes) apart = kept (finmap.insert o other bytes) path changes apart.1 ∙ at_other o other bytes path (λ same. apart.0 (sym same))
kept o path (Put other bytes ∷ changes) apart = absurd apart
kept o path (Delete other ∷ changes) apart = absurd apart

-- ---- what is created stands

-- one of the changes creates this
abbrev pub Creates : List ℕ → List ℕ → List Change → Type 0
Creates path bytes [] = ⊥
Creates path bytes (Create other more ∷ changes) = ((other ≡ path) × (more ≡ bytes)) ⊎ Creates path bytes changes
Creates path bytes (Put other more ∷ changes) = Creates path bytes changes
Creates path bytes (Delete other ∷ changes) = Creates path bytes changes

pub creates_front : (path bytes : List ℕ) (xs ys : List Change) → Creates path bytes xs → Creates path bytes (xs ++ ys)
creates_front path bytes [] ys never = absurd never
creates_front path bytes (Create other more ∷ xs) ys (inl here) = inl here
creates_front path bytes (Create other more ∷ xs) ys (inr later) = inr (creates_front path bytes xs ys later)
creates_front path bytes (Put other more ∷ xs) ys later = creates_front path bytes xs ys later
creates_front path bytes (Delete other ∷ xs) ys later = creates_front path bytes xs ys later

pub created_stands : (o : Objects) (path bytes : List ℕ) (changes : List Change) → AreDistinct changes → Creates path bytes changes → at_path (after_all o changes) path ≡ Some bytes
created_stands o path bytes [] distinct never = absurd never
created_stands o path bytes (Create other more ∷ changes) distinct (inl here) =
    kept (finmap.insert o other more) path changes (subst (λ (p : List ℕ). AreApart p changes) here.0 distinct.0)
    ∙ ap (λ (p : List ℕ). at_path (finmap.insert o other more) p) (sym here.0)
    ∙ at_same o other more
    ∙ ap (λ (b : List ℕ). Some b) here.1
created_stands o path bytes (Create other more ∷ changes) distinct (inr later) = created_stands (finmap.insert o other more) path bytes changes distinct.1 later
created_stands o path bytes (Put other more ∷ changes) distinct later = absurd distinct
created_stands o path bytes (Delete other ∷ changes) distinct later = absurd distinct
