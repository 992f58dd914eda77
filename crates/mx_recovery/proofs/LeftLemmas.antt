-- Nothing that counts rests on what pending commits left.
use Rattle.std.proofs.Common.{◌≡◌, ◌⊎◌, inl, inr, ⊎_elim, ℕ, arith, Bool, true, false, cond, List, [], ◌∷◌, ◌++◌, Option, Some, None, IsSome, is_some, refl, sym, ◌∙◌, ap, subst}
use Rattle.std.specs.Prelude.{All, Contains, nat_lt, not, ◌&&◌, ◌||◌, option_and_then}
use Rattle.std.specs.FinMap as finmap
use Rattle.std.specs.List.{flat_map}
use Rattle.std.specs.Option.{option_map_or}
use Rattle.std.proofs.lemmas.List.Elements.{All-cons, All-head, All-tail, All-append, All-contains, All-weaker, Contains-append_left, Contains-append_right}
use Rattle.mx_base.specs.Objects.{IsObjectName, is_object_name, is_instant, object_path}
use Rattle.mx_base.specs.declared.object_name.ObjectName.{ObjectName}
use Rattle.mx_base.specs.declared.object_name.ObjectName.TheVariants.{Config, Log}
use Rattle.mx_base.proofs.ObjectLemmas.{object_path-injective}
use Rattle.mx_meta.specs.PathLists.{path_list_of}
use Rattle.mx_meta.specs.declared.path_list.PathList.{PathList}
use Rattle.mx_store.specs.declared.change.Change.{Change}
use Rattle.mx_store.specs.declared.change.Change.TheVariants.{Delete}
use Rattle.mx_store.specs.Objects.{Objects, at_path, objects_of, after_all}
use Rattle.mx_store.proofs.Journal.{objects_of-push}
use Rattle.mx_store.proofs.Paths.{at_left, at_removed}
use Rattle.mx_folder.specs.Named.{object_at, commit_name, delta_name}
use Rattle.mx_folder.specs.Actions.{IsCompleted}
use Rattle.mx_folder.specs.Folder.{IsOpenable, IsValidTable}
use Rattle.mx_folder.specs.Pending.{requested_name, inflight_name, delta_mark, inflight_files, IsPending, ArePicked, IsLeft, ArePending, left_by, deletes, instants_of}
use Rattle.mx_folder.specs.Reading.{IsLogOf, IsDataFileOf, Reads}
use Rattle.mx_folder.specs.Steps.{IsLoose, IsMadeBefore}
use Rattle.mx_folder.specs.declared.pending.Pending.{Pending}
use Rattle.mx_folder.proofs.LooseLemmas.{loose_keeps}
use Rattle.mx_folder.proofs.ElementLemmas.{among_here, among_later, among_cases, among_none}
use Rattle.mx_folder.proofs.NamedLemmas.{object_at-same, object_at-stands, object_at-some, object_at-is, is_some_same}
use Rattle.mx_folder.proofs.PendingLemmas.{pending_loose, pending_file_loose, hidden_object}
use Rattle.mx_world.specs.Mirror.{IsNoConfig}
use Rattle.mx_world.specs.State.{MayChange}
use Rattle.mx_world.specs.Turns.{MayChangeInTurn}
use Rattle.mx_recovery.specs.Recovering.{IsSettled}
use Rattle.mx_recovery.proofs.DeleteLemmas.{deletes_none, deletes_left, deletes_gone}

-- ---- what may be taken away

-- the path is of a data file, or of an object that a commit makes before its completion, where the commit is not completed
abbrev pub MayGo : Objects → List ℕ → Type 0
MayGo o path = ((at : ℕ) × IsDataFileOf at path × ¬ (IsCompleted o at)) ⊎ ((at : ℕ) × (name : ObjectName) × IsObjectName name × IsMadeBefore at name × (path ≡ object_path name) × ¬ (IsCompleted o at))

pub loose_path : (o : Objects) (path : List ℕ) → MayGo o path → IsLoose o path
loose_path o path (inl (at, of, pending)) = pending_file_loose o at path of pending
loose_path o path (inr (at, name, named, made, is, pending)) = subst (IsLoose o) (sym is) (pending_loose o at name named made pending)

-- no commit is completed by a delete
commit_left : (o : Objects) (path : List ℕ) → IsLoose o path → (at : ℕ) → object_at (finmap.remove o path) (commit_name at) ≡ object_at o (commit_name at)
commit_left o path loose at = object_at-same o (finmap.remove o path) (commit_name at) (λ named. at_left o path (object_path (commit_name at)) (λ same. loose.commits at named (sym same)))

go_later : (o : Objects) (path other : List ℕ) → IsLoose o path → MayGo o other → MayGo (finmap.remove o path) other
go_later o path other loose (inl (at, of, pending)) = inl (at, of, λ done. pending (is_some_same _ _ (sym (commit_left o path loose at)) done))
go_later o path other loose (inr (at, name, named, made, is, pending)) = inr (at, name, named, made, is, λ done. pending (is_some_same _ _ (sym (commit_left o path loose at)) done))

delete_keeps : (o : Objects) (path : List ℕ) → IsLoose o path → IsValidTable o → IsValidTable (finmap.remove o path)
delete_keeps o path loose valid =
    loose_keeps o (finmap.remove o path) path (λ other differs. at_left o path other differs) loose valid (λ bytes hidden stands. absurd (cc (sym (at_removed o path) ∙ stands)))

may_delete : (journal : List Change) (after : ℕ) (path : List ℕ) → IsSome (at_path (objects_of journal) path) → IsLoose (objects_of journal) path → MayChange journal after (Delete path)
may_delete journal after path stands loose = record {
  allowed = stands;
  instants = tt;
  keeps = λ valid. subst IsValidTable (sym (objects_of-push journal (Delete path))) (delete_keeps (objects_of journal) path loose valid);
}

pub may_in_turn : (journal : List Change) (o : Objects) (last : ℕ) → objects_of journal ≡ o → (paths : List (List ℕ)) → All (MayGo o) paths → MayChangeInTurn journal last (deletes o paths)
may_in_turn journal o last is [] may = tt
may_in_turn journal o last is (x ∷ xs) may =
    let loose = loose_path o x (All-head (MayGo o) x xs may) in
    step (is_some (at_path o x)) refl
    (λ after. may_in_turn (journal ++ Delete x ∷ []) (finmap.remove o x) after (objects_of-push journal (Delete x) ∙ ap (λ (m : Objects). finmap.remove m x) is) xs
    (All-weaker (MayGo o) (MayGo (finmap.remove o x)) (λ other. go_later o x other loose) xs (All-tail (MayGo o) x xs may)))
    (may_in_turn journal o last is xs (All-tail (MayGo o) x xs may))
    loose
  where
    step : (b : Bool) → is_some (at_path o x) ≡ b → ((after : ℕ) → MayChangeInTurn (journal ++ Delete x ∷ []) after (deletes (finmap.remove o x) xs)) → MayChangeInTurn journal last (deletes o xs) → IsLoose o x
        → MayChangeInTurn journal last (cond b (Delete x ∷ deletes (finmap.remove o x) xs) (deletes o xs))
    step true stands gone kept loose = λ after drawn. (may_delete journal after x (ap (λ (m : Objects). is_some (at_path m x)) is ∙ stands) (subst (λ (m : Objects). IsLoose m x) (sym is) loose), gone after)
    step false stands gone kept loose = kept

-- ---- what pending commits left may go

picked_all : (P : List ℕ → Type 0) (xs picked : List (List ℕ)) → ArePicked P xs picked → All P picked
picked_all P [] picked is = subst (All P) (sym is) (λ k d within. absurd (omega (arith, within)))
picked_all P (x ∷ xs) picked (inl (holds, (rest, is, more))) = subst (All P) (sym is) (All-cons P x rest holds (picked_all P xs rest more))
picked_all P (x ∷ xs) picked (inr (other, more)) = picked_all P xs picked more

begun_name : (o : Objects) (at : ℕ) → IsPending o at → IsObjectName (requested_name at)
begun_name o at (inl requested, pending) = (object_at-stands o (requested_name at) requested).0
begun_name o at (inr inflight, pending) = (object_at-stands o (inflight_name at) inflight).0

delta_test : (a b c : Bool) → (a && b) ≡ true → ((a || c) && b) ≡ true
delta_test true b c h = h
delta_test false b c h = absurd (cc h)

delta_named : (at : ℕ) → IsObjectName (requested_name at) → IsObjectName (delta_name at)
delta_named at is = delta_test (nat_lt 0 at) (is_instant at) (not true) is

-- the files that a list of files has are data files of its instant
inflight_data : (o : Objects) → IsOpenable o → (at : ℕ) → All (IsDataFileOf at) (inflight_files o at)
unfolding inflight_files
inflight_data o opens at = from (object_at o (inflight_name at)) refl
  where
    none : All (IsDataFileOf at) []
    none = λ k d within. absurd (omega (arith, within))

    read : (bytes : List ℕ) → object_at o (inflight_name at) ≡ Some bytes → Reads o (inflight_name at) bytes
    read bytes stands =
        let found = object_at-some o (inflight_name at) bytes stands in
        let object = (opens.sound (object_path (inflight_name at))).object bytes (hidden_object (inflight_name at)) found.1 in
        subst (λ (name : ObjectName). Reads o name bytes) (sym (object_path-injective (inflight_name at) object.name found.0 object.is_name object.path_is)) object.reads

    listed : (list : Option PathList) → ((l : PathList) → list ≡ Some l → All (IsDataFileOf at) l.paths) → All (IsDataFileOf at) (option_map_or (λ (l : PathList). l.paths) list [])
    listed None are = none
    listed (Some l) are = are l refl

    from : (bytes : Option (List ℕ)) → object_at o (inflight_name at) ≡ bytes → All (IsDataFileOf at) (option_map_or (λ (l : PathList). l.paths) (option_and_then path_list_of bytes) [])
    from None is = none
    from (Some bytes) is = listed (path_list_of bytes) (λ l same.
        let reads = read bytes is in subst (λ (r : PathList). All (IsDataFileOf at) r.paths) (some_same reads.0 l (sym reads.1 ∙ same)) reads.2)
      where
        some_same : (a b : PathList) → Some a ≡ Some b → a ≡ b
        some_same a b is = cc is

-- the paths of what a commit left, in three parts
abbrev last_two : Pending → List (List ℕ)
last_two left = object_path (inflight_name left.at) ∷ object_path (requested_name left.at) ∷ []

abbrev files_on : Pending → List (List ℕ)
files_on left = left.files ++ last_two left

abbrev deltas_on : Pending → List (List ℕ)
deltas_on left = object_path (delta_name left.at) ∷ object_path (delta_mark left.at) ∷ files_on left

module _ (o : Objects) (opens : IsOpenable o) where
  none_go : All (MayGo o) []
  none_go = λ k d within. absurd (omega (arith, within))

  left_may_go : (left : Pending) → IsLeft o left → All (MayGo o) (left_by left)
  left_may_go left is =
      let named : IsObjectName (requested_name left.at) = begun_name o left.at is.pending in
      let pending = is.pending.1 in
      All-append (MayGo o) left.logs (deltas_on left)
      (All-weaker (IsLogOf left.at) (MayGo o) (λ path log. inr (left.at, Log log.0 log.1 left.at, log.2, refl, log.3, pending)) left.logs (picked_all (IsLogOf left.at) (finmap.keys o) left.logs is.logs))
      (All-cons (MayGo o) (object_path (delta_name left.at)) (object_path (delta_mark left.at) ∷ files_on left) (inr (left.at, delta_name left.at, delta_named left.at named, refl, refl, pending))
      (All-cons (MayGo o) (object_path (delta_mark left.at)) (files_on left) (inr (left.at, delta_mark left.at, delta_named left.at named, refl, refl, pending))
      (All-append (MayGo o) left.files (last_two left)
      (subst (All (MayGo o)) (sym is.files) (All-weaker (IsDataFileOf left.at) (MayGo o) (λ path of. inl (left.at, of, pending)) (inflight_files o left.at) (inflight_data o opens left.at)))
      (All-cons (MayGo o) (object_path (inflight_name left.at)) (object_path (requested_name left.at) ∷ []) (inr (left.at, inflight_name left.at, named, refl, refl, pending))
      (All-cons (MayGo o) (object_path (requested_name left.at)) [] (inr (left.at, requested_name left.at, named, refl, refl, pending)) none_go)))))

  pub all_may_go : (pendings : List Pending) → All (IsLeft o) pendings → All (MayGo o) (flat_map left_by pendings)
  all_may_go [] each = λ k d within. absurd (omega (arith, within))
  all_may_go (left ∷ pendings) each =
      All-append (MayGo o) (left_by left) (flat_map left_by pendings) (left_may_go left (All-head (IsLeft o) left pendings each)) (all_may_go pendings (All-tail (IsLeft o) left pendings each))

pub no_config : (o : Objects) (paths : List (List ℕ)) → All (MayGo o) paths → All IsNoConfig paths
no_config o paths may = All-weaker (MayGo o) IsNoConfig (λ path go. (loose_path o path go).config) paths may

-- ---- what is settled by it

inflight_among : (left : Pending) → Contains (left_by left) (object_path (inflight_name left.at))
inflight_among left =
    let path = object_path (inflight_name left.at) in
    Contains-append_right left.logs (deltas_on left) path
    (among_later path (object_path (delta_name left.at)) (object_path (delta_mark left.at) ∷ files_on left)
    (among_later path (object_path (delta_mark left.at)) (files_on left) (Contains-append_right left.files (last_two left) path (among_here path (object_path (requested_name left.at) ∷ [])))))

requested_among : (left : Pending) → Contains (left_by left) (object_path (requested_name left.at))
requested_among left =
    let path = object_path (requested_name left.at) in
    Contains-append_right left.logs (deltas_on left) path
    (among_later path (object_path (delta_name left.at)) (object_path (delta_mark left.at) ∷ files_on left)
    (among_later path (object_path (delta_mark left.at)) (files_on left)
    (Contains-append_right left.files (last_two left) path (among_later path (object_path (inflight_name left.at)) (object_path (requested_name left.at) ∷ []) (among_here path [])))))

abbrev AreBoth : List (List ℕ) → ℕ → Type 0
AreBoth paths at = Contains paths (object_path (inflight_name at)) × Contains paths (object_path (requested_name at))

left_among : (ps : List Pending) (at : ℕ) → Contains (instants_of ps) at → AreBoth (flat_map left_by ps) at
left_among [] at among = absurd (among_none at among)
left_among (left ∷ ps) at among = step (among_cases at left.at (instants_of ps) among) (left_among ps at)
  where
    step : (left.at ≡ at) ⊎ Contains (instants_of ps) at → (Contains (instants_of ps) at → AreBoth (flat_map left_by ps) at) → AreBoth (left_by left ++ flat_map left_by ps) at
    step (inl here) further = subst (AreBoth (left_by left ++ flat_map left_by ps)) here
        (Contains-append_left (left_by left) (flat_map left_by ps) (object_path (inflight_name left.at)) (inflight_among left), Contains-append_left (left_by left) (flat_map left_by ps) (object_path (requested_name left.at)) (requested_among left))
    step (inr there) further =
        let both = further there in
        (Contains-append_right (left_by left) (flat_map left_by ps) (object_path (inflight_name at)) both.0, Contains-append_right (left_by left) (flat_map left_by ps) (object_path (requested_name at)) both.1)

module _ (o : Objects) (opens : IsOpenable o) (pendings : List Pending) (are : ArePending o pendings) where
  abbrev paths : List (List ℕ)
  paths = flat_map left_by pendings

  abbrev after : Objects
  after = after_all o (deletes o paths)

  loose : (path : List ℕ) → Contains paths path → IsLoose o path
  loose path among = loose_path o path (All-contains (MayGo o) paths path (all_may_go o opens pendings are.each) among)

  commits : (at : ℕ) → object_at after (commit_name at) ≡ object_at o (commit_name at)
  commits at = object_at-same o after (commit_name at) (λ named. deletes_left o paths (object_path (commit_name at)) (λ among. (loose (object_path (commit_name at)) among).commits at named refl))

  config : object_at after Config ≡ object_at o Config
  config = object_at-same o after Config (λ _. deletes_left o paths (object_path Config) (λ among. (loose (object_path Config) among).config refl))

  appears : (name : ObjectName) → IsSome (object_at after name) → IsSome (object_at o name)
  appears name stands = from (object_at o name) refl
    where
      from : (x : Option (List ℕ)) → object_at o name ≡ x → IsSome (object_at o name)
      from (Some bytes) is = ap (λ (x : Option (List ℕ)). is_some x) is
      from None is =
          let found = object_at-stands after name stands in
          let before : at_path o (object_path name) ≡ None = gone_before (is_object_name name) found.0 is in
          absurd (cc (sym found.1 ∙ ap (λ (x : Option (List ℕ)). is_some x) (deletes_none o paths (object_path name) before)))
        where
          gone_before : (b : Bool) → is_object_name name ≡ true → object_at o name ≡ None → at_path o (object_path name) ≡ None
          gone_before b named none = sym (object_at-is o name named) ∙ none

  none_pending : (at : ℕ) → IsPending after at → ⊥
  none_pending at (begun, unfinished) =
      let pending : IsPending o at = (⊎_elim (λ (r : IsSome (object_at after (requested_name at))). inl (appears (requested_name at) r)) (λ (r : IsSome (object_at after (inflight_name at))). inr (appears (inflight_name at) r)) begun, λ done. unfinished (is_some_same _ _ (commits at) done)) in
      let among = left_among pendings at (are.all at pending) in
      ⊎_elim
      (λ (r : IsSome (object_at after (requested_name at))). stands_gone (requested_name at) r (deletes_gone o paths (object_path (requested_name at)) among.1))
      (λ (r : IsSome (object_at after (inflight_name at))). stands_gone (inflight_name at) r (deletes_gone o paths (object_path (inflight_name at)) among.0))
      begun
    where
      stands_gone : (name : ObjectName) → IsSome (object_at after name) → at_path after (object_path name) ≡ None → ⊥
      stands_gone name stands gone = absurd (cc (sym (object_at-stands after name stands).1 ∙ ap (λ (x : Option (List ℕ)). is_some x) gone))

  pub settled_by : IsSettled o (after_all o (deletes o (flat_map left_by pendings)))
  settled_by = record { pending = none_pending; commits = commits; config = config }
