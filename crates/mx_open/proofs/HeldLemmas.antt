-- The objects below `.hoodie/` say what a folder is.
use Rattle.std.proofs.Common.{◌≡◌, ◌≢◌, inl, inr, ⊎_elim, ℕ, ◌+◌, ◌<◌, ◌≤◌, arith, Bool, true, false, List, [], take, get_or, length, Option, Some, None, IsSome, IfSome, Result, Ok, Err, refl, sym, ◌∙◌, ap, subst}
use Rattle.std.specs.Prelude.{Contains, option_and_then, filter, not}
use Rattle.std.specs.FinMap as finmap
use Rattle.std.proofs.lemmas.List.{take_all}
use Rattle.std.proofs.lemmas.List.Elements.{All-contains, All-weaker, filter_passes}
use Rattle.mx_base.specs.Objects.{object_path}
use Rattle.mx_base.specs.declared.object_name.ObjectName.{ObjectName}
use Rattle.mx_base.specs.declared.object_name.ObjectName.TheVariants.{Config}
use Rattle.mx_meta.specs.ShardFiles.{delta_meta_of}
use Rattle.mx_meta.proofs.JsonLemmas.{named_more}
use Rattle.mx_store.specs.Objects.{Objects, at_path, objects_of, paths_with}
use Rattle.mx_store.specs.declared.change.Change.{Change}
use Rattle.mx_store.proofs.Keys.{in_keys}
use Rattle.mx_store.proofs.Paths.{at_nothing, at_same, at_other, cases_path}
use Rattle.mx_folder.specs.Named.{object_at, commit_name, delta_name, first_bases, is_hidden, IsHidden}
use Rattle.mx_folder.specs.Folder.{IsObjectAt, IsNeeded, IsSound}
use Rattle.mx_folder.proofs.ElementLemmas.{among_filter}
use Rattle.mx_folder.proofs.NamedLemmas.{object_at-same, is_some_same, none_from}
use Rattle.mx_folder.proofs.PendingLemmas.{hidden_object, unneeded_outside}
use Rattle.mx_folder.proofs.ReadingLemmas.{available_from, named_bases-same, reads_same}
use Rattle.mx_open.specs.Deciding.{Adds, AreHeld, IsFine, IsUnharmed}
use Rattle.mx_open.specs.Leaving.{AreNamesOf}
use Rattle.mx_open.specs.Opening.{IsCurrent, Opens, OpensHeld}
use Rattle.mx_open.specs.declared.error.ReadError.{ReadError}
use Rattle.mx_open.specs.declared.error.ReadError.TheVariants.{NotATable, Version, Damaged, StoreFault, NoMemory}
use Rattle.mx_open.specs.declared.folder.Folder.{Folder}
use Rattle.mx_open.proofs.KeyLemmas.{all_paths}

-- ---- read one after the other

pub held_none : (o : Objects) (paths : List (List ℕ)) → AreHeld finmap.empty o [] paths
held_none o paths = record {
  found = λ k d within. absurd (omega (arith, within));
  only = λ path bytes stands. absurd (cc (sym (at_nothing path) ∙ stands));
}

held_added : (path : List ℕ) (old new o : Objects) (x : Option (List ℕ)) → at_path o path ≡ x → Adds path x old new → (read paths : List (List ℕ)) → Contains paths path → AreHeld old o read paths →
    ((q : List ℕ) → at_path old q ≡ at_path o q → at_path new q ≡ at_path o q) × (at_path new path ≡ at_path o path) × ((q bytes : List ℕ) → at_path new q ≡ Some bytes → (at_path o q ≡ Some bytes) × Contains paths q)
held_added path old new o None none same read paths among held =
    let here : at_path old path ≡ None = none_from (at_path old path) (λ stands. missing (at_path old path) refl stands) in (
      λ q is. ap (λ (m : Objects). at_path m q) same ∙ is,
      ap (λ (m : Objects). at_path m path) same ∙ here ∙ sym none,
      λ q bytes stands. held.only q bytes (sym (ap (λ (m : Objects). at_path m q) same) ∙ stands),
    )
  where
    missing : (y : Option (List ℕ)) → at_path old path ≡ y → IsSome y → ⊥
    missing None is stands = absurd (cc stands)
    missing (Some bytes) is stands = absurd (cc (sym none ∙ (held.only path bytes is).0))
held_added path old new o (Some bytes) is same read paths among held = (
  λ q same_before. ⊎_elim
      (λ (here : q ≡ path). subst (λ (r : List ℕ). at_path new r ≡ at_path o r) (sym here) made)
      (λ (there : q ≢ path). ap (λ (m : Objects). at_path m q) same ∙ at_other old path bytes q there ∙ same_before)
      (cases_path q path),
  made,
  λ q found stands. ⊎_elim
      (λ (here : q ≡ path). (ap (at_path o) here ∙ sym made ∙ sym (ap (at_path new) here) ∙ stands, subst (Contains paths) (sym here) among))
      (λ (there : q ≢ path). held.only q found (sym (ap (λ (m : Objects). at_path m q) same ∙ at_other old path bytes q there) ∙ stands))
      (cases_path q path),
)
  where
    made : at_path new path ≡ at_path o path
    made = ap (λ (m : Objects). at_path m path) same ∙ at_same old path bytes ∙ sym is

pub held_more : (path : List ℕ) (old new o : Objects) (paths : List (List ℕ)) (i : ℕ) → i < length paths → path ≡ get_or paths i path → Adds path (at_path o path) old new → AreHeld old o (take i paths) paths → AreHeld new o (take (i + 1) paths) paths
held_more path old new o paths i within is adds held =
    let step = held_added path old new o (at_path o path) refl adds (take i paths) paths (i, within, sym is) held in
    record {
      found = named_more (λ (p : List ℕ). at_path new p ≡ at_path o p) paths i path (All-weaker (λ (p : List ℕ). at_path old p ≡ at_path o p) (λ (p : List ℕ). at_path new p ≡ at_path o p) step.0 (take i paths) held.found) step.1 within is;
      only = step.2;
    }

pub held_step : (before now : Option (List Change)) (old new : Objects) (path : List ℕ) (paths : List (List ℕ)) (i : ℕ) → now ≡ before → i < length paths → path ≡ get_or paths i path →
    IfSome before (λ j. AreHeld old (objects_of j) (take i paths) paths) → IfSome now (λ j. Adds path (at_path (objects_of j) path) old new) → IfSome before (λ j. AreHeld new (objects_of j) (take (i + 1) paths) paths)
held_step before now old new path paths i same within is held adds = from before held (subst (λ (x : Option (List Change)). IfSome x (λ j. Adds path (at_path (objects_of j) path) old new)) same adds)
  where
    from : (x : Option (List Change)) → IfSome x (λ j. AreHeld old (objects_of j) (take i paths) paths) → IfSome x (λ j. Adds path (at_path (objects_of j) path) old new) → IfSome x (λ j. AreHeld new (objects_of j) (take (i + 1) paths) paths)
    from None held adds = tt
    from (Some j) held adds = held_more path old new (objects_of j) paths i within is adds held

pub held_start : (before : Option (List Change)) (h : Objects) (paths : List (List ℕ)) → h ≡ finmap.empty → IfSome before (λ j. AreHeld h (objects_of j) [] paths)
held_start None h paths is = tt
held_start (Some j) h paths is = subst (λ (x : Objects). AreHeld x (objects_of j) [] paths) (sym is) (held_none (objects_of j) paths)

pub held_all : (before : Option (List Change)) (h : Objects) (paths : List (List ℕ)) (i : ℕ) → length paths ≤ i → IfSome before (λ j. AreHeld h (objects_of j) (take i paths) paths) → IfSome before (λ j. AreHeld h (objects_of j) paths paths)
held_all before h paths i whole held = subst (λ (ps : List (List ℕ)). IfSome before (λ j. AreHeld h (objects_of j) ps paths)) (take_all i paths whole) held

-- ---- the folder and what is held

module _ (h o : Objects) (inner : (q : List ℕ) → IsHidden q → at_path h q ≡ at_path o q) (outer : (q : List ℕ) → is_hidden q ≡ false → at_path h q ≡ None) where
  pub name_same : (name : ObjectName) → object_at h name ≡ object_at o name
  name_same name = object_at-same o h name (λ _. inner (object_path name) (hidden_object name))

  by_hidden : {A : Type 0} (q : List ℕ) → (IsHidden q → A) → (is_hidden q ≡ false → A) → A
  by_hidden {A} q inside outside = from (is_hidden q) refl
    where
      from : (b : Bool) → is_hidden q ≡ b → A
      from true is = inside is
      from false is = outside is

  needed_up : (q : List ℕ) → IsNeeded h q → IsNeeded o q
  needed_up q (inl delta) = inl (delta.0, is_some_same _ _ (sym (name_same (commit_name delta.0))) delta.1, delta.2)
  needed_up q (inr (inl log)) = inr (inl (record {
    at = log.at;
    completed = is_some_same _ _ (sym (name_same (commit_name log.at))) log.completed;
    logs = log.logs;
    delta = ap (λ (b : Option (List ℕ)). option_and_then delta_meta_of b) (sym (name_same (delta_name log.at))) ∙ log.delta;
    among = log.among;
    part = log.part;
    shard = log.shard;
    is_name = log.is_name;
    is_log = log.is_log;
    available = available_from o h (name_same Config) (name_same first_bases) log.part log.available;
  }))
  needed_up q (inr (inr base)) = inr (inr (record {
    meta = base.meta;
    named = sym (named_bases-same o h (name_same Config) (name_same first_bases)) ∙ base.named;
    among = base.among;
    part = base.part;
    is_base = base.is_base;
    available = available_from o h (name_same Config) (name_same first_bases) base.part base.available;
  }))

  needed_down : (q : List ℕ) → IsNeeded o q → IsNeeded h q
  needed_down q (inl delta) = inl (delta.0, is_some_same _ _ (name_same (commit_name delta.0)) delta.1, delta.2)
  needed_down q (inr (inl log)) = inr (inl (record {
    at = log.at;
    completed = is_some_same _ _ (name_same (commit_name log.at)) log.completed;
    logs = log.logs;
    delta = ap (λ (b : Option (List ℕ)). option_and_then delta_meta_of b) (name_same (delta_name log.at)) ∙ log.delta;
    among = log.among;
    part = log.part;
    shard = log.shard;
    is_name = log.is_name;
    is_log = log.is_log;
    available = available_from h o (sym (name_same Config)) (sym (name_same first_bases)) log.part log.available;
  }))
  needed_down q (inr (inr base)) = inr (inr (record {
    meta = base.meta;
    named = sym (named_bases-same h o (sym (name_same Config)) (sym (name_same first_bases))) ∙ base.named;
    among = base.among;
    part = base.part;
    is_base = base.is_base;
    available = available_from h o (sym (name_same Config)) (sym (name_same first_bases)) base.part base.available;
  }))

  object_up : (q bytes : List ℕ) → IsObjectAt h q bytes → IsObjectAt o q bytes
  object_up q bytes is = record { name = is.name; is_name = is.is_name; path_is = is.path_is; reads = reads_same h o (sym (name_same Config)) (sym (name_same first_bases)) is.name bytes is.reads }

  object_down : (q bytes : List ℕ) → IsObjectAt o q bytes → IsObjectAt h q bytes
  object_down q bytes is = record { name = is.name; is_name = is.is_name; path_is = is.path_is; reads = reads_same o h (name_same Config) (name_same first_bases) is.name bytes is.reads }

  pub sound_up : (q : List ℕ) → IsUnharmed h q → IsSound o q
  sound_up q unharmed = record {
    object = λ bytes hidden stands. object_up q bytes (unharmed.0 bytes (inner q hidden ∙ stands));
    present = λ needed.
        let stands = unharmed.1 (needed_down q needed) in
        by_hidden q (λ hidden. is_some_same _ _ (sym (inner q hidden)) stands) (λ outside. absurd (cc (subst IsSome (outer q outside) stands)));
  }

  pub sound_down : (q : List ℕ) → IsSound o q → IsUnharmed h q
  sound_down q sound = (fine, λ needed. present (needed_up q needed))
    where
      fine : IsFine h q
      fine bytes stands = by_hidden q (λ hidden. object_down q bytes (sound.object bytes hidden (sym (inner q hidden) ∙ stands))) (λ outside. absurd (cc (sym (outer q outside) ∙ stands)))

      present : IsNeeded o q → IsSome (at_path h q)
      present needed = by_hidden q (λ hidden. is_some_same _ _ (inner q hidden) (sound.present needed)) (λ outside. absurd (unneeded_outside o q outside needed))

-- ---- what is told of the folder

config_up : (h o : Objects) → object_at h Config ≡ object_at o Config → IsCurrent h → IsCurrent o
config_up h o same current = record { stands = is_some_same _ _ (sym same) current.stands; version = λ found other. current.version found (other.0, same ∙ other.1, other.2) }

names_of : (h o : Objects) (names : List (List ℕ)) → ((q : List ℕ) → IsHidden q → at_path h q ≡ at_path o q) → ((q : List ℕ) → is_hidden q ≡ false → at_path h q ≡ None) → names ≡ filter is_hidden (finmap.keys o) → AreNamesOf o h names
names_of h o names inner outer all = record { all = all; same = name_same h o inner outer }

opens_up : (h o : Objects) (names others paths : List (List ℕ)) (r : Result Folder ReadError) → ((q : List ℕ) → IsHidden q → at_path h q ≡ at_path o q) → ((q : List ℕ) → is_hidden q ≡ false → at_path h q ≡ None) → paths ≡ finmap.keys o →
    names ≡ filter is_hidden paths → others ≡ filter (λ path. not (is_hidden path)) paths → OpensHeld h names others r → Opens o r
opens_up h o names others paths (Ok folder) inner outer keys hidden rest (all, current, said, same_names, same_others, pending, commits) = (
  record {
    config = is_some_same _ _ (sym (name_same h o inner outer Config)) current.stands;
    sound = λ q. sound_up h o inner outer q (all q);
  },
  record {
    config = sym (name_same h o inner outer Config) ∙ said;
    names = same_names ∙ hidden ∙ ap (λ (ps : List (List ℕ)). filter is_hidden ps) keys;
    others = same_others ∙ rest ∙ ap (λ (ps : List (List ℕ)). filter (λ path. not (is_hidden path)) ps) keys;
    pending = pending o (names_of h o names inner outer (hidden ∙ ap (λ (ps : List (List ℕ)). filter is_hidden ps) keys));
    commits = commits o (names_of h o names inner outer (hidden ∙ ap (λ (ps : List (List ℕ)). filter is_hidden ps) keys));
  },
)
opens_up h o names others paths (Err NotATable) inner outer keys hidden rest absent = sym (name_same h o inner outer Config) ∙ absent
opens_up h o names others paths (Err (Version found)) inner outer keys hidden rest other = (other.0, sym (name_same h o inner outer Config) ∙ other.1, other.2)
opens_up h o names others paths (Err (Damaged path)) inner outer keys hidden rest (current, least) = (
  config_up h o (name_same h o inner outer Config) current,
  record {
    damaged = λ sound. least.0 (sound_down h o inner outer path sound);
    least = λ other less. sound_up h o inner outer other (least.1 other less);
  },
)
opens_up h o names others paths (Err StoreFault) inner outer keys hidden rest fault = tt
opens_up h o names others paths (Err NoMemory) inner outer keys hidden rest fault = tt

pub opens_from : (before : Option (List Change)) (h : Objects) (names others paths : List (List ℕ)) (r : Result Folder ReadError) → IfSome before (λ j. paths ≡ paths_with [] (objects_of j)) → names ≡ filter is_hidden paths →
    others ≡ filter (λ path. not (is_hidden path)) paths → IfSome before (λ j. AreHeld h (objects_of j) names names) → OpensHeld h names others r → IfSome before (λ j. Opens (objects_of j) r)
opens_from None h names others paths r told hidden rest held opens = tt
opens_from (Some j) h names others paths r told hidden rest held opens = opens_up h (objects_of j) names others paths r inner outer keys hidden rest opens
  where
    keys : paths ≡ finmap.keys (objects_of j)
    keys = told ∙ all_paths (objects_of j)

    nothing_new : (q : List ℕ) → at_path (objects_of j) q ≡ None → (y : Option (List ℕ)) → at_path h q ≡ y → IsSome y → ⊥
    nothing_new q none None is stands = absurd (cc stands)
    nothing_new q none (Some bytes) is stands = absurd (cc (sym none ∙ (held.only q bytes is).0))

    inner : (q : List ℕ) → IsHidden q → at_path h q ≡ at_path (objects_of j) q
    inner q hid = from (at_path (objects_of j) q) refl
      where
        from : (x : Option (List ℕ)) → at_path (objects_of j) q ≡ x → at_path h q ≡ at_path (objects_of j) q
        from None none = none_from (at_path h q) (λ stands. nothing_new q none (at_path h q) refl stands) ∙ sym none
        from (Some bytes) stands =
            let among : Contains (finmap.keys (objects_of j)) q = in_keys (objects_of j) q (is_some_same _ _ stands refl) in
            let named : Contains names q = subst (λ (ps : List (List ℕ)). Contains ps q) (sym (hidden ∙ ap (λ (ps : List (List ℕ)). filter is_hidden ps) keys)) (among_filter is_hidden (finmap.keys (objects_of j)) q among hid) in
            All-contains (λ (path : List ℕ). at_path h path ≡ at_path (objects_of j) path) names q held.found named

    outer : (q : List ℕ) → is_hidden q ≡ false → at_path h q ≡ None
    outer q outside = none_from (at_path h q) (λ stands. from (at_path h q) refl stands)
      where
        from : (y : Option (List ℕ)) → at_path h q ≡ y → IsSome y → ⊥
        from None is stands = absurd (cc stands)
        from (Some bytes) is stands =
            let named : Contains (filter is_hidden paths) q = subst (λ (ps : List (List ℕ)). Contains ps q) hidden (held.only q bytes is).1 in
            absurd (cc (sym outside ∙ All-contains (λ (path : List ℕ). is_hidden path ≡ true) (filter is_hidden paths) q (filter_passes is_hidden paths) named))
