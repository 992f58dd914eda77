-- The files that commits list are data files of completed commits, and stand outside `.hoodie/`.
use Rattle.std.proofs.Common.{◌≡◌, ◌≢◌, ℕ, zero, suc, ◌^◌, arith, true, false, List, [], ◌∷◌, ◌++◌, get_or, Option, Some, None, refl, sym, ◌∙◌, ap, subst, nat_eq}
use Rattle.std.specs.Prelude.{All, Contains, nat_lt, map, option_map, option_and_then}
use Rattle.std.specs.Option.{option_to_list}
use Rattle.std.proofs.lemmas.Bool.{and_parts, false_from_ne_true}
use Rattle.std.proofs.lemmas.Bool.Decides.{nat_tests, Decides-ltb}
use Rattle.std.proofs.lemmas.Grind.{flat_map-append}
use Rattle.std.proofs.lemmas.List.Elements.{All-map, All-append, All-contains, All-head, All-tail, All-weaker}
use Rattle.mx_base.specs.DataFiles.{IsDataFileAt}
use Rattle.mx_base.specs.Names.{IsPartition, IsFileId}
use Rattle.mx_base.specs.Paths.{data_path, data_file_name}
use Rattle.mx_base.specs.declared.data_file.DataFile.{DataFile}
use Rattle.mx_base.specs.declared.entry.FileAt.{FileAt}
use Rattle.mx_base.specs.declared.object_name.ObjectName.TheVariants.{Config}
use Rattle.mx_base.proofs.DataLemmas.{the_file}
use Rattle.mx_base.proofs.NameLemmas.{IsPartition-no_dot, length-IsFileId}
use Rattle.mx_meta.specs.CommitText.{commit_meta_of, HasNames, HasNamesWithin}
use Rattle.mx_meta.specs.declared.commit_meta.CommitMeta.{CommitMeta}
use Rattle.mx_meta.specs.declared.commit_meta.PartitionStats.{PartitionStats}
use Rattle.mx_meta.specs.declared.commit_meta.WriteStat.{WriteStat}
use Rattle.mx_model.specs.Listing.{file_of, files_of, listed_files}
use Rattle.mx_model.specs.Timeline.{action_of}
use Rattle.mx_model.specs.declared.action.Action.{Action}
use Rattle.mx_store.specs.Objects.{Objects, at_path}
use Rattle.mx_folder.specs.Named.{object_at, commit_name, is_hidden}
use Rattle.mx_folder.specs.Actions.{IsCompleted, action_at, actions_upto}
use Rattle.mx_folder.specs.Files.{place_of, Lists, HoldsRows}
use Rattle.mx_folder.specs.Reading.{IsDataFileOf}
use Rattle.mx_folder.proofs.ActionLemmas.{completed_action}
use Rattle.mx_folder.proofs.NamedLemmas.{object_at-stands}
use Rattle.mx_folder.proofs.NamesReadLemmas.{commit_named}

-- ---- data files stand outside

same_first : (a : ℕ) (more : List ℕ) → is_hidden (a ∷ more) ≡ true → nat_eq 46 a ≡ true
same_first a more is = (and_parts (nat_eq 46 a) _ is).0

eq_first : (a : ℕ) → nat_eq 46 a ≡ true → 46 ≡ a
eq_first a is = grind (arith, nat_tests)

outside_first : (partition rest : List ℕ) → get_or partition 0 46 ≢ 46 → is_hidden (partition ++ rest) ≡ false
outside_first [] rest no_dot = absurd (no_dot refl)
outside_first (a ∷ more) rest no_dot = false_from_ne_true (is_hidden (a ∷ (more ++ rest))) (λ hidden. no_dot (sym (eq_first a (same_first a (more ++ rest) hidden))))

pub data_outside : (path : List ℕ) (file : DataFile) → IsDataFileAt path file → is_hidden path ≡ false
unfolding data_path
data_outside path file is = ap is_hidden is.is ∙ outside_first file.partition (47 ∷ data_file_name file.file file.at) (IsPartition-no_dot file.partition is.partition)

-- ---- the files that commits list

-- the file is of the instant, and its names are names
record IsOf (at : ℕ) (file : FileAt) : Type 0 where
  partition : IsPartition file.partition
  group : IsFileId file.file
  dated : file.at ≡ at

files_named : (at : ℕ) (ps : List PartitionStats) → All HasNamesWithin ps → All (IsOf at) (files_of (record { at = at; meta = record { partitions = ps } }))
files_named at [] named = λ k d within. absurd (omega (arith, within))
files_named at (p ∷ ps) named =
    let names = All-head HasNamesWithin p ps named in
    All-append (IsOf at) (map (file_of at p.partition) p.stats) (files_of (record { at = at; meta = record { partitions = ps } }))
    (All-map (IsOf at) (file_of at p.partition) p.stats (All-weaker HasNames (λ (s : WriteStat). IsOf at (file_of at p.partition s)) (λ s has. record { partition = names.partition; group = has.file_id; dated = refl }) p.stats names.stats))
    (files_named at ps (All-tail HasNamesWithin p ps named))

-- a commit that counts reads
action_reads : (o : Objects) (at : ℕ) (action : Action) → action_at o at ≡ Some action → (bytes : List ℕ) × (commit_meta_of bytes ≡ Some action.meta)
unfolding action_at
action_reads o at action is = from (object_at o (commit_name at)) is
  where
    by_meta : (m : Option CommitMeta) → ◌≡◌ {A = Option Action} (option_map (λ (m : CommitMeta). record { at = at; meta = m }) m) (Some action) → m ≡ Some action.meta
    by_meta None h = absurd (cc h)
    by_meta (Some meta) h = ap (λ (a : Option Action). option_map (λ (b : Action). b.meta) a) h

    from : (x : Option (List ℕ)) → option_and_then (action_of at) x ≡ Some action → (bytes : List ℕ) × (commit_meta_of bytes ≡ Some action.meta)
    from None h = absurd (cc h)
    from (Some bytes) h = (bytes, by_meta (commit_meta_of bytes) h)

-- the file is one of a completed commit, and its names are names
record IsListed (o : Objects) (file : FileAt) : Type 0 where
  partition : IsPartition file.partition
  group : IsFileId file.file
  completed : IsCompleted o file.at

action_lists : (o : Objects) (at : ℕ) → All (IsListed o) (listed_files (option_to_list (action_at o at)))
action_lists o at = from (action_at o at) refl
  where
    one : (action : Action) → action_at o at ≡ Some action → All (IsListed o) (files_of action)
    one action is =
        let done = completed_action o at action is in
        let reads = action_reads o at action is in
        All-weaker (IsOf action.at) (IsListed o)
        (λ file of. record { partition = of.partition; group = of.group; completed = subst (IsCompleted o) (sym (of.dated ∙ done.0)) done.1 })
        (files_of action) (files_named action.at action.meta.partitions (commit_named reads.0 action.meta reads.1))

    from : (x : Option Action) → action_at o at ≡ x → All (IsListed o) (listed_files (option_to_list x))
    from None is = λ k d within. absurd (omega (arith, within))
    from (Some action) is = All-append (IsListed o) (files_of action) [] (one action is) (λ k d within. absurd (omega (arith, within)))

all_listed : (o : Objects) (upto : ℕ) → All (IsListed o) (listed_files (actions_upto o upto))
unfolding actions_upto
all_listed o zero = action_lists o 0
all_listed o (suc upto) = subst (All (IsListed o)) (sym (flat_map-append files_of (actions_upto o upto) (option_to_list (action_at o (suc upto)))))
    (All-append (IsListed o) (listed_files (actions_upto o upto)) (listed_files (option_to_list (action_at o (suc upto)))) (all_listed o upto) (action_lists o (suc upto)))

-- ---- what is listed is a data file

abbrev data_file_of : FileAt → DataFile
data_file_of file = record { partition = file.partition; file = file.file; at = file.at }

pub listed_completed : (o : Objects) (upto : ℕ) (file : FileAt) → Contains (listed_files (actions_upto o upto)) file → IsCompleted o file.at
listed_completed o upto file among = (All-contains (IsListed o) (listed_files (actions_upto o upto)) file (all_listed o upto) among).completed

pub listed_file : (o : Objects) (upto : ℕ) (file : FileAt) → Contains (listed_files (actions_upto o upto)) file → IsDataFileAt (place_of file) (record { partition = file.partition; file = file.file; at = file.at })
listed_file o upto file among =
    let listed = All-contains (IsListed o) (listed_files (actions_upto o upto)) file (all_listed o upto) among in
    let named = object_at-stands o (commit_name file.at) listed.completed in
    let tests = and_parts (nat_lt 0 file.at) (nat_lt file.at (10 ^ 17)) named.0 in
    record {
      partition = listed.partition;
      group = listed.group;
      meant = (Decides-ltb 0 file.at).0 tests.0;
      small = (Decides-ltb file.at (10 ^ 17)).0 tests.1;
      is = refl;
    }

module _ (o : Objects) (path : List ℕ) (lists : Lists o path) where
  pub lists_outside : is_hidden path ≡ false
  lists_outside = ap is_hidden lists.path_is ∙ data_outside (place_of lists.file) (data_file_of lists.file) (listed_file o lists.upto lists.file lists.among)

  pub lists_completed : (at : ℕ) → IsDataFileOf at path → IsCompleted o at
  lists_completed at of =
      let listed = listed_file o lists.upto lists.file lists.among in
      let same = the_file path lists.file.partition lists.file.file lists.file.at of.0 (length-IsFileId lists.file.file listed.group) listed.small lists.path_is of.1 in
      subst (IsCompleted o) (same.2 ∙ of.2) (listed_completed o lists.upto lists.file lists.among)

-- ---- folders that list the same, and hold the same

pub lists_same : (o n : Objects) (path : List ℕ) (lists : Lists n path) → actions_upto n lists.upto ≡ actions_upto o lists.upto → Lists o path
lists_same o n path lists same = record {
  upto = lists.upto;
  file = lists.file;
  among = subst (λ (done : List Action). Contains (listed_files done) lists.file) same lists.among;
  path_is = lists.path_is;
}

pub holds_same : (o n : Objects) (path : List ℕ) → object_at n Config ≡ object_at o Config → at_path n path ≡ at_path o path → HoldsRows o path → HoldsRows n path
holds_same o n path config_same same holds = record {
  schema = holds.schema;
  of_table = record {
    config = holds.of_table.config;
    is_config = holds.of_table.is_config;
    stands = config_same ∙ holds.of_table.stands;
    schema_is = holds.of_table.schema_is;
  };
  bytes = holds.bytes;
  stands = same ∙ holds.stands;
  rows = holds.rows;
  decodes = holds.decodes;
}
