-- The names in a commit's object that reads are names.
use Rattle.std.proofs.Common.{◌≡◌, ℕ, ◌<◌, ◌^◌, Bool, true, false, List, [], ◌∷◌, Option, Some, None, refl, subst, arith}
use Rattle.std.specs.Prelude.{codes, All, IfSome, ◌&&◌, nat_lt, if◌then◌else◌, option_map, option_and_then}
use Rattle.std.specs.Str.{bytes_eq}
use Rattle.std.proofs.lemmas.Bool.Decides.{Decides-ltb}
use Rattle.std.proofs.lemmas.List.Elements.{All-cons}
use Rattle.serde_json.specs.Data.{Data, Items, no_items, item, Members, no_members, member}
use Rattle.serde_json.specs.Find.{get, as_str, as_array, as_object}
use Rattle.mx_base.specs.Digits.{instant_text}
use Rattle.mx_base.specs.Names.{is_file_id, IsFileId, is_partition, is_path, IsPath}
use Rattle.mx_base.specs.Paths.{instant_of, number_of}
use Rattle.mx_meta.specs.CommitText.{prev_in, stat_in, stat_below, stats_in, partition_in, partitions_in, by_partition_in, commit_meta_fields, commit_meta_in, commit_meta_of, HasNames, HasNamesWithin}
use Rattle.mx_meta.specs.Fields.{with_fields, object_of}
use Rattle.mx_meta.specs.Json.{with_names, field_in, each_in, text_in, count_in, passing}
use Rattle.mx_meta.specs.Rising.{is_rising}
use Rattle.mx_meta.specs.declared.commit_meta.WriteStat.{WriteStat}
use Rattle.mx_meta.specs.declared.commit_meta.PartitionStats.{PartitionStats}
use Rattle.mx_meta.specs.declared.commit_meta.CommitMeta.{CommitMeta}

-- ---- what readers give

text_named : (test : List ℕ → Bool) (d : Data) → IfSome (text_in test d) (λ (text : List ℕ). test text ≡ true)
text_named test d = from (as_str d)
  where
    chosen : (text : List ℕ) (b : Bool) → test text ≡ b → IfSome (if b then Some text else None) (λ (t : List ℕ). test t ≡ true)
    chosen text true is = is
    chosen text false is = tt

    from : (o : Option (List ℕ)) → IfSome (option_and_then (λ (text : List ℕ). if test text then Some text else None) o) (λ (t : List ℕ). test t ≡ true)
    from None = tt
    from (Some text) = chosen text (test text) refl

field_named : {T : Type 0} (P : T → Type 0) (f : Data → Option T) → ((d : Data) → IfSome (f d) P) → (name : List ℕ) (d : Data) → IfSome (field_in f name d) P
field_named P f each name d = from (get name d)
  where
    from : (o : Option Data) → IfSome (option_and_then f o) P
    from None = tt
    from (Some e) = each e

each_named : {T : Type 0} (P : T → Type 0) (f : Data → Option T) → ((d : Data) → IfSome (f d) P) → (items : Items) → IfSome (each_in f items) (All P)
each_named P f each no_items = λ k d within. absurd (omega (arith, within))
each_named {T} P f each (item d ds) = both (f d) (each_in f ds) (each d) (each_named P f each ds)
  where
    both : (o : Option T) (more : Option (List T)) → IfSome o P → IfSome more (All P) → IfSome (option_and_then (λ (x : T). option_map (λ (xs : List T). x ∷ xs) more) o) (All P)
    both None more here there = tt
    both (Some x) None here there = tt
    both (Some x) (Some xs) here there = All-cons P x xs here there

passing_named : {T : Type 0} (P : T → Type 0) (test : T → Bool) (o : Option T) → IfSome o P → IfSome (passing test o) P
passing_named P test None is = tt
passing_named {T} P test (Some x) is = chosen (test x)
  where
    chosen : (b : Bool) → IfSome (if b then Some x else None) P
    chosen true = is
    chosen false = tt

-- ---- a file's entry

small_instant : (text : List ℕ) → IfSome (instant_of text) (λ (at : ℕ). at < 10 ^ 17)
unfolding instant_of
small_instant text = tested (number_of text) (nat_lt (number_of text) (10 ^ 17)) (bytes_eq text (instant_text (number_of text))) refl
  where
    tested : (at : ℕ) (a b : Bool) → nat_lt at (10 ^ 17) ≡ a → IfSome (if a && b then Some at else None) (λ (n : ℕ). n < 10 ^ 17)
    tested at true true is = (Decides-ltb at (10 ^ 17)).0 is
    tested at true false is = tt
    tested at false b is = tt

prev_named : (d : Data) → IfSome (prev_in d) (λ (prev : Option ℕ). IfSome prev (λ (at : ℕ). at < 10 ^ 17))
unfolding prev_in
prev_named d = from (as_str d)
  where
    dated : (o : Option ℕ) → IfSome o (λ (at : ℕ). at < 10 ^ 17) → IfSome (option_map (λ (at : ℕ). Some at) o) (λ (prev : Option ℕ). IfSome prev (λ (at : ℕ). at < 10 ^ 17))
    dated None is = tt
    dated (Some at) is = is

    chosen : (text : List ℕ) (b : Bool) → IfSome (if b then Some None else option_map (λ (at : ℕ). Some at) (instant_of text)) (λ (prev : Option ℕ). IfSome prev (λ (at : ℕ). at < 10 ^ 17))
    chosen text true = tt
    chosen text false = dated (instant_of text) (small_instant text)

    from : (o : Option (List ℕ)) → IfSome (option_and_then (λ (text : List ℕ). if bytes_eq text (codes "null") then Some None else option_map (λ (at : ℕ). Some at) (instant_of text)) o) (λ (prev : Option ℕ). IfSome prev (λ (at : ℕ). at < 10 ^ 17))
    from None = tt
    from (Some text) = chosen text (bytes_eq text (codes "null"))

-- an entry, where each of its fields reads
abbrev stat_from : Option (List ℕ) → Option ℕ → Option ℕ → Option (List ℕ) → Option (Option ℕ) → Option WriteStat
stat_from id size writes path prev =
    option_and_then (λ id. option_and_then (λ size. option_and_then (λ writes. option_and_then (λ path.
    option_map (λ prev. record { file_id = id; file_size_in_bytes = size; num_writes = writes; path = path; prev_commit = prev }) prev) path) writes) size) id

fields_named : (id : Option (List ℕ)) (size writes : Option ℕ) (path : Option (List ℕ)) (prev : Option (Option ℕ)) → IfSome id IsFileId → IfSome path IsPath → IfSome prev (λ (p : Option ℕ). IfSome p (λ (at : ℕ). at < 10 ^ 17)) → IfSome (stat_from id size writes path prev) HasNames
fields_named None size writes path prev is_id is_path is_prev = tt
fields_named (Some id) None writes path prev is_id is_path is_prev = tt
fields_named (Some id) (Some size) None path prev is_id is_path is_prev = tt
fields_named (Some id) (Some size) (Some writes) None prev is_id is_path is_prev = tt
fields_named (Some id) (Some size) (Some writes) (Some path) None is_id is_path is_prev = tt
fields_named (Some id) (Some size) (Some writes) (Some path) (Some prev) is_id is_path is_prev = record { file_id = is_id; path = is_path; prev = is_prev }

stat_named : (d : Data) → IfSome (stat_in d) HasNames
unfolding stat_in
stat_named d = from (with_names (codes "fileId" ∷ codes "fileSizeInBytes" ∷ codes "numWrites" ∷ codes "path" ∷ codes "prevCommit" ∷ []) d)
  where
    from : (o : Option Data) → IfSome (option_and_then (λ (e : Data). stat_from (field_in (text_in is_file_id) (codes "fileId") e) (field_in count_in (codes "fileSizeInBytes") e) (field_in count_in (codes "numWrites") e) (field_in (text_in is_path) (codes "path") e) (field_in prev_in (codes "prevCommit") e)) o) HasNames
    from None = tt
    from (Some e) = fields_named
        (field_in (text_in is_file_id) (codes "fileId") e) (field_in count_in (codes "fileSizeInBytes") e) (field_in count_in (codes "numWrites") e) (field_in (text_in is_path) (codes "path") e) (field_in prev_in (codes "prevCommit") e)
        (field_named IsFileId (text_in is_file_id) (text_named is_file_id) (codes "fileId") e)
        (field_named IsPath (text_in is_path) (text_named is_path) (codes "path") e)
        (field_named (λ (p : Option ℕ). IfSome p (λ (at : ℕ). at < 10 ^ 17)) prev_in prev_named (codes "prevCommit") e)

stats_named : (d : Data) → IfSome (stats_in d) (All HasNames)
unfolding stats_in
stats_named d = passing_named (All HasNames) (is_rising stat_below) (option_and_then (each_in stat_in) (as_array d)) (from (as_array d))
  where
    from : (o : Option Items) → IfSome (option_and_then (each_in stat_in) o) (All HasNames)
    from None = tt
    from (Some items) = each_named HasNames stat_in stat_named items

-- ---- a commit's object

partition_named : (name : List ℕ) (d : Data) → IfSome (partition_in name d) HasNamesWithin
partition_named name d = chosen (is_partition name) refl
  where
    made : is_partition name ≡ true → (o : Option (List WriteStat)) → IfSome o (All HasNames) → IfSome {T = PartitionStats} (option_map (λ stats. record { partition = name; stats = stats }) o) HasNamesWithin
    made is None names = tt
    made is (Some stats) names = record { partition = is; stats = names }

    chosen : (b : Bool) → is_partition name ≡ b → IfSome {T = PartitionStats} (if b then option_map (λ stats. record { partition = name; stats = stats }) (stats_in d) else None) HasNamesWithin
    chosen true is = made is (stats_in d) (stats_named d)
    chosen false is = tt

partitions_named : (members : Members) → IfSome (partitions_in members) (All HasNamesWithin)
partitions_named no_members = λ k d within. absurd (omega (arith, within))
partitions_named (member name d members) = both (partition_in name d) (partitions_in members) (partition_named name d) (partitions_named members)
  where
    both : (o : Option PartitionStats) (more : Option (List PartitionStats)) → IfSome o HasNamesWithin → IfSome more (All HasNamesWithin)
        → IfSome (option_and_then (λ (p : PartitionStats). option_map (λ (ps : List PartitionStats). p ∷ ps) more) o) (All HasNamesWithin)
    both None more here there = tt
    both (Some p) None here there = tt
    both (Some p) (Some ps) here there = All-cons HasNamesWithin p ps here there

by_partition_named : (d : Data) → IfSome (by_partition_in d) (All HasNamesWithin)
unfolding by_partition_in
by_partition_named d = from (as_object d)
  where
    from : (o : Option Members) → IfSome (option_and_then partitions_in o) (All HasNamesWithin)
    from None = tt
    from (Some members) = partitions_named members

meta_named : (d : Data) → IfSome (commit_meta_in d) (λ (meta : CommitMeta). All HasNamesWithin meta.partitions)
unfolding commit_meta_in
meta_named d = from (with_fields (commit_meta_fields d) d)
  where
    made : (o : Option (List PartitionStats)) → IfSome o (All HasNamesWithin) → IfSome {T = CommitMeta} (option_map (λ partitions. record { partitions = partitions }) o) (λ (meta : CommitMeta). All HasNamesWithin meta.partitions)
    made None names = tt
    made (Some partitions) names = names

    from : (o : Option Data) → IfSome {T = CommitMeta} (option_and_then (λ (e : Data). option_map (λ partitions. record { partitions = partitions }) (field_in by_partition_in (codes "partitionToWriteStats") e)) o) (λ (meta : CommitMeta). All HasNamesWithin meta.partitions)
    from None = tt
    from (Some e) = made (field_in by_partition_in (codes "partitionToWriteStats") e) (field_named (All HasNamesWithin) by_partition_in by_partition_named (codes "partitionToWriteStats") e)

pub commit_named : (bytes : List ℕ) (meta : CommitMeta) → commit_meta_of bytes ≡ Some meta → All HasNamesWithin meta.partitions
unfolding commit_meta_of
commit_named bytes meta reads = subst (λ (o : Option CommitMeta). IfSome o (λ (m : CommitMeta). All HasNamesWithin m.partitions)) reads (from (object_of bytes))
  where
    from : (o : Option Data) → IfSome (option_and_then commit_meta_in o) (λ (m : CommitMeta). All HasNamesWithin m.partitions)
    from None = tt
    from (Some d) = meta_named d
