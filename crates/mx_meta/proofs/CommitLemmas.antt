-- A commit's object has no float, nests little, and reads back.
use Rattle.std.proofs.Common.{◌≡◌, ℕ, ◌≤◌, ◌<◌, ◌^◌, ◌+◌, Bool, true, false, List, [], ◌∷◌, ◌++◌, length, take, get_or, map, Result, Option, Some, None, Ordering, Less, Greater, All, refl, sym, ap, ◌∙◌, arith}
use Rattle.std.specs.Prelude.{codes, fold, IfOk, IfSome, IsUtf8, if◌then◌else◌, option_map, option_and_then}
use Rattle.std.specs.List.{AllByRecursion}
use Rattle.std.specs.List.Sorted.{IsStrictlySortedBy}
use Rattle.std.specs.Ordering.{nat_cmp, match_ordering, ordering_reverse}
use Rattle.std.specs.Cmp.Lexicographic.{slice_cmp, nat_list_cmp_total}
use Rattle.std.specs.Str.{bytes_eq}
use Rattle.std.proofs.lemmas.Bool.{false_from_ne_true}
use Rattle.std.proofs.lemmas.Bool.Decides.{Decides-ltb}
use Rattle.std.proofs.lemmas.List.{take_more}
use Rattle.std.proofs.lemmas.List.Sums.{fold_push}
use Rattle.std.proofs.lemmas.List.Elements.{All-head, All-tail}
use Rattle.std.proofs.lemmas.Slice.Eq.{bytes_eq-Decides}
use Rattle.serde_json.specs.Data.{Data, number, unsigned, string, object, depth, items_depth, members_depth, Members, no_members, member, put}
use Rattle.serde_json.specs.View.{items_of}
use Rattle.serde_json.specs.Read.{read}
use Rattle.serde_json.specs.Written.{has_float, items_have_float, members_have_float}
use Rattle.mx_base.specs.Digits.{instant_text}
use Rattle.mx_base.specs.Paths.{instant_of}
use Rattle.mx_base.proofs.Places.{length-instant}
use Rattle.mx_base.proofs.PathLemmas.{instant_of-instant_text}
use Rattle.mx_meta.specs.declared.commit_meta.WriteStat.{WriteStat}
use Rattle.mx_meta.specs.declared.commit_meta.PartitionStats.{PartitionStats}
use Rattle.mx_meta.specs.declared.commit_meta.CommitMeta.{CommitMeta}
use Rattle.mx_meta.specs.Json.{each_in, count_in, passing}
use Rattle.mx_meta.specs.Rising.{is_rising}
use Rattle.mx_meta.specs.CommitText.{stat_below, partition_in, by_partition_in, prev_text, stat_data, stats_data, partitions_data, commit_meta_data, prev_in, stat_in, stats_in, partitions_in, commit_meta_in, commit_meta_of, HasSmallCounts, IsWellFormed, HasNames, HasNamesWithin}
use Rattle.mx_meta.proofs.JsonLemmas.{neither, put_no_float, put_depth}
use Rattle.mx_meta.proofs.PathListLemmas.{read_again}

-- ---- no floats

stat_no_float : (stat : WriteStat) → has_float (stat_data stat) ≡ false
unfolding stat_data
stat_no_float stat = refl

stats_no_float : (stats : List WriteStat) → items_have_float (items_of (map stat_data stats)) ≡ false
stats_no_float [] = refl
stats_no_float (stat ∷ stats) = neither (has_float (stat_data stat)) _ (stat_no_float stat) (stats_no_float stats)

abbrev with_partition : Members → PartitionStats → Members
with_partition members p = put p.partition (stats_data p.stats) members

partitions_no_float : (members : Members) (ps : List PartitionStats) → members_have_float members ≡ false → members_have_float (fold with_partition members ps) ≡ false
partitions_no_float ms [] is = is
partitions_no_float ms (p ∷ ps) is = partitions_no_float (with_partition ms p) ps (put_no_float p.partition (stats_data p.stats) ms (stats_no_float p.stats) is)

pub commit_meta_data-no_float : (meta : CommitMeta) → has_float (commit_meta_data meta) ≡ false
unfolding commit_meta_data
commit_meta_data-no_float meta = neither (members_have_float (partitions_data meta.partitions)) false (partitions_no_float no_members meta.partitions refl) refl

-- ---- four levels

stat_depth : (stat : WriteStat) → depth (stat_data stat) ≤ 1
unfolding stat_data
stat_depth stat = omega arith

stats_depth : (stats : List WriteStat) → items_depth (items_of (map stat_data stats)) ≤ 1
stats_depth [] = omega arith
stats_depth (stat ∷ stats) = omega (arith, stat_depth stat, stats_depth stats)

partitions_depth : (members : Members) (ps : List PartitionStats) → members_depth members ≤ 2 → members_depth (fold with_partition members ps) ≤ 2
partitions_depth ms [] is = is
partitions_depth ms (p ∷ ps) is = partitions_depth (with_partition ms p) ps (put_depth p.partition (stats_data p.stats) ms 2 (omega (arith, stats_depth p.stats)) is)

pub depth-commit_meta_data : (meta : CommitMeta) → depth (commit_meta_data meta) ≤ 127
unfolding commit_meta_data
depth-commit_meta_data meta = omega (arith, partitions_depth no_members meta.partitions (omega arith))

-- ---- read back

prev_back : (prev : Option ℕ) → IfSome prev (λ at. at < 10 ^ 17) → prev_in (string (prev_text prev)) ≡ Some prev
unfolding prev_in
prev_back None small = refl
prev_back (Some at) small =
    ap (λ (same : Bool). if same then Some None else option_map (λ t. Some t) (instant_of (instant_text at)))
    (false_from_ne_true (bytes_eq (instant_text at) (codes "null")) (λ is. absurd (omega (arith, length-instant at, ap length ((bytes_eq-Decides (instant_text at) (codes "null")).0 is)))))
    ∙ ap (λ (o : Option ℕ). option_map (λ t. Some t) o) (instant_of-instant_text at small)

count_back : (n : ℕ) → n < 2 ^ 63 → count_in (number (unsigned n)) ≡ Some n
unfolding count_in
count_back n small = ap (λ (b : Bool). if b then Some n else None) ((Decides-ltb n (2 ^ 63)).1 small)

stat_back : (stat : WriteStat) → HasNames stat → HasSmallCounts stat → stat_in (stat_data stat) ≡ Some stat
unfolding stat_in stat_data
stat_back stat names counts =
    let size : count_in (number (unsigned stat.file_size_in_bytes)) ≡ Some stat.file_size_in_bytes = count_back stat.file_size_in_bytes counts.size in
    let writes : count_in (number (unsigned stat.num_writes)) ≡ Some stat.num_writes = count_back stat.num_writes counts.writes in
    let prev : prev_in (string (prev_text stat.prev_commit)) ≡ Some stat.prev_commit = prev_back stat.prev_commit names.prev in
    rw (names.file_id, size, writes, names.path, prev) refl

each_stat_back : (stats : List WriteStat) → All HasNames stats → All HasSmallCounts stats → each_in stat_in (items_of (map stat_data stats)) ≡ Some stats
each_stat_back [] names counts = refl
each_stat_back (stat ∷ stats) names counts =
    ap (λ (o : Option WriteStat). option_and_then (λ x. option_map (λ xs. x ∷ xs) (each_in stat_in (items_of (map stat_data stats)))) o)
    (stat_back stat (All-head HasNames stat stats names) (All-head HasSmallCounts stat stats counts))
    ∙ ap (λ (o : Option (List WriteStat)). option_map (λ xs. stat ∷ xs) o) (each_stat_back stats (All-tail HasNames stat stats names) (All-tail HasSmallCounts stat stats counts))

stats_back : (stats : List WriteStat) → All HasNames stats → All HasSmallCounts stats → is_rising stat_below stats ≡ true → stats_in (stats_data stats) ≡ Some stats
unfolding stats_in
stats_back stats names counts rising =
    ap (passing (is_rising stat_below)) (each_stat_back stats names counts) ∙ ap (λ (b : Bool). if b then Some stats else None) rising

-- the members in the order of the list
abbrev in_turn : List PartitionStats → Members
in_turn [] = no_members
in_turn (p ∷ ps) = member p.partition (stats_data p.stats) (in_turn ps)

abbrev then_members : Members → Members → Members
then_members no_members more = more
then_members (member name d ms) more = member name d (then_members ms more)

then_none : (ms : Members) → then_members ms no_members ≡ ms
then_none no_members = refl
then_none (member name d ms) = ap (member name d) (then_none ms)

then_then : (a b c : Members) → then_members (then_members a b) c ≡ then_members a (then_members b c)
then_then no_members b c = refl
then_then (member name d ms) b c = ap (member name d) (then_then ms b c)

-- each name of the members is below this one
abbrev AreBelow : Members → List ℕ → Type 0
AreBelow no_members name = Unit {0}
AreBelow (member other d ms) name = (slice_cmp nat_cmp name other ≡ Greater) × AreBelow ms name

put_above : (name : List ℕ) (d : Data) (ms : Members) → AreBelow ms name → put name d ms ≡ then_members ms (member name d no_members)
put_above name d no_members below = refl
put_above name d (member other e ms) below =
    ap (λ (o : Ordering). match_ordering o (member name d (member other e ms)) (member other d ms) (member other e (put name d ms))) below.0
    ∙ ap (member other e) (put_above name d ms below.1)

below_later : (ms : Members) (name later : List ℕ) (d : Data) → AreBelow ms later → slice_cmp nat_cmp name later ≡ Less → AreBelow (then_members ms (member name d no_members)) later
below_later no_members name later d below less = (nat_list_cmp_total.antisymm later name ∙ ap ordering_reverse less, tt)
below_later (member other e ms) name later d below less = (below.0, below_later ms name later d below.1 less)

abbrev names_of_partitions : List PartitionStats → List (List ℕ)
names_of_partitions ps = map (λ p. p.partition) ps

each_below : (ms : Members) (name : List ℕ) (d : Data) (qs : List (List ℕ)) → AllByRecursion (λ q. AreBelow ms q) qs → AllByRecursion (λ q. slice_cmp nat_cmp name q ≡ Less) qs →
    AllByRecursion (λ q. AreBelow (then_members ms (member name d no_members)) q) qs
each_below ms name d [] below less = below
each_below ms name d (q ∷ qs) below less = (below_later ms name q d below.0 less.0, each_below ms name d qs below.1 less.1)

none_below : (qs : List (List ℕ)) → AllByRecursion (λ q. AreBelow no_members q) qs
none_below [] = tt
none_below (q ∷ qs) = (tt, none_below qs)

put_in_turn : (ms : Members) (ps : List PartitionStats) → AllByRecursion (λ q. AreBelow ms q) (names_of_partitions ps) → IsStrictlySortedBy (slice_cmp nat_cmp) (names_of_partitions ps) →
    fold with_partition ms ps ≡ then_members ms (in_turn ps)
unfolding IsStrictlySortedBy
put_in_turn ms [] below rising = sym (then_none ms)
put_in_turn ms (p ∷ ps) below rising =
    ap (λ (m : Members). fold with_partition m ps) (put_above p.partition (stats_data p.stats) ms below.0)
    ∙ put_in_turn (then_members ms (member p.partition (stats_data p.stats) no_members)) ps (each_below ms p.partition (stats_data p.stats) (names_of_partitions ps) below.1 rising.0) rising.1
    ∙ then_then ms (member p.partition (stats_data p.stats) no_members) (in_turn ps)

partition_back : (p : PartitionStats) → HasNamesWithin p → All HasSmallCounts p.stats → is_rising stat_below p.stats ≡ true → partition_in p.partition (stats_data p.stats) ≡ Some p
partition_back p names counts rising =
    ap (λ (b : Bool). if b then option_map (λ stats. record { partition = p.partition; stats = stats }) (stats_in (stats_data p.stats)) else None) names.partition
    ∙ ap (λ (o : Option (List WriteStat)). option_map (λ stats. record { partition = p.partition; stats = stats }) o) (stats_back p.stats names.stats counts rising)

in_turn_back : (ps : List PartitionStats) → All HasNamesWithin ps → All (λ p. All HasSmallCounts p.stats) ps → All (λ p. is_rising stat_below p.stats ≡ true) ps → partitions_in (in_turn ps) ≡ Some ps
in_turn_back [] names counts rising = refl
in_turn_back (p ∷ ps) names counts rising =
    ap (λ (o : Option PartitionStats). option_and_then (λ q. option_map (λ more. q ∷ more) (partitions_in (in_turn ps))) o)
    (partition_back p (All-head HasNamesWithin p ps names) (All-head (λ q. All HasSmallCounts q.stats) p ps counts) (All-head (λ q. is_rising stat_below q.stats ≡ true) p ps rising))
    ∙ ap (λ (o : Option (List PartitionStats)). option_map (λ more. p ∷ more) o)
    (in_turn_back ps (All-tail HasNamesWithin p ps names) (All-tail (λ q. All HasSmallCounts q.stats) p ps counts) (All-tail (λ q. is_rising stat_below q.stats ≡ true) p ps rising))

by_partition_back : (meta : CommitMeta) → IsWellFormed meta → All HasNamesWithin meta.partitions → by_partition_in (object (partitions_data meta.partitions)) ≡ Some meta.partitions
unfolding by_partition_in
by_partition_back meta well names =
    ap partitions_in (put_in_turn no_members meta.partitions (none_below (names_of_partitions meta.partitions)) well.rising) ∙ in_turn_back meta.partitions names well.counts well.ordered

-- one partition more
pub partitions_more : (old new : Members) (d : Data) (ps : List PartitionStats) (i : ℕ) (p : PartitionStats) →
    new ≡ put p.partition d old → old ≡ partitions_data (take i ps) → d ≡ stats_data p.stats → i < length ps → p ≡ get_or ps i p → new ≡ partitions_data (take (i + 1) ps)
partitions_more old new d ps i p is made here within item =
    is ∙ ap (put p.partition d) made ∙ ap (λ (e : Data). put p.partition e (partitions_data (take i ps))) here
    ∙ sym (ap partitions_data (take_more ps i p within ∙ ap (λ (q : PartitionStats). take i ps ++ q ∷ []) (sym item)) ∙ fold_push with_partition no_members (take i ps) p)

-- what is printed is read
pub reads_back : {E : Type 0} (r : Result (List ℕ) E) (meta : CommitMeta) (d : Data) → d ≡ commit_meta_data meta → IfOk r (λ bytes. IsUtf8 bytes) → IfOk r (λ bytes. read bytes ≡ Some d) →
    IsWellFormed meta → All HasNamesWithin meta.partitions → IfOk r (λ bytes. commit_meta_of bytes ≡ Some meta)
unfolding commit_meta_of commit_meta_in commit_meta_data
reads_back r meta d is utf8 reads well names =
    let back : by_partition_in (object (partitions_data meta.partitions)) ≡ Some meta.partitions = by_partition_back meta well names in
    read_again commit_meta_in meta r d (commit_meta_data meta) is utf8 reads refl (rw back (rw back refl))
