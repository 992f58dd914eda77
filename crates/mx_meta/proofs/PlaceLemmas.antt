-- The log or base of a path is the one that the code finds.
use Rattle.std.proofs.Common.{◌≡◌, ℕ, ◌+◌, ◌<◌, ◌^◌, Bool, true, false, List, [], ◌∷◌, ◌++◌, ◌⊎◌, inl, inr, length, take, map, Option, Some, None, refl, sym, ap, ◌∙◌, subst, append_assoc, length-append, take_at, drop_at, arith}
use Rattle.std.specs.Prelude.{codes, cond, is_some, IfSome, ◌&&◌, nat_lt, option_and_then}
use Rattle.std.specs.List.{find}
use Rattle.std.specs.Str.{bytes_eq}
use Rattle.std.proofs.lemmas.Bool.Decides.{Decides-ltb}
use Rattle.std.proofs.lemmas.Slice.Eq.{bytes_eq-Decides}
use Rattle.mx_base.specs.Digits.{digits, instant_text}
use Rattle.mx_base.specs.Objects.{object_path, is_object_name, IsObjectName, part_front, shard_front, base_ending}
use Rattle.mx_base.specs.Paths.{number_of}
use Rattle.mx_base.specs.declared.object_name.BaseKind.{BaseKind}
use Rattle.mx_base.specs.declared.object_name.BaseKind.TheVariants.{Compaction, Indexing}
use Rattle.mx_base.specs.declared.object_name.ObjectName.{ObjectName}
use Rattle.mx_base.specs.declared.object_name.ObjectName.TheVariants as named
use Rattle.mx_base.specs.declared.part.Part.{Part}
use Rattle.mx_base.specs.declared.part.Part.TheVariants.{Files, ColumnStats, BloomFilters, RecordIndex}
use Rattle.mx_base.proofs.Places.{length-digits, length-instant}
use Rattle.mx_base.proofs.PathLemmas.{number_of_digits}
use Rattle.mx_meta.specs.declared.places.ShardFile.{ShardFile}
use Rattle.mx_meta.specs.declared.places.ShardFile.TheVariants.{Log, Base}
use Rattle.mx_meta.specs.Places.{number_at, names_at, shard_object, place_in, place_of}

-- ---- what is found

find_passes : {X : Type 0} (test : X → Bool) (xs : List X) (x : X) → find test xs ≡ Some x → test x ≡ true
find_passes test [] x is = absurd (cc is)
find_passes {X} test (y ∷ ys) x is = chosen (test y) refl is (find_passes test ys x)
  where
    chosen : (b : Bool) → test y ≡ b → cond b (Some y) (find test ys) ≡ Some x → (find test ys ≡ Some x → test x ≡ true) → test x ≡ true
    chosen true holds is later = let here : y ≡ x = cc is in ap test (sym here) ∙ holds
    chosen false holds is later = later is

abbrev Among : {X : Type 0} → X → List X → Type 0
Among x [] = ⊥
Among x (y ∷ ys) = (x ≡ y) ⊎ Among x ys

find_some : {X : Type 0} (test : X → Bool) (xs : List X) (x : X) → Among x xs → test x ≡ true → is_some (find test xs) ≡ true
find_some test [] x among holds = absurd among
find_some {X} test (y ∷ ys) x among holds = chosen (test y) refl among (λ more. find_some test ys x more holds)
  where
    chosen : (b : Bool) → test y ≡ b → (x ≡ y) ⊎ Among x ys → (Among x ys → is_some (find test ys) ≡ true) → is_some (cond b (Some y) (find test ys)) ≡ true
    chosen true is among later = refl
    chosen false is (inl here) later = absurd (cc (is, ap test here, holds))
    chosen false is (inr more) later = later more

-- ---- digits in a path

-- the number that digits at a place write
digits_at : (count behind n : ℕ) (front tail : List ℕ) → n < 10 ^ count → length tail ≡ behind → number_at count behind (front ++ (digits count n ++ tail)) ≡ n
digits_at count behind n front tail small is =
    ap (λ (rest : List ℕ). number_of (take count rest))
    (drop_at front (digits count n ++ tail) _ (omega (arith, length-append front (digits count n ++ tail), length-append (digits count n) tail, length-digits count n)))
    ∙ ap number_of (take_at (digits count n) tail count (length-digits count n))
    ∙ number_of_digits count n small

-- a shard's file has its shard and its instant in four and in seventeen digits
abbrev file_path : Part → ℕ → ℕ → List ℕ → List ℕ
file_path part shard at ending = shard_front part shard ++ (instant_text at ++ ending)

instant_at : (part : Part) (shard at behind : ℕ) (ending : List ℕ) → at < 10 ^ 17 → length ending ≡ behind → number_at 17 behind (file_path part shard at ending) ≡ at
unfolding instant_text
instant_at part shard at behind ending small is = digits_at 17 behind at (shard_front part shard) ending small is

regroup : (a b d u r : List ℕ) → (a ++ (b ++ (d ++ u))) ++ r ≡ (a ++ b) ++ (d ++ (u ++ r))
regroup a b d u r = simp append_assoc

shard_at : (part : Part) (shard at behind : ℕ) (ending : List ℕ) → shard < 10 ^ 4 → length ending + 18 ≡ behind → number_at 4 behind (file_path part shard at ending) ≡ shard
shard_at part shard at behind ending small is =
    ap (number_at 4 behind) (regroup (codes ".hoodie/metadata/") (part_front part) (digits 4 shard) (codes "_") (instant_text at ++ ending))
    ∙ digits_at 4 behind shard (codes ".hoodie/metadata/" ++ part_front part) (codes "_" ++ (instant_text at ++ ending)) small
    (omega (arith, length-append (instant_text at) ending, length-instant at))

-- ---- the names that a path can have

abbrev names_of : ℕ → ℕ → ℕ → ℕ → List ObjectName
names_of shard at base_shard upto =
    map (λ part. named.Log part shard at) (Files ∷ ColumnStats ∷ BloomFilters ∷ RecordIndex ∷ [])
    ++ (map (λ part. named.Base part base_shard upto Compaction) (Files ∷ ColumnStats ∷ BloomFilters ∷ RecordIndex ∷ [])
    ++ map (λ part. named.Base part base_shard upto Indexing) (Files ∷ ColumnStats ∷ BloomFilters ∷ RecordIndex ∷ []))

log_among : (part : Part) (shard at base_shard upto : ℕ) → Among (named.Log part shard at) (names_of shard at base_shard upto)
log_among Files shard at base_shard upto = inl refl
log_among ColumnStats shard at base_shard upto = inr (inl refl)
log_among BloomFilters shard at base_shard upto = inr (inr (inl refl))
log_among RecordIndex shard at base_shard upto = inr (inr (inr (inl refl)))

base_among : (part : Part) (kind : BaseKind) (shard at base_shard upto : ℕ) → Among (named.Base part base_shard upto kind) (names_of shard at base_shard upto)
base_among Files Compaction shard at base_shard upto = inr (inr (inr (inr (inl refl))))
base_among ColumnStats Compaction shard at base_shard upto = inr (inr (inr (inr (inr (inl refl)))))
base_among BloomFilters Compaction shard at base_shard upto = inr (inr (inr (inr (inr (inr (inl refl))))))
base_among RecordIndex Compaction shard at base_shard upto = inr (inr (inr (inr (inr (inr (inr (inl refl)))))))
base_among Files Indexing shard at base_shard upto = inr (inr (inr (inr (inr (inr (inr (inr (inl refl))))))))
base_among ColumnStats Indexing shard at base_shard upto = inr (inr (inr (inr (inr (inr (inr (inr (inr (inl refl)))))))))
base_among BloomFilters Indexing shard at base_shard upto = inr (inr (inr (inr (inr (inr (inr (inr (inr (inr (inl refl))))))))))
base_among RecordIndex Indexing shard at base_shard upto = inr (inr (inr (inr (inr (inr (inr (inr (inr (inr (inr (inl refl)))))))))))

first_holds : (a b : Bool) → (a && b) ≡ true → a ≡ true
first_holds true b is = refl
first_holds false b is = absurd (cc is)

second_holds : (a b : Bool) → (a && b) ≡ true → b ≡ true
second_holds true b is = is
second_holds false b is = absurd (cc is)

length-base_ending : (kind : BaseKind) → length (base_ending kind) ≡ 9
length-base_ending Compaction = refl
length-base_ending Indexing = refl

log_named : (part : Part) (shard at : ℕ) (path : List ℕ) → IsObjectName (named.Log part shard at) → path ≡ object_path (named.Log part shard at) → Among (named.Log part shard at) (names_at path)
unfolding object_path
log_named part shard at path valid is =
    let in_shards = (Decides-ltb shard 10000).0 (first_holds (nat_lt shard 10000) _ valid) in
    let in_instants = (Decides-ltb at (10 ^ 17)).0 (second_holds (nat_lt 0 at) _ (second_holds (nat_lt shard 10000) _ valid)) in
    let shard_is : number_at 4 22 path ≡ shard = ap (number_at 4 22) is ∙ shard_at part shard at 22 (codes ".log") in_shards refl in
    let at_is : number_at 17 4 path ≡ at = ap (number_at 17 4) is ∙ instant_at part shard at 4 (codes ".log") in_instants refl in
    subst (λ (s : ℕ). Among (named.Log part shard at) (names_of s (number_at 17 4 path) (number_at 4 27 path) (number_at 17 9 path))) (sym shard_is)
    (subst (λ (t : ℕ). Among (named.Log part shard at) (names_of shard t (number_at 4 27 path) (number_at 17 9 path))) (sym at_is)
    (log_among part shard at (number_at 4 27 path) (number_at 17 9 path)))

base_named : (part : Part) (shard upto : ℕ) (kind : BaseKind) (path : List ℕ) → IsObjectName (named.Base part shard upto kind) → path ≡ object_path (named.Base part shard upto kind) → Among (named.Base part shard upto kind) (names_at path)
unfolding object_path
base_named part shard upto kind path valid is =
    let in_shards = (Decides-ltb shard 10000).0 (first_holds (nat_lt shard 10000) _ valid) in
    let in_instants = (Decides-ltb upto (10 ^ 17)).0 (second_holds (nat_lt shard 10000) _ valid) in
    let shard_is : number_at 4 27 path ≡ shard = ap (number_at 4 27) is ∙ shard_at part shard upto 27 (base_ending kind) in_shards (omega (arith, length-base_ending kind)) in
    let upto_is : number_at 17 9 path ≡ upto = ap (number_at 17 9) is ∙ instant_at part shard upto 9 (base_ending kind) in_instants (length-base_ending kind) in
    subst (λ (s : ℕ). Among (named.Base part shard upto kind) (names_of (number_at 4 22 path) (number_at 17 4 path) s (number_at 17 9 path))) (sym shard_is)
    (subst (λ (t : ℕ). Among (named.Base part shard upto kind) (names_of (number_at 4 22 path) (number_at 17 4 path) shard t)) (sym upto_is)
    (base_among part kind (number_at 4 22 path) (number_at 17 4 path) shard upto))

-- ---- what the code finds

abbrev is_name_of : List ℕ → ObjectName → Bool
is_name_of path object = is_object_name object && bytes_eq path (object_path object)

is_name : (path : List ℕ) (object : ObjectName) → IsObjectName object → path ≡ object_path object → is_name_of path object ≡ true
is_name path object valid is = ap (λ (b : Bool). b && bytes_eq path (object_path object)) valid ∙ (bytes_eq-Decides path (object_path object)).1 is

abbrev IsFound : List ℕ → Option ObjectName → Type 0
IsFound path r = IfSome r (λ object. IsObjectName object × (path ≡ object_path object))

abbrev IsOnly : List ℕ → Option ObjectName → Type 0
IsOnly path r = (object : ObjectName) → IsObjectName object → path ≡ object_path object → r ≡ Some object

pub place_found : (file : ShardFile) (path : List ℕ) (r : Option ObjectName) → IsFound path r → IsOnly path r → option_and_then (place_in file) r ≡ place_of file path
unfolding shard_object
place_found file path r found only = by_search (find (is_name_of path) (names_at path)) refl
  where
    missed : (object : ObjectName) → find (is_name_of path) (names_at path) ≡ None → Among object (names_at path) → IsObjectName object → path ≡ object_path object → ⊥
    missed object none among valid is = cc (find_some (is_name_of path) (names_at path) object among (is_name path object valid is), ap is_some none)

    by_result : (r : Option ObjectName) → IsFound path r → find (is_name_of path) (names_at path) ≡ None → (file : ShardFile) → option_and_then (place_in file) r ≡ None
    by_result None found none file = refl
    by_result (Some (named.Log part shard at)) found none file = absurd (missed (named.Log part shard at) none (log_named part shard at path found.0 found.1) found.0 found.1)
    by_result (Some (named.Base part shard upto kind)) found none file = absurd (missed (named.Base part shard upto kind) none (base_named part shard upto kind path found.0 found.1) found.0 found.1)
    by_result (Some named.Config) found none Log = refl
    by_result (Some named.Config) found none Base = refl
    by_result (Some (named.Timeline at kind state)) found none Log = refl
    by_result (Some (named.Timeline at kind state)) found none Base = refl
    by_result (Some (named.Metadata at kind completed)) found none Log = refl
    by_result (Some (named.Metadata at kind completed)) found none Base = refl

    by_search : (o : Option ObjectName) → find (is_name_of path) (names_at path) ≡ o → option_and_then (place_in file) r ≡ option_and_then (place_in file) (find (is_name_of path) (names_at path))
    by_search None is = by_result r found is file ∙ sym (ap (option_and_then (place_in file)) is)
    by_search (Some object) is =
        let holds : is_name_of path object ≡ true = find_passes (is_name_of path) (names_at path) object is in
        let result : r ≡ Some object = only object (first_holds _ _ holds) ((bytes_eq-Decides path (object_path object)).0 (second_holds (is_object_name object) _ holds)) in
        ap (option_and_then (place_in file)) (result ∙ sym is)
