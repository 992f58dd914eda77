-- What the lists of partitions show.
use Rattle.std.proofs.Common.{◌≡◌, ◌≢◌, ℕ, Bool, true, false, ◌||◌, List, [], ◌∷◌, ◌++◌, map, append-nil, Option, Some, IsSome, refl, sym, ◌∙◌, ap}
use Rattle.std.specs.Prelude.{option_to_list, is_some, bytes_eq, fold}
use Rattle.std.specs.List.{list_any}
use Rattle.std.specs.Ordering.{eq_by_cmp}
use Rattle.std.specs.FinMap as finmap
use Rattle.std.specs.FinMap.{contains_key-keys}
use Rattle.std.proofs.lemmas.List.Elements.{All-head, All-tail, All-weaker}
use Rattle.std.proofs.lemmas.Slice.Eq.{bytes_eq-Decides}
use Rattle.mx_base.specs.declared.entry.FileAt.{FileAt}
use Rattle.mx_payload.specs.declared.payload.NameWord.{NameWord}
use Rattle.mx_payload.specs.declared.payload.Payload.TheVariants.{Partitions}
use Rattle.mx_payload.specs.Rules.{plain}
use Rattle.mx_merge.specs.Shown.{SizeMap, sizes_left, shown}
use Rattle.mx_files.specs.Files.{FilesMap, name_of, sizes_in, with_file, without_file, files_map, named_partitions, partition_list}
use Rattle.mx_files.specs.Delta.{AreOf, files_after}
use Rattle.mx_lists.proofs.TreeLemmas.{R, tied}
use Rattle.mx_files.proofs.MapLemmas.{same_keys, keys-empty, contains-insert}
use Rattle.mx_files.proofs.WordLemmas.{sizes_left-append}

pub or_false : (b : Bool) → b ≡ (b || false)
or_false true = refl
or_false false = refl

pub moved : (a b c : Bool) → ((a || b) || c) ≡ (b || (a || c))
moved true true c = refl
moved true false c = refl
moved false true c = refl
moved false false c = refl

-- ---- the names that a list of partitions leaves

contains-sizes_left : (names : List (List ℕ)) (sizes : SizeMap) (q : List ℕ) → finmap.contains_key (sizes_left sizes (map plain names)) q ≡ (finmap.contains_key sizes q || list_any (eq_by_cmp R q) names)
contains-sizes_left [] sizes q = or_false (finmap.contains_key sizes q)
contains-sizes_left (name ∷ names) sizes q =
    contains-sizes_left names (finmap.insert sizes name 0) q
    ∙ ap (λ (b : Bool). b || list_any (eq_by_cmp R q) names) (contains-insert sizes name 0 q)
    ∙ moved (bytes_eq name q) (finmap.contains_key sizes q) (list_any (eq_by_cmp R q) names)
    ∙ ap (λ (b : Bool). finmap.contains_key sizes q || (b || list_any (eq_by_cmp R q) names)) (sym (tied name q))

both_left : List (List ℕ) → List (List ℕ) → SizeMap
both_left ks ns = sizes_left finmap.empty (map plain ks ++ map plain ns)

contains-both_left : (ks ns : List (List ℕ)) (q : List ℕ) → finmap.contains_key (both_left ks ns) q ≡ (list_any (eq_by_cmp R q) ks || list_any (eq_by_cmp R q) ns)
unfolding both_left
contains-both_left ks ns q =
    ap (λ (m : SizeMap). finmap.contains_key m q) (sizes_left-append finmap.empty (map plain ks) (map plain ns))
    ∙ contains-sizes_left ns (sizes_left finmap.empty (map plain ks)) q
    ∙ ap (λ (b : Bool). b || list_any (eq_by_cmp R q) ns)
    (contains-sizes_left ks finmap.empty q ∙ ap (λ (o : Option ℕ). is_some o || list_any (eq_by_cmp R q) ks) (finmap.get-empty R q))

some_key : (sizes : SizeMap) (q : List ℕ) → finmap.contains_key sizes q ≡ true → finmap.keys sizes ≢ []
some_key sizes q found none = absurd (cc (sym found ∙ contains_key-keys sizes q ∙ ap (λ (ks : List (List ℕ)). list_any (eq_by_cmp R q) ks) none))

named_some : (names : List (List ℕ)) → names ≢ [] → named_partitions names ≡ Some (Partitions names)
named_some [] some = absurd (some refl)
named_some (name ∷ names) some = refl

found_itself : (name : List ℕ) (names : List (List ℕ)) → list_any (eq_by_cmp R name) (name ∷ names) ≡ true
found_itself name names = ap (λ (b : Bool). b || list_any (eq_by_cmp R name) names) (tied name name ∙ (bytes_eq-Decides name name).1 refl)

shows_left : (ks ns : List (List ℕ)) (q : List ℕ) (words : List NameWord) → (list_any (eq_by_cmp R q) ks || list_any (eq_by_cmp R q) ns) ≡ true → words ≡ map plain ks ++ map plain ns →
    Some (Partitions (finmap.keys (sizes_left finmap.empty words))) ≡ named_partitions (finmap.keys (both_left ks ns))
unfolding both_left
shows_left ks ns q words found is =
    ap (λ (ws : List NameWord). Some (Partitions (finmap.keys (sizes_left finmap.empty ws)))) is
    ∙ sym (named_some (finmap.keys (both_left ks ns)) (some_key (both_left ks ns) q (contains-both_left ks ns q ∙ found)))

found_first : (a b : Bool) → a ≡ true → (a || b) ≡ true
found_first a b is = ap (λ (c : Bool). c || b) is

shown_partitions : (ks ns : List (List ℕ)) → shown (option_to_list (named_partitions ks) ++ option_to_list (named_partitions ns)) ≡ named_partitions (finmap.keys (both_left ks ns))
unfolding shown both_left
shown_partitions [] [] = ap named_partitions (sym (keys-empty ℕ))
shown_partitions [] (n ∷ ns) = shows_left [] (n ∷ ns) n (map plain (n ∷ ns) ++ []) (found_itself n ns) (append-nil (map plain (n ∷ ns)))
shown_partitions (k ∷ ks) [] = shows_left (k ∷ ks) [] k (map plain (k ∷ ks) ++ []) (found_first _ _ (found_itself k ks)) refl
shown_partitions (k ∷ ks) (n ∷ ns) = shows_left (k ∷ ks) (n ∷ ns) k (map plain (k ∷ ks) ++ (map plain (n ∷ ns) ++ [])) (found_first _ _ (found_itself k ks)) (ap (λ (ws : List NameWord). map plain (k ∷ ks) ++ ws) (append-nil (map plain (n ∷ ns))))

-- ---- the partitions of a table after changes

abbrev pub is_of : List FileAt → List ℕ → Bool
is_of files q = list_any (λ (file : FileAt). bytes_eq file.partition q) files

pub contains-with_files : (news : List FileAt) (files : FilesMap) (q : List ℕ) → finmap.contains_key (fold with_file files news) q ≡ (finmap.contains_key files q || is_of news q)
contains-with_files [] files q = or_false (finmap.contains_key files q)
contains-with_files (file ∷ news) files q =
    contains-with_files news (with_file files file) q
    ∙ ap (λ (b : Bool). b || is_of news q) (contains-insert files file.partition (finmap.insert (sizes_in files file.partition) (name_of file) file.size) q)
    ∙ moved (bytes_eq file.partition q) (finmap.contains_key files q) (is_of news q)

pub contains-files_map : (news : List FileAt) (q : List ℕ) → finmap.contains_key (files_map news) q ≡ is_of news q
contains-files_map news q = contains-with_files news finmap.empty q ∙ ap (λ (o : Option SizeMap). is_some o || is_of news q) (finmap.get-empty R q)

contains-without_file : (files : FilesMap) (file : FileAt) (q : List ℕ) → IsSome (finmap.get files file.partition) → finmap.contains_key (without_file files file) q ≡ finmap.contains_key files q
contains-without_file files file q of =
    contains-insert files file.partition (finmap.remove (sizes_in files file.partition) (name_of file)) q ∙ chosen (bytes_eq file.partition q) refl
  where
    chosen : (b : Bool) → bytes_eq file.partition q ≡ b → (b || finmap.contains_key files q) ≡ finmap.contains_key files q
    chosen true is = sym (ap (λ (k : List ℕ). finmap.contains_key files k) (sym ((bytes_eq-Decides file.partition q).0 is)) ∙ of)
    chosen false is = refl

contains-without_files : (gone : List FileAt) (files : FilesMap) (q : List ℕ) → AreOf files gone → finmap.contains_key (fold without_file files gone) q ≡ finmap.contains_key files q
contains-without_files [] files q of = refl
contains-without_files (file ∷ gone) files q of =
    let here : IsSome (finmap.get files file.partition) = All-head (λ (f : FileAt). IsSome (finmap.get files f.partition)) file gone of in
    let later : AreOf (without_file files file) gone =
    All-weaker (λ (f : FileAt). IsSome (finmap.get files f.partition)) (λ (f : FileAt). IsSome (finmap.get (without_file files file) f.partition))
    (λ f some. contains-without_file files file f.partition here ∙ some) gone (All-tail (λ (f : FileAt). IsSome (finmap.get files f.partition)) file gone of) in
    contains-without_files gone (without_file files file) q later ∙ contains-without_file files file q here

-- the partitions of a table and those of new files are the partitions after
pub shows_partitions : (files : FilesMap) (news gone : List FileAt) → AreOf files gone →
    shown (option_to_list (partition_list files) ++ option_to_list (partition_list (files_map news))) ≡ partition_list (files_after files news gone)
shows_partitions files news gone of =
    let later : AreOf (fold with_file files news) gone =
    All-weaker (λ (f : FileAt). IsSome (finmap.get files f.partition)) (λ (f : FileAt). IsSome (finmap.get (fold with_file files news) f.partition))
    (λ f some. contains-with_files news files f.partition ∙ found_first _ _ some) gone of in
    shown_partitions (finmap.keys files) (finmap.keys (files_map news))
    ∙ ap named_partitions (same_keys (both_left (finmap.keys files) (finmap.keys (files_map news))) (files_after files news gone) (λ q.
    contains-both_left (finmap.keys files) (finmap.keys (files_map news)) q
    ∙ ap (λ (b : Bool). b || list_any (eq_by_cmp R q) (finmap.keys (files_map news))) (sym (contains_key-keys files q))
    ∙ ap (λ (b : Bool). finmap.contains_key files q || b) (sym (contains_key-keys (files_map news) q) ∙ contains-files_map news q)
    ∙ sym (contains-with_files news files q)
    ∙ sym (contains-without_files gone (fold with_file files news) q later)))
