-- What an action says on each key is its delta there.
use Rattle.std.proofs.Common.{◌≡◌, ◌≢◌, ℕ, Bool, true, false, cond, ◌||◌, List, [], ◌∷◌, map, length, Option, Some, None, refl, sym, ◌∙◌, ap}
use Rattle.std.specs.Prelude.{option_map, is_some, unwrap_or, bytes_eq, fold}
use Rattle.std.specs.BTreeMap as tree
use Rattle.std.specs.BTreeMap.{BTreeMap}
use Rattle.std.specs.FinMap as finmap
use Rattle.std.specs.List.{AllByRecursion}
use Rattle.std.proofs.lemmas.Slice.Eq.{bytes_eq-Decides}
use Rattle.mx_base.specs.Names.{is_partition, IsPartition}
use Rattle.mx_base.specs.declared.entry.FileAt.{FileAt}
use Rattle.mx_payload.specs.declared.payload.Payload.{Payload}
use Rattle.mx_payload.specs.declared.payload.Payload.TheVariants.{Partitions, Files}
use Rattle.mx_files.specs.Files.{all_partitions, name_of, named_partitions, partition_list, files_map}
use Rattle.mx_files.specs.Delta.{WordMap, with_new, with_gone, said_in, word_of, named_files, delta_on}
use Rattle.mx_files.specs.Said.{SaidMap, with_said, with_new_file, with_gone_file, said_of, payload_of_key}
use Rattle.mx_lists.proofs.TreeLemmas.{R, tied, turned, get-tree, tree-insert, entries-empty}
use Rattle.mx_files.proofs.MapLemmas.{same_keys, get-changed, contains-insert, entries-insert}
use Rattle.mx_files.proofs.PartitionLemmas.{is_of, contains-files_map, or_false, moved}

-- ---- words, where there is one

told_by : WordMap → List (List ℕ × Option ℕ) → Option WordMap
told_by words [] = None
told_by words (e ∷ es) = Some words

told : WordMap → Option WordMap
told words = told_by words (finmap.entries words)

told_some : (words : WordMap) → finmap.entries words ≢ [] → told words ≡ Some words
unfolding told told_by
told_some words some = from (finmap.entries words) some
  where
    from : (es : List (List ℕ × Option ℕ)) → es ≢ [] → told_by words es ≡ Some words
    from [] none = absurd (none refl)
    from (e ∷ es) some = refl

told_else : (words : WordMap) → unwrap_or (told words) finmap.empty ≡ words
unfolding told told_by
told_else words = from (finmap.entries words) refl
  where
    from : (es : List (List ℕ × Option ℕ)) → finmap.entries words ≡ es → unwrap_or (told_by words es) finmap.empty ≡ words
    from [] is = sym (finmap.empty_of_len words (finmap.len-entries words ∙ ap (λ (es : List (List ℕ × Option ℕ)). length es) is))
    from (e ∷ es) is = refl

-- ---- one more name

step : (said : SaidMap) (words : WordMap) (key name : List ℕ) (size : Option ℕ) (q : List ℕ) → finmap.get said q ≡ told words
    → finmap.get (with_said said key name size) q ≡ told (cond (bytes_eq key q) (finmap.insert words name size) words)
step said words key name size q is =
    get-changed finmap.empty (λ (w : WordMap). finmap.insert w name size) said key q
    ∙ ap (λ (o : Option WordMap). cond (bytes_eq key q) (Some (finmap.insert (unwrap_or o finmap.empty) name size)) o) is
    ∙ chosen (bytes_eq key q)
  where
    chosen : (b : Bool) → cond b (Some (finmap.insert (unwrap_or (told words) finmap.empty) name size)) (told words) ≡ told (cond b (finmap.insert words name size) words)
    chosen true =
        ap (λ (w : WordMap). Some (finmap.insert w name size)) (told_else words)
        ∙ sym (told_some (finmap.insert words name size) (entries-insert words name size))
    chosen false = refl

-- ---- on a partition

module _ (q : List ℕ) (apart : bytes_eq all_partitions q ≡ false) where
  new_elsewhere : (news : List FileAt) (said : SaidMap) (words : WordMap) → finmap.get said q ≡ told words → finmap.get (fold with_new_file said news) q ≡ told (fold (with_new q) words news)
  new_elsewhere [] said words is = is
  new_elsewhere (file ∷ news) said words is =
      let named = step said words file.partition (name_of file) (Some file.size) q is in
      let said' : SaidMap = with_said said file.partition (name_of file) (Some file.size) in
      new_elsewhere news (with_new_file said file) (with_new q words file)
      (step said' (with_new q words file) all_partitions file.partition (Some 0) q named
      ∙ ap (λ (b : Bool). told (cond b (finmap.insert (with_new q words file) file.partition (Some 0)) (with_new q words file))) apart)

  gone_elsewhere : (gone : List FileAt) (said : SaidMap) (words : WordMap) → finmap.get said q ≡ told words → finmap.get (fold with_gone_file said gone) q ≡ told (fold (with_gone q) words gone)
  gone_elsewhere [] said words is = is
  gone_elsewhere (file ∷ gone) said words is = gone_elsewhere gone (with_gone_file said file) (with_gone q words file) (step said words file.partition (name_of file) None q is)

-- ---- on the key of all partitions

abbrev pub AreParted : List FileAt → Type 0
AreParted files = AllByRecursion (λ (file : FileAt). IsPartition file.partition) files

no_partition : (name : List ℕ) → IsPartition name → bytes_eq name all_partitions ≡ false
unfolding is_partition
no_partition name is = chosen (bytes_eq name all_partitions) refl
  where
    chosen : (b : Bool) → bytes_eq name all_partitions ≡ b → b ≡ false
    chosen true same = absurd (cc (sym is ∙ ap is_partition ((bytes_eq-Decides name all_partitions).0 same)))
    chosen false same = refl

abbrev listed : WordMap → FileAt → WordMap
listed words file = finmap.insert words file.partition (Some 0)

new_listed : (news : List FileAt) (said : SaidMap) (words : WordMap) → AreParted news → finmap.get said all_partitions ≡ told words → finmap.get (fold with_new_file said news) all_partitions ≡ told (fold listed words news)
new_listed [] said words parted is = is
new_listed (file ∷ news) said words parted is =
    let said' : SaidMap = with_said said file.partition (name_of file) (Some file.size) in
    let named : finmap.get said' all_partitions ≡ told words =
    step said words file.partition (name_of file) (Some file.size) all_partitions is
    ∙ ap (λ (b : Bool). told (cond b (finmap.insert words (name_of file) (Some file.size)) words)) (no_partition file.partition parted.0) in
    new_listed news (with_new_file said file) (listed words file) parted.1 (step said' words all_partitions file.partition (Some 0) all_partitions named)

gone_listed : (gone : List FileAt) (said : SaidMap) (words : WordMap) → AreParted gone → finmap.get said all_partitions ≡ told words → finmap.get (fold with_gone_file said gone) all_partitions ≡ told words
gone_listed [] said words parted is = is
gone_listed (file ∷ gone) said words parted is =
    gone_listed gone (with_gone_file said file) words parted.1
    (step said words file.partition (name_of file) None all_partitions is
    ∙ ap (λ (b : Bool). told (cond b (finmap.insert words (name_of file) None) words)) (no_partition file.partition parted.0))

contains-listed : (news : List FileAt) (words : WordMap) (q : List ℕ) → finmap.contains_key (fold listed words news) q ≡ (finmap.contains_key words q || is_of news q)
contains-listed [] words q = or_false (finmap.contains_key words q)
contains-listed (file ∷ news) words q =
    contains-listed news (listed words file) q
    ∙ ap (λ (b : Bool). b || is_of news q) (contains-insert words file.partition (Some 0) q)
    ∙ moved (bytes_eq file.partition q) (finmap.contains_key words q) (is_of news q)

keys-listed : (news : List FileAt) → finmap.keys (fold listed finmap.empty news) ≡ finmap.keys (files_map news)
keys-listed news = same_keys (fold listed finmap.empty news) (files_map news) (λ q.
    contains-listed news finmap.empty q
    ∙ ap (λ (o : Option (Option ℕ)). is_some o || is_of news q) (finmap.get-empty R q)
    ∙ sym (contains-files_map news q))

-- ---- the payloads

abbrev name_list : WordMap → Payload
name_list words = Partitions (finmap.keys words)

abbrev word_list : WordMap → Payload
word_list words = Files (map word_of (finmap.entries words))

names_told : (words : WordMap) → option_map name_list (told words) ≡ named_partitions (finmap.keys words)
unfolding told told_by
names_told words = from (finmap.entries words) refl
  where
    from : (es : List (List ℕ × Option ℕ)) → finmap.entries words ≡ es → option_map name_list (told_by words es) ≡ named_partitions (map (λ (e : List ℕ × Option ℕ). e.0) es)
    from [] is = refl
    from (e ∷ es) is = ap (λ (l : List (List ℕ × Option ℕ)). Some (Partitions (map (λ (e : List ℕ × Option ℕ). e.0) l))) is

words_told : (words : WordMap) → option_map word_list (told words) ≡ named_files (map word_of (finmap.entries words))
unfolding told told_by
words_told words = from (finmap.entries words) refl
  where
    from : (es : List (List ℕ × Option ℕ)) → finmap.entries words ≡ es → option_map word_list (told_by words es) ≡ named_files (map word_of es)
    from [] is = refl
    from (e ∷ es) is = ap (λ (l : List (List ℕ × Option ℕ)). Some (Files (map word_of l))) is

pub says_delta : (news gone : List FileAt) → AreParted news → AreParted gone → (key : List ℕ) →
    option_map (λ (words : WordMap). payload_of_key (key, words)) (finmap.get (said_of news gone) key) ≡ delta_on key news gone
unfolding delta_on told told_by
says_delta news gone parted parted_gone key = chosen (bytes_eq key all_partitions) refl
  where
    start : (q : List ℕ) → finmap.get (finmap.empty {X = WordMap} {R = R}) q ≡ told finmap.empty
    start q = finmap.get-empty R q ∙ sym (ap (told_by finmap.empty) (entries-empty (Option ℕ)))

    listed_key : option_map name_list (finmap.get (said_of news gone) all_partitions) ≡ partition_list (files_map news)
    listed_key =
        ap (option_map name_list) (gone_listed gone (fold with_new_file finmap.empty news) (fold listed finmap.empty news) parted_gone (new_listed news finmap.empty finmap.empty parted (start all_partitions)))
        ∙ names_told (fold listed finmap.empty news) ∙ ap named_partitions (keys-listed news)

    other_key : bytes_eq all_partitions key ≡ false → option_map word_list (finmap.get (said_of news gone) key) ≡ named_files (map word_of (finmap.entries (said_in key news gone)))
    other_key apart =
        ap (option_map word_list) (gone_elsewhere key apart gone (fold with_new_file finmap.empty news) (fold (with_new key) finmap.empty news) (new_elsewhere key apart news finmap.empty finmap.empty (start key)))
        ∙ words_told (said_in key news gone)

    chosen : (b : Bool) → bytes_eq key all_partitions ≡ b →
        option_map (λ (words : WordMap). cond b (name_list words) (word_list words)) (finmap.get (said_of news gone) key)
        ≡ cond b (partition_list (files_map news)) (named_files (map word_of (finmap.entries (said_in key news gone))))
    chosen true is = ap (λ (k : List ℕ). option_map name_list (finmap.get (said_of news gone) k)) ((bytes_eq-Decides key all_partitions).0 is) ∙ listed_key
    chosen false is = other_key (sym (tied all_partitions key) ∙ turned key all_partitions ∙ tied key all_partitions ∙ is)

-- ---- the tree that holds what is said

-- what is said on a key is written back with one more name
pub with_said-tree : (m n : BTreeMap (List ℕ) WordMap) (said : SaidMap) → finmap.from_entries {R = R} m.entries ≡ said → (key name : List ℕ) (size : Option ℕ) (found : Option WordMap) (words : WordMap) →
    found ≡ tree.get R m key → words ≡ finmap.insert (unwrap_or found finmap.empty) name size → tree.Updates R m n key (Some words) → finmap.from_entries {R = R} n.entries ≡ with_said said key name size
with_said-tree m n said view_is key name size found words is grown updates =
    tree-insert m n key words updates
    ∙ ap (λ (w : WordMap). finmap.insert (finmap.from_entries m.entries) key w)
    (grown ∙ ap (λ (o : Option WordMap). finmap.insert (unwrap_or o finmap.empty) name size) (is ∙ sym (get-tree m key)))
    ∙ ap (λ (s : SaidMap). with_said s key name size) view_is
