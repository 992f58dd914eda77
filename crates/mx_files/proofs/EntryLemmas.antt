-- The entries of what is said.
use Rattle.std.proofs.Common.{◌≡◌, ◌≢◌, ◌<◌, ◌^◌, ℕ, Bool, true, false, cond, ◌||◌, List, [], ◌∷◌, ◌++◌, map, length, arith, Option, Some, None, IfSome, refl, sym, ◌∙◌, ap, subst}
use Rattle.std.specs.Prelude.{option_map, option_to_list, is_some, bytes_eq, fold, filter, filter_map}
use Rattle.std.specs.Bool.{IsTrue, ◌==◌}
use Rattle.std.specs.FinMap as finmap
use Rattle.std.specs.FinMap.Entries.{below_all, is_sorted}
use Rattle.std.specs.List.{AllByRecursion, cons_option}
use Rattle.std.specs.Ordering.{eq_by_cmp}
use Rattle.std.proofs.lemmas.Slice.Eq.{bytes_eq-Decides}
use Rattle.mx_base.specs.Names.{IsPartition}
use Rattle.mx_base.specs.declared.entry.Entry.{Entry}
use Rattle.mx_base.specs.declared.entry.FileAt.{FileAt}
use Rattle.mx_base.specs.declared.entry.ShardEntries.{ShardEntries}
use Rattle.mx_base.proofs.NameLemmas.{IsPartition-facts}
use Rattle.mx_hfile.specs.Encoding.{rises, RiseFrom, HasKey, AreEntries}
use Rattle.mx_payload.specs.declared.payload.Payload.{Payload}
use Rattle.mx_payload.specs.Rules.{IsWellFormed}
use Rattle.mx_payload.specs.Encoding.{encoding}
use Rattle.mx_payload.proofs.Payloads.{payload_again}
use Rattle.mx_merge.specs.Merged.{read_payload, payload_of, values_on_key, payloads_on_key}
use Rattle.mx_files.specs.Files.{all_partitions, name_of}
use Rattle.mx_files.specs.Delta.{WordMap, delta_on, IsDelta, AreShards}
use Rattle.mx_files.specs.Said.{SaidMap, said_on, with_said, with_new_file, with_gone_file, said_of, payload_of_key, entry_of}
use Rattle.mx_lists.proofs.Plain.{truth, first, second}
use Rattle.mx_lists.proofs.TreeLemmas.{R, tied, same_key, find_later}
use Rattle.mx_files.proofs.MapLemmas.{contains-insert}
use Rattle.mx_files.proofs.SaidLemmas.{AreParted, says_delta}
use lib.Dec.{T}

-- ---- values and payloads of a key

abbrev value_of : List ℕ → WordMap → List ℕ
value_of key words = encoding (payload_of_key (key, words))

one_value : (key : List ℕ) (k : List ℕ) (words : WordMap) (es : List (List ℕ × WordMap)) (b : Bool) → T (is_sorted R ((k, words) ∷ es)) → eq_by_cmp R key k ≡ b
    → values_on_key key (map entry_of es) ≡ option_to_list (option_map (value_of key) (finmap.find R key es))
    → map (λ (e : Entry). e.value) (cond b (entry_of (k, words) ∷ filter (λ (e : Entry). bytes_eq e.key key) (map entry_of es)) (filter (λ (e : Entry). bytes_eq e.key key) (map entry_of es)))
    ≡ option_to_list (option_map (value_of key) (cond b (Some words) (finmap.find R key es)))
one_value key k words es true sorted is rest =
    ap (λ (l : List (List ℕ)). value_of k words ∷ l) (rest ∙ ap (λ (o : Option WordMap). option_to_list (option_map (value_of key) o)) (find_later key (k, words) es sorted is))
    ∙ ap (λ (q : List ℕ). value_of q words ∷ []) (sym (same_key key k is))
one_value key k words es false sorted is rest = rest

pub values_found : (key : List ℕ) (es : List (List ℕ × WordMap)) → T (is_sorted R es) → values_on_key key (map entry_of es) ≡ option_to_list (option_map (value_of key) (finmap.find R key es))
values_found key [] sorted = refl
values_found key ((k, words) ∷ es) sorted =
    ap (λ (b : Bool). map (λ (e : Entry). e.value) (cond b (entry_of (k, words) ∷ filter (λ (e : Entry). bytes_eq e.key key) (map entry_of es)) (filter (λ (e : Entry). bytes_eq e.key key) (map entry_of es)))) (sym (tied k key))
    ∙ one_value key k words es (eq_by_cmp R key k) sorted refl (values_found key es (second _ _ sorted))

payload_read : (p : Payload) → IsWellFormed p → payload_of (encoding p) ≡ Some p
payload_read p good = ap read_payload (payload_again p good)

payloads_read : (key : List ℕ) (found : Option WordMap) → IfSome found (λ words. IsWellFormed (payload_of_key (key, words))) →
    filter_map payload_of (option_to_list (option_map (value_of key) found)) ≡ option_to_list (option_map (λ (words : WordMap). payload_of_key (key, words)) found)
payloads_read key None good = refl
payloads_read key (Some words) good = ap (λ (o : Option Payload). cons_option o []) (payload_read (payload_of_key (key, words)) good)

found_fits : (key : List ℕ) (es : List (List ℕ × WordMap)) → AllByRecursion (λ (e : List ℕ × WordMap). IsWellFormed (payload_of_key e)) es → IfSome (finmap.find R key es) (λ words. IsWellFormed (payload_of_key (key, words)))
found_fits key [] fits = tt
found_fits key ((k, words) ∷ es) fits = chosen (eq_by_cmp R key k) refl (found_fits key es fits.1)
  where
    chosen : (b : Bool) → eq_by_cmp R key k ≡ b → IfSome (finmap.find R key es) (λ (w : WordMap). IsWellFormed (payload_of_key (key, w))) → IfSome (cond b (Some words) (finmap.find R key es)) (λ (w : WordMap). IsWellFormed (payload_of_key (key, w)))
    chosen true is rest = subst (λ (q : List ℕ). IsWellFormed (payload_of_key (q, words))) (sym (same_key key k is)) fits.0
    chosen false is rest = rest

-- ---- the keys

record IsKey (key : List ℕ) : Type 0 where
  some : IsTrue (rises [] key)
  short : length key < 2 ^ 16

abbrev HasKeys : SaidMap → Type 0
HasKeys said = (q : List ℕ) → finmap.contains_key said q ≡ true → IsKey q

with_key : (said : SaidMap) (key name : List ℕ) (size : Option ℕ) → IsKey key → HasKeys said → HasKeys (with_said said key name size)
with_key said key name size is has q found = chosen (bytes_eq key q) refl (sym (contains-insert said key (finmap.insert (said_on said key) name size) q) ∙ found)
  where
    chosen : (b : Bool) → bytes_eq key q ≡ b → (b || finmap.contains_key said q) ≡ true → IsKey q
    chosen true same stands = subst IsKey ((bytes_eq-Decides key q).0 same) is
    chosen false same stands = has q stands

rises_some : (key : List ℕ) → 0 < length key → IsTrue (rises [] key)
rises_some [] some = absurd (omega (arith, some))
rises_some (x ∷ key) some = refl

partition_key : (name : List ℕ) → IsPartition name → IsKey name
partition_key name is = let facts = IsPartition-facts name is in record { some = rises_some name facts.some; short = omega (arith, facts.most) }

all_key : IsKey all_partitions
all_key = record { some = refl; short = omega arith }

has_new : (news : List FileAt) (said : SaidMap) → AreParted news → HasKeys said → HasKeys (fold with_new_file said news)
has_new [] said parted has = has
has_new (file ∷ news) said parted has =
    has_new news (with_new_file said file) parted.1
    (with_key (with_said said file.partition (name_of file) (Some file.size)) all_partitions file.partition (Some 0) all_key
    (with_key said file.partition (name_of file) (Some file.size) (partition_key file.partition parted.0) has))

has_gone : (gone : List FileAt) (said : SaidMap) → AreParted gone → HasKeys said → HasKeys (fold with_gone_file said gone)
has_gone [] said parted has = has
has_gone (file ∷ gone) said parted has =
    has_gone gone (with_gone_file said file) parted.1 (with_key said file.partition (name_of file) None (partition_key file.partition parted.0) has)

has_said : (news gone : List FileAt) → AreParted news → AreParted gone → HasKeys (said_of news gone)
has_said news gone parted parted_gone =
    has_gone gone (fold with_new_file finmap.empty news) parted_gone
    (has_new news finmap.empty parted (λ q found. absurd (cc (sym found ∙ ap (λ (o : Option WordMap). is_some o) (finmap.get-empty R q)))))

each_key : (es : List (List ℕ × WordMap)) → ((q : List ℕ) → is_some (finmap.find R q es) ≡ true → IsKey q) → AllByRecursion (λ (e : List ℕ × WordMap). IsKey e.0) es
each_key [] has = tt
each_key (e ∷ es) has = (has e.0 (here e.0 refl), each_key es (λ q found. has q (later q (eq_by_cmp R q e.0) found)))
  where
    here : (q : List ℕ) → q ≡ e.0 → is_some (cond (eq_by_cmp R q e.0) (Some e.1) (finmap.find R q es)) ≡ true
    here q is = ap (λ (b : Bool). is_some (cond b (Some e.1) (finmap.find R q es))) (tied e.0 q ∙ (bytes_eq-Decides e.0 q).1 (sym is))

    later : (q : List ℕ) (b : Bool) → is_some (finmap.find R q es) ≡ true → is_some (cond b (Some e.1) (finmap.find R q es)) ≡ true
    later q true found = refl
    later q false found = found

rise_from : (before : List ℕ) (es : List (List ℕ × WordMap)) → T (below_all R before es) → T (is_sorted R es) → RiseFrom before (map entry_of es)
rise_from before [] below sorted = tt
rise_from before ((key, words) ∷ es) below sorted = (truth _ (first _ _ below), rise_from key es (first _ _ sorted) (second _ _ sorted))

rise : (es : List (List ℕ × WordMap)) → AllByRecursion (λ (e : List ℕ × WordMap). IsKey e.0) es → T (is_sorted R es) → RiseFrom [] (map entry_of es)
rise [] keys sorted = tt
rise ((key, words) ∷ es) keys sorted = (keys.0.some, rise_from key es (first _ _ sorted) (second _ _ sorted))

short_keys : (es : List (List ℕ × WordMap)) → AllByRecursion (λ (e : List ℕ × WordMap). IsKey e.0) es → AllByRecursion HasKey (map entry_of es)
short_keys [] keys = tt
short_keys ((key, words) ∷ es) keys = (keys.0.short, short_keys es keys.1)

-- ---- the delta

pub is_delta : (news gone : List FileAt) (said : SaidMap) (entries : List Entry) → AreParted news → AreParted gone → said ≡ said_of news gone → entries ≡ map entry_of (finmap.entries said) →
    AllByRecursion (λ (e : List ℕ × WordMap). IsWellFormed (payload_of_key e)) (finmap.entries said) → IsDelta news gone entries
unfolding payloads_on_key
is_delta news gone said entries parted parted_gone is are fits =
    let says : (key : List ℕ) → option_map (λ (words : WordMap). payload_of_key (key, words)) (finmap.find R key (finmap.entries said)) ≡ delta_on key news gone =
    λ key. ap (option_map (λ (words : WordMap). payload_of_key (key, words))) (sym (finmap.get-entries said key) ∙ ap (λ (s : SaidMap). finmap.get s key) is) ∙ says_delta news gone parted parted_gone key in
    let values : (key : List ℕ) → values_on_key key entries ≡ option_to_list (option_map (value_of key) (finmap.find R key (finmap.entries said))) =
    λ key. ap (values_on_key key) are ∙ values_found key (finmap.entries said) (finmap.entries_sorted said) in
    let keys : AllByRecursion (λ (e : List ℕ × WordMap). IsKey e.0) (finmap.entries said) =
    each_key (finmap.entries said) (λ q found. has_said news gone parted parted_gone q (ap (λ (s : SaidMap). finmap.contains_key s q) (sym is) ∙ ap (λ (o : Option WordMap). is_some o) (finmap.get-entries said q) ∙ found)) in
    record {
      are = subst AreEntries (sym are) (record { rising = rise (finmap.entries said) keys (finmap.entries_sorted said); each = short_keys (finmap.entries said) keys });
      values = λ key. values key ∙ ap option_to_list (sym (map_map key (finmap.find R key (finmap.entries said))) ∙ ap (option_map encoding) (says key));
      payloads = λ key. ap (λ (l : List (List ℕ)). filter_map payload_of l) (values key)
          ∙ payloads_read key (finmap.find R key (finmap.entries said)) (found_fits key (finmap.entries said) fits)
          ∙ ap option_to_list (says key);
    }
  where
    map_map : (key : List ℕ) (found : Option WordMap) → option_map encoding (option_map (λ (words : WordMap). payload_of_key (key, words)) found) ≡ option_map (value_of key) found
    map_map key None = refl
    map_map key (Some words) = refl

-- ---- where there is a file

no_more : (files : List FileAt) → false ≡ (length files == 0) → files ≢ []
no_more files some none = absurd (cc (some ∙ ap (λ (l : List FileAt). length l == 0) none))

pub some_new : (news gone : List FileAt) → false ≡ (length news == 0) → news ++ gone ≢ []
some_new [] gone some none = no_more [] some refl
some_new (file ∷ news) gone some none = absurd (cc none)

pub some_gone : (news gone : List FileAt) → false ≡ (length gone == 0) → news ++ gone ≢ []
some_gone [] gone some none = no_more gone some none
some_gone (file ∷ news) gone some none = absurd (cc none)

pub are_shards : (news gone : List FileAt) (old new : List ShardEntries) (s : ShardEntries) → old ≡ [] → new ≡ old ++ s ∷ [] → news ++ gone ≢ [] → s.shard ≡ 0 → IsDelta news gone s.entries → AreShards news gone new
are_shards news gone old new s none pushed some first delta = subst (AreShards news gone) (sym (pushed ∙ ap (λ (l : List ShardEntries). l ++ s ∷ []) none)) (some, first, delta)
