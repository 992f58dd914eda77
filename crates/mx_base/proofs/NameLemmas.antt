-- What the grammars of names say of their bytes, and that a table's names are in them.
use Rattle.std.proofs.Common.{◌≡◌, ◌≢◌, ℕ, zero, suc, ◌+◌, ◌/◌, ◌%◌, ◌<◌, ◌≤◌, Bool, true, false, List, [], ◌∷◌, ◌++◌, length, get_or, refl, sym, ◌∙◌, ap, subst, arith, length-append, All, Option, Some, None}
use Rattle.std.specs.Prelude.{codes, ◌==◌, not, nat_le, nat_lt, if◌then◌else◌, slice_index}
use Rattle.std.specs.List.{list_all, slice_split}
use Rattle.std.specs.Char.{is_ascii_alphanumeric}
use Rattle.std.specs.Option.{option_map_or}
use Rattle.std.specs.Str.{IsAscii, bytes_eq}
use Rattle.std.proofs.lemmas.Bool.{false_from_ne_true, and_from, and_parts, lt-ltb, le-leb, ltb-true, leb-true}
use Rattle.std.proofs.lemmas.Bool.Decides.{nat_tests, Decides-eqb}
use Rattle.std.proofs.lemmas.List.Elements.{All-weaker}
use Rattle.std.proofs.lemmas.List.Folds.{list_all-append}
use Rattle.std.proofs.lemmas.List.Splits.{slice_split_none, slice_split_at}
use Rattle.std.proofs.lemmas.List.Sums.{AllPass-from_list_all, list_all-from_AllPass}
use Rattle.std.proofs.lemmas.Slice.Eq.{bytes_eq-Decides}
use Rattle.std.proofs.lemmas.Str.Ascii.{IsAscii-from_all}
use Rattle.uuid.specs.Text.{hyphenated_text, lower, parsed, hex_digit, nibble, digit_place, is_hyphen_place}
use Rattle.uuid.proofs.TextLemmas.{by_index_length, by_index_at, nibble_small}
use Rattle.mx_base.specs.Digits.{digits, instant_text}
use Rattle.mx_base.specs.Names.{is_name_byte, is_partition, IsPartition, is_segment, is_path, IsPath, is_file_id, IsFileId, is_file_id_byte}
use Rattle.mx_base.specs.Paths.{commit_path, files_log_path, data_file_name, data_path}
use Rattle.mx_base.proofs.Places.{length-instant}

-- ---- file ids

-- the sixteen bytes that a file id is the text of
pub record IsTextOf (id text : List ℕ) : Type 0 where
  pub reads : parsed text ≡ Some id
  pub is : hyphenated_text lower id ≡ text

pub IsTextOf-file_id : (text : List ℕ) → IsFileId text → (id : List ℕ) × IsTextOf id text
unfolding is_file_id
IsTextOf-file_id text is = from (parsed text) refl is
  where
    from : (o : Option (List ℕ)) → parsed text ≡ o → option_map_or (λ id. bytes_eq (hyphenated_text lower id) text) o false ≡ true → (id : List ℕ) × IsTextOf id text
    from None reads same = absurd (cc same)
    from (Some id) reads same = (id, record { reads = reads; is = (bytes_eq-Decides (hyphenated_text lower id) text).0 same })

pub IsFileId-from_text : (id text : List ℕ) → parsed text ≡ Some id → hyphenated_text lower id ≡ text → IsFileId text
unfolding is_file_id
IsFileId-from_text id text reads is =
    ap (λ (o : Option (List ℕ)). option_map_or (λ bytes. bytes_eq (hyphenated_text lower bytes) text) o false) reads ∙ (bytes_eq-Decides (hyphenated_text lower id) text).1 is

pub length-IsFileId : (text : List ℕ) → IsFileId text → length text ≡ 36
length-IsFileId text is = ap length (sym (IsTextOf-file_id text is).1.is) ∙ by_index_length 36 _

hex_is_file_id_byte : (d : ℕ) → d < 16 → is_file_id_byte (hex_digit lower d) ≡ true
hex_is_file_id_byte d small = grind (arith, nat_tests)

hyphenated_byte : (digit : ℕ) → is_file_id_byte digit ≡ true → (hyphen : Bool) → is_file_id_byte (if hyphen then 45 else digit) ≡ true
hyphenated_byte digit is true = refl
hyphenated_byte digit is false = is

hyphenated_bytes : (id : List ℕ) → All (λ (b : ℕ). is_file_id_byte b ≡ true) (hyphenated_text lower id)
hyphenated_bytes id k d within =
    ap is_file_id_byte (by_index_at 36 (λ j. if is_hyphen_place j then 45 else hex_digit lower (nibble id (digit_place j))) k d (subst (λ (n : ℕ). k < n) (by_index_length 36 _) within))
    ∙ hyphenated_byte (hex_digit lower (nibble id (digit_place k))) (hex_is_file_id_byte (nibble id (digit_place k)) (nibble_small id (digit_place k))) (is_hyphen_place k)

pub IsFileId-bytes : (text : List ℕ) → IsFileId text → list_all is_file_id_byte text ≡ true
IsFileId-bytes text is =
    let of = IsTextOf-file_id text is in
    ap (list_all is_file_id_byte) (sym of.1.is) ∙ list_all-from_AllPass is_file_id_byte (hyphenated_text lower of.0) (hyphenated_bytes of.0)

file_id_byte_named : (byte : ℕ) → is_file_id_byte byte ≡ true → is_name_byte byte ≡ true
file_id_byte_named byte is = grind (arith, nat_tests)

-- ---- bytes of names

named_ascii : (byte : ℕ) → is_name_byte byte ≡ true → byte < 128
named_ascii byte is = grind (arith, nat_tests)

pub IsAscii-named : (text : List ℕ) → list_all is_name_byte text ≡ true → IsAscii text
IsAscii-named text named = IsAscii-from_all text (All-weaker (λ b. is_name_byte b ≡ true) (λ b. b < 128) named_ascii text (AllPass-from_list_all is_name_byte text named))

named_no_slash : (byte : ℕ) → is_name_byte byte ≡ true → (byte == 47) ≡ false
named_no_slash byte named = false_from_ne_true (byte == 47) (λ same. absurd (cc (subst (λ (b : ℕ). is_name_byte b ≡ true) ((Decides-eqb byte 47).0 same) named)))

pub no_slash : (text : List ℕ) → list_all is_name_byte text ≡ true → All (λ b. (b == 47) ≡ false) text
no_slash text named = All-weaker (λ b. is_name_byte b ≡ true) (λ b. (b == 47) ≡ false) named_no_slash text (AllPass-from_list_all is_name_byte text named)

pub named-append : (a b : List ℕ) → list_all is_name_byte a ≡ true → list_all is_name_byte b ≡ true → list_all is_name_byte (a ++ b) ≡ true
named-append a b here there = list_all-append is_name_byte a b ∙ and_from (list_all is_name_byte a) (list_all is_name_byte b) here there

digit_named : (d : ℕ) → d < 10 → is_name_byte (48 + d) ≡ true
digit_named d small = grind (arith, nat_tests)

pub digits_named : (k n : ℕ) → list_all is_name_byte (digits k n) ≡ true
digits_named zero n = refl
digits_named (suc k) n = named-append (digits k (n / 10)) ((48 + n % 10) ∷ []) (digits_named k (n / 10)) (and_from (is_name_byte (48 + n % 10)) true (digit_named (n % 10) (omega arith)) refl)

pub named-instant_text : (t : ℕ) → list_all is_name_byte (instant_text t) ≡ true
unfolding instant_text
named-instant_text t = digits_named 17 t

pub IsAscii-instant_text : (t : ℕ) → IsAscii (instant_text t)
IsAscii-instant_text t = IsAscii-named (instant_text t) (named-instant_text t)

pub named-file_id : (text : List ℕ) → IsFileId text → list_all is_name_byte text ≡ true
named-file_id text is =
    list_all-from_AllPass is_name_byte text (All-weaker (λ b. is_file_id_byte b ≡ true) (λ b. is_name_byte b ≡ true) file_id_byte_named text (AllPass-from_list_all is_file_id_byte text (IsFileId-bytes text is)))

pub IsAscii-file_id : (text : List ℕ) → IsFileId text → IsAscii text
IsAscii-file_id text is = IsAscii-named text (named-file_id text is)

-- ---- segments

differs : (a b : List ℕ) → a ≢ b → not (bytes_eq a b) ≡ true
differs a b apart = ap not (false_from_ne_true (bytes_eq a b) (λ same. apart ((bytes_eq-Decides a b).0 same)))

pub long_segment : (text : List ℕ) → 2 < length text → length text ≤ 255 → list_all is_name_byte text ≡ true → is_segment text ≡ true
unfolding is_segment
long_segment text long short named =
    and_from (nat_lt 0 (length text)) _ (lt-ltb 0 (length text) (omega arith))
    (and_from (nat_le (length text) 255) _ (le-leb (length text) 255 short)
    (and_from (list_all is_name_byte text) _ named
    (and_from (not (bytes_eq text (codes "."))) _ (differs text (codes ".") (λ same. absurd (omega (arith, ap length same))))
    (differs text (codes "..") (λ same. absurd (omega (arith, ap length same)))))))

-- the segments of a text without `/`
pub last_segment : (text : List ℕ) → list_all is_name_byte text ≡ true → is_segment text ≡ true → list_all is_segment (slice_split (λ byte. byte == 47) text) ≡ true
last_segment text named is = ap (list_all is_segment) (slice_split_none (λ byte. byte == 47) text (no_slash text named)) ∙ and_from (is_segment text) true is refl

pub IsPath-commit_path : (t : ℕ) → IsPath (commit_path t)
unfolding commit_path is_path is_segment
IsPath-commit_path t =
    let named : list_all is_name_byte (instant_text t ++ codes ".commit") ≡ true = named-append (instant_text t) (codes ".commit") (named-instant_text t) refl in
    let len : length (instant_text t ++ codes ".commit") ≡ 24 = omega (arith, length-append (instant_text t) (codes ".commit"), length-instant t) in
    and_from (nat_le (length (codes ".hoodie/" ++ (instant_text t ++ codes ".commit"))) 1024) _ (le-leb _ 1024 (omega (arith, len)))
    (last_segment (instant_text t ++ codes ".commit") named (long_segment (instant_text t ++ codes ".commit") (omega (arith, len)) (omega (arith, len)) named))

pub IsPath-files_log_path : (t : ℕ) → IsPath (files_log_path t)
unfolding files_log_path is_path is_segment
IsPath-files_log_path t =
    let end : List ℕ = instant_text t ++ codes ".log" in
    let named : list_all is_name_byte (codes "files-0000_" ++ end) ≡ true = named-append (codes "files-0000_") end refl (named-append (instant_text t) (codes ".log") (named-instant_text t) refl) in
    let len : length end ≡ 21 = omega (arith, length-append (instant_text t) (codes ".log"), length-instant t) in
    and_from (nat_le (length (codes ".hoodie/metadata/files/files-0000_" ++ end)) 1024) _ (le-leb _ 1024 (omega (arith, len)))
    (last_segment (codes "files-0000_" ++ end) named (long_segment (codes "files-0000_" ++ end) (omega (arith, len)) (omega (arith, len)) named))

-- ---- partitions

-- what a partition's text is
pub record IsPartitionText (text : List ℕ) : Type 0 where
  pub some : 0 < length text
  pub most : length text ≤ 64
  pub first : is_ascii_alphanumeric (slice_index text 0) ≡ true
  pub bytes : list_all is_name_byte text ≡ true

pub IsPartition-facts : (text : List ℕ) → IsPartition text → IsPartitionText text
unfolding is_partition
IsPartition-facts text is =
    let some = and_parts (nat_lt 0 (length text)) _ is in
    let most = and_parts (nat_le (length text) 64) _ some.1 in
    let first = and_parts (is_ascii_alphanumeric (slice_index text 0)) (list_all is_name_byte text) most.1 in
    record {
      some = ltb-true 0 (length text) some.0;
      most = leb-true (length text) 64 most.0;
      first = first.0;
      bytes = first.1;
    }

-- a partition does not begin with a dot
pub IsPartition-no_dot : (text : List ℕ) → IsPartition text → get_or text 0 46 ≢ 46
IsPartition-no_dot text is = no_dot text (IsPartition-facts text is)
  where
    no_dot : (text : List ℕ) → IsPartitionText text → get_or text 0 46 ≢ 46
    no_dot [] facts dot = absurd (omega (arith, facts.some))
    no_dot (x ∷ xs) facts dot = absurd (cc (subst (λ (b : ℕ). is_ascii_alphanumeric b ≡ true) dot facts.first))

partition_segment : (text : List ℕ) → IsPartitionText text → is_segment text ≡ true
unfolding is_segment
partition_segment text facts =
    and_from (nat_lt 0 (length text)) _ (lt-ltb 0 (length text) facts.some)
    (and_from (nat_le (length text) 255) _ (le-leb (length text) 255 (omega (arith, facts.most)))
    (and_from (list_all is_name_byte text) _ facts.bytes
    (and_from (not (bytes_eq text (codes "."))) _ (differs text (codes ".") (λ same. absurd (cc (subst (λ (l : List ℕ). is_ascii_alphanumeric (slice_index l 0) ≡ true) same facts.first))))
    (differs text (codes "..") (λ same. absurd (cc (subst (λ (l : List ℕ). is_ascii_alphanumeric (slice_index l 0) ≡ true) same facts.first)))))))

pub named-data_file_name : (file : List ℕ) (t : ℕ) → IsFileId file → list_all is_name_byte (data_file_name file t) ≡ true
unfolding data_file_name
named-data_file_name file t is =
    named-append file (codes "_0-0-0_" ++ (instant_text t ++ codes ".parquet")) (named-file_id file is)
    (named-append (codes "_0-0-0_") (instant_text t ++ codes ".parquet") refl (named-append (instant_text t) (codes ".parquet") (named-instant_text t) refl))

pub length-data_file_name : (file : List ℕ) (t : ℕ) → IsFileId file → length (data_file_name file t) ≡ 68
unfolding data_file_name
length-data_file_name file t is =
    omega (arith, length-append file (codes "_0-0-0_" ++ (instant_text t ++ codes ".parquet")), length-append (instant_text t) (codes ".parquet"), length-instant t, length-IsFileId file is)

pub IsPath-data_path : (partition file : List ℕ) (t : ℕ) → IsPartition partition → IsFileId file → IsPath (data_path partition file t)
unfolding data_path is_path
IsPath-data_path partition file t is_partition is_id =
    let facts = IsPartition-facts partition is_partition in
    let name : List ℕ = data_file_name file t in
    let named : list_all is_name_byte name ≡ true = named-data_file_name file t is_id in
    let len : length name ≡ 68 = length-data_file_name file t is_id in
    and_from (nat_le (length (partition ++ 47 ∷ name)) 1024) _ (le-leb _ 1024 (omega (arith, length-append partition (47 ∷ name), len, facts.most)))
    (ap (list_all is_segment) (slice_split_at (λ byte. byte == 47) partition 47 name (no_slash partition facts.bytes) refl)
    ∙ and_from (is_segment partition) _ (partition_segment partition facts) (last_segment name named (long_segment name (omega (arith, len)) (omega (arith, len)) named)))
