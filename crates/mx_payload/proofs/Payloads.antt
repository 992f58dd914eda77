-- The two laws: what is read is spelled so and keeps the rules, and what keeps them is read as it is spelled.
use Rattle.std.proofs.Common.{◌≡◌, ℕ, zero, suc, ◌^◌, ◌<◌, Bool, true, false, cond, eqb, List, [], ◌∷◌, ◌++◌, length, map, Option, Some, None, Result, Ok, Err, refl, sym, ap, subst, ◌∙◌, append_assoc, append-nil, arith}
use Rattle.std.proofs.lemmas.Bool.{eqb-true, ne_eqb}
use Rattle.std.proofs.lemmas.List.{nil_from_length}
use Rattle.std.specs.List.{AllByRecursion}
use Rattle.std.specs.Prelude.{IfOk}
use Rattle.mx_avro.specs.Encoding.{bytes_encoding}
use Rattle.mx_payload.specs.declared.payload.NameWord.{NameWord}
use Rattle.mx_payload.specs.declared.payload.Payload.{Payload}
use Rattle.mx_payload.specs.declared.payload.Payload.TheVariants.{Partitions, Files, Stats, Bloom, Location}
use Rattle.mx_payload.specs.declared.error.PayloadError.{PayloadError}
use Rattle.mx_payload.specs.declared.error.PayloadError.TheVariants as errors
use Rattle.mx_payload.specs.Rules.{IsLong, IsText, IsWord, AreWords, RisesFrom, plain, IsStat, IsFilter, IsWellFormed}
use Rattle.mx_payload.specs.Encoding.{long, flag, word_map, stat_bytes, column_bytes, place_bytes, head, encoding}
use Rattle.mx_lists.specs.Reading.{◌>>=◌, Reader}
use Rattle.mx_payload.specs.Decoding.{both, behind, before_null, natural_in, expected_in, text_in, flag_in, map_in, stat_in, filter_in, instant_in, partitions_in, files_in, stats_in, bloom_in, location_in, kind_in, payload_in, Decodes, FailsAt, IsOnly}
use Rattle.mx_lists.proofs.Codecs.{IsBytes, Took, Codec, bind_ok, passed, ok_is}
use Rattle.mx_payload.proofs.Codecs.{both_codec}
use Rattle.mx_payload.proofs.Parts.{natural_codec, expected_again, expected_takes, text_codec, flag_codec, behind_codec, before_null_codec}
use Rattle.mx_payload.proofs.WordLists.{MapOf, WordsFrom, IsPlainIf, map_codec}
use Rattle.mx_payload.proofs.Stats.{stat_codec, filter_codec, instant_codec}

-- ---- the words of the two lists

words_of_rules : (before : Option (List ℕ)) (words : List NameWord) → AllByRecursion IsWord words → RisesFrom before words → WordsFrom false before words
words_of_rules before [] each rising = tt
words_of_rules before (w ∷ words) each rising = (record { word = each.0; rising = rising.0; plain = tt }, words_of_rules (Some w.name) words each.1 rising.1)

each_word : (is_plain : Bool) (before : Option (List ℕ)) (words : List NameWord) → WordsFrom is_plain before words → AllByRecursion IsWord words
each_word is_plain before [] h = tt
each_word is_plain before (w ∷ words) h = (h.0.word, each_word is_plain (Some w.name) words h.1)

rising_words : (is_plain : Bool) (before : Option (List ℕ)) (words : List NameWord) → WordsFrom is_plain before words → RisesFrom before words
rising_words is_plain before [] h = tt
rising_words is_plain before (w ∷ words) h = (h.0.rising, rising_words is_plain (Some w.name) words h.1)

to_rules : (is_plain : Bool) (words : List NameWord) → MapOf is_plain words → AreWords words
to_rules is_plain words m = record { count = m.count; each = each_word is_plain None words m.each; rising = rising_words is_plain None words m.each }

plain_words : (before : Option (List ℕ)) (names : List (List ℕ)) → AllByRecursion IsWord (map plain names) → RisesFrom before (map plain names) → WordsFrom true before (map plain names)
plain_words before [] each rising = tt
plain_words before (n ∷ names) each rising = (record { word = each.0; rising = rising.0; plain = (refl, refl) }, plain_words (Some n) names each.1 rising.1)

names : List NameWord → List (List ℕ)
names words = map (λ w. w.name) words

names-plain : (ns : List (List ℕ)) → names (map plain ns) ≡ ns
unfolding names
names-plain [] = refl
names-plain (n ∷ ns) = ap (λ (l : List (List ℕ)). n ∷ l) (names-plain ns)

plain-word : (w : NameWord) → IsPlainIf true w → plain w.name ≡ w
plain-word w p = let s : 0 ≡ w.size = sym p.0 in let d : false ≡ w.deleted = sym p.1 in λ i. record { name = w.name; size = s i; deleted = d i }

plain-names : (before : Option (List ℕ)) (words : List NameWord) → WordsFrom true before words → map plain (names words) ≡ words
unfolding names
plain-names before [] h = refl
plain-names before (w ∷ words) h = λ i. plain-word w h.0.plain i ∷ plain-names (Some w.name) words h.1 i

-- ---- the kinds

-- what stands behind the kind is the rest of the payload's spelling
record IsOf (kind : ℕ) (bytes rest : List ℕ) (p : Payload) : Type 0 where
  body : List ℕ
  took : Took bytes body rest
  spelled : encoding p ≡ head kind ++ body
  good : IsWellFormed p

module _ {A : Type 0} {r : Reader A} {s : A → List ℕ} {G : A → Type 0} where
  kind_takes : Codec r s G → (f : A → Payload) (kind : ℕ) → ((x : A) → G x → IsWellFormed (f x)) → ((x : A) → G x → encoding (f x) ≡ head kind ++ s x)
      → (bytes : List ℕ) (y : Payload × List ℕ) → IsBytes bytes → (r bytes >>= λ x. Ok (f x.0, x.1)) ≡ Ok y → IsOf kind bytes y.1 y.0
  kind_takes c f kind good spelled bytes y bs e =
      let a = bind_ok (r bytes) (λ x. Ok (f x.0, x.1)) y e in
      let t = c.takes bytes a.0 bs a.1 in
      let made : Payload × List ℕ = (f a.0.0, a.0.1) in
      subst (λ (z : Payload × List ℕ). IsOf kind bytes z.1 z.0) (ok_is made y a.2) (record { body = s a.0.0; took = t.0; spelled = spelled a.0.0 t.1; good = good a.0.0 t.1 })

list_codec : (is_plain : Bool) → Codec (behind 1 (before_null (before_null (before_null (map_in is_plain))))) (λ words. long 1 ++ (((word_map words ++ long 0) ++ long 0) ++ long 0)) (MapOf is_plain)
list_codec is_plain = behind_codec 1 (omega arith) (before_null_codec (before_null_codec (before_null_codec (map_codec is_plain))))

list_parts : (h b m c d e : List ℕ) → h ++ (b ++ m) ++ c ++ d ++ e ≡ h ++ (b ++ (((m ++ c) ++ d) ++ e))
list_parts h b m c d e = simp append_assoc

stats_codec : Codec (behind 0 (behind 0 (behind 1 (before_null (both text_in (both text_in stat_in)))))) (λ x. long 0 ++ (long 0 ++ (long 1 ++ ((bytes_encoding x.0 ++ (bytes_encoding x.1.0 ++ stat_bytes x.1.1.0 x.1.1.1)) ++ long 0))))
    (λ x. IsText x.0 × (IsText x.1.0 × IsStat x.1.1.0 x.1.1.1))
stats_codec = behind_codec 0 (omega arith) (behind_codec 0 (omega arith) (behind_codec 1 (omega arith) (before_null_codec (both_codec text_codec (both_codec text_codec stat_codec)))))

stats_parts : (h a b c f n s d : List ℕ) → h ++ a ++ b ++ (c ++ (f ++ n ++ s)) ++ d ≡ h ++ (a ++ (b ++ (c ++ ((f ++ (n ++ s)) ++ d))))
stats_parts h a b c f n s d = simp append_assoc

bloom_codec : Codec (behind 0 (behind 1 (before_null (before_null filter_in)))) (λ x. long 0 ++ (long 1 ++ (((bytes_encoding x.0 ++ flag x.1) ++ long 0) ++ long 0))) (λ x. IsLong (length x.0) × IsFilter x.0 x.1)
bloom_codec = behind_codec 0 (omega arith) (behind_codec 1 (omega arith) (before_null_codec (before_null_codec filter_codec)))

bloom_parts : (h a b f c d : List ℕ) → h ++ a ++ (b ++ f) ++ c ++ d ≡ h ++ (a ++ (b ++ ((f ++ c) ++ d)))
bloom_parts h a b f c d = simp append_assoc

location_codec : Codec (behind 0 (behind 0 (behind 0 (behind 1 (both text_in (both text_in (both instant_in flag_in)))))))
    (λ x. long 0 ++ (long 0 ++ (long 0 ++ (long 1 ++ (bytes_encoding x.0 ++ (bytes_encoding x.1.0 ++ (long x.1.1.0 ++ flag x.1.1.1)))))))
    (λ x. IsText x.0 × (IsText x.1.0 × (((0 < x.1.1.0) × (x.1.1.0 < 10 ^ 17)) × Unit {0})))
location_codec = behind_codec 0 (omega arith) (behind_codec 0 (omega arith) (behind_codec 0 (omega arith) (behind_codec 1 (omega arith) (both_codec text_codec (both_codec text_codec (both_codec instant_codec flag_codec))))))

location_parts : (h a b c d p f i x : List ℕ) → h ++ a ++ b ++ c ++ (d ++ (p ++ f ++ i ++ x)) ≡ h ++ (a ++ (b ++ (c ++ (d ++ (p ++ (f ++ (i ++ x)))))))
location_parts h a b c d p f i x = simp append_assoc

partitions_takes : (bytes : List ℕ) (y : Payload × List ℕ) → IsBytes bytes → partitions_in bytes ≡ Ok y → IsOf 1 bytes y.1 y.0
unfolding partitions_in names
partitions_takes bytes y bs e =
    kind_takes (list_codec true) (λ words. Partitions (map (λ w. w.name) words)) 1
    (λ words m. subst AreWords (sym (plain-names None words m.each)) (to_rules true words m))
    (λ words m. ap (λ (l : List NameWord). head 1 ++ (long 1 ++ word_map l) ++ long 0 ++ long 0 ++ long 0) (plain-names None words m.each) ∙ list_parts (head 1) (long 1) (word_map words) (long 0) (long 0) (long 0))
    bytes y bs e

files_takes : (bytes : List ℕ) (y : Payload × List ℕ) → IsBytes bytes → files_in bytes ≡ Ok y → IsOf 2 bytes y.1 y.0
unfolding files_in
files_takes bytes y bs e = kind_takes (list_codec false) Files 2 (to_rules false) (λ words m. list_parts (head 2) (long 1) (word_map words) (long 0) (long 0) (long 0)) bytes y bs e

stats_takes : (bytes : List ℕ) (y : Payload × List ℕ) → IsBytes bytes → stats_in bytes ≡ Ok y → IsOf 3 bytes y.1 y.0
unfolding stats_in column_bytes
stats_takes bytes y bs e =
    kind_takes stats_codec (λ x. Stats x.0 x.1.0 x.1.1.0 x.1.1.1) 3 (λ x good. (good.0, good.1.0, good.1.1))
    (λ x good. stats_parts (head 3) (long 0) (long 0) (long 1) (bytes_encoding x.0) (bytes_encoding x.1.0) (stat_bytes x.1.1.0 x.1.1.1) (long 0)) bytes y bs e

bloom_takes : (bytes : List ℕ) (y : Payload × List ℕ) → IsBytes bytes → bloom_in bytes ≡ Ok y → IsOf 4 bytes y.1 y.0
unfolding bloom_in
bloom_takes bytes y bs e =
    kind_takes bloom_codec (λ x. Bloom x.0 x.1) 4 (λ x good. good) (λ x good. bloom_parts (head 4) (long 0) (long 1) (bytes_encoding x.0 ++ flag x.1) (long 0) (long 0)) bytes y bs e

location_takes : (bytes : List ℕ) (y : Payload × List ℕ) → IsBytes bytes → location_in bytes ≡ Ok y → IsOf 5 bytes y.1 y.0
unfolding location_in place_bytes
location_takes bytes y bs e =
    kind_takes location_codec (λ x. Location x.0 x.1.0 x.1.1.0 x.1.1.1) 5 (λ x good. (good.0, good.1.0, good.1.1.0.0, good.1.1.0.1))
    (λ x good. location_parts (head 5) (long 0) (long 0) (long 0) (long 1) (bytes_encoding x.0) (bytes_encoding x.1.0) (long x.1.1.0) (flag x.1.1.1)) bytes y bs e

abbrev refused : ℕ → Result (Payload × List ℕ) ℕ
refused left = Err left

differ : (left : ℕ) (y : Payload × List ℕ) → refused left ≡ Ok y → ⊥
differ left y e = absurd cc

no_kind : (kind left : ℕ) (bytes : List ℕ) (y : Payload × List ℕ) → eqb kind 1 ≡ false → eqb kind 2 ≡ false → eqb kind 3 ≡ false → eqb kind 4 ≡ false → eqb kind 5 ≡ false → kind_in left kind bytes ≡ Ok y → ⊥
no_kind kind left bytes y n1 n2 n3 n4 n5 e =
    let none : kind_in left kind bytes ≡ Err left = rw (n1, n2, n3, n4, n5) refl in
    differ left y (sym none ∙ e)

any_takes : (kind left : ℕ) (bytes : List ℕ) (y : Payload × List ℕ) → IsBytes bytes → kind_in left kind bytes ≡ Ok y → IsOf kind bytes y.1 y.0
any_takes zero left bytes y bs e = absurd (no_kind 0 left bytes y refl refl refl refl refl e)
any_takes (suc zero) left bytes y bs e = partitions_takes bytes y bs e
any_takes (suc (suc zero)) left bytes y bs e = files_takes bytes y bs e
any_takes (suc (suc (suc zero))) left bytes y bs e = stats_takes bytes y bs e
any_takes (suc (suc (suc (suc zero)))) left bytes y bs e = bloom_takes bytes y bs e
any_takes (suc (suc (suc (suc (suc zero))))) left bytes y bs e = location_takes bytes y bs e
any_takes (suc (suc (suc (suc (suc (suc n)))))) left bytes y bs e =
    let k = suc (suc (suc (suc (suc (suc n))))) in
    absurd (no_kind k left bytes y (ne_eqb k 1 (λ h. omega arith)) (ne_eqb k 2 (λ h. omega arith)) (ne_eqb k 3 (λ h. omega arith)) (ne_eqb k 4 (λ h. omega arith)) (ne_eqb k 5 (λ h. omega arith)) e)

-- ---- all of the bytes

pub payload_takes : (bytes : List ℕ) (p : Payload) → IsBytes bytes → payload_in bytes ≡ Ok p → IsWellFormed p × (bytes ≡ encoding p)
unfolding payload_in
payload_takes bytes p bs e =
    let a = bind_ok (expected_in 0 bytes) (λ key. natural_in key >>= λ kind. kind_in (length key) kind.0 kind.1 >>= λ payload. cond (eqb (length payload.1) 0) (Ok payload.0) (Err (length payload.1))) p e in
    let b = bind_ok (natural_in a.0) (λ kind. kind_in (length a.0) kind.0 kind.1 >>= λ payload. cond (eqb (length payload.1) 0) (Ok payload.0) (Err (length payload.1))) p a.2 in
    let c = bind_ok (kind_in (length a.0) b.0.0 b.0.1) (λ payload. cond (eqb (length payload.1) 0) (Ok payload.0) (Err (length payload.1))) p b.2 in
    let g = passed (eqb (length c.0.1) 0) c.0.0 p (length c.0.1) c.2 in
    let key = expected_takes 0 bytes a.0 bs a.1 in
    let kind = natural_codec.takes a.0 b.0 key.rest_fits b.1 in
    let of = any_takes b.0.0 (length a.0) b.0.1 c.0 kind.0.rest_fits c.1 in
    let nothing : c.0.1 ≡ [] = nil_from_length c.0.1 (eqb-true _ _ g.0) in
    let body : b.0.1 ≡ of.body = of.took.parts ∙ ap (λ (r : List ℕ). of.body ++ r) nothing ∙ append-nil of.body in
    let whole : bytes ≡ encoding c.0.0 =
    key.parts ∙ ap (λ (r : List ℕ). long 0 ++ r) (kind.0.parts ∙ ap (λ (r : List ℕ). long b.0.0 ++ r) body) ∙ sym (append_assoc (long 0) (long b.0.0) of.body) ∙ sym of.spelled in
    subst (λ (q : Payload). IsWellFormed q × (bytes ≡ encoding q)) g.1 (of.good, whole)

-- a payload is read again where its kind reads the rest of its spelling
read_again : (kind : ℕ) (body : List ℕ) (p : Payload) → IsLong kind → ((left : ℕ) → kind_in left kind (body ++ []) ≡ Ok (p, [])) → encoding p ≡ head kind ++ body → payload_in (encoding p) ≡ Ok p
unfolding payload_in
read_again kind body p fits reads spelled =
    let parts : encoding p ≡ long 0 ++ (long kind ++ (body ++ [])) =
    spelled ∙ append_assoc (long 0) (long kind) body ∙ ap (λ (r : List ℕ). long 0 ++ (long kind ++ r)) (sym (append-nil body)) in
    ap payload_in parts ∙ rw (expected_again 0 (long kind ++ (body ++ [])) (omega arith), natural_codec.again kind (body ++ []) fits, reads (length (long kind ++ (body ++ [])))) refl

pub payload_again : (p : Payload) → IsWellFormed p → payload_in (encoding p) ≡ Ok p
unfolding partitions_in files_in stats_in bloom_in location_in column_bytes place_bytes names
payload_again (Partitions ns) good =
    let m : MapOf true (map plain ns) = record { count = good.count; each = plain_words None ns good.each good.rising } in
    let body = long 1 ++ (((word_map (map plain ns) ++ long 0) ++ long 0) ++ long 0) in
    read_again 1 body (Partitions ns) (omega arith) (λ left. rw ((list_codec true).again (map plain ns) [] m) (ap (λ (l : List (List ℕ)). Ok (Partitions l, [])) (names-plain ns)))
    (list_parts (head 1) (long 1) (word_map (map plain ns)) (long 0) (long 0) (long 0))
payload_again (Files words) good =
    let m : MapOf false words = record { count = good.count; each = words_of_rules None words good.each good.rising } in
    let body = long 1 ++ (((word_map words ++ long 0) ++ long 0) ++ long 0) in
    read_again 2 body (Files words) (omega arith) (λ left. rw ((list_codec false).again words [] m) refl) (list_parts (head 2) (long 1) (word_map words) (long 0) (long 0) (long 0))
payload_again (Stats file column s deleted) good =
    let body = long 0 ++ (long 0 ++ (long 1 ++ ((bytes_encoding file ++ (bytes_encoding column ++ stat_bytes s deleted)) ++ long 0))) in
    read_again 3 body (Stats file column s deleted) (omega arith) (λ left. rw (stats_codec.again (file, (column, (s, deleted))) [] (good.0, (good.1, good.2))) refl)
    (stats_parts (head 3) (long 0) (long 0) (long 1) (bytes_encoding file) (bytes_encoding column) (stat_bytes s deleted) (long 0))
payload_again (Bloom bits deleted) good =
    let body = long 0 ++ (long 1 ++ (((bytes_encoding bits ++ flag deleted) ++ long 0) ++ long 0)) in
    read_again 4 body (Bloom bits deleted) (omega arith) (λ left. rw (bloom_codec.again (bits, deleted) [] good) refl) (bloom_parts (head 4) (long 0) (long 1) (bytes_encoding bits ++ flag deleted) (long 0) (long 0))
payload_again (Location partition file instant deleted) good =
    let body = long 0 ++ (long 0 ++ (long 0 ++ (long 1 ++ (bytes_encoding partition ++ (bytes_encoding file ++ (long instant ++ flag deleted)))))) in
    read_again 5 body (Location partition file instant deleted) (omega arith) (λ left. rw (location_codec.again (partition, (file, (instant, deleted))) [] (good.0, (good.1, ((good.2, good.3), tt)))) refl)
    (location_parts (head 5) (long 0) (long 0) (long 0) (long 1) (bytes_encoding partition) (bytes_encoding file) (long instant) (flag deleted))

-- ---- decoding

pub decodes_found : (bytes : List ℕ) (r : Result Payload PayloadError) → IsBytes bytes → Decodes bytes r → IfOk r (λ p. IsWellFormed p × (bytes ≡ encoding p))
decodes_found bytes (Ok p) bs h = payload_takes bytes p bs h
decodes_found bytes (Err e) bs h = tt

abbrev got : Payload → Result Payload ℕ
got p = Ok p

got_is : (p q : Payload) → got p ≡ got q → p ≡ q
got_is p q e = cc

pub decodes_only : (bytes : List ℕ) (p : Payload) (r : Result Payload PayloadError) → IsWellFormed p → bytes ≡ encoding p → Decodes bytes r → IsOnly p r
decodes_only bytes p (Ok q) good e h = got_is q p (sym h ∙ (ap payload_in e ∙ payload_again p good))
decodes_only bytes p (Err errors.NoMemory) good e h = tt
decodes_only bytes p (Err (errors.BadPayload at)) good e h = subst (FailsAt (length bytes) (errors.BadPayload at)) (ap payload_in e ∙ payload_again p good) h
