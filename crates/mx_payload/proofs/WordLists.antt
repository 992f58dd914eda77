-- Words, maps and stats are read as they were written, and were written as they are read.
use Rattle.std.proofs.Common.{◌≡◌, ℕ, zero, suc, Bool, true, false, not, eqb, ltb, ◌&&◌, List, [], ◌∷◌, ◌++◌, length, Option, Some, None, Ok, refl, sym, ap, subst, ◌∙◌, append_assoc, arith}
use Rattle.std.proofs.lemmas.Bool.{ne_eqb}
use Rattle.std.proofs.lemmas.Bool.Decides.{nat_tests}
use Rattle.std.proofs.lemmas.List.Concat.{flat_map-cons}
use Rattle.std.specs.List.{flat_map}
use Rattle.std.specs.Bool.{IsTrue}
use Rattle.mx_avro.specs.Encoding.{bytes_encoding}
use Rattle.mx_payload.specs.declared.payload.NameWord.{NameWord}
use Rattle.mx_payload.specs.Rules.{IsLong, IsText, IsWord, rises}
use Rattle.mx_payload.specs.Encoding.{long, flag, word, word_map}
use Rattle.mx_lists.specs.Reading.{◌>>=◌}
use Rattle.mx_payload.specs.Decoding.{both, before_null, natural_in, expected_in, name_in, state_in, word_in, words_in, block_in, map_in}
use Rattle.mx_lists.proofs.Codecs.{IsBytes, Took, Codec, bind_ok, ok_is, Took-then}
use Rattle.mx_payload.proofs.Codecs.{both_codec, passing_codec}
use Rattle.mx_payload.proofs.Parts.{Any, natural_codec, expected_again, expected_takes, text_codec, flag_codec}

-- ---- words

-- a word of the partition list is as plain as its name
abbrev pub IsPlainIf : Bool → NameWord → Type 0
IsPlainIf false w = Unit {0}
IsPlainIf true w = (w.size ≡ 0) × (w.deleted ≡ false)

pub record WordFrom (is_plain : Bool) (before : Option (List ℕ)) (w : NameWord) : Type 0 where
  pub word : IsWord w
  pub rising : IsTrue (rises before w.name)
  pub plain : IsPlainIf is_plain w

abbrev pub WordsFrom : Bool → Option (List ℕ) → List NameWord → Type 0
WordsFrom is_plain before [] = Unit {0}
WordsFrom is_plain before (w ∷ words) = WordFrom is_plain before w × WordsFrom is_plain (Some w.name) words

state_codec : (is_plain : Bool) → Codec (state_in is_plain) (λ x. long x.0 ++ flag x.1) (λ x. ((IsLong x.0 × (not (is_plain && ltb 0 x.0) ≡ true)) × (Any x.1 × (not (is_plain && x.1) ≡ true))) × (not (x.1 && ltb 0 x.0) ≡ true))
unfolding state_in
state_codec is_plain = passing_codec (λ x. not (x.1 && ltb 0 x.0)) (both_codec (passing_codec (λ size. not (is_plain && ltb 0 size)) natural_codec) (passing_codec (λ deleted. not (is_plain && deleted)) flag_codec))

name_codec : (before : Option (List ℕ)) → Codec (name_in before) bytes_encoding (λ name. IsText name × (rises before name ≡ true))
unfolding name_in
name_codec before = passing_codec (rises before) text_codec

abbrev State : Bool → Option (List ℕ) → NameWord → Type 0
State is_plain before w = (IsText w.name × (rises before w.name ≡ true)) × (((IsLong w.size × (not (is_plain && ltb 0 w.size) ≡ true)) × (Any w.deleted × (not (is_plain && w.deleted) ≡ true))) × (not (w.deleted && ltb 0 w.size) ≡ true))

is_true : (b : Bool) → b ≡ true → IsTrue b
is_true b e = e

no_size : (deleted : Bool) (size : ℕ) → not (deleted && ltb 0 size) ≡ true → deleted ≡ true → size ≡ 0
no_size deleted size e is = grind (arith, nat_tests)

plain_if : (is_plain : Bool) (w : NameWord) → not (is_plain && ltb 0 w.size) ≡ true → not (is_plain && w.deleted) ≡ true → IsPlainIf is_plain w
plain_if false w e f = tt
plain_if true w e f = (grind (arith, nat_tests), grind (arith, nat_tests))

size_ok : (is_plain : Bool) (w : NameWord) → IsPlainIf is_plain w → not (is_plain && ltb 0 w.size) ≡ true
size_ok false w p = refl
size_ok true w p = rw p.0 refl

deleted_ok : (is_plain : Bool) (w : NameWord) → IsPlainIf is_plain w → not (is_plain && w.deleted) ≡ true
deleted_ok false w p = refl
deleted_ok true w p = rw p.1 refl

silent_ok : (deleted : Bool) (size : ℕ) → (deleted ≡ true → size ≡ 0) → not (deleted && ltb 0 size) ≡ true
silent_ok false size h = refl
silent_ok true size h = rw (h refl) refl

word-parts : (w : NameWord) → word w ≡ bytes_encoding w.name ++ (long w.size ++ flag w.deleted)
word-parts w = append_assoc (bytes_encoding w.name) (long w.size) (flag w.deleted)

word_again : (is_plain : Bool) (before : Option (List ℕ)) (w : NameWord) (rest : List ℕ) → WordFrom is_plain before w → word_in is_plain before (word w ++ rest) ≡ Ok (w, rest)
unfolding word_in
word_again is_plain before w rest good =
    let c = both_codec (name_codec before) (state_codec is_plain) in
    let state : State is_plain before w = ((good.word.name, good.rising), (((good.word.size, size_ok is_plain w good.plain), (tt, deleted_ok is_plain w good.plain)), silent_ok w.deleted w.size good.word.deleted)) in
    ap (λ (bytes : List ℕ). word_in is_plain before (bytes ++ rest)) (word-parts w)
    ∙ rw (c.again (w.name, (w.size, w.deleted)) rest state) refl

word_takes : (is_plain : Bool) (before : Option (List ℕ)) (bytes : List ℕ) (y : NameWord × List ℕ) → IsBytes bytes → word_in is_plain before bytes ≡ Ok y → Took bytes (word y.0) y.1 × WordFrom is_plain before y.0
unfolding word_in
word_takes is_plain before bytes y bs e =
    let c = both_codec (name_codec before) (state_codec is_plain) in
    let a = bind_ok (both (name_in before) (state_in is_plain) bytes) (λ x. Ok (record { name = x.0.0; size = x.0.1.0; deleted = x.0.1.1 }, x.1)) y e in
    let t = c.takes bytes a.0 bs a.1 in
    let w : NameWord = record { name = a.0.0.0; size = a.0.0.1.0; deleted = a.0.0.1.1 } in
    let made : NameWord × List ℕ = (w, a.0.1) in
    let good : WordFrom is_plain before w = record {
      word = record { name = t.1.0.0; size = t.1.1.0.0.0; deleted = no_size w.deleted w.size t.1.1.1 };
      rising = t.1.0.1;
      plain = plain_if is_plain w t.1.1.0.0.1 t.1.1.0.1.1;
    } in
    subst (λ (z : NameWord × List ℕ). Took bytes (word z.0) z.1 × WordFrom is_plain before z.0) (ok_is made y a.2) (subst (λ (k : List ℕ). Took bytes k a.0.1) (sym (word-parts w)) t.0, good)

words_takes : (is_plain : Bool) (before : Option (List ℕ)) (count : ℕ) (bytes : List ℕ) (y : List NameWord × List ℕ) → IsBytes bytes → words_in is_plain before count bytes ≡ Ok y
    → Took bytes (flat_map word y.0) y.1 × ((length y.0 ≡ count) × WordsFrom is_plain before y.0)
unfolding words_in
words_takes is_plain before zero bytes y bs e =
    subst (λ (z : List NameWord × List ℕ). Took bytes (flat_map word z.0) z.1 × ((length z.0 ≡ 0) × WordsFrom is_plain before z.0)) (ok_is ([], bytes) y e) (record { parts = refl; rest_fits = bs }, (refl, tt))
words_takes is_plain before (suc n) bytes y bs e =
    let a = bind_ok (word_in is_plain before bytes) (λ first. words_in is_plain (Some first.0.name) n first.1 >>= λ others. Ok (first.0 ∷ others.0, others.1)) y e in
    let b = bind_ok (words_in is_plain (Some a.0.0.name) n a.0.1) (λ others. Ok (a.0.0 ∷ others.0, others.1)) y a.2 in
    let first = word_takes is_plain before bytes a.0 bs a.1 in
    let second = words_takes is_plain (Some a.0.0.name) n a.0.1 b.0 first.0.rest_fits b.1 in
    let both = Took-then bytes (word a.0.0) a.0.1 (flat_map word b.0.0) b.0.1 first.0 second.0 in
    let made : List NameWord × List ℕ = (a.0.0 ∷ b.0.0, b.0.1) in
    subst (λ (z : List NameWord × List ℕ). Took bytes (flat_map word z.0) z.1 × ((length z.0 ≡ suc n) × WordsFrom is_plain before z.0)) (ok_is made y b.2) (rw flat_map-cons both, (ap suc second.1.0, (first.1, second.1.1)))

words_again : (is_plain : Bool) (before : Option (List ℕ)) (words : List NameWord) (rest : List ℕ) → WordsFrom is_plain before words → words_in is_plain before (length words) (flat_map word words ++ rest) ≡ Ok (words, rest)
unfolding words_in
words_again is_plain before [] rest good = refl
words_again is_plain before (w ∷ words) rest good =
    let regrouped : flat_map word (w ∷ words) ++ rest ≡ word w ++ (flat_map word words ++ rest) = ap (λ (x : List ℕ). x ++ rest) (flat_map-cons word w words) ∙ append_assoc (word w) (flat_map word words) rest in
    ap (words_in is_plain before (suc (length words))) regrouped ∙ rw (word_again is_plain before w (flat_map word words ++ rest) good.0, words_again is_plain (Some w.name) words rest good.1) refl

-- ---- maps

pub record MapOf (is_plain : Bool) (words : List NameWord) : Type 0 where
  pub count : IsLong (length words)
  pub each : WordsFrom is_plain None words

block-spelled : (w : NameWord) (words : List NameWord) → word_map (w ∷ words) ≡ long (length (w ∷ words)) ++ (flat_map word (w ∷ words) ++ long 0)
block-spelled w words = append_assoc (long (length (w ∷ words))) (flat_map word (w ∷ words)) (long 0)

map_again : (is_plain : Bool) (words : List NameWord) (rest : List ℕ) → MapOf is_plain words → map_in is_plain (word_map words ++ rest) ≡ Ok (words, rest)
unfolding map_in
map_again is_plain [] rest good = rw (natural_codec.again 0 rest (omega arith)) refl
map_again is_plain (w ∷ words) rest good =
    let count = length (w ∷ words) in
    let body = flat_map word (w ∷ words) in
    let parts : word_map (w ∷ words) ++ rest ≡ long count ++ (body ++ (long 0 ++ rest)) =
    append_assoc (long count ++ body) (long 0) rest ∙ append_assoc (long count) body (long 0 ++ rest) in
    let some : eqb count 0 ≡ false = ne_eqb count 0 (λ h. omega arith) in
    ap (map_in is_plain) parts ∙ rw (natural_codec.again count (body ++ (long 0 ++ rest)) good.count, some, words_again is_plain None (w ∷ words) (long 0 ++ rest) good.each, expected_again 0 rest (omega arith)) refl

block_is : (front : List ℕ) (n : ℕ) (words : List NameWord) (rest : List ℕ) → length words ≡ suc n → Took front (long (suc n) ++ (flat_map word words ++ long 0)) rest → Took front (word_map words) rest
block_is front n [] rest len t = absurd (omega arith)
block_is front n (w ∷ words) rest len t =
    subst (λ (k : List ℕ). Took front k rest) (sym (block-spelled w words ∙ ap (λ (m : ℕ). long m ++ (flat_map word (w ∷ words) ++ long 0)) len)) t

block_takes : (is_plain : Bool) (count : ℕ) (front bytes : List ℕ) (y : List NameWord × List ℕ) → IsLong count → Took front (long count) bytes → block_in is_plain count bytes ≡ Ok y → Took front (word_map y.0) y.1 × MapOf is_plain y.0
block_takes is_plain zero front bytes y fits first e =
    subst (λ (z : List NameWord × List ℕ). Took front (word_map z.0) z.1 × MapOf is_plain z.0) (ok_is ([], bytes) y e) (first, record { count = omega arith; each = tt })
block_takes is_plain (suc n) front bytes y fits first e =
    let some : eqb (suc n) 0 ≡ false = ne_eqb (suc n) 0 (λ h. omega arith) in
    let block : before_null (words_in is_plain None (suc n)) bytes ≡ Ok y = sym (rw some refl) ∙ e in
    let a = bind_ok (words_in is_plain None (suc n) bytes) (λ x. expected_in 0 x.1 >>= λ rest. Ok (x.0, rest)) y block in
    let b = bind_ok (expected_in 0 a.0.1) (λ rest. Ok (a.0.0, rest)) y a.2 in
    let t = words_takes is_plain None (suc n) bytes a.0 first.rest_fits a.1 in
    let u = expected_takes 0 a.0.1 b.0 t.0.rest_fits b.1 in
    let made : List NameWord × List ℕ = (a.0.0, b.0) in
    let whole = Took-then front (long (suc n)) bytes (flat_map word a.0.0 ++ long 0) b.0 first (Took-then bytes (flat_map word a.0.0) a.0.1 (long 0) b.0 t.0 u) in
    subst (λ (z : List NameWord × List ℕ). Took front (word_map z.0) z.1 × MapOf is_plain z.0) (ok_is made y b.2) (block_is front n a.0.0 b.0 t.1.0 whole, record { count = rw t.1.0 fits; each = t.1.1 })

pub map_codec : (is_plain : Bool) → Codec (map_in is_plain) word_map (MapOf is_plain)
unfolding map_in
map_codec is_plain = record {
  again = map_again is_plain;
  takes = λ bytes y bs e.
      let a = bind_ok (natural_in bytes) (λ count. block_in is_plain count.0 count.1) y e in
      let t = natural_codec.takes bytes a.0 bs a.1 in
      block_takes is_plain a.0.0 bytes a.0.1 y t.1 t.0 a.2;
}
