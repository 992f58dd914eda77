-- Values that hold no other, lists, sets and maps: what is read of them is what their bytes stand for.
use Rattle.std.proofs.Common.{◌≡◌, ℕ, zero, suc, ◌+◌, ◌*◌, ◌/◌, ◌%◌, ◌^◌, ◌<◌, ◌≤◌, true, false, cond, eqb, ltb, List, [], ◌∷◌, ◌++◌, length, Option, Some, None, Ok, Err, refl, sym, ap, subst, ◌∙◌, append_assoc, arith, inl, inr, ◌⊎◌}
use Rattle.std.proofs.lemmas.Bool.{cases_eq, cases_lt, lt-ltb, le-ltb}
use Rattle.std.proofs.lemmas.Bool.Decides.{nat_tests}
use Rattle.mx_avro.proofs.Groups.{IsBytes}
use Rattle.mx_thrift.specs.declared.error.Rule.TheVariants as rules
use Rattle.mx_thrift.specs.declared.kind.Kind.{Kind}
use Rattle.mx_thrift.specs.declared.kind.Kind.TheVariants as kinds
use Rattle.mx_thrift.specs.declared.value.Value.{Value}
use Rattle.mx_thrift.specs.declared.value.Value.TheVariants as values
use Rattle.mx_thrift.specs.Types.{kind_of_code}
use Rattle.mx_thrift.specs.Grammar.{Grammar, IsCount, signed_byte, DecodesLeaf, IsListHead, AreItems, DecodesList, DecodesPairs, DecodesPairsIf, DecodesMap}
use Rattle.mx_thrift.specs.Decoding.{◌>>=◌, Read, Reader, broken, both, in_turn, byte_in, count_in, leaf_in, named_from, said_in, without, items_in, list_in, types_in, pairs_in, map_in}
use Rattle.mx_thrift.proofs.Codecs.{Took, Codec, bind_ok, ok_is, behind_fits, regroup, byte_takes, number_codec, signed_codec, text_codec, eight_codec, mapped_codec, stated, turn_again, turn_takes, both_codec}

-- ---- types

pub kind_small : (code : ℕ) (kind : Kind) → kind_of_code code ≡ Some kind → (0 < code) × (code < 16)
unfolding kind_of_code
kind_small zero kind e = absurd cc
kind_small (suc n) kind e = elim (cases_lt (suc n) 16) [
  | inl low ↦ (omega arith, low)
  | inr high ↦
      let t1 : eqb (suc n) 1 ≡ false = grind (arith, nat_tests) in
      let t2 : eqb (suc n) 2 ≡ false = grind (arith, nat_tests) in
      let t3 : eqb (suc n) 3 ≡ false = grind (arith, nat_tests) in
      let t4 : eqb (suc n) 4 ≡ false = grind (arith, nat_tests) in
      let t5 : eqb (suc n) 5 ≡ false = grind (arith, nat_tests) in
      let t6 : eqb (suc n) 6 ≡ false = grind (arith, nat_tests) in
      let t7 : eqb (suc n) 7 ≡ false = grind (arith, nat_tests) in
      let t8 : eqb (suc n) 8 ≡ false = grind (arith, nat_tests) in
      let t9 : eqb (suc n) 9 ≡ false = grind (arith, nat_tests) in
      let t10 : eqb (suc n) 10 ≡ false = grind (arith, nat_tests) in
      let t11 : eqb (suc n) 11 ≡ false = grind (arith, nat_tests) in
      let t12 : eqb (suc n) 12 ≡ false = grind (arith, nat_tests) in
      let none : kind_of_code (suc n) ≡ None = rw (t1, t2, t3, t4, t5, t6, t7, t8, t9, t10, t11, t12) refl in
      absurd cc
]

pub named_ok : (left : ℕ) (o : Option Kind) (kind : Kind) → named_from left o ≡ Ok kind → o ≡ Some kind
named_ok left (Some k) kind e = ap Some (ok_is _ _ e)
named_ok left None kind e = absurd cc

-- ---- values that hold no other

byte_codec : Codec byte_in (λ bytes b. bytes ≡ b ∷ [])
byte_codec = record {
  again = λ b text rest g. rw g refl;
  takes = λ bytes x bs e. let t = byte_takes bytes x bs e in record { text = x.0 ∷ []; parts = t.0; means = refl };
}

deep_codec : Codec {A = Value} (broken rules.Deep) (λ bytes v. ⊥)
deep_codec = record { again = λ v text rest g. absurd g; takes = λ bytes x bs e. absurd cc }

pub leaf_codec : (kind : Kind) → Codec (leaf_in kind) (DecodesLeaf kind)
unfolding leaf_in
leaf_codec kinds.Flag = mapped_codec (λ b. values.Flag (eqb b 1)) byte_codec
leaf_codec kinds.Byte = mapped_codec (λ b. values.Byte (signed_byte b)) byte_codec
leaf_codec kinds.Short = mapped_codec values.Short (signed_codec (2 ^ 16))
leaf_codec kinds.Int = mapped_codec values.Int (signed_codec (2 ^ 32))
leaf_codec kinds.Long = mapped_codec values.Long (signed_codec (2 ^ 64))
leaf_codec kinds.Double = stated
    (λ bytes v g. (g.1.0, g.2 ∙ ap values.Double g.1.1))
    (λ bytes v g. (bytes, (g.0, refl), g.1))
    (mapped_codec values.Double eight_codec)
leaf_codec kinds.Bytes = mapped_codec values.Bytes text_codec
leaf_codec kinds.List = deep_codec
leaf_codec kinds.Set = deep_codec
leaf_codec kinds.Map = deep_codec
leaf_codec kinds.Struct = deep_codec

-- ---- the count of a list

-- what stands behind the first byte of a list with that high half
abbrev Said : ℕ → List ℕ → ℕ → Type 0
Said high bytes count = ((high < 15) × (bytes ≡ []) × (count ≡ high)) ⊎ ((15 ≤ high) × IsCount bytes count)

said_again : (high count : ℕ) (text rest : List ℕ) → Said high text count → said_in high (text ++ rest) ≡ Ok (count, rest)
said_again high count text rest (inl g) =
    let test : ltb high 15 ≡ true = lt-ltb high 15 g.0 in
    let none = g.1 in let is = g.2 in
    rw (test, none, is) refl
said_again high count text rest (inr g) =
    let test : ltb high 15 ≡ false = le-ltb _ _ g.0 in
    rw test ((number_codec (2 ^ 31)).again count text rest g.1)

said_takes : (high : ℕ) (bytes : List ℕ) (x : ℕ × List ℕ) → IsBytes bytes → said_in high bytes ≡ Ok x → Took (Said high) bytes x
said_takes high bytes x bs e = elim (cases_lt high 15) [
  | inl low ↦
      let test : ltb high 15 ≡ true = lt-ltb high 15 low in
      let read : said_in high bytes ≡ Ok (high, bytes) = rw test refl in
      subst (Took (Said high) bytes) (ok_is _ _ (sym read ∙ e)) (record { text = []; parts = refl; means = inl (low, refl, refl) })
  | inr above ↦
      let test : ltb high 15 ≡ false = le-ltb _ _ above in
      let read : said_in high bytes ≡ count_in bytes = rw test refl in
      let t = (number_codec (2 ^ 31)).takes bytes x bs (sym read ∙ e) in
      record { text = t.text; parts = t.parts; means = inr (above, t.means) }
]

without_ok : (left : ℕ) (r : Read (ℕ × List ℕ)) (rest : List ℕ) → without left r ≡ Ok rest → r ≡ Ok (0, rest)
without_ok left (Ok n) rest e = elim (cases_eq n.0 0) [
  | inl none ↦
      let test : eqb n.0 0 ≡ true = grind (arith, nat_tests) in
      let read : without left (Ok n) ≡ Ok n.1 = rw test refl in
      let same : n.1 ≡ rest = ok_is _ _ (sym read ∙ e) in
      ap (λ (m : ℕ). Ok (m, n.1)) none ∙ ap (λ (t : List ℕ). Ok (0, t)) same
  | inr some ↦
      let test : eqb n.0 0 ≡ false = grind (arith, nat_tests) in
      let read : without left (Ok n) ≡ Err (rules.BadType, left) = rw test refl in
      absurd (let both = sym read ∙ e in cc)
]
without_ok left (Err (rules.Short, place)) rest e = absurd cc
without_ok left (Err (rules.Wide, place)) rest e = absurd cc
without_ok left (Err (rules.BadType, place)) rest e = absurd cc
without_ok left (Err (rules.Deep, place)) rest e = absurd cc

-- ---- lists and maps of values that are read as their bytes have them

module _ {inner : Kind → Reader Value} {Inner : Kind → Grammar Value} (codec : (kind : Kind) → Codec (inner kind) (Inner kind)) where
  items_again : (left high : ℕ) (o : Option Kind) (items : List Value) (head body rest : List ℕ) → Said high head (length items) → AreItems Inner o body items
      → items_in inner left high o (head ++ (body ++ rest)) ≡ Ok (items, rest)
  items_again left high (Some kind) items head body rest said are =
      let first = said_again high (length items) head (body ++ rest) said in
      rw first (turn_again (codec kind) items body rest are)
  items_again left high None items head body rest said are =
      let first = said_again high (length items) head (body ++ rest) said in
      let none = are.0 in let empty = are.1 in
      rw (first, none, empty) refl

  record Items (left high : ℕ) (o : Option Kind) (bytes : List ℕ) (x : List Value × List ℕ) : Type 0 where
    pub head : List ℕ
    pub body : List ℕ
    pub parts : bytes ≡ head ++ (body ++ x.1)
    pub said : Said high head (length x.0)
    pub are : AreItems Inner o body x.0

  items_takes : (left high : ℕ) (o : Option Kind) (bytes : List ℕ) (x : List Value × List ℕ) → IsBytes bytes → items_in inner left high o bytes ≡ Ok x → Items left high o bytes x
  items_takes left high (Some kind) bytes x bs e =
      let h = bind_ok (said_in high bytes) (λ count. in_turn (inner kind) count.0 count.1) x e in
      let t = said_takes high bytes h.0 bs h.1 in
      let u = turn_takes (codec kind) h.0.0 h.0.1 x (behind_fits t.text h.0.1 bytes t.parts bs) h.2 in
      record {
        head = t.text;
        body = u.0.text;
        parts = t.parts ∙ ap (λ (r : List ℕ). t.text ++ r) u.0.parts;
        said = subst (Said high t.text) (sym u.1) t.means;
        are = u.0.means;
      }
  items_takes left high None bytes x bs e =
      let h = bind_ok (without left (said_in high bytes)) (λ rest. Ok ([], rest)) x e in
      let read = without_ok left (said_in high bytes) h.0 h.1 in
      let t = said_takes high bytes (0, h.0) bs read in
      subst (Items left high None bytes) (ok_is _ _ h.2) (record { head = t.text; body = []; parts = t.parts; said = t.means; are = (refl, refl) })

  -- the byte in front
  list_front : (b : ℕ) (rest : List ℕ) (items : List Value) (after : List ℕ) → items_in inner (length (b ∷ rest)) (b / 16) (kind_of_code (b % 16)) rest ≡ Ok (items, after) → list_in inner (b ∷ rest) ≡ Ok ((b % 16, items), after)
  unfolding list_in
  list_front b rest items after e = rw e refl

  pub list_codec : Codec (list_in inner) (λ bytes x. DecodesList Inner bytes x.0 x.1)
  unfolding list_in
  list_codec = record { again = list_again; takes = list_takes }
    where
      placed_again : (b code : ℕ) (items : List Value) (text head body rest : List ℕ) → b % 16 ≡ code → text ≡ (b ∷ head) ++ body → Said (b / 16) head (length items) → AreItems Inner (kind_of_code code) body items
          → list_in inner (text ++ rest) ≡ Ok ((code, items), rest)
      placed_again b code items text head body rest low parts said are =
          let grouped : text ++ rest ≡ b ∷ (head ++ (body ++ rest)) = ap (λ (t : List ℕ). t ++ rest) parts ∙ append_assoc (b ∷ head) body rest in
          let are' : AreItems Inner (kind_of_code (b % 16)) body items = subst (λ (c : ℕ). AreItems Inner (kind_of_code c) body items) (sym low) are in
          ap (list_in inner) grouped
          ∙ list_front b (head ++ (body ++ rest)) items rest (items_again (length (b ∷ (head ++ (body ++ rest)))) (b / 16) (kind_of_code (b % 16)) items head body rest said are')
          ∙ ap (λ (c : ℕ). Ok ((c, items), rest)) low

      by_head : (code : ℕ) (items : List Value) (text head body rest : List ℕ) → text ≡ head ++ body → code < 16 → IsListHead code head (length items) → AreItems Inner (kind_of_code code) body items
          → list_in inner (text ++ rest) ≡ Ok ((code, items), rest)
      by_head code items text head body rest parts half (inl g) are =
          let b = 16 * length items + code in
          placed_again b code items text [] body rest (omega arith) (parts ∙ ap (λ (t : List ℕ). t ++ body) g.1)
          (inl ((let q : b / 16 < 15 = omega (arith, g.0) in q), refl, (let q : length items ≡ b / 16 = omega arith in q))) are
      by_head code items text head body rest parts half (inr g) are =
          let b = 240 + code in
          placed_again b code items text g.0 body rest (omega arith) (parts ∙ ap (λ (t : List ℕ). t ++ body) g.2)
          (inr ((let q : 15 ≤ b / 16 = omega arith in q), g.1)) are

      list_again : (x : ℕ × List Value) (text rest : List ℕ) → DecodesList Inner text x.0 x.1 → list_in inner (text ++ rest) ≡ Ok (x, rest)
      list_again x text rest g = by_head x.0 x.1 text g.head g.body rest g.parts g.half g.headed g.each

      headed_by : (b : ℕ) (head : List ℕ) (count : ℕ) → b < 256 → Said (b / 16) head count → IsListHead (b % 16) (b ∷ head) count
      headed_by b head count lt (inl g) =
          let is : b ≡ 16 * count + b % 16 = omega (arith, g.0, g.2) in
          inl ((let q : count < 15 = omega (arith, g.0, g.2) in q), ap (λ (h : List ℕ). b ∷ h) g.1 ∙ ap (λ (n : ℕ). n ∷ []) is)
      headed_by b head count lt (inr g) =
          let is : b ≡ 240 + b % 16 = omega (arith, g.0) in
          inr (head, g.1, ap (λ (n : ℕ). n ∷ head) is)

      list_takes : (bytes : List ℕ) (x : (ℕ × List Value) × List ℕ) → IsBytes bytes → list_in inner bytes ≡ Ok x → Took (λ bytes x. DecodesList Inner bytes x.0 x.1) bytes x
      list_takes bytes x bs e =
          let h = bind_ok (byte_in bytes) (λ b. items_in inner (length bytes) (b.0 / 16) (kind_of_code (b.0 % 16)) b.1 >>= λ items. Ok ((b.0 % 16, items.0), items.1)) x e in
          let b = byte_takes bytes h.0 bs h.1 in
          let k = bind_ok (items_in inner (length bytes) (h.0.0 / 16) (kind_of_code (h.0.0 % 16)) h.0.1) (λ items. Ok ((h.0.0 % 16, items.0), items.1)) x h.2 in
          let t = items_takes (length bytes) (h.0.0 / 16) (kind_of_code (h.0.0 % 16)) h.0.1 k.0 (behind_fits (h.0.0 ∷ []) h.0.1 bytes b.0 bs) k.1 in
          subst (Took (λ bytes x. DecodesList Inner bytes x.0 x.1) bytes) (ok_is _ _ k.2)
          (record {
            text = (h.0.0 ∷ t.head) ++ t.body;
            parts = b.0 ∙ ap (λ (r : List ℕ). h.0.0 ∷ r) t.parts ∙ sym (append_assoc (h.0.0 ∷ t.head) t.body k.0.1);
            means = record {
              head = h.0.0 ∷ t.head;
              body = t.body;
              parts = refl;
              half = (let q : h.0.0 % 16 < 16 = omega arith in q);
              headed = headed_by h.0.0 t.head (length k.0.0) b.1 t.said;
              each = t.are;
            };
          })

  -- ---- maps

  types_again : (key value : ℕ) (key_kind value_kind : Kind) (rest : List ℕ) → kind_of_code key ≡ Some key_kind → kind_of_code value ≡ Some value_kind
      → types_in ((16 * key + value) ∷ rest) ≡ Ok (((key, value), (key_kind, value_kind)), rest)
  types_again key value key_kind value_kind rest e f =
      let small = kind_small value value_kind f in
      let high : (16 * key + value) / 16 ≡ key = omega (arith, small.1) in
      let low : (16 * key + value) % 16 ≡ value = omega (arith, small.1) in
      rw (high, low, e, f) refl

  pub record Types (bytes : List ℕ) (x : ((ℕ × ℕ) × (Kind × Kind)) × List ℕ) : Type 0 where
    pub parts : bytes ≡ (16 * x.0.0.0 + x.0.0.1) ∷ x.1
    pub key : kind_of_code x.0.0.0 ≡ Some x.0.1.0
    pub value : kind_of_code x.0.0.1 ≡ Some x.0.1.1

  types_takes : (bytes : List ℕ) (x : ((ℕ × ℕ) × (Kind × Kind)) × List ℕ) → IsBytes bytes → types_in bytes ≡ Ok x → Types bytes x
  types_takes bytes x bs e =
      let h = bind_ok (byte_in bytes) (λ b. named_from (length bytes) (kind_of_code (b.0 / 16)) >>= λ key. named_from (length bytes) (kind_of_code (b.0 % 16)) >>= λ value. Ok (((b.0 / 16, b.0 % 16), (key, value)), b.1)) x e in
      let b = byte_takes bytes h.0 bs h.1 in
      let k = bind_ok (named_from (length bytes) (kind_of_code (h.0.0 / 16))) (λ key. named_from (length bytes) (kind_of_code (h.0.0 % 16)) >>= λ value. Ok (((h.0.0 / 16, h.0.0 % 16), (key, value)), h.0.1)) x h.2 in
      let v = bind_ok (named_from (length bytes) (kind_of_code (h.0.0 % 16))) (λ value. Ok (((h.0.0 / 16, h.0.0 % 16), (k.0, value)), h.0.1)) x k.2 in
      let whole : h.0.0 ≡ 16 * (h.0.0 / 16) + h.0.0 % 16 = omega arith in
      subst (Types bytes) (ok_is _ _ v.2) (record { parts = b.0 ∙ ap (λ (n : ℕ). n ∷ h.0.1) whole; key = named_ok (length bytes) (kind_of_code (h.0.0 / 16)) k.0 k.1; value = named_ok (length bytes) (kind_of_code (h.0.0 % 16)) v.0 v.1 })

  pairs_again : (codes : ℕ × ℕ) (pairs : List (Value × Value)) (text rest : List ℕ) → DecodesPairs Inner text codes pairs → pairs_in inner (length pairs) (text ++ rest) ≡ Ok ((codes, pairs), rest)
  pairs_again codes pairs text rest g =
      let key_kind = g.key_kind in let value_kind = g.value_kind in
      let grouped : text ++ rest ≡ (16 * codes.0 + codes.1) ∷ (g.body ++ rest) = ap (λ (t : List ℕ). t ++ rest) g.parts in
      let first = types_again codes.0 codes.1 key_kind value_kind (g.body ++ rest) g.key g.value in
      let behind = turn_again (both_codec (codec key_kind) (codec value_kind)) pairs g.body rest g.each in
      ap (pairs_in inner (length pairs)) grouped ∙ rw (first, behind) refl

  pairs_takes : (count : ℕ) (bytes : List ℕ) (x : ((ℕ × ℕ) × List (Value × Value)) × List ℕ) → IsBytes bytes → pairs_in inner count bytes ≡ Ok x → Took (λ bytes x. DecodesPairs Inner bytes x.0 x.1) bytes x × (length x.0.1 ≡ count)
  pairs_takes count bytes x bs e =
      let h = bind_ok (types_in bytes) (λ types. in_turn (both (inner types.0.1.0) (inner types.0.1.1)) count types.1 >>= λ pairs. Ok ((types.0.0, pairs.0), pairs.1)) x e in
      let t = types_takes bytes h.0 bs h.1 in
      let k = bind_ok (in_turn (both (inner h.0.0.1.0) (inner h.0.0.1.1)) count h.0.1) (λ pairs. Ok ((h.0.0.0, pairs.0), pairs.1)) x h.2 in
      let byte = 16 * h.0.0.0.0 + h.0.0.0.1 in
      let u = turn_takes (both_codec (codec h.0.0.1.0) (codec h.0.0.1.1)) count h.0.1 k.0 (behind_fits (byte ∷ []) h.0.1 bytes t.parts bs) k.1 in
      subst (λ (y : ((ℕ × ℕ) × List (Value × Value)) × List ℕ). Took (λ bytes x. DecodesPairs Inner bytes x.0 x.1) bytes y × (length y.0.1 ≡ count)) (ok_is _ _ k.2) (
        record {
          text = byte ∷ u.0.text;
          parts = t.parts ∙ ap (λ (r : List ℕ). byte ∷ r) u.0.parts;
          means = record { body = u.0.text; key_kind = h.0.0.1.0; value_kind = h.0.0.1.1; parts = refl; key = t.key; value = t.value; each = u.0.means };
        },
        u.1,
      )

  pub map_codec : Codec (map_in inner) (λ bytes x. DecodesMap Inner bytes x.0 x.1)
  unfolding map_in
  map_codec = record { again = map_again; takes = map_takes }
    where
      map_again : (x : (ℕ × ℕ) × List (Value × Value)) (text rest : List ℕ) → DecodesMap Inner text x.0 x.1 → map_in inner (text ++ rest) ≡ Ok (x, rest)
      map_again (codes, []) text rest g =
          let grouped : text ++ rest ≡ g.front ++ (g.rest ++ rest) = ap (λ (t : List ℕ). t ++ rest) g.parts ∙ append_assoc g.front g.rest rest in
          let first = (number_codec (2 ^ 31)).again 0 g.front (g.rest ++ rest) g.count in
          let none = g.pairs_behind.0 in let is = g.pairs_behind.1 in
          ap (map_in inner) grouped ∙ rw (first, none, is) refl
      map_again (codes, pair ∷ pairs) text rest g =
          let grouped : text ++ rest ≡ g.front ++ (g.rest ++ rest) = ap (λ (t : List ℕ). t ++ rest) g.parts ∙ append_assoc g.front g.rest rest in
          let first = (number_codec (2 ^ 31)).again (length (pair ∷ pairs)) g.front (g.rest ++ rest) g.count in
          let test : eqb (length (pair ∷ pairs)) 0 ≡ false = grind (arith, nat_tests) in
          ap (map_in inner) grouped ∙ rw (first, test) (pairs_again codes (pair ∷ pairs) g.rest rest g.pairs_behind)

      behind_count : (bytes : List ℕ) (codes : ℕ × ℕ) (pairs : List (Value × Value)) → 0 < length pairs → DecodesPairs Inner bytes codes pairs → DecodesPairsIf Inner bytes codes pairs
      behind_count bytes codes [] lt g = absurd (omega arith)
      behind_count bytes codes (pair ∷ pairs) lt g = g

      map_takes : (bytes : List ℕ) (x : ((ℕ × ℕ) × List (Value × Value)) × List ℕ) → IsBytes bytes → map_in inner bytes ≡ Ok x → Took (λ bytes x. DecodesMap Inner bytes x.0 x.1) bytes x
      map_takes bytes x bs e =
          let h = bind_ok (count_in bytes) (λ count. cond (eqb count.0 0) (Ok (((0, 0), []), count.1)) (pairs_in inner count.0 count.1)) x e in
          let n = (number_codec (2 ^ 31)).takes bytes h.0 bs h.1 in
          elim (cases_eq h.0.0 0) [
            | inl zero_count ↦
                let test : eqb h.0.0 0 ≡ true = grind (arith, nat_tests) in
                let read : cond (eqb h.0.0 0) (Ok (((0, 0), []), h.0.1)) (pairs_in inner h.0.0 h.0.1) ≡ Ok (((0, 0), []), h.0.1) = rw test refl in
                subst (Took (λ bytes x. DecodesMap Inner bytes x.0 x.1) bytes) (ok_is _ _ (sym read ∙ h.2))
                (record { text = n.text ++ []; parts = regroup bytes h.0.1 n.text [] h.0.1 n.parts refl; means = record { front = n.text; rest = []; parts = refl; count = subst (IsCount n.text) zero_count n.means; pairs_behind = (refl, refl) } })
            | inr some ↦
                let test : eqb h.0.0 0 ≡ false = grind (arith, nat_tests) in
                let read : cond (eqb h.0.0 0) (Ok (((0, 0), []), h.0.1)) (pairs_in inner h.0.0 h.0.1) ≡ pairs_in inner h.0.0 h.0.1 = rw test refl in
                let p = pairs_takes h.0.0 h.0.1 x (behind_fits n.text h.0.1 bytes n.parts bs) (sym read ∙ h.2) in
                record {
                  text = n.text ++ p.0.text;
                  parts = regroup bytes h.0.1 n.text p.0.text x.1 n.parts p.0.parts;
                  means = record { front = n.text; rest = p.0.text; parts = refl; count = subst (IsCount n.text) (sym p.1) n.means; pairs_behind = behind_count p.0.text x.0.0 x.0.1 (omega (arith, p.1)) p.0.means };
                }
          ]
