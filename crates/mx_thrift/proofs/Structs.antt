-- Fields and structs: what is read of them is what their bytes stand for.
use Rattle.std.proofs.Common.{◌≡◌, ℕ, zero, suc, ◌+◌, ◌*◌, ◌/◌, ◌%◌, ◌^◌, ◌<◌, ◌≤◌, ℤ, pos, negsuc, ◌+ℤ◌, Bool, true, false, cond, eqb, ltb, List, [], ◌∷◌, ◌++◌, length, Option, Some, None, Ok, Err, refl, sym, ap, subst, ◌∙◌, append_assoc, length-append, arith, inl, inr}
use Rattle.std.proofs.lemmas.Bool.{cases_eq, cases_lt, ltb-true, lt-ltb, le-ltb}
use Rattle.std.proofs.lemmas.Bool.Decides.{nat_tests}
use Rattle.std.proofs.lemmas.Int.{ints}
use Rattle.std.specs.Int.RustNames.{FitsSigned}
use Rattle.std.specs.Int.{w16}
use Rattle.mx_avro.proofs.Groups.{IsBytes}
use Rattle.mx_thrift.specs.declared.error.Rule.TheVariants as rules
use Rattle.mx_thrift.specs.declared.header.Header.{Header}
use Rattle.mx_thrift.specs.declared.kind.Kind.{Kind}
use Rattle.mx_thrift.specs.declared.kind.Kind.TheVariants as kinds
use Rattle.mx_thrift.specs.declared.value.Value.{Value}
use Rattle.mx_thrift.specs.declared.value.Field.{Field}
use Rattle.mx_thrift.specs.Types.{kind_of_code}
use Rattle.mx_thrift.specs.Grammar.{Grammar, IsFieldHead, DecodesField, IsField, DecodesFields}
use Rattle.mx_thrift.specs.Decoding.{◌>>=◌, Read, Reader, byte_in, signed_in, named_from, is_id, long_head_in, short_head_in, head_in, held_in, field_behind, field_in, more_fields, fields_in, struct_in}
use Rattle.mx_thrift.proofs.Codecs.{Took, Codec, bind_ok, ok_is, behind_fits, regroup, byte_takes, signed_codec}
use Rattle.mx_thrift.proofs.Lists.{kind_small, named_ok}

-- ---- headers

is_id-fits : (id : ℤ) → FitsSigned w16 id → is_id id ≡ true
is_id-fits (pos n) fits = lt-ltb n (2 ^ 15) (omega (arith, ints))
is_id-fits (negsuc n) fits = lt-ltb n (2 ^ 15) (omega (arith, ints))

fits-is_id : (id : ℤ) → is_id id ≡ true → FitsSigned w16 id
fits-is_id (pos n) e = let lt = ltb-true n (2 ^ 15) e in omega (arith, ints)
fits-is_id (negsuc n) e = let lt = ltb-true n (2 ^ 15) e in omega (arith, ints)

pub head_again : (last : ℤ) (code : ℕ) (kind : Kind) (id : ℤ) (head rest : List ℕ) → kind_of_code code ≡ Some kind → IsFieldHead last code head id → head_in last (head ++ rest) ≡ Ok (Some (record { code = code; kind = kind; id = id }), rest)
unfolding head_in
head_again last code kind id head rest named (inl g) =
    let gap = g.0 in
    let small = kind_small code kind named in
    let byte = 16 * gap + code in
    let some : eqb byte 0 ≡ false = grind (arith, nat_tests, g.1) in
    let wide : ltb byte 16 ≡ false = le-ltb _ _ (omega (arith, g.1)) in
    let high : byte / 16 ≡ gap = omega (arith, small.1) in
    let low : byte % 16 ≡ code = omega (arith, small.1) in
    let fits : is_id id ≡ true = is_id-fits id g.4 in
    let is : last +ℤ pos gap ≡ id = sym g.3 in
    ap (λ (t : List ℕ). head_in last (t ++ rest)) g.5 ∙ rw (some, wide, high, low, is, fits, named) refl
head_again last code kind id head rest named (inr g) =
    let small = kind_small code kind named in
    let some : eqb code 0 ≡ false = grind (arith, nat_tests, small.0) in
    let low : ltb code 16 ≡ true = lt-ltb _ _ small.1 in
    let behind = (signed_codec (2 ^ 16)).again id g.0 rest g.1 in
    ap (λ (t : List ℕ). head_in last (t ++ rest)) g.2 ∙ rw (some, low, named, behind) refl

pub end_again : (last : ℤ) (rest : List ℕ) → head_in last (0 ∷ rest) ≡ Ok (None, rest)
unfolding head_in
end_again last rest = refl

-- what a reader of headers took
abbrev pub Headed : ℤ → List ℕ → Option Header → Type 0
Headed last text None = text ≡ 0 ∷ []
Headed last text (Some h) = (kind_of_code h.code ≡ Some h.kind) × IsFieldHead last h.code text h.id

long_takes : (last : ℤ) (left b : ℕ) (rest : List ℕ) (x : Option Header × List ℕ) → IsBytes rest → long_head_in left b rest ≡ Ok x → Took (Headed last) (b ∷ rest) x
long_takes last left b rest x bs e =
    let h = bind_ok (named_from left (kind_of_code b)) (λ kind. signed_in (2 ^ 16) rest >>= λ id. Ok (Some (record { code = b; kind = kind; id = id.0 }), id.1)) x e in
    let k = bind_ok (signed_in (2 ^ 16) rest) (λ id. Ok (Some (record { code = b; kind = h.0; id = id.0 }), id.1)) x h.2 in
    let t = (signed_codec (2 ^ 16)).takes rest k.0 bs k.1 in
    subst (Took (Headed last) (b ∷ rest)) (ok_is _ _ k.2)
    (record { text = b ∷ t.text; parts = ap (λ (r : List ℕ). b ∷ r) t.parts; means = (named_ok left (kind_of_code b) h.0 h.1, inr (t.text, t.means, refl)) })

short_takes : (last : ℤ) (left b : ℕ) (rest : List ℕ) (x : Option Header × List ℕ) → 16 ≤ b → b < 256 → short_head_in left (b % 16) (last +ℤ pos (b / 16)) rest ≡ Ok x → Took (Headed last) (b ∷ rest) x
short_takes last left b rest x le lt e =
    let id = last +ℤ pos (b / 16) in
    let h = chosen_ok (is_id id) (named_from left (kind_of_code (b % 16)) >>= λ kind. Ok (Some (record { code = b % 16; kind = kind; id = id }), rest)) x e in
    let k = bind_ok (named_from left (kind_of_code (b % 16))) (λ kind. Ok (Some (record { code = b % 16; kind = kind; id = id }), rest)) x h.1 in
    let whole : b ≡ 16 * (b / 16) + b % 16 = omega arith in
    subst (Took (Headed last) (b ∷ rest)) (ok_is _ _ k.2)
    (record {
      text = b ∷ [];
      parts = refl;
      means = (named_ok left (kind_of_code (b % 16)) k.0 k.1, inl (b / 16, (let q : 0 < b / 16 = omega arith in q), (let q : b / 16 < 16 = omega arith in q), refl, fits-is_id id h.0, ap (λ (n : ℕ). n ∷ []) whole));
    })
  where
    chosen_ok : (t : Bool) (r : Read (Option Header × List ℕ)) (x : Option Header × List ℕ) → cond t r (Err (rules.Wide, left)) ≡ Ok x → (t ≡ true) × (r ≡ Ok x)
    chosen_ok true r x e = (refl, e)
    chosen_ok false r x e = absurd cc

pub head_takes : (last : ℤ) (bytes : List ℕ) (x : Option Header × List ℕ) → IsBytes bytes → head_in last bytes ≡ Ok x → Took (Headed last) bytes x
unfolding head_in
head_takes last bytes x bs e =
    let left = length bytes in
    let h = bind_ok (byte_in bytes) (λ b. cond (eqb b.0 0) (Ok (None, b.1)) (cond (ltb b.0 16) (long_head_in left b.0 b.1) (short_head_in left (b.0 % 16) (last +ℤ pos (b.0 / 16)) b.1))) x e in
    let b = byte_takes bytes h.0 bs h.1 in
    let behind = behind_fits (h.0.0 ∷ []) h.0.1 bytes b.0 bs in
    subst (λ (t : List ℕ). Took (Headed last) t x) (sym b.0) (by_byte left h.0.0 h.0.1 b.1 behind h.2)
  where
    by_byte : (left b : ℕ) (rest : List ℕ) → b < 256 → IsBytes rest → cond (eqb b 0) (Ok (None, rest)) (cond (ltb b 16) (long_head_in left b rest) (short_head_in left (b % 16) (last +ℤ pos (b / 16)) rest)) ≡ Ok x → Took (Headed last) (b ∷ rest) x
    by_byte left b rest lt bs e = elim (cases_eq b 0) [
      | inl none ↦
          let test : eqb b 0 ≡ true = grind (arith, nat_tests) in
          let read : cond (eqb b 0) (Ok (None, rest)) (cond (ltb b 16) (long_head_in left b rest) (short_head_in left (b % 16) (last +ℤ pos (b / 16)) rest)) ≡ Ok (None, rest) = rw test refl in
          subst (Took (Headed last) (b ∷ rest)) (ok_is _ _ (sym read ∙ e)) (record { text = b ∷ []; parts = refl; means = ap (λ (n : ℕ). n ∷ []) none })
      | inr some ↦
          let test : eqb b 0 ≡ false = grind (arith, nat_tests) in
          elim (cases_lt b 16) [
            | inl low ↦
                let small : ltb b 16 ≡ true = lt-ltb b 16 low in
                let read : cond (eqb b 0) (Ok (None, rest)) (cond (ltb b 16) (long_head_in left b rest) (short_head_in left (b % 16) (last +ℤ pos (b / 16)) rest)) ≡ long_head_in left b rest = rw (test, small) refl in
                long_takes last left b rest x bs (sym read ∙ e)
            | inr high ↦
                let large : ltb b 16 ≡ false = le-ltb _ _ high in
                let read : cond (eqb b 0) (Ok (None, rest)) (cond (ltb b 16) (long_head_in left b rest) (short_head_in left (b % 16) (last +ℤ pos (b / 16)) rest)) ≡ short_head_in left (b % 16) (last +ℤ pos (b / 16)) rest = rw (test, large) refl in
                short_takes last left b rest x high lt (sym read ∙ e)
          ]
    ]

-- ---- fields of values that are read as their bytes have them

module _ {inner : Kind → Reader Value} {Inner : Kind → Grammar Value} (codec : (kind : Kind) → Codec (inner kind) (Inner kind)) where
  held_codec : (code : ℕ) (kind : Kind) → Codec (held_in inner code kind) (DecodesField Inner code kind)
  held_codec code kinds.Flag = record {
    again = λ v text rest g. let none = g.0 in let is = g.1 in rw (none, is) refl;
    takes = λ bytes x bs e. subst (Took (DecodesField Inner code kinds.Flag) bytes) (ok_is _ _ e) (record { text = []; parts = refl; means = (refl, refl) });
  }
  held_codec code kinds.Byte = codec kinds.Byte
  held_codec code kinds.Short = codec kinds.Short
  held_codec code kinds.Int = codec kinds.Int
  held_codec code kinds.Long = codec kinds.Long
  held_codec code kinds.Double = codec kinds.Double
  held_codec code kinds.Bytes = codec kinds.Bytes
  held_codec code kinds.List = codec kinds.List
  held_codec code kinds.Set = codec kinds.Set
  held_codec code kinds.Map = codec kinds.Map
  held_codec code kinds.Struct = codec kinds.Struct

  field_again : (last : ℤ) (f : Field) (text rest : List ℕ) → IsField Inner last text f → field_in inner last (text ++ rest) ≡ Ok (Some f, rest)
  unfolding field_in
  field_again last f text rest g =
      let grouped : text ++ rest ≡ g.head ++ (g.body ++ rest) = ap (λ (t : List ℕ). t ++ rest) g.parts ∙ append_assoc g.head g.body rest in
      let first = head_again last g.code g.kind f.id g.head (g.body ++ rest) g.named g.headed in
      let held = (held_codec g.code g.kind).again f.value g.body rest g.holds in
      ap (field_in inner last) grouped ∙ rw (first, held) refl

  -- what a reader of fields took
  abbrev Fielded : ℤ → List ℕ → Option Field → Type 0
  Fielded last text None = text ≡ 0 ∷ []
  Fielded last text (Some f) = IsField Inner last text f

  behind_takes : (last : ℤ) (bytes rest : List ℕ) (o : Option Header) (x : Option Field × List ℕ) → IsBytes bytes → Took (Headed last) bytes (o, rest) → field_behind inner o rest ≡ Ok x → Took (Fielded last) bytes x
  behind_takes last bytes rest None x bs t e = subst (Took (Fielded last) bytes) (ok_is _ _ e) (record { text = t.text; parts = t.parts; means = t.means })
  behind_takes last bytes rest (Some h) x bs t e =
      let k = bind_ok (held_in inner h.code h.kind rest) (λ value. Ok (Some (record { id = h.id; value = value.0 }), value.1)) x e in
      let u = (held_codec h.code h.kind).takes rest k.0 (behind_fits t.text rest bytes t.parts bs) k.1 in
      subst (Took (Fielded last) bytes) (ok_is _ _ k.2)
      (record {
        text = t.text ++ u.text;
        parts = regroup bytes rest t.text u.text k.0.1 t.parts u.parts;
        means = record { code = h.code; kind = h.kind; head = t.text; body = u.text; parts = refl; named = t.means.0; headed = t.means.1; holds = u.means };
      })

  field_takes : (last : ℤ) (bytes : List ℕ) (x : Option Field × List ℕ) → IsBytes bytes → field_in inner last bytes ≡ Ok x → Took (Fielded last) bytes x
  unfolding field_in
  field_takes last bytes x bs e =
      let h = bind_ok (head_in last bytes) (λ head. field_behind inner head.0 head.1) x e in
      behind_takes last bytes h.0.1 h.0.0 x bs (head_takes last bytes h.0 bs h.1) h.2

  fields_again : (most : ℕ) (last : ℤ) (fields : List Field) (text rest : List ℕ) → length fields < most → DecodesFields Inner last text fields → fields_in inner most last (text ++ rest) ≡ Ok (fields, rest)
  unfolding fields_in field_in
  fields_again zero last fields text rest lt g = absurd (omega arith)
  fields_again (suc most) last [] text rest lt g = ap (λ (t : List ℕ). fields_in inner (suc most) last (t ++ rest)) g ∙ rw (end_again last rest) refl
  fields_again (suc most) last (f ∷ fields) text rest lt g =
      let grouped : text ++ rest ≡ g.0 ++ (g.1 ++ rest) = ap (λ (t : List ℕ). t ++ rest) g.2 ∙ append_assoc g.0 g.1 rest in
      let first : field_in inner last (g.0 ++ (g.1 ++ rest)) ≡ Ok (Some f, g.1 ++ rest) = field_again last f g.0 (g.1 ++ rest) g.3 in
      let others = fields_again most f.id fields g.1 rest (omega arith) g.4 in
      ap (fields_in inner (suc most) last) grouped
      ∙ ap (λ (r : Read (Option Field × List ℕ)). r >>= λ field. more_fields (fields_in inner most) field.0 field.1) first
      ∙ ap (λ (r : Read (List Field × List ℕ)). r >>= λ rest_of. Ok (f ∷ rest_of.0, rest_of.1)) others

  more_takes : (most : ℕ) (last : ℤ) (bytes rest : List ℕ) (o : Option Field) (x : List Field × List ℕ) → IsBytes bytes → Took (Fielded last) bytes (o, rest)
      → ((id : ℤ) (y : List Field × List ℕ) → IsBytes rest → fields_in inner most id rest ≡ Ok y → Took (DecodesFields Inner id) rest y) → more_fields (fields_in inner most) o rest ≡ Ok x → Took (DecodesFields Inner last) bytes x
  more_takes most last bytes rest None x bs t more e = subst (Took (DecodesFields Inner last) bytes) (ok_is _ _ e) (record { text = t.text; parts = t.parts; means = t.means })
  more_takes most last bytes rest (Some f) x bs t more e =
      let k = bind_ok (fields_in inner most f.id rest) (λ fields. Ok (f ∷ fields.0, fields.1)) x e in
      let u = more f.id k.0 (behind_fits t.text rest bytes t.parts bs) k.1 in
      subst (Took (DecodesFields Inner last) bytes) (ok_is _ _ k.2)
      (record { text = t.text ++ u.text; parts = regroup bytes rest t.text u.text k.0.1 t.parts u.parts; means = (t.text, u.text, refl, t.means, u.means) })

  fields_takes : (most : ℕ) (last : ℤ) (bytes : List ℕ) (x : List Field × List ℕ) → IsBytes bytes → fields_in inner most last bytes ≡ Ok x → Took (DecodesFields Inner last) bytes x
  unfolding fields_in
  fields_takes zero last bytes x bs e = absurd cc
  fields_takes (suc most) last bytes x bs e =
      let h = bind_ok (field_in inner last bytes) (λ field. more_fields (fields_in inner most) field.0 field.1) x e in
      more_takes most last bytes h.0.1 h.0.0 x bs (field_takes last bytes h.0 bs h.1) (λ id y fits f. fields_takes most id h.0.1 y fits f) h.2

  -- each field and the end have a byte
  head_some : (last : ℤ) (code : ℕ) (head : List ℕ) (id : ℤ) → IsFieldHead last code head id → 0 < length head
  head_some last code head id (inl g) = omega (arith, ap length g.5)
  head_some last code head id (inr g) = omega (arith, ap length g.2)

  pub fields_short : (last : ℤ) (fields : List Field) (text : List ℕ) → DecodesFields Inner last text fields → length fields < length text
  fields_short last [] text g = omega (arith, ap length g)
  fields_short last (f ∷ fields) text g =
      let field = g.3 in
      omega (arith, ap length g.2, length-append g.0 g.1, ap length field.parts, length-append field.head field.body, head_some last field.code field.head f.id field.headed, fields_short f.id fields g.1 g.4)

  pub struct_codec : Codec (struct_in inner) (DecodesFields Inner (pos 0))
  struct_codec = record {
    again = λ fields text rest g. fields_again (length (text ++ rest)) (pos 0) fields text rest (omega (arith, length-append text rest, fields_short (pos 0) fields text g)) g;
    takes = λ bytes x bs e. fields_takes (length bytes) (pos 0) bytes x bs e;
  }
