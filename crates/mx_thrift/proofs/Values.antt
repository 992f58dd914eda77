-- Values of any depth, and the struct at a place.
use Rattle.std.proofs.Common.{◌≡◌, ℕ, zero, suc, ◌+◌, ◌-◌, List, ◌++◌, length, take, drop, Result, Ok, Err, refl, sym, ap, subst, ◌∙◌, length-append, drop-drop, arith}
use Rattle.std.proofs.Math.Seq.{drop-append_seam, take-append_seam}
use Rattle.std.specs.Prelude.{IfOk}
use Rattle.mx_avro.specs.Decoding.{StandsAt}
use Rattle.mx_lists.proofs.Codecs.{IsBytes, IsBytes-drop}
use Rattle.mx_thrift.specs.declared.error.ThriftError.{ThriftError}
use Rattle.mx_thrift.specs.declared.error.ThriftError.TheVariants as errors
use Rattle.mx_thrift.specs.declared.kind.Kind.{Kind}
use Rattle.mx_thrift.specs.declared.kind.Kind.TheVariants as kinds
use Rattle.mx_thrift.specs.declared.value.Value.{Value}
use Rattle.mx_thrift.specs.declared.value.Value.TheVariants as values
use Rattle.mx_thrift.specs.declared.value.Field.{Field}
use Rattle.mx_thrift.specs.Grammar.{Grammar, DecodesOver, DecodesValue, Decodes}
use Rattle.mx_thrift.specs.Decoding.{Read, Reader, struct_in, over_in, value_in, placed, struct_at, Answers, IsOnly}
use Rattle.mx_thrift.proofs.Codecs.{Codec, ok_is, mapped_codec, stated}
use Rattle.mx_thrift.proofs.Lists.{leaf_codec, list_codec, map_codec}
use Rattle.mx_thrift.proofs.Structs.{struct_codec}

over_codec : {inner : Kind → Reader Value} {Inner : Kind → Grammar Value} → ((kind : Kind) → Codec (inner kind) (Inner kind)) → (kind : Kind) → Codec (over_in inner kind) (DecodesOver Inner kind)
unfolding over_in
over_codec codec kinds.Flag = leaf_codec kinds.Flag
over_codec codec kinds.Byte = leaf_codec kinds.Byte
over_codec codec kinds.Short = leaf_codec kinds.Short
over_codec codec kinds.Int = leaf_codec kinds.Int
over_codec codec kinds.Long = leaf_codec kinds.Long
over_codec codec kinds.Double = leaf_codec kinds.Double
over_codec codec kinds.Bytes = leaf_codec kinds.Bytes
over_codec codec kinds.List = stated (λ bytes v g. (g.0.0, g.0.1, g.1, g.2)) (λ bytes v g. ((g.0, g.1), g.2, g.3)) (mapped_codec (λ x. values.List x.0 x.1) (list_codec codec))
over_codec codec kinds.Set = stated (λ bytes v g. (g.0.0, g.0.1, g.1, g.2)) (λ bytes v g. ((g.0, g.1), g.2, g.3)) (mapped_codec (λ x. values.Set x.0 x.1) (list_codec codec))
over_codec codec kinds.Map = stated (λ bytes v g. (g.0.0, g.0.1, g.1, g.2)) (λ bytes v g. ((g.0, g.1), g.2, g.3)) (mapped_codec (λ x. values.Map x.0.0 x.0.1 x.1) (map_codec codec))
over_codec codec kinds.Struct = mapped_codec values.Struct (struct_codec codec)

pub value_codec : (depth : ℕ) (kind : Kind) → Codec (value_in depth kind) (DecodesValue depth kind)
unfolding value_in DecodesValue
value_codec zero kind = leaf_codec kind
value_codec (suc depth) kind = over_codec (value_codec depth) kind

whole_codec : Codec (struct_in (value_in 15)) Decodes
whole_codec = struct_codec (value_codec 15)

-- ---- at a place

abbrev answered : {A : Type 0} → A × ℕ → Result (A × ℕ) ThriftError
answered x = Ok x

answer_is : {A : Type 0} (a b : A × ℕ) → answered a ≡ answered b → a ≡ b
answer_is a b e = cc

placed_ok : {A : Type 0} (at len : ℕ) (r : Read (A × List ℕ)) (x : A × ℕ) → placed at len r ≡ Ok x → (y : A × List ℕ) × (r ≡ Ok y) × ((y.0, at + (len - length y.1)) ≡ x)
placed_ok at len (Ok y) x e = (y, refl, answer_is _ _ e)
placed_ok at len (Err e) x h = absurd cc

-- where the front of what stands at a place ends
ends : (bytes : List ℕ) (at : ℕ) (text rest : List ℕ) → drop at bytes ≡ text ++ rest → StandsAt bytes at text (at + (length (drop at bytes) - length rest))
ends bytes at text rest e =
    let len : length (drop at bytes) ≡ length text + length rest = ap length e ∙ length-append text rest in
    let end : at + (length (drop at bytes) - length rest) ≡ at + length text = omega (arith, len) in
    let behind : drop (at + length text) bytes ≡ rest = sym (drop-drop (length text) at bytes) ∙ ap (drop (length text)) e ∙ drop-append_seam text rest in
    (end, e ∙ ap (λ (r : List ℕ). text ++ r) (sym behind) ∙ ap (λ (k : ℕ). text ++ drop k bytes) (sym end))

pub struct_takes : (bytes : List ℕ) (at : ℕ) (x : List Field × ℕ) → IsBytes bytes → struct_at bytes at ≡ Ok x → (text : List ℕ) × StandsAt bytes at text x.1 × Decodes text x.0
unfolding struct_at
struct_takes bytes at x bs e =
    let p = placed_ok at (length (drop at bytes)) (struct_in (value_in 15) (drop at bytes)) x e in
    let t = whole_codec.takes (drop at bytes) p.0 (IsBytes-drop at bytes bs) p.1 in
    subst (λ (y : List Field × ℕ). (text : List ℕ) × StandsAt bytes at text y.1 × Decodes text y.0) p.2 (t.text, ends bytes at t.text p.0.1 t.parts, t.means)

pub struct_again : (bytes : List ℕ) (at : ℕ) (fields : List Field) (text rest : List ℕ) → drop at bytes ≡ text ++ rest → Decodes text fields → struct_at bytes at ≡ Ok (fields, at + length text)
unfolding struct_at
struct_again bytes at fields text rest e g =
    let read : struct_in (value_in 15) (drop at bytes) ≡ Ok (fields, rest) = ap (struct_in (value_in 15)) e ∙ whole_codec.again fields text rest g in
    let end = ends bytes at text rest e in
    ap (placed at (length (drop at bytes))) read ∙ ap (λ (k : ℕ). Ok (fields, k)) end.0

pub found : (bytes : List ℕ) (at : ℕ) (r : Result (List Field × ℕ) ThriftError) → IsBytes bytes → Answers r (struct_at bytes at) → IfOk r (λ x. (text : List ℕ) × StandsAt bytes at text x.1 × Decodes text x.0)
found bytes at (Ok x) bs h = struct_takes bytes at x bs h
found bytes at (Err e) bs h = tt

pub only : (bytes : List ℕ) (at : ℕ) (r : Result (List Field × ℕ) ThriftError) (fields : List Field) (text rest : List ℕ) → Answers r (struct_at bytes at) → drop at bytes ≡ text ++ rest → Decodes text fields → IsOnly (fields, at + length text) r
only bytes at (Ok x) fields text rest h e g = answer_is _ _ (sym h ∙ struct_again bytes at fields text rest e g)
only bytes at (Err errors.NoMemory) fields text rest h e g = refl
only bytes at (Err (errors.Short place)) fields text rest h e g = absurd (let both = sym h ∙ struct_again bytes at fields text rest e g in cc)
only bytes at (Err (errors.Wide place)) fields text rest h e g = absurd (let both = sym h ∙ struct_again bytes at fields text rest e g in cc)
only bytes at (Err (errors.BadType place)) fields text rest h e g = absurd (let both = sym h ∙ struct_again bytes at fields text rest e g in cc)
only bytes at (Err (errors.Deep place)) fields text rest h e g = absurd (let both = sym h ∙ struct_again bytes at fields text rest e g in cc)

-- what was written reads back
pub reads_back : (fields : List Field) (text front rest : List ℕ) → Decodes text fields → struct_at (front ++ (text ++ rest)) (length front) ≡ Ok (fields, length front + length text)
reads_back fields text front rest g = struct_again (front ++ (text ++ rest)) (length front) fields text rest (drop-append_seam front (text ++ rest)) g

-- no bytes begin with two structs
pub one_struct : (a b x y : List ℕ) (f g : List Field) → Decodes a f → Decodes b g → a ++ x ≡ b ++ y → (f ≡ g) × (a ≡ b)
one_struct a b x y f g da db e =
    let first : struct_in (value_in 15) (a ++ x) ≡ Ok (f, x) = whole_codec.again f a x da in
    let second : struct_in (value_in 15) (a ++ x) ≡ Ok (g, y) = ap (struct_in (value_in 15)) e ∙ whole_codec.again g b y db in
    let same : (f, x) ≡ (g, y) = ok_is (f, x) (g, y) (sym first ∙ second) in
    let rest : x ≡ y = ap (λ (p : List Field × List ℕ). p.1) same in
    let len : length a ≡ length b = omega (arith, ap length e, length-append a x, length-append b y, ap length rest) in
    (ap (λ (p : List Field × List ℕ). p.0) same, sym (take-append_seam a x) ∙ ap (λ (n : ℕ). take n (a ++ x)) len ∙ ap (take (length b)) e ∙ take-append_seam b y)
