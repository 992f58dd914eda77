-- A reader gives what bytes stand for, whatever follows, and takes from the front bytes that stand for what it gives.
use Rattle.std.proofs.Common.{◌≡◌, ℕ, zero, suc, ◌+◌, ◌*◌, ◌%◌, ◌^◌, ◌<◌, ◌≤◌, Bool, true, false, cond, ltb, List, [], ◌∷◌, ◌++◌, length, take, drop, Ok, Err, refl, sym, ap, subst, ◌∙◌, append_assoc, length-append, take-append-drop, length-take, arith, inl, inr, ◌⊎◌}
use Rattle.std.proofs.lemmas.Bool.{ltb-true, ltb-false, lt-ltb, le-ltb}
use Rattle.std.proofs.Math.Seq.{drop-append_seam, take-append_seam}
use Rattle.mx_avro.specs.Encoding.{zigzag}
use Rattle.mx_avro.specs.Decoding.{signed}
use Rattle.mx_avro.proofs.Groups.{IsBytes}
use Rattle.mx_avro.proofs.Longs.{signed-zigzag, zigzag-signed}
use Rattle.mx_thrift.specs.declared.error.Rule.{Rule}
use Rattle.mx_thrift.specs.declared.error.Rule.TheVariants as rules
use Rattle.mx_thrift.specs.Grammar.{Grammar, IsGroups, groups_value, IsNumber, IsSigned, IsText, InTurn, InPairs}
use Rattle.mx_thrift.specs.Decoding.{◌>>=◌, Read, Reader, broken, mapped, both, in_turn, byte_in, eight_in, joined, groups_in, number_in, signed_in, count_in, text_in}

-- what a reader took from the front
pub record Took {A : Type 0} (G : Grammar A) (bytes : List ℕ) (x : A × List ℕ) : Type 0 where
  pub text : List ℕ
  pub parts : bytes ≡ text ++ x.1
  pub means : G text x.0

pub record Codec {A : Type 0} (read : Reader A) (G : Grammar A) : Type 0 where
  pub again : (x : A) (text rest : List ℕ) → G text x → read (text ++ rest) ≡ Ok (x, rest)
  pub takes : (bytes : List ℕ) (x : A × List ℕ) → IsBytes bytes → read bytes ≡ Ok x → Took G bytes x

-- ---- steps

pub bind_ok : {A B : Type 0} (r : Read A) (f : A → Read B) (y : B) → (r >>= f) ≡ Ok y → (x : A) × (r ≡ Ok x) × (f x ≡ Ok y)
bind_ok (Ok x) f y e = (x, refl, e)
bind_ok (Err e) f y h = absurd cc

pub guarded : {A : Type 0} (b : Bool) (x y : A) (e : Rule × ℕ) → cond b (Ok x) (Err e) ≡ Ok y → (b ≡ true) × (x ≡ y)
guarded true x y e h = (refl, cc)
guarded false x y e h = absurd cc

pub barred : {A : Type 0} (b : Bool) (x y : A) (e : Rule × ℕ) → cond b (Err e) (Ok x) ≡ Ok y → (b ≡ false) × (x ≡ y)
barred true x y e h = absurd cc
barred false x y e h = (refl, cc)

abbrev done : {A : Type 0} → A → Read A
done x = Ok x

pub ok_is : {A : Type 0} (x y : A) → done x ≡ done y → x ≡ y
ok_is x y e = cc

pub behind_fits : (text rest bytes : List ℕ) → bytes ≡ text ++ rest → IsBytes bytes → IsBytes rest
behind_fits text rest bytes e h = along text (subst IsBytes e h)
  where
    along : (text : List ℕ) → IsBytes (text ++ rest) → IsBytes rest
    along [] h = h
    along (b ∷ text) h = along text (λ i. h (suc i))

pub regroup : (a b x y c : List ℕ) → a ≡ x ++ b → b ≡ y ++ c → a ≡ (x ++ y) ++ c
regroup a b x y c e f = e ∙ ap (λ (t : List ℕ). x ++ t) f ∙ sym (append_assoc x y c)

-- ---- one byte

pub byte_takes : (bytes : List ℕ) (x : ℕ × List ℕ) → IsBytes bytes → byte_in bytes ≡ Ok x → (bytes ≡ x.0 ∷ x.1) × (x.0 < 256)
byte_takes [] x bs e = absurd cc
byte_takes (b ∷ rest) x bs e =
    let is : (b, rest) ≡ x = ok_is _ _ e in
    subst (λ (y : ℕ × List ℕ). (b ∷ rest ≡ y.0 ∷ y.1) × (y.0 < 256)) is (refl, bs 0)

-- ---- numbers

groups_again : (left more : ℕ) (text rest : List ℕ) → IsGroups text → length text ≤ more → groups_in left more (text ++ rest) ≡ Ok (groups_value text, rest)
unfolding groups_in
groups_again left more [] rest g le = absurd g
groups_again left zero (b ∷ text) rest g le = absurd (omega arith)
groups_again left (suc more) (b ∷ []) rest g le =
    let test : ltb b 128 ≡ true = lt-ltb b 128 g in
    let same : b % 128 + 128 * 0 ≡ b = omega arith in
    rw (test, same) refl
groups_again left (suc more) (b ∷ c ∷ text) rest g le =
    let test : ltb b 128 ≡ false = le-ltb _ _ g.0 in
    let behind = groups_again left more (c ∷ text) rest g.1 (omega arith) in
    rw (test, behind) refl

record Groups (more : ℕ) (bytes : List ℕ) (x : ℕ × List ℕ) : Type 0 where
  pub text : List ℕ
  pub parts : bytes ≡ text ++ x.1
  pub groups : IsGroups text
  pub most : length text ≤ more
  pub value : x.0 ≡ groups_value text

one_more : (b more : ℕ) (rest : List ℕ) (x : ℕ × List ℕ) → 128 ≤ b → Groups more rest x → Groups (suc more) (b ∷ rest) (joined b x)
one_more b more rest x le g = made g.text g.parts g.groups g.most g.value
  where
    made : (text : List ℕ) → rest ≡ text ++ x.1 → IsGroups text → length text ≤ more → x.0 ≡ groups_value text → Groups (suc more) (b ∷ rest) (joined b x)
    made [] parts groups most value = absurd groups
    made (c ∷ text) parts groups most value = record {
      text = b ∷ c ∷ text;
      parts = ap (λ (t : List ℕ). b ∷ t) parts;
      groups = (le, groups);
      most = omega arith;
      value = ap (λ (n : ℕ). b % 128 + 128 * n) value;
    }

groups_takes : (left more : ℕ) (bytes : List ℕ) (x : ℕ × List ℕ) → groups_in left more bytes ≡ Ok x → Groups more bytes x
unfolding groups_in
groups_takes left zero bytes x e = absurd cc
groups_takes left (suc more) [] x e = absurd cc
groups_takes left (suc more) (b ∷ rest) x e = elim (chosen_read (ltb b 128) (Ok (b, rest)) (groups_in left more rest >>= λ high. Ok (joined b high)) x e) [
  | inl p ↦
      let low : b < 128 = ltb-true b 128 p.0 in
      subst (Groups (suc more) (b ∷ rest)) (ok_is _ _ p.1) (record { text = b ∷ []; parts = refl; groups = low; most = omega arith; value = omega arith })
  | inr p ↦
      let h = bind_ok (groups_in left more rest) (λ high. Ok (joined b high)) x p.1 in
      subst (Groups (suc more) (b ∷ rest)) (ok_is _ _ h.2) (one_more b more rest h.0 (ltb-false _ _ p.0) (groups_takes left more rest h.0 h.1))
]
  where
    chosen_read : (t : Bool) (x y : Read (ℕ × List ℕ)) (z : ℕ × List ℕ) → cond t x y ≡ Ok z → ((t ≡ true) × (x ≡ Ok z)) ⊎ ((t ≡ false) × (y ≡ Ok z))
    chosen_read true x y z e = inl (refl, e)
    chosen_read false x y z e = inr (refl, e)

pub number_codec : (limit : ℕ) → Codec (number_in limit) (IsNumber limit)
unfolding number_in
number_codec limit = record {
  again = λ n text rest g.
      let test : ltb (groups_value text) limit ≡ true = lt-ltb _ _ (subst (λ (m : ℕ). m < limit) g.value g.below) in
      let first = groups_again (length (text ++ rest)) 10 text rest g.groups g.most in
      let value = g.value in
      rw (first, test, ← value) refl;
  takes = λ bytes x bs e.
      let h = bind_ok (groups_in (length bytes) 10 bytes) (λ n. cond (ltb n.0 limit) (Ok n) (broken rules.Wide bytes)) x e in
      let t = guarded (ltb h.0.0 limit) h.0 x (rules.Wide, length bytes) h.2 in
      let g = groups_takes (length bytes) 10 bytes h.0 h.1 in
      subst (Took (IsNumber limit) bytes) t.1 (record { text = g.text; parts = g.parts; means = record { groups = g.groups; most = g.most; value = g.value; below = ltb-true _ _ t.0 } });
}

-- a value that is read as another
pub mapped_codec : {A B : Type 0} {read : Reader A} {G : Grammar A} (f : A → B) → Codec read G → Codec (mapped f read) (λ bytes y. (x : A) × G bytes x × (y ≡ f x))
mapped_codec {A} {B} {read} {G} f c = record {
  again = λ y text rest g. let first = c.again g.0 text rest g.1 in let is = g.2 in rw (first, is) refl;
  takes = λ bytes y bs e.
      let h = bind_ok (read bytes) (λ x. Ok (f x.0, x.1)) y e in
      let t = c.takes bytes h.0 bs h.1 in
      subst (Took (λ bytes y. (x : A) × G bytes x × (y ≡ f x)) bytes) (ok_is _ _ h.2) (record { text = t.text; parts = t.parts; means = (h.0.0, t.means, refl) });
}

-- with the grammar in other words
pub stated : {A : Type 0} {read : Reader A} {G H : Grammar A} → ((bytes : List ℕ) (x : A) → G bytes x → H bytes x) → ((bytes : List ℕ) (x : A) → H bytes x → G bytes x) → Codec read G → Codec read H
stated to from c = record {
  again = λ x text rest h. c.again x text rest (from text x h);
  takes = λ bytes x bs e. let t = c.takes bytes x bs e in record { text = t.text; parts = t.parts; means = to t.text x.0 t.means };
}

pub signed_codec : (limit : ℕ) → Codec (signed_in limit) (IsSigned limit)
signed_codec limit = stated
    (λ bytes n g. subst (IsNumber limit bytes) (sym (ap zigzag g.2 ∙ zigzag-signed g.0)) g.1)
    (λ bytes n g. (zigzag n, g, sym (signed-zigzag n)))
    (mapped_codec signed (number_codec limit))

pub text_codec : Codec text_in IsText
unfolding text_in
text_codec = record {
  again = λ text bytes rest g.
      let front = g.front in let parts = g.parts in
      let grouped : bytes ++ rest ≡ front ++ (text ++ rest) = ap (λ (t : List ℕ). t ++ rest) parts ∙ append_assoc front text rest in
      let first = (number_codec (2 ^ 31)).again (length text) front (text ++ rest) g.len in
      let test : ltb (length (text ++ rest)) (length text) ≡ false = le-ltb _ _ (omega (arith, length-append text rest)) in
      let taken : take (length text) (text ++ rest) ≡ text = take-append_seam text rest in
      let left : drop (length text) (text ++ rest) ≡ rest = drop-append_seam text rest in
      ap text_in grouped ∙ rw (first, test, taken, left) refl;
  takes = λ bytes x bs e.
      let h = bind_ok (count_in bytes) (λ n. cond (ltb (length n.1) n.0) (broken rules.Short bytes) (Ok (take n.0 n.1, drop n.0 n.1))) x e in
      let t = barred (ltb (length h.0.1) h.0.0) (take h.0.0 h.0.1, drop h.0.0 h.0.1) x (rules.Short, length bytes) h.2 in
      let n = (number_codec (2 ^ 31)).takes bytes h.0 bs h.1 in
      let enough : h.0.0 ≤ length h.0.1 = ltb-false _ _ t.0 in
      let len : length (take h.0.0 h.0.1) ≡ h.0.0 = omega (arith, length-take h.0.0 h.0.1) in
      subst (Took IsText bytes) t.1 (record {
        text = n.text ++ take h.0.0 h.0.1;
        parts = regroup bytes h.0.1 n.text (take h.0.0 h.0.1) (drop h.0.0 h.0.1) n.parts (sym (take-append-drop h.0.0 h.0.1));
        means = record { front = n.text; len = subst (IsNumber (2 ^ 31) n.text) (sym len) n.means; parts = refl };
      });
}

pub eight_codec : Codec eight_in (λ bytes x. (length bytes ≡ 8) × (x ≡ bytes))
unfolding eight_in
eight_codec = record {
  again = λ x text rest g.
      let len = g.0 in let is = g.1 in
      let test : ltb (length (text ++ rest)) 8 ≡ false = le-ltb _ _ (omega (arith, length-append text rest)) in
      let taken : take 8 (text ++ rest) ≡ text = subst (λ (n : ℕ). take n (text ++ rest) ≡ text) len (take-append_seam text rest) in
      let left : drop 8 (text ++ rest) ≡ rest = subst (λ (n : ℕ). drop n (text ++ rest) ≡ rest) len (drop-append_seam text rest) in
      rw (test, taken, left, is) refl;
  takes = λ bytes x bs e.
      let t = barred (ltb (length bytes) 8) (take 8 bytes, drop 8 bytes) x (rules.Short, length bytes) e in
      let enough : 8 ≤ length bytes = ltb-false _ _ t.0 in
      subst (Took (λ bytes x. (length bytes ≡ 8) × (x ≡ bytes)) bytes) t.1 (record { text = take 8 bytes; parts = sym (take-append-drop 8 bytes); means = (omega (arith, length-take 8 bytes), refl) });
}

-- ---- one behind the other

module _ {A : Type 0} {read : Reader A} {G : Grammar A} (c : Codec read G) where
  pub turn_again : (xs : List A) (text rest : List ℕ) → InTurn G text xs → in_turn read (length xs) (text ++ rest) ≡ Ok (xs, rest)
  unfolding in_turn
  turn_again [] text rest g = rw g refl
  turn_again (x ∷ xs) text rest g =
      let front = g.0 in let others = g.1 in
      let grouped : text ++ rest ≡ front ++ (others ++ rest) = ap (λ (t : List ℕ). t ++ rest) g.2 ∙ append_assoc front others rest in
      let first = c.again x front (others ++ rest) g.3 in
      let behind = turn_again xs others rest g.4 in
      ap (in_turn read (suc (length xs))) grouped ∙ rw (first, behind) refl

  pub turn_takes : (count : ℕ) (bytes : List ℕ) (x : List A × List ℕ) → IsBytes bytes → in_turn read count bytes ≡ Ok x → Took (InTurn G) bytes x × (length x.0 ≡ count)
  unfolding in_turn
  turn_takes zero bytes x bs e = subst (λ (y : List A × List ℕ). Took (InTurn G) bytes y × (length y.0 ≡ 0)) (ok_is _ _ e) (record { text = []; parts = refl; means = refl }, refl)
  turn_takes (suc count) bytes x bs e =
      let h = bind_ok (read bytes) (λ first. in_turn read count first.1 >>= λ others. Ok (first.0 ∷ others.0, others.1)) x e in
      let k = bind_ok (in_turn read count h.0.1) (λ others. Ok (h.0.0 ∷ others.0, others.1)) x h.2 in
      let t = c.takes bytes h.0 bs h.1 in
      let u = turn_takes count h.0.1 k.0 (behind_fits t.text h.0.1 bytes t.parts bs) k.1 in
      subst (λ (y : List A × List ℕ). Took (InTurn G) bytes y × (length y.0 ≡ suc count)) (ok_is _ _ k.2)
      (record { text = t.text ++ u.0.text; parts = regroup bytes h.0.1 t.text u.0.text k.0.1 t.parts u.0.parts; means = (t.text, u.0.text, refl, t.means, u.0.means) }, ap suc u.1)

pub both_codec : {A B : Type 0} {r1 : Reader A} {r2 : Reader B} {G1 : Grammar A} {G2 : Grammar B} → Codec r1 G1 → Codec r2 G2 → Codec (both r1 r2) (InPairs G1 G2)
both_codec {A} {B} {r1} {r2} {G1} {G2} c d = record {
  again = λ p text rest g.
      let grouped : text ++ rest ≡ g.front ++ (g.rest ++ rest) = ap (λ (t : List ℕ). t ++ rest) g.parts ∙ append_assoc g.front g.rest rest in
      let first = c.again p.0 g.front (g.rest ++ rest) g.first in
      let second = d.again p.1 g.rest rest g.second in
      ap (both r1 r2) grouped ∙ rw (first, second) refl;
  takes = λ bytes y bs e.
      let a = bind_ok (r1 bytes) (λ x. r2 x.1 >>= λ z. Ok ((x.0, z.0), z.1)) y e in
      let b = bind_ok (r2 a.0.1) (λ z. Ok ((a.0.0, z.0), z.1)) y a.2 in
      let t = c.takes bytes a.0 bs a.1 in
      let u = d.takes a.0.1 b.0 (behind_fits t.text a.0.1 bytes t.parts bs) b.1 in
      subst (Took (InPairs G1 G2) bytes) (ok_is _ _ b.2)
      (record { text = t.text ++ u.text; parts = regroup bytes a.0.1 t.text u.text b.0.1 t.parts u.parts; means = record { front = t.text; rest = u.text; parts = refl; first = t.means; second = u.means } });
}
