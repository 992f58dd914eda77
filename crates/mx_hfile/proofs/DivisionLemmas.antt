-- The blocks of entries are the one division of them.
use Rattle.std.proofs.Common.{◌≡◌, ℕ, ◌+◌, ◌<◌, ◌≤◌, Bool, true, false, cond, ltb, List, [], ◌∷◌, ◌++◌, length, append_assoc, append-nil, length-append, refl, sym, ap, subst, ◌∙◌, arith}
use Rattle.std.specs.List.{flat_map}
use Rattle.std.proofs.lemmas.Bool.{le-ltb, lt-ltb, ltb-true, ltb-false}
use Rattle.std.proofs.lemmas.List.Concat.{flat_map-cons}
use Rattle.mx_base.specs.declared.entry.Entry.{Entry}
use Rattle.mx_hfile.specs.Encoding.{entry_bytes, body, blocks_from, blocks_of}
use Rattle.mx_hfile.specs.Division.{BeginInTime, IsFullBefore, AreBlocks, Divides}
use Rattle.mx_hfile.proofs.DividingLemmas.{blocks_from-cons, blocks_of-nil, blocks_of-cons, begins}

-- the entries of blocks, one block behind the other
abbrev pub all : List (List Entry) → List Entry
all bs = flat_map (λ b. b) bs

body-append : (a b : List Entry) → body (a ++ b) ≡ body a ++ body b
body-append [] b = refl
body-append (e ∷ a) b = flat_map-cons entry_bytes e (a ++ b) ∙ ap (λ (x : List ℕ). entry_bytes e ++ x) (body-append a b) ∙ sym (append_assoc (entry_bytes e) (body a) (body b)) ∙ sym (ap (λ (x : List ℕ). x ++ body b) (flat_map-cons entry_bytes e a))

pub body-length : (a b : List Entry) → length (body (a ++ b)) ≡ length (body a) + length (body b)
body-length a b = omega (arith, ap length (body-append a b), length-append (body a) (body b))

pub body-one : (e : Entry) → length (body (e ∷ [])) ≡ length (entry_bytes e)
body-one e = omega (arith, ap length (flat_map-cons entry_bytes e []), length-append (entry_bytes e) (body []))

pub body-first : (e : Entry) (es : List Entry) → length (body (e ∷ es)) ≡ length (entry_bytes e) + length (body es)
body-first e es = omega (arith, ap length (flat_map-cons entry_bytes e es), length-append (entry_bytes e) (body es))

-- ---- blocks divide as the definition does

fill : (p b more : List Entry) → BeginInTime (length (body p)) b → blocks_from p (b ++ more) ≡ blocks_from (p ++ b) more
fill p [] more begin = ap (λ (x : List Entry). blocks_from x more) (sym (append-nil p))
fill p (e ∷ es) more begin =
    let at : length (body p) + length (entry_bytes e) ≡ length (body (p ++ e ∷ [])) = omega (arith, body-length p (e ∷ []), body-one e) in
    blocks_from-cons p e (es ++ more)
    ∙ ap (λ (b : Bool). cond b (blocks_from (p ++ e ∷ []) (es ++ more)) (p ∷ blocks_from (e ∷ []) (es ++ more))) (lt-ltb _ _ begin.0)
    ∙ fill (p ++ e ∷ []) es more (subst (λ (n : ℕ). BeginInTime n es) at begin.1)
    ∙ ap (λ (x : List Entry). blocks_from x more) (append_assoc p (e ∷ []) es)

close : (e : Entry) (es : List Entry) (bs : List (List Entry)) → IsFullBefore (e ∷ es) bs → AreBlocks bs → blocks_of (all bs) ≡ bs → blocks_from (e ∷ es) (all bs) ≡ (e ∷ es) ∷ bs
close e es [] full are so_far = refl
close e es ([] ∷ cs) full are so_far = let some = are.0.some in absurd (omega (arith, some))
close e es ((f ∷ fs) ∷ cs) full are so_far =
    blocks_from-cons (e ∷ es) f (fs ++ all cs)
    ∙ ap (λ (b : Bool). cond b (blocks_from ((e ∷ es) ++ f ∷ []) (fs ++ all cs)) ((e ∷ es) ∷ blocks_from (f ∷ []) (fs ++ all cs))) (le-ltb _ _ full)
    ∙ ap (λ (x : List (List Entry)). (e ∷ es) ∷ x) (sym (blocks_of-cons f (fs ++ all cs)) ∙ so_far)

pub blocks_of-all : (bs : List (List Entry)) → AreBlocks bs → blocks_of (all bs) ≡ bs
blocks_of-all [] are = blocks_of-nil
blocks_of-all ([] ∷ bs) are = let some = are.0.some in absurd (omega (arith, some))
blocks_of-all ((e ∷ es) ∷ bs) are =
    begins ((e ∷ es) ++ all bs) ∙ fill [] (e ∷ es) (all bs) are.0.begin ∙ close e es bs are.1 are.2 (blocks_of-all bs are.2)

-- ---- and the definition's blocks divide

begin-more : (at : ℕ) (p : List Entry) (e : Entry) → BeginInTime at p → at + length (body p) < 16_384 → BeginInTime at (p ++ e ∷ [])
begin-more at [] e begin lt = (omega (arith, lt), tt)
begin-more at (f ∷ p) e begin lt = (begin.0, begin-more (at + length (entry_bytes f)) p e begin.1 (omega (arith, body-first f p, lt)))

full_before : (p : List Entry) (bs : List (List Entry)) → 16_384 ≤ length (body p) → IsFullBefore p bs
full_before p [] le = tt
full_before p (c ∷ cs) le = le

ends_block : (p : List Entry) → 0 < length p → blocks_from p [] ≡ p ∷ []
ends_block [] lt = absurd (omega arith)
ends_block (e ∷ es) lt = refl

divides_more : (b : Bool) (p : List Entry) (e : Entry) (es : List Entry) → ltb (length (body p)) 16_384 ≡ b → BeginInTime 0 p → 0 < length p
    → (length (body p) < 16_384 → Divides ((p ++ e ∷ []) ++ es) (blocks_from (p ++ e ∷ []) es)) → Divides ((e ∷ []) ++ es) (blocks_from (e ∷ []) es)
    → Divides (p ++ e ∷ es) (cond b (blocks_from (p ++ e ∷ []) es) (p ∷ blocks_from (e ∷ []) es))
divides_more true p e es is begin some more new =
    let d = more (ltb-true _ _ is) in
    record { whole = d.whole ∙ append_assoc p (e ∷ []) es; are = d.are }
divides_more false p e es is begin some more new =
    record {
      whole = ap (λ (x : List Entry). p ++ x) new.whole;
      are = (record { some = some; begin = begin }, full_before p (blocks_from (e ∷ []) es) (ltb-false _ _ is), new.are);
    }

divides_from : (p es : List Entry) → BeginInTime 0 p → 0 < length p → Divides (p ++ es) (blocks_from p es)
divides_from p [] begin some =
    let one = ends_block p some in
    subst (λ (bs : List (List Entry)). Divides (p ++ []) bs) (sym one) (record { whole = refl; are = (record { some = some; begin = begin }, tt, tt) })
divides_from p (e ∷ es) begin some =
    let new : BeginInTime 0 (e ∷ []) = (omega arith, tt) in
    let len = length-append p (e ∷ []) in
    subst (λ (bs : List (List Entry)). Divides (p ++ e ∷ es) bs) (sym (blocks_from-cons p e es))
    (divides_more (ltb (length (body p)) 16_384) p e es refl begin some (λ lt. divides_from (p ++ e ∷ []) es (begin-more 0 p e begin (omega (arith, lt))) (omega (arith, len))) (divides_from (e ∷ []) es new (omega arith)))

pub blocks_of-divides : (es : List Entry) → Divides es (blocks_of es)
blocks_of-divides [] = subst (λ (bs : List (List Entry)). Divides [] bs) (sym blocks_of-nil) (record { whole = refl; are = tt })
blocks_of-divides (e ∷ es) =
    subst (λ (bs : List (List Entry)). Divides (e ∷ es) bs) (sym (blocks_of-cons e es)) (divides_from (e ∷ []) es (omega arith, tt) (omega arith))

pub one_division : (es : List Entry) (bs : List (List Entry)) → Divides es bs → bs ≡ blocks_of es
one_division es bs d = sym (ap blocks_of (sym d.whole) ∙ blocks_of-all bs d.are)
