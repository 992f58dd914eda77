-- Entries are divided into blocks one block after the other, and the lengths that this gives.
use Rattle.std.proofs.Common.{◌≡◌, ℕ, zero, suc, ◌+◌, ◌^◌, ◌<◌, ◌≤◌, Bool, cond, ltb, List, [], ◌∷◌, ◌++◌, length, get_or, take, drop, map, append_assoc, append-nil, length-append, refl, sym, ap, ◌∙◌, arith}
use Rattle.std.specs.List.{AllByRecursion}
use Rattle.std.specs.Int.{w16, w32, w64}
use Rattle.std.proofs.lemmas.Bool.{le-ltb, lt-ltb}
use Rattle.std.proofs.lemmas.List.{take_all}
use Rattle.std.proofs.lemmas.List.Concat.{flat_map-cons}
use Rattle.mx_base.specs.declared.entry.Entry.{Entry}
use Rattle.mx_hfile.specs.Encoding.{number, data_magic, trailer_magic, HasKey, entry_bytes, body, block, blocks_bytes, Place, first_key, place_of, listing, listings, index, trailer, blocks_from, blocks_of, file, encoding}
use Rattle.mx_hfile.proofs.FieldLemmas.{wide16, wide32, wide64}
use Rattle.mx_hfile.proofs.Loops.{drop_next, drop_end}

-- ---- lengths

pub entry-length : (e : Entry) → length (entry_bytes e) ≡ 6 + length e.key + length e.value
entry-length e =
    let a = length-append (number w16 (length e.key) ++ e.key ++ number w32 (length e.value)) e.value in
    let b = length-append (number w16 (length e.key) ++ e.key) (number w32 (length e.value)) in
    let c = length-append (number w16 (length e.key)) e.key in
    omega (arith, a, b, c, wide16.len (length e.key), wide32.len (length e.value))

data_magic-length : length data_magic ≡ 8
unfolding data_magic
data_magic-length = refl

trailer_magic-length : length trailer_magic ≡ 8
unfolding trailer_magic
trailer_magic-length = refl

pub block-length : (b : List Entry) → length (block b) ≡ 12 + length (body b)
block-length b =
    let a = length-append (data_magic ++ number w32 (length (body b))) (body b) in
    let c = length-append data_magic (number w32 (length (body b))) in
    omega (arith, a, c, data_magic-length, wide32.len (length (body b)))

pub listing-length : (at : ℕ) (p : Place) → length (listing at p) ≡ 14 + length p.key
listing-length at p =
    let a = length-append (number w64 at ++ number w32 p.len ++ number w16 (length p.key)) p.key in
    let b = length-append (number w64 at ++ number w32 p.len) (number w16 (length p.key)) in
    let c = length-append (number w64 at) (number w32 p.len) in
    omega (arith, a, b, c, wide64.len at, wide32.len p.len, wide16.len (length p.key))

pub listings-length : (at other : ℕ) (ps : List Place) → length (listings at ps) ≡ length (listings other ps)
listings-length at other [] = refl
listings-length at other (p ∷ ps) =
    let more = listings-length (at + p.len) (other + p.len) ps in
    omega (arith, more, length-append (listing at p) (listings (at + p.len) ps), length-append (listing other p) (listings (other + p.len) ps), listing-length at p, listing-length other p)

pub trailer-length : (offset len entries blocks : ℕ) → length (trailer offset len entries blocks) ≡ 64
trailer-length offset len entries blocks =
    let m = trailer_magic ++ number w32 1 in
    let a = length-append trailer_magic (number w32 1) in
    let b = length-append (trailer_magic ++ number w32 1) (number w32 0) in
    let c = length-append (trailer_magic ++ number w32 1 ++ number w32 0) (number w64 offset) in
    let d = length-append (trailer_magic ++ number w32 1 ++ number w32 0 ++ number w64 offset) (number w64 len) in
    let e = length-append (trailer_magic ++ number w32 1 ++ number w32 0 ++ number w64 offset ++ number w64 len) (number w64 entries) in
    let f = length-append (trailer_magic ++ number w32 1 ++ number w32 0 ++ number w64 offset ++ number w64 len ++ number w64 entries) (number w32 blocks) in
    let g = length-append (trailer_magic ++ number w32 1 ++ number w32 0 ++ number w64 offset ++ number w64 len ++ number w64 entries ++ number w32 blocks) (number w32 0) in
    let h = length-append (trailer_magic ++ number w32 1 ++ number w32 0 ++ number w64 offset ++ number w64 len ++ number w64 entries ++ number w32 blocks ++ number w32 0) (0 ∷ 0 ∷ 0 ∷ 0 ∷ 0 ∷ 0 ∷ 0 ∷ 0 ∷ 0 ∷ 0 ∷ 0 ∷ 0 ∷ 0 ∷ 0 ∷ 0 ∷ 0 ∷ []) in
    omega (arith, a, b, c, d, e, f, g, h, trailer_magic-length, wide32.len 1, wide32.len 0, wide64.len offset, wide64.len len, wide64.len entries, wide32.len blocks)

pub file-length : (count : ℕ) (bs : List (List Entry)) → length (file count bs) ≡ length (blocks_bytes bs) + length (index (map place_of bs)) + 64
file-length count bs =
    let t = trailer (length (blocks_bytes bs)) (length (index (map place_of bs))) count (length bs) in
    omega (arith, length-append (blocks_bytes bs ++ index (map place_of bs)) t, length-append (blocks_bytes bs) (index (map place_of bs)), trailer-length (length (blocks_bytes bs)) (length (index (map place_of bs))) count (length bs))

pub encoding-length : (es : List Entry) → length (encoding es) ≡ length (blocks_bytes (blocks_of es)) + length (index (map place_of (blocks_of es))) + 64
unfolding encoding
encoding-length es = file-length (length es) (blocks_of es)

pub length-map : {A B : Type 0} (f : A → B) (xs : List A) → length (map f xs) ≡ length xs
length-map f [] = refl
length-map f (x ∷ xs) = ap suc (length-map f xs)

-- ---- the first block

pub blocks_from-cons : (present : List Entry) (e : Entry) (es : List Entry) → blocks_from present (e ∷ es) ≡ cond (ltb (length (body present)) 16_384) (blocks_from (present ++ e ∷ []) es) (present ∷ blocks_from (e ∷ []) es)
blocks_from-cons [] e es = refl
blocks_from-cons (p ∷ ps) e es = refl

pub blocks_of-nil : blocks_of [] ≡ []
unfolding blocks_of
blocks_of-nil = refl

pub blocks_of-cons : (e : Entry) (es : List Entry) → blocks_of (e ∷ es) ≡ blocks_from (e ∷ []) es
unfolding blocks_of
blocks_of-cons e es = refl

pub begins : (es : List Entry) → blocks_of es ≡ blocks_from [] es
unfolding blocks_of
begins es = refl

take_next : {A : Type 0} (xs : List A) (i : ℕ) (d : A) → i < length xs → take (i + 1) xs ≡ take i xs ++ get_or xs i d ∷ []
take_next [] i d lt = absurd (omega arith)
take_next (x ∷ xs) zero d lt = refl
take_next (x ∷ xs) (suc i) d lt =
    let f : suc i + 1 ≡ suc (i + 1) = omega arith in
    ap (λ (k : ℕ). take k (x ∷ xs)) f ∙ ap (λ (r : List _). x ∷ r) (take_next xs i d (omega arith))

pub one_more : (es : List Entry) (i : ℕ) (d : Entry) → i < length es → length (body (take i es)) < 16_384 → blocks_of es ≡ blocks_from (take i es) (drop i es)
    → blocks_of es ≡ blocks_from (take (i + 1) es) (drop (i + 1) es)
one_more es i d lt room so_far =
    so_far ∙ ap (blocks_from (take i es)) (drop_next es i d lt) ∙ blocks_from-cons (take i es) (get_or es i d) (drop (i + 1) es)
    ∙ ap (λ (b : Bool). cond b (blocks_from (take i es ++ get_or es i d ∷ []) (drop (i + 1) es)) (take i es ∷ blocks_from (get_or es i d ∷ []) (drop (i + 1) es))) (lt-ltb _ _ room)
    ∙ ap (λ (p : List Entry). blocks_from p (drop (i + 1) es)) (sym (take_next es i d lt))

pub cut_here : (es : List Entry) (i : ℕ) (d : Entry) → i < length es → 16_384 ≤ length (body (take i es)) → blocks_of es ≡ blocks_from (take i es) (drop i es)
    → blocks_of es ≡ take i es ∷ blocks_of (drop i es)
cut_here es i d lt full so_far =
    let e = get_or es i d in
    let rest = drop (i + 1) es in
    let next : drop i es ≡ e ∷ rest = drop_next es i d lt in
    so_far ∙ ap (blocks_from (take i es)) next ∙ blocks_from-cons (take i es) e rest
    ∙ ap (λ (b : Bool). cond b (blocks_from (take i es ++ e ∷ []) rest) (take i es ∷ blocks_from (e ∷ []) rest)) (le-ltb _ _ full)
    ∙ ap (λ (bs : List (List Entry)). take i es ∷ bs) (sym (ap blocks_of next ∙ blocks_of-cons e rest))

one_block : (es : List Entry) → 0 < length es → blocks_from es [] ≡ es ∷ []
one_block [] lt = absurd (omega arith)
one_block (e ∷ es) lt = refl

pub no_cut : (es : List Entry) (i : ℕ) → 0 < length es → length es ≤ i → blocks_of es ≡ blocks_from (take i es) (drop i es) → blocks_of es ≡ es ∷ blocks_of []
no_cut es i some le so_far =
    so_far ∙ ap (blocks_from (take i es)) (drop_end es i le) ∙ ap (λ (p : List Entry). blocks_from p []) (take_all i es le) ∙ one_block es some ∙ ap (λ (bs : List (List Entry)). es ∷ bs) (sym blocks_of-nil)

-- ---- keys and values

pub keys_split : (a b : List Entry) → AllByRecursion HasKey (a ++ b) → AllByRecursion HasKey a × AllByRecursion HasKey b
keys_split [] b h = (tt, h)
keys_split (e ∷ a) b h = let r = keys_split a b h.1 in ((h.0, r.0), r.1)

pub first_key_fits : (b : List Entry) → AllByRecursion HasKey b → length (first_key b) < 2 ^ 16
first_key_fits [] h = omega arith
first_key_fits (e ∷ es) h = h.0

pub value_within : (es : List Entry) (i : ℕ) (d : Entry) → i < length es → length (get_or es i d).value ≤ length (body es)
value_within [] i d lt = absurd (omega arith)
value_within (e ∷ es) zero d lt = omega (arith, ap length (flat_map-cons entry_bytes e es), length-append (entry_bytes e) (body es), entry-length e)
value_within (e ∷ es) (suc i) d lt =
    let more = value_within es i d (omega arith) in
    omega (arith, more, ap length (flat_map-cons entry_bytes e es), length-append (entry_bytes e) (body es))

-- ---- block by block

pub first_bytes : (rest behind b : List Entry) → blocks_of rest ≡ b ∷ blocks_of behind → blocks_bytes (blocks_of rest) ≡ block b ++ blocks_bytes (blocks_of behind)
first_bytes rest behind b e = ap blocks_bytes e ∙ flat_map-cons block b (blocks_of behind)

pub bytes-length : (rest behind b : List Entry) → blocks_of rest ≡ b ∷ blocks_of behind → length (blocks_bytes (blocks_of rest)) ≡ 12 + length (body b) + length (blocks_bytes (blocks_of behind))
bytes-length rest behind b e = omega (arith, ap length (first_bytes rest behind b e), length-append (block b) (blocks_bytes (blocks_of behind)), block-length b)

pub first_listing : (at : ℕ) (rest behind b : List Entry) → blocks_of rest ≡ b ∷ blocks_of behind
    → listings at (map place_of (blocks_of rest)) ≡ listing at (place_of b) ++ listings (at + length (block b)) (map place_of (blocks_of behind))
first_listing at rest behind b e = ap (λ (bs : List (List Entry)). listings at (map place_of bs)) e

pub listings-first-length : (rest behind b : List Entry) → blocks_of rest ≡ b ∷ blocks_of behind
    → length (listings 0 (map place_of (blocks_of rest))) ≡ 14 + length (first_key b) + length (listings 0 (map place_of (blocks_of behind)))
listings-first-length rest behind b e =
    omega (arith, ap length (first_listing 0 rest behind b e), length-append (listing 0 (place_of b)) (listings (0 + length (block b)) (map place_of (blocks_of behind))), listing-length 0 (place_of b), listings-length (0 + length (block b)) 0 (map place_of (blocks_of behind)))

pub more_bytes : (rest behind b : List Entry) (out put total : List ℕ) → blocks_of rest ≡ b ∷ blocks_of behind → put ≡ out ++ block b → out ++ blocks_bytes (blocks_of rest) ≡ total → put ++ blocks_bytes (blocks_of behind) ≡ total
more_bytes rest behind b out put total e p so_far =
    ap (λ (x : List ℕ). x ++ blocks_bytes (blocks_of behind)) p ∙ append_assoc out (block b) (blocks_bytes (blocks_of behind)) ∙ ap (λ (x : List ℕ). out ++ x) (sym (first_bytes rest behind b e)) ∙ so_far

pub all_bytes : (rest : List Entry) (out total : List ℕ) → length rest ≡ 0 → out ++ blocks_bytes (blocks_of rest) ≡ total → out ≡ total
all_bytes [] out total none so_far = sym (append-nil out) ∙ ap (λ (bs : List (List Entry)). out ++ blocks_bytes bs) (sym blocks_of-nil) ∙ so_far
all_bytes (e ∷ es) out total none so_far = absurd (omega arith)

pub more_listings_put : (at next len : ℕ) (rest behind b : List Entry) (key out put total : List ℕ) → blocks_of rest ≡ b ∷ blocks_of behind → len ≡ 12 + length (body b) → next ≡ at + len → key ≡ first_key b
    → put ≡ out ++ listing at (record { len = len; key = key }) → out ++ listings at (map place_of (blocks_of rest)) ≡ total → put ++ listings next (map place_of (blocks_of behind)) ≡ total
more_listings_put at next len rest behind b key out put total e is there k p so_far =
    let len-is : len ≡ length (block b) = is ∙ sym (block-length b) in
    let next-is : next ≡ at + length (block b) = there ∙ ap (λ (n : ℕ). at + n) len-is in
    let place : listing at (record { len = len; key = key }) ≡ listing at (place_of b) =
    ap (λ (n : ℕ). listing at (record { len = n; key = key })) len-is ∙ ap (λ (x : List ℕ). listing at (record { len = length (block b); key = x })) k in
    let behind-is : listings next (map place_of (blocks_of behind)) ≡ listings (at + length (block b)) (map place_of (blocks_of behind)) = ap (λ (n : ℕ). listings n (map place_of (blocks_of behind))) next-is in
    ap (λ (x : List ℕ). x ++ listings next (map place_of (blocks_of behind))) (p ∙ ap (λ (x : List ℕ). out ++ x) place)
    ∙ ap (λ (x : List ℕ). (out ++ listing at (place_of b)) ++ x) behind-is
    ∙ append_assoc out (listing at (place_of b)) (listings (at + length (block b)) (map place_of (blocks_of behind)))
    ∙ ap (λ (x : List ℕ). out ++ x) (sym (first_listing at rest behind b e)) ∙ so_far

pub all_listings_put : (at : ℕ) (rest : List Entry) (out total : List ℕ) → length rest ≡ 0 → out ++ listings at (map place_of (blocks_of rest)) ≡ total → out ≡ total
all_listings_put at [] out total none so_far = sym (append-nil out) ∙ ap (λ (bs : List (List Entry)). out ++ listings at (map place_of bs)) (sym blocks_of-nil) ∙ so_far
all_listings_put at (e ∷ es) out total none so_far = absurd (omega arith)

pub nothing_left : (rest : List Entry) → length rest ≡ 0 → (length (blocks_bytes (blocks_of rest)) ≡ 0) × (length (listings 0 (map place_of (blocks_of rest))) ≡ 0) × (length (blocks_of rest) ≡ 0)
nothing_left [] none =
    (ap (λ (bs : List (List Entry)). length (blocks_bytes bs)) blocks_of-nil, ap (λ (bs : List (List Entry)). length (listings 0 (map place_of bs))) blocks_of-nil, ap (λ (bs : List (List Entry)). length bs) blocks_of-nil)
nothing_left (e ∷ es) none = absurd (omega arith)

pub one_less : (rest behind b : List Entry) → blocks_of rest ≡ b ∷ blocks_of behind → length (blocks_of rest) ≡ 1 + length (blocks_of behind)
one_less rest behind b e = omega (arith, ap (λ (bs : List (List Entry)). length bs) e)

pub assembled : (es : List Entry) (data' places out : List ℕ) (offset len count blocks : ℕ) → data' ≡ blocks_bytes (blocks_of es) → places ≡ data' ++ index (map place_of (blocks_of es))
    → out ≡ places ++ trailer offset len count blocks → offset ≡ length (blocks_bytes (blocks_of es)) → len ≡ length (index (map place_of (blocks_of es))) → count ≡ length es → blocks ≡ length (blocks_of es) → out ≡ encoding es
unfolding encoding
assembled es data' places out offset len count blocks d i o offset-is len-is count-is blocks-is =
    o ∙ ap (λ (x : List ℕ). x ++ trailer offset len count blocks) (i ∙ ap (λ (x : List ℕ). x ++ index (map place_of (blocks_of es))) d)
    ∙ ap (λ (n : ℕ). (blocks_bytes (blocks_of es) ++ index (map place_of (blocks_of es))) ++ trailer n len count blocks) offset-is
    ∙ ap (λ (n : ℕ). (blocks_bytes (blocks_of es) ++ index (map place_of (blocks_of es))) ++ trailer (length (blocks_bytes (blocks_of es))) n count blocks) len-is
    ∙ ap (λ (n : ℕ). (blocks_bytes (blocks_of es) ++ index (map place_of (blocks_of es))) ++ trailer (length (blocks_bytes (blocks_of es))) (length (index (map place_of (blocks_of es)))) n blocks) count-is
    ∙ ap (λ (n : ℕ). (blocks_bytes (blocks_of es) ++ index (map place_of (blocks_of es))) ++ trailer (length (blocks_bytes (blocks_of es))) (length (index (map place_of (blocks_of es)))) (length es) n) blocks-is

-- each block has bytes
pub few_blocks : (bs : List (List Entry)) → length bs ≤ length (blocks_bytes bs)
few_blocks [] = omega arith
few_blocks (b ∷ bs) = omega (arith, few_blocks bs, ap length (flat_map-cons block b bs), length-append (block b) (blocks_bytes bs), block-length b)
