-- What is found by ranges is what the entries have.
use Rattle.std.proofs.Common.{◌≡◌, ℕ, zero, suc, ◌+◌, ◌^◌, ◌<◌, ◌≤◌, true, false, List, [], ◌∷◌, ◌++◌, length, take, drop, get_or, map, nat_eq, Option, None, Ok, append_assoc, length-append, refl, sym, ap, subst, ◌∙◌, arith}
use Rattle.std.specs.Prelude.{Contains}
use Rattle.std.specs.List.{AllByRecursion, starts_with}
use Rattle.std.proofs.lemmas.List.{take-append-drop, length-take}
use Rattle.std.proofs.lemmas.List.Concat.{flat_map-cons}
use Rattle.std.proofs.lemmas.List.Sums.{sum_by-cons}
use Rattle.std.proofs.Math.Seq.{drop-append_seam, take-append_seam}
use Rattle.mx_base.specs.declared.entry.Entry.{Entry}
use Rattle.mx_hfile.specs.Encoding.{rises, RiseFrom, HasKey, block, blocks_bytes, Place, first_key, place_of, index, trailer, blocks_of, encoding}
use Rattle.mx_hfile.specs.Division.{IsBlock, AreBlocks}
use Rattle.mx_hfile.specs.Ranges.{no_place, first_key_at, place_at, IsBlockFor, AreAllAbove, CanHold}
use Rattle.mx_hfile.specs.Found.{bytes_at, HaveFile, index_place, places_of, value_of, found_in}
use Rattle.mx_hfile.proofs.Loops.{drop_next}
use Rattle.mx_hfile.proofs.OrderLemmas.{rises-trans, rises-some, rise-behind, rise-split}
use Rattle.mx_hfile.proofs.DividingLemmas.{length-map, keys_split, encoding-length}
use Rattle.mx_hfile.proofs.DivisionLemmas.{all, blocks_of-divides}
use Rattle.mx_hfile.proofs.KeyLemmas.{rises-same, rises-not_both}
use Rattle.mx_hfile.proofs.HeldLemmas.{total}
use Rattle.mx_hfile.proofs.FooterLemmas.{data-part}
use Rattle.mx_hfile.proofs.ValueLemmas.{block_alone, found_block, none_from, front_over, back_over, rise-to}

-- ---- the place of a block

place-front : (before : List (List Entry)) (b : List Entry) (after : List (List Entry)) → total (take (length before) (map place_of (before ++ b ∷ after))) ≡ length (blocks_bytes before)
place-front [] b after = refl
place-front (x ∷ before) b after =
    omega (arith, sum_by-cons (λ (p : Place). p.len) (place_of x) (take (length before) (map place_of (before ++ b ∷ after))), place-front before b after, ap length (flat_map-cons block x before), length-append (block x) (blocks_bytes before))

place-here : (before : List (List Entry)) (b : List Entry) (after : List (List Entry)) → get_or (map place_of (before ++ b ∷ after)) (length before) no_place ≡ place_of b
place-here [] b after = refl
place-here (x ∷ before) b after = place-here before b after

place-next : (before : List (List Entry)) (b c : List Entry) (more : List (List Entry)) → get_or (map place_of (before ++ b ∷ c ∷ more)) (suc (length before)) no_place ≡ place_of c
place-next [] b c more = refl
place-next (x ∷ before) b c more = place-next before b c more

blocks-split : (before : List (List Entry)) (b : List Entry) (after : List (List Entry)) → blocks_bytes (before ++ b ∷ after) ≡ blocks_bytes before ++ (block b ++ blocks_bytes after)
blocks-split [] b after = flat_map-cons block b after
blocks-split (x ∷ before) b after =
    flat_map-cons block x (before ++ b ∷ after) ∙ ap (λ (r : List ℕ). block x ++ r) (blocks-split before b after)
    ∙ sym (append_assoc (block x) (blocks_bytes before) (block b ++ blocks_bytes after)) ∙ sym (ap (λ (r : List ℕ). r ++ (block b ++ blocks_bytes after)) (flat_map-cons block x before))

all-split : (before : List (List Entry)) (b : List Entry) (after : List (List Entry)) → all (before ++ b ∷ after) ≡ all before ++ (b ++ all after)
all-split [] b after = refl
all-split (x ∷ before) b after = ap (λ (r : List Entry). x ++ r) (all-split before b after) ∙ sym (append_assoc x (all before) (b ++ all after))

block-part : (es : List Entry) (before : List (List Entry)) (b : List Entry) (after : List (List Entry)) → blocks_of es ≡ before ++ b ∷ after → bytes_at (place_at (places_of es) (length before)) (encoding es) ≡ block b
block-part es before b after split =
    let rest = index (places_of es) ++ trailer (index_place es).0 (index_place es).1 (length es) (length (blocks_of es)) in
    let ps : places_of es ≡ map place_of (before ++ b ∷ after) = ap (map place_of) split in
    let at : total (take (length before) (places_of es)) ≡ length (blocks_bytes before) = ap (λ (x : List Place). total (take (length before) x)) ps ∙ place-front before b after in
    let len : (get_or (places_of es) (length before) no_place).len ≡ length (block b) = ap (λ (x : List Place). (get_or x (length before) no_place).len) ps ∙ ap (λ (p : Place). p.len) (place-here before b after) in
    let bytes : encoding es ≡ blocks_bytes before ++ (block b ++ (blocks_bytes after ++ rest)) =
    data-part es ∙ ap (λ (x : List (List Entry)). blocks_bytes x ++ rest) split ∙ ap (λ (x : List ℕ). x ++ rest) (blocks-split before b after)
    ∙ append_assoc (blocks_bytes before) (block b ++ blocks_bytes after) rest ∙ ap (λ (x : List ℕ). blocks_bytes before ++ x) (append_assoc (block b) (blocks_bytes after) rest) in
    ap (λ (n : ℕ). take (get_or (places_of es) (length before) no_place).len (drop n (encoding es))) at
    ∙ ap (λ (n : ℕ). take n (drop (length (blocks_bytes before)) (encoding es))) len
    ∙ ap (λ (x : List ℕ). take (length (block b)) (drop (length (blocks_bytes before)) x)) bytes
    ∙ ap (take (length (block b))) (drop-append_seam (blocks_bytes before) (block b ++ (blocks_bytes after ++ rest)))
    ∙ take-append_seam (block b) (blocks_bytes after ++ rest)

-- ---- a block among the others

are-split : (before : List (List Entry)) (b : List Entry) (after : List (List Entry)) → AreBlocks (before ++ b ∷ after) → IsBlock b × AreBlocks after
are-split [] b after are = (are.0, are.2)
are-split (x ∷ before) b after are = are-split before b after are.2

record IsAmong (es : List Entry) (before : List (List Entry)) (b : List Entry) (after : List (List Entry)) : Type 0 where
  pub whole : es ≡ all before ++ (b ++ all after)
  pub rise : RiseFrom [] (all before ++ (b ++ all after))
  pub keys : AllByRecursion HasKey b
  pub is : IsBlock b
  pub are : AreBlocks after
  pub len : length (block b) ≤ 268_435_456

is_among : (es : List Entry) (before : List (List Entry)) (b : List Entry) (after : List (List Entry)) → HaveFile es → blocks_of es ≡ before ++ b ∷ after → IsAmong es before b after
is_among es before b after have split =
    let d = blocks_of-divides es in
    let whole : es ≡ all before ++ (b ++ all after) = sym d.whole ∙ ap all split ∙ all-split before b after in
    let are = are-split before b after (subst AreBlocks split d.are) in
    let keys = keys_split (all before) (b ++ all after) (subst (AllByRecursion HasKey) whole have.are.each) in
    let parts = ap length (ap blocks_bytes split ∙ blocks-split before b after) in
    let le = have.len in
    record {
      whole = whole;
      rise = subst (RiseFrom []) whole have.are.rising;
      keys = (keys_split b (all after) keys.1).0;
      is = are.0;
      are = are.1;
      len = omega (arith, parts, le, encoding-length es, length-append (blocks_bytes before) (block b ++ blocks_bytes after), length-append (block b) (blocks_bytes after));
    }

behind-none : (key : List ℕ) (after : List (List Entry)) → AreBlocks after → RiseFrom [] (all after) → ((c : List Entry) (more : List (List Entry)) → after ≡ c ∷ more → rises key (first_key c) ≡ true) → value_of key (all after) ≡ None
behind-none key [] are rise above = refl
behind-none key ([] ∷ more) are rise above = let some = are.0.some in absurd (omega (arith, some))
behind-none key ((c ∷ cs) ∷ more) are rise above = none_from key [] c (cs ++ all more) (above (c ∷ cs) more refl) rise

in_block : (es : List Entry) (before : List (List Entry)) (b : List Entry) (after : List (List Entry)) (key : List ℕ) → IsAmong es before b after → rises key (first_key b) ≡ false
    → ((c : List Entry) (more : List (List Entry)) → after ≡ c ∷ more → rises key (first_key c) ≡ true) → value_of key es ≡ value_of key b
in_block es before [] after key among not' above = let some = among.is.some in absurd (omega (arith, some))
in_block es before (e ∷ rest) after key among not' above =
    let b : List Entry = e ∷ rest in
    let rise = rise-behind [] b (all after) (rise-behind [] (all before) (b ++ all after) among.rise) in
    ap (value_of key) among.whole ∙ front_over key [] (all before) e (rest ++ all after) among.rise not'
    ∙ back_over key b (all after) (behind-none key after among.are rise above)

first-here : (es : List Entry) (before : List (List Entry)) (b : List Entry) (after : List (List Entry)) → blocks_of es ≡ before ++ b ∷ after → first_key_at (places_of es) (length before) ≡ first_key b
first-here es before b after split = ap (λ (x : List (List Entry)). first_key_at (map place_of x) (length before)) split ∙ ap (λ (p : Place). p.key) (place-here before b after)

first-next : (es : List Entry) (before : List (List Entry)) (b c : List Entry) (more : List (List Entry)) → blocks_of es ≡ before ++ b ∷ c ∷ more → first_key_at (places_of es) (suc (length before)) ≡ first_key c
first-next es before b c more split = ap (λ (x : List (List Entry)). first_key_at (map place_of x) (suc (length before))) split ∙ ap (λ (p : Place). p.key) (place-next before b c more)

count : (es : List Entry) (before : List (List Entry)) (b : List Entry) (after : List (List Entry)) → blocks_of es ≡ before ++ b ∷ after → length (places_of es) ≡ suc (length before + length after)
count es before b after split = omega (arith, length-map place_of (blocks_of es), ap (λ (x : List (List Entry)). length x) split, length-append before (b ∷ after))

found_at : (es : List Entry) (before : List (List Entry)) (b : List Entry) (after : List (List Entry)) (key : List ℕ) → HaveFile es → blocks_of es ≡ before ++ b ∷ after → IsBlockFor (places_of es) key (length before)
    → found_in key (bytes_at (place_at (places_of es) (length before)) (encoding es)) ≡ Ok (value_of key es)
found_at es before b after key have split is =
    let among = is_among es before b after have split in
    let rise = (rise-split [] b (all after) (rise-behind [] (all before) (b ++ all after) among.rise)).0 in
    let not' : rises key (first_key b) ≡ false = sym (ap (rises key) (first-here es before b after split)) ∙ is.not_above in
    let above : (c : List Entry) (more : List (List Entry)) → after ≡ c ∷ more → rises key (first_key c) ≡ true =
    λ c more e.
    let split' : blocks_of es ≡ before ++ b ∷ c ∷ more = split ∙ ap (λ (x : List (List Entry)). before ++ b ∷ x) e in
    let len = count es before b (c ∷ more) split' in
    sym (ap (rises key) (first-next es before b c more split')) ∙ is.last (suc (length before)) (omega arith) (omega (arith, len)) in
    ap (found_in key) (block-part es before b after split) ∙ found_block key b (block_alone b rise among.keys among.is among.len)
    ∙ ap (λ (x : Option (List ℕ)). Ok x) (sym (in_block es before b after key among not' above))

pub found_is : (es : List Entry) (key : List ℕ) (i : ℕ) → HaveFile es → IsBlockFor (places_of es) key i → found_in key (bytes_at (place_at (places_of es) i) (encoding es)) ≡ Ok (value_of key es)
found_is es key i have is =
    let bs = blocks_of es in
    let there = is.there in
    let lt : i < length bs = omega (arith, there, length-map place_of bs) in
    let split : bs ≡ take i bs ++ get_or bs i [] ∷ drop (i + 1) bs = sym (take-append-drop i bs) ∙ ap (λ (x : List (List Entry)). take i bs ++ x) (drop_next bs i [] lt) in
    let at : length (take i bs) ≡ i = omega (arith, length-take i bs, lt) in
    subst (λ (n : ℕ). found_in key (bytes_at (place_at (places_of es) n) (encoding es)) ≡ Ok (value_of key es)) at
    (found_at es (take i bs) (get_or bs i []) (drop (i + 1) bs) key have split (subst (IsBlockFor (places_of es) key) (sym at) is))

-- the first key of the first block
abbrev head_key : List (List Entry) → List ℕ
head_key [] = []
head_key (b ∷ bs) = first_key b

none_among : (es : List Entry) (key : List ℕ) (bs : List (List Entry)) → HaveFile es → blocks_of es ≡ bs → AreAllAbove (places_of es) key → value_of key es ≡ None
none_among es key [] have split above = ap (value_of key) (sym (blocks_of-divides es).whole ∙ ap all split)
none_among es key (b ∷ after) have split above =
    let among = is_among es [] b after have split in
    let first : rises key (first_key b) ≡ true = sym (ap (rises key) (first-here es [] b after split)) ∙ above 0 (omega (arith, count es [] b after split)) in
    ap (value_of key) among.whole ∙ behind-none key (b ∷ after) (subst AreBlocks split (blocks_of-divides es).are) among.rise (λ c more e. subst (λ (x : List (List Entry)). rises key (head_key x) ≡ true) e first)

pub none_is : (es : List Entry) (key : List ℕ) → HaveFile es → AreAllAbove (places_of es) key → value_of key es ≡ None
none_is es key have above = none_among es key (blocks_of es) have refl above

-- ---- the blocks of a prefix

rise-at : (last : List ℕ) (es : List Entry) (k : ℕ) (d : Entry) → RiseFrom last es → k < length es → rises last (get_or es k d).key ≡ true
rise-at last [] k d rise lt = absurd (omega arith)
rise-at last (e ∷ es) zero d rise lt = rise.0
rise-at last (e ∷ es) (suc k) d rise lt = rises-trans last e.key (get_or es k d).key rise.0 (rise-at e.key es k d rise.1 (omega arith))

key-at : (es : List Entry) (k : ℕ) (d : Entry) → AllByRecursion HasKey es → k < length es → length (get_or es k d).key < 2 ^ 16
key-at [] k d keys lt = absurd (omega arith)
key-at (e ∷ es) zero d keys lt = keys.0
key-at (e ∷ es) (suc k) d keys lt = key-at es k d keys.1 (omega arith)

not-below-first : (es : List Entry) (k : ℕ) (d : Entry) → RiseFrom [] es → k < length es → rises (get_or es k d).key (first_key es) ≡ false
not-below-first [] k d rise lt = absurd (omega arith)
not-below-first (e ∷ es) zero d rise lt = rises-same e.key
not-below-first (e ∷ es) (suc k) d rise lt = rises-not_both e.key (get_or es k d).key (rise-at e.key es k d rise.1 (omega arith))

below-behind : (last : List ℕ) (b : List Entry) (k : ℕ) (d c : Entry) (cs : List Entry) → RiseFrom last (b ++ c ∷ cs) → k < length b → rises (get_or b k d).key c.key ≡ true
below-behind last [] k d c cs rise lt = absurd (omega arith)
below-behind last (e ∷ es) zero d c cs rise lt = rise-to e.key es c cs rise.1
below-behind last (e ∷ es) (suc k) d c cs rise lt = below-behind e.key es k d c cs rise.1 (omega arith)

below-next : (b : List Entry) (k : ℕ) (d : Entry) (c : List Entry) (more : List (List Entry)) → AreBlocks (c ∷ more) → RiseFrom [] (b ++ all (c ∷ more)) → k < length b → rises (get_or b k d).key (first_key c) ≡ true
below-next b k d [] more are rise lt = let some = are.0.some in absurd (omega (arith, some))
below-next b k d (c ∷ cs) more are rise lt = below-behind [] b k d c (cs ++ all more) rise lt

next_below : (es : List Entry) (before : List (List Entry)) (b : List Entry) (after : List (List Entry)) (k : ℕ) (d : Entry) → blocks_of es ≡ before ++ b ∷ after → AreBlocks after → RiseFrom [] (b ++ all after) → k < length b
    → suc (length before) < length (places_of es) → rises (get_or b k d).key (first_key_at (places_of es) (suc (length before))) ≡ true
next_below es before b [] k d split are rise lt in' = absurd (omega (arith, in', count es before b [] split))
next_below es before b (c ∷ more) k d split are rise lt in' = ap (rises (get_or b k d).key) (first-next es before b c more split) ∙ below-next b k d c more are rise lt

holds-at : (es : List Entry) (before : List (List Entry)) (b : List Entry) (after : List (List Entry)) (k : ℕ) (d : Entry) (prefix : List ℕ) → HaveFile es → blocks_of es ≡ before ++ b ∷ after → k < length b
    → starts_with nat_eq (get_or b k d).key prefix ≡ true → CanHold (places_of es) prefix (length before)
holds-at es before b after k d prefix have split lt begins =
    let among = is_among es before b after have split in
    let rise = rise-behind [] (all before) (b ++ all after) among.rise in
    let rise-b = (rise-split [] b (all after) rise).0 in
    record {
      there = omega (arith, count es before b after split);
      key = (get_or b k d).key;
      is_key = (rises-some [] (get_or b k d).key (rise-at [] b k d rise-b lt), key-at b k d among.keys lt);
      begins = begins;
      from_first = ap (rises (get_or b k d).key) (first-here es before b after split) ∙ not-below-first b k d rise-b lt;
      below_next = λ in'. next_below es before b after k d split among.are rise lt in';
    }

pub prefix_is : (es b : List Entry) (before after : List (List Entry)) (e : Entry) (prefix : List ℕ) → HaveFile es → blocks_of es ≡ before ++ b ∷ after → Contains b e → starts_with nat_eq e.key prefix ≡ true → CanHold (places_of es) prefix (length before)
prefix_is es b before after e prefix have split there begins =
    holds-at es before b after there.0 e prefix have split there.1 (ap (λ (x : Entry). starts_with nat_eq x.key prefix) there.2 ∙ begins)
