-- A file is read as it was written, and was written as it is read.
use Rattle.std.proofs.Common.{◌≡◌, ℕ, zero, suc, ◌+◌, ◌-◌, ◌^◌, ◌<◌, ◌≤◌, Bool, true, false, cond, eqb, ltb, ◌||◌, List, [], ◌∷◌, ◌++◌, length, take, drop, map, None, Result, Ok, Err, append_assoc, length-append, refl, sym, ap, subst, ◌∙◌, arith}
use Rattle.std.specs.Prelude.{IfOk}
use Rattle.std.specs.Global.{Vec}
use Rattle.std.specs.List.{AllByRecursion}
use Rattle.std.proofs.lemmas.Bool.{lt-ltb, eqb-true, eq-eqb}
use Rattle.std.proofs.lemmas.Bool.Decides.{nat_tests}
use Rattle.std.proofs.lemmas.List.{length-take, length-drop, take-append-drop}
use Rattle.std.proofs.lemmas.List.Concat.{flat_map-cons}
use Rattle.std.proofs.Math.Seq.{drop-append_seam, take-append_seam}
use Rattle.mx_base.specs.declared.entry.Entry.{Entry}
use Rattle.mx_hfile.specs.declared.error.HFileError.{HFileError}
use Rattle.mx_hfile.specs.declared.error.HFileError.TheVariants as errors
use Rattle.mx_hfile.specs.Encoding.{AreEntries, RiseFrom, HasKey, body, block, blocks_bytes, Place, place_of, index, trailer, blocks_of, file, encoding}
use Rattle.mx_hfile.specs.Decoding.{is_key, is_length, placed, trailer_in, index_in, blocks_in, Trailer, file_in, HasCause, Decodes, IsOnly}
use Rattle.mx_hfile.specs.Division.{IsFullBefore, AreBlocks}
use Rattle.mx_lists.proofs.Codecs.{IsBytes, IsBytes-take, IsBytes-drop, bind_ok, ok_is, passed}
use Rattle.mx_hfile.proofs.FieldLemmas.{IsGoodKey}
use Rattle.mx_hfile.proofs.PlaceLemmas.{AreGoodPlaces, covers, index-length, index_takes, index_again}
use Rattle.mx_hfile.proofs.FileSteps.{index_bytes, file_in-data, counted_data}
use Rattle.mx_hfile.proofs.DividingLemmas.{block-length, length-map, encoding-length, few_blocks, entry-length, keys_split}
use Rattle.mx_hfile.proofs.DivisionLemmas.{all, body-first, blocks_of-all, blocks_of-divides}
use Rattle.mx_hfile.proofs.OrderLemmas.{rises-some, rise-behind}
use Rattle.mx_hfile.proofs.DataLemmas.{EachBlock, AllRead, blocks_again, blocks_take, place_ok}
use Rattle.mx_hfile.proofs.TrailerLemmas.{IsTrailer, trailer_again, trailer_takes}

-- ---- places and blocks

last_within : (bs : List (List Entry)) (at end len : ℕ) (b : List Entry) → at + len + length (blocks_bytes bs) ≡ end → len ≡ 12 + length (body b) → IsFullBefore b bs → is_length (length (map place_of bs)) at end len ≡ true
last_within [] at end len b sum is full = eq-eqb (at + len) end (omega (arith, sum))
last_within (c ∷ cs) at end len b sum is full =
    let more = length-append (block c) (blocks_bytes cs) in
    let some = block-length c in
    let parts = ap length (flat_map-cons block c cs) in
    let less : at + len < end = omega (arith, sum, more, some, parts) in
    let long : 16_395 < len = omega (arith, is, full) in
    let behind : eqb (suc (length (map place_of cs))) 0 ≡ false = grind (arith, nat_tests) in
    rw (behind, lt-ltb (at + len) end less, lt-ltb 16_395 len long) refl

pub places_good : (at end : ℕ) (last : List ℕ) (bs : List (List Entry)) → at + length (blocks_bytes bs) ≡ end → end < 2 ^ 32 → AreBlocks bs → RiseFrom last (all bs) → AllByRecursion HasKey (all bs)
    → AreGoodPlaces at end last (map place_of bs)
places_good at end last [] sum lt are rise keys = omega (arith, sum)
places_good at end last ([] ∷ bs) sum lt are rise keys = let some = are.0.some in absurd (omega (arith, some))
places_good at end last ((e ∷ es) ∷ bs) sum lt are rise keys =
    let b : List Entry = e ∷ es in
    let parts = ap length (flat_map-cons block b bs) in
    let more = length-append (block b) (blocks_bytes bs) in
    let there : at + length (block b) + length (blocks_bytes bs) ≡ end = omega (arith, sum, parts, more) in
    let key : IsGoodKey (is_key last None) e.key = (rises-some last e.key rise.0, keys.0, rise.0) in (
      record { within = last_within bs at end (length (block b)) b there (block-length b) are.1; key = key; len = omega (arith, there, lt) },
      places_good (at + length (block b)) end e.key bs there lt are.2 (rise-behind e.key es (all bs) rise.1) (keys_split b (all bs) keys).1,
    )

full_before : (bs : List (List Entry)) (at end : ℕ) (b : List Entry) → is_length (length (map place_of bs)) at end (length (block b)) ≡ true → IsFullBefore b bs
full_before [] at end b e = tt
full_before (c ∷ cs) at end b e =
    let len = block-length b in
    grind (arith, nat_tests, len)

are_blocks : (at end : ℕ) (last : List ℕ) (bs : List (List Entry)) → EachBlock bs → AreGoodPlaces at end last (map place_of bs) → AreBlocks bs
are_blocks at end last [] each good = tt
are_blocks at end last (b ∷ bs) each good =
    (each.0, full_before bs at end b good.0.within, are_blocks (at + length (block b)) end (place_of b).key bs each.1 good.1)

-- ---- the parts of a file

abbrev none : List ℕ
none = []

drop-nil : (n : ℕ) → drop n none ≡ none
drop-nil zero = refl
drop-nil (suc n) = refl

drop-more : (a b : ℕ) (xs : List ℕ) → drop a (drop b xs) ≡ drop (a + b) xs
drop-more a zero xs = ap (λ (n : ℕ). drop n xs) (omega arith)
drop-more a (suc b) [] = drop-nil a ∙ sym (drop-nil (a + suc b))
drop-more a (suc b) (x ∷ xs) =
    let k : a + suc b ≡ suc (a + b) = omega arith in
    drop-more a b xs ∙ sym (ap (λ (n : ℕ). drop n (x ∷ xs)) k)

three_parts : (bytes : List ℕ) (o n : ℕ) → o ≤ n → bytes ≡ take o bytes ++ (take (n - o) (drop o bytes) ++ drop n bytes)
three_parts bytes o n le =
    let k : n - o + o ≡ n = omega arith in
    sym (ap (λ (x : List ℕ). take o bytes ++ (take (n - o) (drop o bytes) ++ x)) (sym (ap (λ (m : ℕ). drop m bytes) k) ∙ sym (drop-more (n - o) o bytes))
    ∙ ap (λ (x : List ℕ). take o bytes ++ x) (take-append-drop (n - o) (drop o bytes)) ∙ take-append-drop o bytes)

unrefused' : {A : Type 0} (b : Bool) (k : ℕ) (r : Result A ℕ) (y : A) → cond b (Err k) r ≡ Ok y → (b ≡ false) × (r ≡ Ok y)
unrefused' true k r y e = absurd cc
unrefused' false k r y e = (refl, e)

-- ---- what is read was written so

pub record IsFileOf (bytes : List ℕ) (es : List Entry) : Type 0 where
  pub entries : AreEntries es
  pub len : length bytes ≤ 268_435_456
  pub spelled : bytes ≡ encoding es

pub same_file : (es : List Entry) (bs : List (List Entry)) → blocks_of es ≡ bs → file (length es) bs ≡ encoding es
unfolding encoding
same_file es bs e = ap (file (length es)) (sym e)

in_range : (len : ℕ) → (ltb len 80 || ltb 268_435_456 len) ≡ false → (80 ≤ len) × (len ≤ 268_435_456)
in_range len e = (grind (arith, nat_tests), grind (arith, nat_tests))

joined : (bytes : List ℕ) (t : Trailer) (ps : List Place) (es : List Entry) → 80 ≤ length bytes → length bytes ≤ 268_435_456 → IsTrailer (length bytes) (drop (length bytes - 64) bytes) t
    → (index_bytes bytes t ≡ index ps) × ((length ps ≡ t.block_count) × AreGoodPlaces 0 t.offset [] ps) → AllRead [] (take t.offset bytes) ps es → length es ≡ t.entry_count → IsFileOf bytes es
joined bytes t ps es ge le tr ix r count =
    let bs = r.blocks in
    let o = t.offset in
    let len = length bytes in
    let room = tr.room in
    let d-len : length (blocks_bytes bs) ≡ o = omega (arith, ap length r.spelled, length-take o bytes, room, ge) in
    let places : ps ≡ map place_of bs = sym r.places_are in
    let i-len : length (index (map place_of bs)) ≡ len - 64 - o = omega (arith, ap length ix.0, ap (λ (x : List Place). length (index x)) places, length-take (len - 64 - o) (drop o bytes), length-drop o bytes, room, ge) in
    let k : length bs ≡ t.block_count = omega (arith, length-map place_of bs, ap (λ (x : List Place). length x) places, ix.1.0) in
    let are = are_blocks 0 o [] bs r.each (subst (AreGoodPlaces 0 o []) places ix.1.1) in
    let blocks : blocks_of es ≡ bs = ap blocks_of (sym r.entries) ∙ blocks_of-all bs are in
    let trailer-is : trailer o (len - 64 - o) t.entry_count t.block_count ≡ trailer (length (blocks_bytes bs)) (length (index (map place_of bs))) (length es) (length bs) =
    ap (λ (n : ℕ). trailer n (len - 64 - o) t.entry_count t.block_count) (sym d-len) ∙ ap (λ (n : ℕ). trailer (length (blocks_bytes bs)) n t.entry_count t.block_count) (sym i-len)
    ∙ ap (λ (n : ℕ). trailer (length (blocks_bytes bs)) (length (index (map place_of bs))) n t.block_count) (sym count)
    ∙ ap (λ (n : ℕ). trailer (length (blocks_bytes bs)) (length (index (map place_of bs))) (length es) n) (sym k) in
    let whole : bytes ≡ file (length es) bs =
    three_parts bytes o (len - 64) (omega (arith, room, ge))
    ∙ ap (λ (x : List ℕ). x ++ (take (len - 64 - o) (drop o bytes) ++ drop (len - 64) bytes)) r.spelled
    ∙ ap (λ (x : List ℕ). blocks_bytes bs ++ (x ++ drop (len - 64) bytes)) (ix.0 ∙ ap index places)
    ∙ ap (λ (x : List ℕ). blocks_bytes bs ++ (index (map place_of bs) ++ x)) (tr.spelled ∙ trailer-is)
    ∙ sym (append_assoc (blocks_bytes bs) (index (map place_of bs)) (trailer (length (blocks_bytes bs)) (length (index (map place_of bs))) (length es) (length bs))) in
    record { entries = record { rising = r.rising; each = r.keys }; len = le; spelled = whole ∙ same_file es bs blocks }

pub file_takes : (bytes : List ℕ) (es : List Entry) → IsBytes bytes → file_in bytes ≡ Ok es → IsFileOf bytes es
unfolding file_in
file_takes bytes es fits e =
    let len = length bytes in
    let g = unrefused' (ltb len 80 || ltb 268_435_456 len) 0 _ es e in
    let range = in_range len g.0 in
    let t = bind_ok (placed len (trailer_in len (drop (len - 64) bytes))) _ es g.1 in
    let tr = trailer_takes len (drop (len - 64) bytes) t.0 (IsBytes-drop (len - 64) bytes fits) (omega (arith, length-drop (len - 64) bytes, range.0)) (place_ok len (trailer_in len (drop (len - 64) bytes)) t.0 t.1) in
    let i = bind_ok (placed (len - 64) (index_in t.0.block_count t.0.offset (index_bytes bytes t.0))) _ es t.2 in
    let ix = index_takes t.0.block_count t.0.offset (index_bytes bytes t.0) i.0 (IsBytes-take (len - 64 - t.0.offset) (drop t.0.offset bytes) (IsBytes-drop t.0.offset bytes fits)) (place_ok (len - 64) (index_in t.0.block_count t.0.offset (index_bytes bytes t.0)) i.0 i.1) in
    let d = bind_ok (blocks_in [] 0 i.0 (take t.0.offset bytes)) (λ entries. cond (eqb (length entries) t.0.entry_count) (Ok entries) (Err (len - 32))) es i.2 in
    let c = passed (eqb (length d.0) t.0.entry_count) d.0 es (len - 32) d.2 in
    let room = tr.room in
    let left : length (take t.0.offset bytes) ≡ t.0.offset - 0 = omega (arith, length-take t.0.offset bytes, room, range.0) in
    let r = blocks_take [] 0 i.0 (take t.0.offset bytes) d.0 (IsBytes-take t.0.offset bytes fits) (rw left (covers 0 t.0.offset [] i.0 ix.1.1)) d.1 in
    subst (IsFileOf bytes) c.1 (joined bytes t.0 i.0 d.0 range.0 range.1 tr ix r (eqb-true _ _ c.0))

-- ---- what was written is read

count_body : (es : List Entry) → length es ≤ length (body es)
count_body [] = omega arith
count_body (e ∷ es) = omega (arith, count_body es, body-first e es, entry-length e)

pub few_entries : (bs : List (List Entry)) → length (all bs) ≤ length (blocks_bytes bs)
few_entries [] = omega arith
few_entries (b ∷ bs) = omega (arith, few_entries bs, count_body b, length-append b (all bs), block-length b, ap length (flat_map-cons block b bs), length-append (block b) (blocks_bytes bs))

pub index_some : (ps : List Place) → 16 ≤ length (index ps)
index_some ps = omega (arith, index-length ps)

pub file_again : (es : List Entry) → AreEntries es → length (encoding es) ≤ 268_435_456 → file_in (encoding es) ≡ Ok es
file_again es good le =
    let bs = blocks_of es in
    let d = blocks_of-divides es in
    let data' = blocks_bytes bs in
    let ps = map place_of bs in
    let places = index ps in
    let end = trailer (length data') (length places) (length es) (length bs) in
    let bytes = encoding es in
    let len = length bytes in
    let sum : len ≡ length data' + length places + 64 = encoding-length es in
    let is : bytes ≡ (data' ++ places) ++ end = sym (same_file es bs refl) in
    let is' : bytes ≡ data' ++ (places ++ end) = is ∙ append_assoc data' places end in
    let i-some : 16 ≤ length places = index_some ps in
    let count : length es ≤ length data' = omega (arith, few_entries bs, ap (λ (x : List Entry). length x) d.whole) in
    let blocks : length bs ≤ length data' = few_blocks bs in
    let both : len - 64 ≡ length (data' ++ places) = omega (arith, sum, length-append data' places) in
    let rest : len - 64 - length data' ≡ length places = omega (arith, sum) in
    let back : drop (len - 64) bytes ≡ end = ap (drop (len - 64)) is ∙ ap (λ (n : ℕ). drop n ((data' ++ places) ++ end)) both ∙ drop-append_seam (data' ++ places) end in
    let front : take (length data') bytes ≡ data' = ap (take (length data')) is' ∙ take-append_seam data' (places ++ end) in
    let middle : take (len - 64 - length data') (drop (length data') bytes) ≡ places =
    ap (λ (n : ℕ). take n (drop (length data') bytes)) rest ∙ ap (λ (x : List ℕ). take (length places) (drop (length data') x)) is' ∙ ap (take (length places)) (drop-append_seam data' (places ++ end)) ∙ take-append_seam places end in
    let t : Trailer = record { offset = length data'; entry_count = length es; block_count = length bs } in
    let trailer' : trailer_in len (drop (len - 64) bytes) ≡ Ok t =
    ap (trailer_in len) (back ∙ ap (λ (n : ℕ). trailer (length data') n (length es) (length bs)) (sym rest)) ∙ trailer_again len (length data') (length es) (length bs) (omega (arith, sum, i-some)) (omega (arith, le)) (omega (arith, count, sum, le)) (omega (arith, blocks, sum, le)) in
    let rise : RiseFrom [] (all bs) = subst (RiseFrom []) (sym d.whole) good.rising in
    let keys : AllByRecursion HasKey (all bs) = subst (AllByRecursion HasKey) (sym d.whole) good.each in
    let places-good = places_good 0 (length data') [] bs (omega arith) (omega (arith, sum, le)) d.are rise keys in
    let index' : index_in (length bs) (length data') (index_bytes bytes t) ≡ Ok ps =
    ap (index_in (length bs) (length data')) middle ∙ ap (λ (n : ℕ). index_in n (length data') places) (sym (length-map place_of bs)) ∙ index_again (length data') ps places-good in
    let blocks' : blocks_in [] 0 ps (take (length data') bytes) ≡ Ok (all bs) = ap (blocks_in [] 0 ps) front ∙ blocks_again [] 0 bs rise keys d.are (omega (arith, sum, le)) in
    let entries' : blocks_in [] 0 ps (take (length data') bytes) ≡ Ok es = blocks' ∙ ap (λ (x : List Entry). Ok x) d.whole in
    file_in-data bytes t ps (omega (arith, sum, i-some)) le trailer' index' ∙ counted_data bytes t ps es true entries' (eq-eqb (length es) (length es) refl)

abbrev done : List Entry → Result (List Entry) ℕ
done es = Ok es

pub one_list : (a b : List Entry) → AreEntries a → AreEntries b → length (encoding a) ≤ 268_435_456 → encoding a ≡ encoding b → a ≡ b
one_list a b good good' le same =
    let both : done a ≡ done b = sym (file_again a good le) ∙ ap file_in same ∙ file_again b good' (subst (λ (x : List ℕ). length x ≤ 268_435_456) same le) in
    ok_is a b both

-- ---- the answer

pub is_found : (bytes : List ℕ) (r : Result (Vec Entry) HFileError) → IsBytes bytes → Decodes (file_in bytes) r → IfOk r (λ v. AreEntries v.items × (length (encoding v.items) ≤ 268_435_456) × (bytes ≡ encoding v.items))
is_found bytes (Ok v) fits read = let f = file_takes bytes v.items fits read in (f.entries, subst (λ (x : List ℕ). length x ≤ 268_435_456) f.spelled f.len, f.spelled)
is_found bytes (Err e) fits read = tt

only_err : (e : HFileError) (es : List Entry) (read : Result (List Entry) ℕ) → read ≡ Ok es → HasCause e read → e ≡ errors.NoMemory
only_err errors.NoMemory es read is cause = refl
only_err (errors.BadHFile at) es read is cause = absurd cc

only_from : (es : List Entry) (r : Result (Vec Entry) HFileError) (read : Result (List Entry) ℕ) → read ≡ Ok es → Decodes read r → IsOnly es r
only_from es (Ok v) read is d = cc
only_from es (Err e) read is d = only_err e es read is d

pub is_only : (bytes : List ℕ) (es : List Entry) (r : Result (Vec Entry) HFileError) → AreEntries es → length (encoding es) ≤ 268_435_456 → bytes ≡ encoding es → Decodes (file_in bytes) r → IsOnly es r
is_only bytes es r good le is d =
    only_from es r (file_in bytes) (ap file_in is ∙ file_again es good le) d
