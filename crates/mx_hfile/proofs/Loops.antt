-- Reading one thing behind the other, as a loop does.
use denote.Bor.{Bor}
use Rattle.std.proofs.Common.{get_or, ◌≡◌, ℕ, zero, suc, ◌-◌, ◌+◌, ◌≤◌, ◌<◌, false, cond, eqb, ltb, List, [], ◌∷◌, ◌++◌, length, take, drop, Some, None, Result, Ok, Err, refl, sym, ap, ◌∙◌, append_assoc, append-nil, arith}
use Rattle.std.proofs.lemmas.Bool.{eq-eqb, lt-ltb, le-ltb}
use Rattle.std.proofs.lemmas.Bool.Decides.{nat_tests}
use Rattle.mx_base.specs.declared.entry.Entry.{Entry}
use Rattle.mx_lists.specs.declared.fault.Fault.{Fault}
use Rattle.mx_lists.specs.declared.fault.Fault.TheVariants as faults
use Rattle.mx_hfile.specs.Encoding.{Place}
use Rattle.mx_lists.specs.Reading.{◌>>=◌, Fails}
use Rattle.mx_hfile.specs.Decoding.{listing_in, listings_in, HasCause, entry_in, entries_in, is_key, last_key, body_in, block_in, blocks_in}
use Rattle.mx_hfile.specs.Seen.{behind, Adds, placed_error}
use Rattle.mx_hfile.proofs.FieldLemmas.{entry_shorter}

-- ---- the index

-- what was read before, and what is still read
abbrev pub with_front : List Place → Result (List Place × List ℕ) ℕ → Result (List Place × List ℕ) ℕ
with_front front read = read >>= λ x. Ok (front ++ x.0, x.1)

regroup : (front : List Place) (p : Place) (read : Result (List Place × List ℕ) ℕ) → with_front front (read >>= λ x. Ok (p ∷ x.0, x.1)) ≡ with_front (front ++ p ∷ []) read
regroup front p (Ok x) = ap (λ (ps : List Place). Ok (ps, x.1)) (simp append_assoc)
regroup front p (Err left) = refl

pub more_listings : (front : List Place) (more less at end : ℕ) (last bytes : List ℕ) (p : Place) (after : List ℕ) (total : Result (List Place × List ℕ) ℕ) → more ≡ suc less → listing_in less at end last bytes ≡ Ok (p, after)
    → with_front front (listings_in more at end last bytes) ≡ total → with_front (front ++ p ∷ []) (listings_in less (at + p.len) end p.key after) ≡ total
unfolding listings_in
more_listings front more less at end last bytes p after total k h so_far =
    let one : with_front front (listings_in more at end last bytes) ≡ with_front (front ++ p ∷ []) (listings_in less (at + p.len) end p.key after) = rw (k, h) (regroup front p (listings_in less (at + p.len) end p.key after)) in
    sym one ∙ so_far

pub bad_listing : (e : Fault) (front : List Place) (more less at end : ℕ) (last bytes : List ℕ) (total : Result (List Place × List ℕ) ℕ) → more ≡ suc less → Fails e (listing_in less at end last bytes)
    → with_front front (listings_in more at end last bytes) ≡ total → Fails e total
unfolding listings_in
bad_listing faults.NoMemory front more less at end last bytes total k h so_far = tt
bad_listing (faults.Bad left) front more less at end last bytes total k h so_far =
    let one : with_front front (listings_in more at end last bytes) ≡ Err left = rw (k, h) refl in
    sym so_far ∙ one

pub all_listings : (front : List Place) (more at end : ℕ) (last bytes : List ℕ) (total : Result (List Place × List ℕ) ℕ) → more ≡ 0 → at ≡ end → with_front front (listings_in more at end last bytes) ≡ total → total ≡ Ok (front, bytes)
unfolding listings_in
all_listings front more at end last bytes total k is so_far =
    let one : with_front front (listings_in more at end last bytes) ≡ Ok (front, bytes) = rw (k, eq-eqb at end is) (ap (λ (ps : List Place). Ok (ps, bytes)) (append-nil front)) in
    sym so_far ∙ one

pub short_listings : (front : List Place) (more at end : ℕ) (last bytes : List ℕ) (total : Result (List Place × List ℕ) ℕ) → more ≡ 0 → eqb at end ≡ false → with_front front (listings_in more at end last bytes) ≡ total → total ≡ Err (length bytes)
unfolding listings_in
short_listings front more at end last bytes total k is so_far =
    let one : with_front front (listings_in more at end last bytes) ≡ Err (length bytes) = rw (k, is) refl in
    sym so_far ∙ one

-- ---- the entries of a block

abbrev put_first : Entry → Result (List Entry) ℕ → Result (List Entry) ℕ
put_first e read = read >>= λ others. Ok (e ∷ others)

one_entry : (m n len : ℕ) (last bytes : List ℕ) (r : Result (Entry × List ℕ) ℕ) → ((key after : List ℕ) → length after ≤ m → length after ≤ n → entries_in m len key after ≡ entries_in n len key after)
    → entry_in (is_key last None) bytes ≡ r → length bytes ≤ suc m → length bytes ≤ suc n
    → (r >>= λ first. put_first first.0 (entries_in m len first.0.key first.1)) ≡ (r >>= λ first. put_first first.0 (entries_in n len first.0.key first.1))
one_entry m n len last bytes (Ok x) same e le le' =
    let short = entry_shorter (is_key last None) bytes x e in
    ap (put_first x.0) (same x.0.key x.1 (omega arith) (omega arith))
one_entry m n len last bytes (Err left) same e le le' = refl

same_fuel : (most least len : ℕ) (last bytes : List ℕ) → length bytes ≤ most → length bytes ≤ least → entries_in most len last bytes ≡ entries_in least len last bytes
unfolding entries_in
same_fuel zero zero len last bytes le le' = refl
same_fuel zero (suc n) len last bytes le le' = rw (eq-eqb (length bytes) 0 (omega arith)) refl
same_fuel (suc m) zero len last bytes le le' = rw (eq-eqb (length bytes) 0 (omega arith)) refl
same_fuel (suc m) (suc n) len last bytes le le' =
    ap (λ (r : Result (List Entry) ℕ). cond (eqb (length bytes) 0) (Ok []) (cond (ltb (len - length bytes) 16_384) r (Err (length bytes))))
    (one_entry m n len last bytes (entry_in (is_key last None) bytes) (λ key after. same_fuel m n len key after) refl le le')

pub behind_first : (front : List Entry) (e : Entry) (read : Result (List Entry) ℕ) → behind front (read >>= λ others. Ok (e ∷ others)) ≡ behind (front ++ e ∷ []) read
behind_first front e (Ok es) = ap (λ (xs : List Entry). Ok xs) (simp append_assoc)
behind_first front e (Err left) = refl

pub behind_bad : (front : List Entry) (read : Result (List Entry) ℕ) (left : ℕ) → behind front read ≡ Err left → read ≡ Err left
behind_bad front (Ok es) left e = absurd cc
behind_bad front (Err k) left e = cc

pub behind_fails : (e : Fault) (front : List Entry) (read : Result (List Entry) ℕ) → Fails e (behind front read) → Fails e read
behind_fails faults.NoMemory front read f = tt
behind_fails (faults.Bad left) front read f = behind_bad front read left f

pub more_entries : (front : List Entry) (len : ℕ) (last bytes : List ℕ) (e : Entry) (after : List ℕ) (total : Result (List Entry) ℕ) → 0 < length bytes → len - length bytes < 16_384
    → entry_in (is_key last None) bytes ≡ Ok (e, after) → behind front (entries_in (length bytes) len last bytes) ≡ total → behind (front ++ e ∷ []) (entries_in (length after) len e.key after) ≡ total
unfolding entries_in
more_entries front len last bytes e after total some room h so_far =
    let m : ℕ = length bytes - 1 in
    let k : length bytes ≡ suc m = omega arith in
    let nonzero : eqb (length bytes) 0 ≡ false = grind (arith, nat_tests) in
    let short = entry_shorter (is_key last None) bytes (e, after) h in
    let fuel : entries_in m len e.key after ≡ entries_in (length after) len e.key after = same_fuel m (length after) len e.key after (omega arith) (omega arith) in
    let open' : entries_in (length bytes) len last bytes ≡ entries_in (suc m) len last bytes = ap (λ (n : ℕ). entries_in n len last bytes) k in
    let one : entries_in (suc m) len last bytes ≡ put_first e (entries_in m len e.key after) = rw (nonzero, lt-ltb _ _ room, h) refl in
    sym (ap (behind front) (open' ∙ one ∙ ap (put_first e) fuel) ∙ behind_first front e (entries_in (length after) len e.key after)) ∙ so_far

pub bad_entry : (x : Fault) (front : List Entry) (len : ℕ) (last bytes : List ℕ) (total : Result (List Entry) ℕ) → 0 < length bytes → len - length bytes < 16_384
    → Fails x (entry_in (is_key last None) bytes) → behind front (entries_in (length bytes) len last bytes) ≡ total → Fails x total
unfolding entries_in
bad_entry faults.NoMemory front len last bytes total some room h so_far = tt
bad_entry (faults.Bad left) front len last bytes total some room h so_far =
    let m : ℕ = length bytes - 1 in
    let k : length bytes ≡ suc m = omega arith in
    let nonzero : eqb (length bytes) 0 ≡ false = grind (arith, nat_tests) in
    let open' : entries_in (length bytes) len last bytes ≡ entries_in (suc m) len last bytes = ap (λ (n : ℕ). entries_in n len last bytes) k in
    let one : entries_in (suc m) len last bytes ≡ Err left = rw (nonzero, lt-ltb _ _ room, h) refl in
    sym so_far ∙ ap (behind front) (open' ∙ one)

pub late_entry : (front : List Entry) (len : ℕ) (last bytes : List ℕ) (total : Result (List Entry) ℕ) → 0 < length bytes → 16_384 ≤ len - length bytes
    → behind front (entries_in (length bytes) len last bytes) ≡ total → total ≡ Err (length bytes)
unfolding entries_in
late_entry front len last bytes total some full so_far =
    let m : ℕ = length bytes - 1 in
    let k : length bytes ≡ suc m = omega arith in
    let nonzero : eqb (length bytes) 0 ≡ false = grind (arith, nat_tests) in
    let open' : entries_in (length bytes) len last bytes ≡ entries_in (suc m) len last bytes = ap (λ (n : ℕ). entries_in n len last bytes) k in
    let one : entries_in (suc m) len last bytes ≡ Err (length bytes) = rw (nonzero, le-ltb _ _ full) refl in
    sym so_far ∙ ap (behind front) (open' ∙ one)

pub no_entry : (front : List Entry) (len : ℕ) (last bytes : List ℕ) (total : Result (List Entry) ℕ) → length bytes ≡ 0
    → behind front (entries_in (length bytes) len last bytes) ≡ total → total ≡ Ok front
unfolding entries_in
no_entry front len last bytes total none so_far =
    let one : entries_in (length bytes) len last bytes ≡ Ok [] = ap (λ (n : ℕ). entries_in n len last bytes) none in
    sym so_far ∙ ap (behind front) one ∙ ap (λ (xs : List Entry). Ok xs) (append-nil front)

pub last_key-append : (before : List ℕ) (front es : List Entry) → last_key before (front ++ es) ≡ last_key (last_key before front) es
last_key-append before [] es = refl
last_key-append before (f ∷ front) es = last_key-append f.key front es

-- ---- a block

pub block_adds : (result : Result (Bor (List ℕ)) Fault) (old new : List Entry) (last : List ℕ) (place : Place) (bytes text : List ℕ) (e : Entry) (rest : List ℕ) → body_in bytes ≡ Ok text → entry_in (is_key last (Some place.key)) text ≡ Ok (e, rest)
    → Adds (old ++ e ∷ []) new (entries_in (length rest) (length text) e.key rest) result → Adds old new (block_in last place bytes) result
unfolding block_in
block_adds (Ok key) old new last place bytes text e rest b h adds =
    let one : block_in last place bytes ≡ put_first e (entries_in (length rest) (length text) e.key rest) = rw (b, h) refl in
    (ap (behind old) one ∙ behind_first old e (entries_in (length rest) (length text) e.key rest) ∙ adds.0, adds.1)
block_adds (Err faults.NoMemory) old new last place bytes text e rest b h adds = tt
block_adds (Err (faults.Bad left)) old new last place bytes text e rest b h adds =
    let one : block_in last place bytes ≡ put_first e (entries_in (length rest) (length text) e.key rest) = rw (b, h) refl in
    one ∙ ap (put_first e) adds

pub block_bad : (x : Fault) (last : List ℕ) (place : Place) (bytes : List ℕ) → Fails x (body_in bytes) → Fails x (block_in last place bytes)
unfolding block_in
block_bad faults.NoMemory last place bytes f = tt
block_bad (faults.Bad left) last place bytes f = rw f refl

pub first_bad : (x : Fault) (last : List ℕ) (place : Place) (bytes text : List ℕ) → body_in bytes ≡ Ok text → Fails x (entry_in (is_key last (Some place.key)) text) → Fails x (block_in last place bytes)
unfolding block_in
first_bad faults.NoMemory last place bytes text b f = tt
first_bad (faults.Bad left) last place bytes text b f = rw (b, f) refl

-- ---- the blocks

behind_ok : (front : List Entry) (read : Result (List Entry) ℕ) (new : List Entry) → behind front read ≡ Ok new → (es : List Entry) × (read ≡ Ok es) × (new ≡ front ++ es)
behind_ok front (Ok es) new e = (es, refl, cc)
behind_ok front (Err left) new e = absurd cc

behind_more : (front es : List Entry) (read : Result (List Entry) ℕ) → behind front (read >>= λ others. Ok (es ++ others)) ≡ behind (front ++ es) read
behind_more front es (Ok xs) = ap (λ (ys : List Entry). Ok ys) (simp append_assoc)
behind_more front es (Err left) = refl

pub more_blocks : (front : List Entry) (last : List ℕ) (at : ℕ) (p : Place) (places : List Place) (bytes block after : List ℕ) (new : List Entry) (key : List ℕ) (total : Result (List Entry) ℕ)
    → last ≡ last_key [] front → block ≡ take p.len bytes → after ≡ drop p.len bytes → behind front (block_in last p block) ≡ Ok new → key ≡ last_key [] new
    → behind front (blocks_in last at (p ∷ places) bytes) ≡ total → behind new (blocks_in key (at + p.len) places after) ≡ total
unfolding blocks_in
more_blocks front last at p places bytes block after new key total l b a h k so_far =
    let o = behind_ok front (block_in last p block) new h in
    let es = o.0 in
    let read : block_in last p (take p.len bytes) ≡ Ok es = ap (block_in last p) (sym b) ∙ o.1 in
    let key-is : key ≡ last_key last es = k ∙ ap (last_key []) o.2 ∙ last_key-append [] front es ∙ ap (λ (x : List ℕ). last_key x es) (sym l) in
    let one : blocks_in last at (p ∷ places) bytes ≡ (blocks_in (last_key last es) (at + p.len) places (drop p.len bytes) >>= λ others. Ok (es ++ others)) = rw read refl in
    ap (λ (x : List Entry). behind x (blocks_in key (at + p.len) places after)) o.2
    ∙ ap (λ (x : List ℕ). behind (front ++ es) (blocks_in x (at + p.len) places after)) key-is
    ∙ ap (λ (x : List ℕ). behind (front ++ es) (blocks_in (last_key last es) (at + p.len) places x)) a
    ∙ sym (ap (behind front) one ∙ behind_more front es (blocks_in (last_key last es) (at + p.len) places (drop p.len bytes)))
    ∙ so_far

pub bad_block : (x : Fault) (front : List Entry) (last : List ℕ) (at : ℕ) (p : Place) (places : List Place) (bytes block : List ℕ) (total : Result (List Entry) ℕ)
    → block ≡ take p.len bytes → Fails x (block_in last p block)
    → behind front (blocks_in last at (p ∷ places) bytes) ≡ total → HasCause (placed_error (at + p.len) x) total
unfolding blocks_in
bad_block faults.NoMemory front last at p places bytes block total b f so_far = tt
bad_block (faults.Bad left) front last at p places bytes block total b f so_far =
    let read : block_in last p (take p.len bytes) ≡ Err left = ap (block_in last p) (sym b) ∙ f in
    let one : blocks_in last at (p ∷ places) bytes ≡ Err (at + p.len - left) = rw read refl in
    sym so_far ∙ ap (behind front) one

pub no_block : (front : List Entry) (last : List ℕ) (at : ℕ) (bytes : List ℕ) (total : Result (List Entry) ℕ) → behind front (blocks_in last at [] bytes) ≡ total → total ≡ Ok front
unfolding blocks_in
no_block front last at bytes total so_far = sym so_far ∙ ap (λ (xs : List Entry). Ok xs) (append-nil front)

-- the next one and those behind it
pub drop_next : {A : Type 0} (xs : List A) (i : ℕ) (d : A) → i < length xs → drop i xs ≡ get_or xs i d ∷ drop (i + 1) xs
drop_next [] i d lt = absurd (omega arith)
drop_next (x ∷ xs) zero d lt = refl
drop_next (x ∷ xs) (suc i) d lt =
    let f : suc i + 1 ≡ suc (i + 1) = omega arith in
    drop_next xs i d (omega arith) ∙ ap (λ (k : ℕ). get_or xs i d ∷ drop k (x ∷ xs)) (sym f)

pub drop_end : {A : Type 0} (xs : List A) (i : ℕ) → length xs ≤ i → drop i xs ≡ []
drop_end [] zero le = refl
drop_end [] (suc i) le = refl
drop_end (x ∷ xs) zero le = absurd (omega arith)
drop_end (x ∷ xs) (suc i) le = drop_end xs i (omega arith)
