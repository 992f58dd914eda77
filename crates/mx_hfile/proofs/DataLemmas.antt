-- Data blocks are read as they were written, and were written as they are read.
use Rattle.std.proofs.Common.{◌≡◌, ℕ, zero, suc, ◌+◌, ◌-◌, ◌^◌, ◌<◌, ◌≤◌, Bool, true, false, cond, eqb, ltb, ◌&&◌, List, [], ◌∷◌, ◌++◌, length, take, drop, map, Some, None, Result, Ok, Err, append_assoc, length-append, refl, sym, ap, subst, ◌∙◌, arith}
use Rattle.std.specs.List.{AllByRecursion}
use Rattle.std.specs.Int.{w32}
use Rattle.std.proofs.lemmas.Bool.{lt-ltb, ltb-true, eqb-true}
use Rattle.std.proofs.lemmas.Bool.Decides.{nat_tests}
use Rattle.std.proofs.lemmas.Slice.Eq.{bytes_eq-Decides}
use Rattle.std.proofs.lemmas.List.{nil_from_length, length-take, take-append-drop}
use Rattle.std.proofs.lemmas.List.Concat.{flat_map-cons}
use Rattle.std.proofs.Math.Seq.{drop-append_seam, take-append_seam}
use Rattle.mx_base.specs.declared.entry.Entry.{Entry}
use Rattle.mx_hfile.specs.Encoding.{number, data_magic, rises, RiseFrom, HasKey, entry_bytes, body, block, blocks_bytes, Place, first_key, place_of}
use Rattle.mx_lists.specs.Reading.{◌>>=◌}
use Rattle.mx_hfile.specs.Decoding.{expected_in, is_same, is_key, entry_in, entries_in, body_in, block_in, placed, last_key, blocks_in}
use Rattle.mx_hfile.specs.Division.{BeginInTime, IsBlock, AreBlocks}
use Rattle.mx_hfile.specs.Seen.{Covers}
use Rattle.mx_lists.proofs.Codecs.{IsBytes, IsBytes-take, IsBytes-drop, Took, Took-then, bind_ok, ok_is}
use Rattle.mx_hfile.proofs.FieldLemmas.{expected_takes, expected_again, wide32, IsGoodEntry, entry_codec}
use Rattle.mx_hfile.proofs.DividingLemmas.{entry-length, block-length, keys_split}
use Rattle.mx_hfile.proofs.DivisionLemmas.{all, body-first}
use Rattle.mx_hfile.proofs.OrderLemmas.{rises-some, rise-split, rise-join}

-- a value has a length of four bytes
abbrev pub HasValue : Entry → Type 0
HasValue e = length e.value < 2 ^ 32

pub values_fit : (es : List Entry) → length (body es) < 2 ^ 32 → AllByRecursion HasValue es
values_fit [] lt = tt
values_fit (e ∷ es) lt = (omega (arith, lt, body-first e es, entry-length e), values_fit es (omega (arith, lt, body-first e es)))

pub both_true : (a b : Bool) → a ≡ true → b ≡ true → (a && b) ≡ true
both_true true true p q = refl
both_true false b p q = absurd cc
both_true true false p q = absurd cc

pub true_both : (a b : Bool) → (a && b) ≡ true → (a ≡ true) × (b ≡ true)
true_both true true e = (refl, refl)
true_both true false e = absurd cc
true_both false b e = absurd cc

-- ---- the entries of a block

good_next : (last : List ℕ) (e : Entry) → rises last e.key ≡ true → HasKey e → HasValue e → IsGoodEntry (is_key last None) e
good_next last e r k v = record { key = (rises-some last e.key r, k, r); value = v }

pub entries_again : (most len : ℕ) (last : List ℕ) (es : List Entry) → RiseFrom last es → AllByRecursion HasKey es → AllByRecursion HasValue es → length (body es) ≤ len → BeginInTime (len - length (body es)) es
    → length (body es) ≤ most → entries_in most len last (body es) ≡ Ok es
unfolding entries_in
entries_again zero len last [] rise keys values fits begin le = refl
entries_again (suc most) len last [] rise keys values fits begin le = refl
entries_again zero len last (e ∷ es) rise keys values fits begin le = absurd (omega (arith, le, body-first e es, entry-length e))
entries_again (suc most) len last (e ∷ es) rise keys values fits begin le =
    let bytes = body-first e es in
    let some = entry-length e in
    let nonzero : eqb (length (body (e ∷ es))) 0 ≡ false = grind (arith, nat_tests, bytes, some) in
    let room : ltb (len - length (body (e ∷ es))) 16_384 ≡ true = lt-ltb _ _ begin.0 in
    let first : entry_in (is_key last None) (body (e ∷ es)) ≡ Ok (e, body es) = ap (entry_in (is_key last None)) (flat_map-cons entry_bytes e es) ∙ (entry_codec (is_key last None)).again e (body es) (good_next last e rise.0 keys.0 values.0) in
    let at : len - length (body (e ∷ es)) + length (entry_bytes e) ≡ len - length (body es) = omega (arith, bytes, fits) in
    let others = entries_again most len e.key es rise.1 keys.1 values.1 (omega (arith, bytes, fits)) (subst (λ (n : ℕ). BeginInTime n es) at begin.1) (omega (arith, bytes, some, le)) in
    rw (nonzero, room, first, others) refl

pub record AreRead (len : ℕ) (last bytes : List ℕ) (es : List Entry) : Type 0 where
  pub spelled : bytes ≡ body es
  pub rising : RiseFrom last es
  pub keys : AllByRecursion HasKey es
  pub begin : BeginInTime (len - length bytes) es

chosen : {A : Type 0} (b : Bool) (x y z : Result A ℕ) → cond b x y ≡ z → (b ≡ true → x ≡ z) × (b ≡ false → y ≡ z)
chosen true x y z e = (λ h. e, λ h. absurd cc)
chosen false x y z e = (λ h. absurd cc, λ h. e)

first_read : (len : ℕ) (last bytes : List ℕ) (x : Entry × List ℕ) (others : List Entry) → length bytes ≤ len → len - length bytes < 16_384 → Took bytes (entry_bytes x.0) x.1 × IsGoodEntry (is_key last None) x.0 → AreRead len x.0.key x.1 others → AreRead len last bytes (x.0 ∷ others)
first_read len last bytes x others fits room first more =
    let parts = first.0.parts in
    let sum = length-append (entry_bytes x.0) x.1 in
    let at : len - length x.1 ≡ len - length bytes + length (entry_bytes x.0) = omega (arith, ap length parts, sum, fits) in
    record {
      spelled = parts ∙ ap (λ (r : List ℕ). entry_bytes x.0 ++ r) more.spelled ∙ sym (flat_map-cons entry_bytes x.0 others);
      rising = (first.1.key.2, more.rising);
      keys = (first.1.key.1, more.keys);
      begin = (room, subst (λ (n : ℕ). BeginInTime n others) at more.begin);
    }

none_read : (len : ℕ) (last bytes : List ℕ) (es : List Entry) → length bytes ≡ 0 → es ≡ [] → AreRead len last bytes es
none_read len last bytes es none is =
    subst (λ (xs : List Entry). AreRead len last bytes xs) (sym is) (record { spelled = nil_from_length bytes none; rising = tt; keys = tt; begin = tt })

step_take : (b c : Bool) (most len : ℕ) (last bytes : List ℕ) (es : List Entry) → IsBytes bytes → length bytes ≤ len → length bytes ≤ suc most → eqb (length bytes) 0 ≡ b → ltb (len - length bytes) 16_384 ≡ c
    → ((key after : List ℕ) (others : List Entry) → IsBytes after → length after ≤ len → length after ≤ most → entries_in most len key after ≡ Ok others → AreRead len key after others)
    → cond b (Ok []) (cond c (entry_in (is_key last None) bytes >>= λ first. entries_in most len first.0.key first.1 >>= λ others. Ok (first.0 ∷ others)) (Err (length bytes))) ≡ Ok es → AreRead len last bytes es
step_take true c most len last bytes es fits le le' none room more e = none_read len last bytes es (eqb-true _ _ none) (sym (ok_is [] es e))
step_take false false most len last bytes es fits le le' none room more e = absurd cc
step_take false true most len last bytes es fits le le' none room more e =
    let a = bind_ok (entry_in (is_key last None) bytes) (λ first. entries_in most len first.0.key first.1 >>= λ others. Ok (first.0 ∷ others)) es e in
    let b = bind_ok (entries_in most len a.0.0.key a.0.1) (λ others. Ok (a.0.0 ∷ others)) es a.2 in
    let first = (entry_codec (is_key last None)).takes bytes a.0 fits a.1 in
    let sum = length-append (entry_bytes a.0.0) a.0.1 in
    let some = entry-length a.0.0 in
    let others = more a.0.0.key a.0.1 b.0 first.0.rest_fits (omega (arith, ap length first.0.parts, sum, le)) (omega (arith, ap length first.0.parts, sum, some, le')) b.1 in
    subst (λ (xs : List Entry). AreRead len last bytes xs) (ok_is (a.0.0 ∷ b.0) es b.2) (first_read len last bytes a.0 b.0 le (ltb-true _ _ room) first others)

pub entries_take : (most len : ℕ) (last bytes : List ℕ) (es : List Entry) → IsBytes bytes → length bytes ≤ len → length bytes ≤ most → entries_in most len last bytes ≡ Ok es → AreRead len last bytes es
unfolding entries_in
entries_take zero len last bytes es fits le le' e = none_read len last bytes es (omega arith) (sym (ok_is [] es e))
entries_take (suc most) len last bytes es fits le le' e =
    step_take (eqb (length bytes) 0) (ltb (len - length bytes) 16_384) most len last bytes es fits le le' refl refl (λ key after others f l m h. entries_take most len key after others f l m h) e

-- ---- a block

pub magic-length : length data_magic ≡ 8
unfolding data_magic
magic-length = refl

block-parts : (b : List Entry) → block b ≡ data_magic ++ (number w32 (length (body b)) ++ body b)
block-parts b = simp append_assoc

pub body_again : (b : List Entry) → body_in (block b) ≡ Ok (body b)
unfolding body_in
body_again b =
    let len : length (block b) - 12 ≡ length (body b) = omega (arith, block-length b) in
    let first : expected_in data_magic (block b) ≡ Ok (number w32 (length (body b)) ++ body b) = ap (expected_in data_magic) (block-parts b) ∙ expected_again data_magic (number w32 (length (body b)) ++ body b) in
    rw (first, len) (expected_again (number w32 (length (body b))) (body b))

pub body_takes : (bytes text : List ℕ) → IsBytes bytes → body_in bytes ≡ Ok text → Took bytes (data_magic ++ number w32 (length text)) text
unfolding body_in
body_takes bytes text fits e =
    let a = bind_ok (expected_in data_magic bytes) (λ rest. expected_in (number w32 (length bytes - 12)) rest) text e in
    let t = expected_takes data_magic bytes a.0 fits a.1 in
    let u = expected_takes (number w32 (length bytes - 12)) a.0 text t.rest_fits a.2 in
    let len : length bytes - 12 ≡ length text = omega (arith, ap length t.parts, ap length u.parts, length-append data_magic a.0, length-append (number w32 (length bytes - 12)) text, magic-length, wide32.len (length bytes - 12)) in
    subst (λ (n : ℕ). Took bytes (data_magic ++ number w32 n) text) len (Took-then bytes data_magic a.0 (number w32 (length bytes - 12)) text t u)

pub block_again : (last : List ℕ) (b : List Entry) → RiseFrom last b → AllByRecursion HasKey b → AllByRecursion HasValue b → IsBlock b → block_in last (place_of b) (block b) ≡ Ok b
unfolding block_in
block_again last [] rise keys values is = let some = is.some in absurd (omega (arith, some))
block_again last (e ∷ es) rise keys values is =
    let test = is_key last (Some e.key) in
    let bytes = body-first e es in
    let passes : test e.key ≡ true = both_true (rises last e.key) (is_same e.key e.key) rise.0 ((bytes_eq-Decides e.key e.key).1 refl) in
    let good : IsGoodEntry test e = record { key = (rises-some last e.key rise.0, keys.0, passes); value = values.0 } in
    let first : entry_in test (body (e ∷ es)) ≡ Ok (e, body es) = ap (entry_in test) (flat_map-cons entry_bytes e es) ∙ (entry_codec test).again e (body es) good in
    let at : 0 + length (entry_bytes e) ≡ length (body (e ∷ es)) - length (body es) = omega (arith, bytes) in
    let others = entries_again (length (body es)) (length (body (e ∷ es))) e.key es rise.1 keys.1 values.1 (omega (arith, bytes)) (subst (λ (n : ℕ). BeginInTime n es) at is.begin.1) (omega arith) in
    rw (body_again (e ∷ es), first, others) refl

pub record IsRead (last bytes : List ℕ) (p : Place) (b : List Entry) : Type 0 where
  pub spelled : bytes ≡ block b
  pub rising : RiseFrom last b
  pub keys : AllByRecursion HasKey b
  pub is : IsBlock b
  pub first : first_key b ≡ p.key

pub block_takes : (last bytes : List ℕ) (p : Place) (b : List Entry) → IsBytes bytes → block_in last p bytes ≡ Ok b → IsRead last bytes p b
unfolding block_in
block_takes last bytes p b fits e =
    let test = is_key last (Some p.key) in
    let t = bind_ok (body_in bytes) (λ text. entry_in test text >>= λ first. entries_in (length first.1) (length text) first.0.key first.1 >>= λ others. Ok (first.0 ∷ others)) b e in
    let a = bind_ok (entry_in test t.0) (λ first. entries_in (length first.1) (length t.0) first.0.key first.1 >>= λ others. Ok (first.0 ∷ others)) b t.2 in
    let o = bind_ok (entries_in (length a.0.1) (length t.0) a.0.0.key a.0.1) (λ others. Ok (a.0.0 ∷ others)) b a.2 in
    let head = body_takes bytes t.0 fits t.1 in
    let first = (entry_codec test).takes t.0 a.0 head.rest_fits a.1 in
    let sum = length-append (entry_bytes a.0.0) a.0.1 in
    let others = entries_take (length a.0.1) (length t.0) a.0.0.key a.0.1 o.0 first.0.rest_fits (omega (arith, ap length first.0.parts, sum)) (omega arith) o.1 in
    let made : List Entry = a.0.0 ∷ o.0 in
    let text : t.0 ≡ body made = first.0.parts ∙ ap (λ (r : List ℕ). entry_bytes a.0.0 ++ r) others.spelled ∙ sym (flat_map-cons entry_bytes a.0.0 o.0) in
    let passes = true_both (rises last a.0.0.key) (is_same a.0.0.key p.key) first.1.key.2 in
    let at : length t.0 - length a.0.1 ≡ 0 + length (entry_bytes a.0.0) = omega (arith, ap length first.0.parts, sum) in
    let is : IsBlock made = record { some = omega arith; begin = (omega arith, subst (λ (n : ℕ). BeginInTime n o.0) at others.begin) } in
    let spelled : bytes ≡ block made = head.parts ∙ ap (λ (x : List ℕ). (data_magic ++ number w32 (length x)) ++ x) text in
    subst (λ (xs : List Entry). IsRead last bytes p xs) (ok_is made b o.2)
    (record { spelled = spelled; rising = (passes.0, others.rising); keys = (first.1.key.1, others.keys); is = is; first = (bytes_eq-Decides a.0.0.key p.key).0 passes.1 })

-- ---- the blocks

pub keys_join : (a b : List Entry) → AllByRecursion HasKey a → AllByRecursion HasKey b → AllByRecursion HasKey (a ++ b)
keys_join [] b h k = k
keys_join (e ∷ a) b h k = (h.0, keys_join a b h.1 k)

pub blocks_again : (last : List ℕ) (at : ℕ) (bs : List (List Entry)) → RiseFrom last (all bs) → AllByRecursion HasKey (all bs) → AreBlocks bs → length (blocks_bytes bs) < 2 ^ 32
    → blocks_in last at (map place_of bs) (blocks_bytes bs) ≡ Ok (all bs)
unfolding blocks_in
blocks_again last at [] rise keys are lt = refl
blocks_again last at (b ∷ bs) rise keys are lt =
    let parts : blocks_bytes (b ∷ bs) ≡ block b ++ blocks_bytes bs = flat_map-cons block b bs in
    let sum : length (blocks_bytes (b ∷ bs)) ≡ 12 + length (body b) + length (blocks_bytes bs) = omega (arith, ap length parts, length-append (block b) (blocks_bytes bs), block-length b) in
    let rises' = rise-split last b (all bs) rise in
    let keys' = keys_split b (all bs) keys in
    let front : take (length (block b)) (blocks_bytes (b ∷ bs)) ≡ block b = ap (take (length (block b))) parts ∙ take-append_seam (block b) (blocks_bytes bs) in
    let back : drop (length (block b)) (blocks_bytes (b ∷ bs)) ≡ blocks_bytes bs = ap (drop (length (block b))) parts ∙ drop-append_seam (block b) (blocks_bytes bs) in
    let first : block_in last (place_of b) (take (length (block b)) (blocks_bytes (b ∷ bs))) ≡ Ok b = ap (block_in last (place_of b)) front ∙ block_again last b rises'.0 keys'.0 (values_fit b (omega (arith, sum, lt))) are.0 in
    let others = blocks_again (last_key last b) (at + length (block b)) bs rises'.1 keys'.1 are.2 (omega (arith, sum, lt)) in
    rw (first, back, others) refl

-- each is a block
abbrev pub EachBlock : List (List Entry) → Type 0
EachBlock [] = Unit {0}
EachBlock (b ∷ bs) = IsBlock b × EachBlock bs

pub record AllRead (last bytes : List ℕ) (places : List Place) (es : List Entry) : Type 0 where
  pub blocks : List (List Entry)
  pub entries : all blocks ≡ es
  pub places_are : map place_of blocks ≡ places
  pub spelled : bytes ≡ blocks_bytes blocks
  pub rising : RiseFrom last es
  pub keys : AllByRecursion HasKey es
  pub each : EachBlock blocks

pub place_ok : {A : Type 0} (end : ℕ) (r : Result A ℕ) (x : A) → placed end r ≡ Ok x → r ≡ Ok x
place_ok end (Ok y) x e = e
place_ok end (Err left) x e = absurd cc

same_place : (p : Place) (len : ℕ) (key : List ℕ) → len ≡ p.len → key ≡ p.key → record { len = len; key = key } ≡ p
same_place p len key l k = ap (λ (n : ℕ). record { len = n; key = key }) l ∙ ap (λ (x : List ℕ). record { len = p.len; key = x }) k

pub blocks_take : (last : List ℕ) (at : ℕ) (ps : List Place) (bytes : List ℕ) (es : List Entry) → IsBytes bytes → Covers (length bytes) ps → blocks_in last at ps bytes ≡ Ok es → AllRead last bytes ps es
unfolding blocks_in
blocks_take last at [] bytes es fits covers e =
    subst (λ (xs : List Entry). AllRead last bytes [] xs) (ok_is [] es e) (record { blocks = []; entries = refl; places_are = refl; spelled = nil_from_length bytes covers; rising = tt; keys = tt; each = tt })
blocks_take last at (p ∷ ps) bytes es fits covers e =
    let a = bind_ok (placed (at + p.len) (block_in last p (take p.len bytes))) (λ first. blocks_in (last_key last first) (at + p.len) ps (drop p.len bytes) >>= λ others. Ok (first ++ others)) es e in
    let o = bind_ok (blocks_in (last_key last a.0) (at + p.len) ps (drop p.len bytes)) (λ others. Ok (a.0 ++ others)) es a.2 in
    let first = block_takes last (take p.len bytes) p a.0 (IsBytes-take p.len bytes fits) (place_ok (at + p.len) (block_in last p (take p.len bytes)) a.0 a.1) in
    let left : length (drop p.len bytes) ≡ length bytes - p.len = omega (arith, length-take p.len bytes, length-append (take p.len bytes) (drop p.len bytes), ap length (take-append-drop p.len bytes), covers.0) in
    let others = blocks_take (last_key last a.0) (at + p.len) ps (drop p.len bytes) o.0 (IsBytes-drop p.len bytes fits) (subst (λ (n : ℕ). Covers n ps) (sym left) covers.1) o.1 in
    let len : length (block a.0) ≡ p.len = omega (arith, ap length first.spelled, length-take p.len bytes, covers.0) in
    subst (λ (xs : List Entry). AllRead last bytes (p ∷ ps) xs) (ok_is (a.0 ++ o.0) es o.2)
    (record {
      blocks = a.0 ∷ others.blocks;
      entries = ap (λ (x : List Entry). a.0 ++ x) others.entries;
      places_are = ap (λ (x : Place). x ∷ map place_of others.blocks) (same_place p (length (block a.0)) (first_key a.0) len first.first) ∙ ap (λ (x : List Place). p ∷ x) others.places_are;
      spelled = sym (take-append-drop p.len bytes) ∙ ap (λ (x : List ℕ). x ++ drop p.len bytes) first.spelled ∙ ap (λ (x : List ℕ). block a.0 ++ x) others.spelled ∙ sym (flat_map-cons block a.0 others.blocks);
      rising = rise-join last a.0 o.0 first.rising others.rising;
      keys = keys_join a.0 o.0 first.keys others.keys;
      each = (first.is, others.each);
    })
