-- What an index holds says where its blocks are, and which first keys pass a test.
use Rattle.std.proofs.Common.{◌≡◌, ℕ, zero, suc, ◌+◌, ◌-◌, ◌<◌, ◌≤◌, Bool, true, false, List, [], ◌∷◌, ◌++◌, length, take, get_or, map, sym, ap, subst, ◌∙◌, arith, inl, inr}
use Rattle.std.specs.Prelude.{sum_by}
use Rattle.std.specs.List.Sorted.{IsPartitionedBy, IsPartitionPoint}
use Rattle.std.proofs.lemmas.Bool.{cases_lt}
use Rattle.std.proofs.lemmas.List.{get_or-map}
use Rattle.std.proofs.lemmas.List.Sums.{sum_by-cons}
use Rattle.mx_hfile.specs.declared.loading.Held.{Held}
use Rattle.mx_hfile.specs.Encoding.{rises, Place}
use Rattle.mx_hfile.specs.Ranges.{no_place, first_key_at, place_at, KeysRise}
use Rattle.mx_hfile.specs.Held.{held_place, Follow, IsCountOf}
use Rattle.mx_hfile.specs.Seen.{Covers}
use Rattle.mx_hfile.proofs.DividingLemmas.{length-map}
use Rattle.mx_hfile.proofs.KeyLemmas.{keys-rise}
use Rattle.mx_hfile.proofs.PlaceLemmas.{AreGoodPlaces}

-- the length of all blocks
abbrev pub total : List Place → ℕ
total ps = sum_by (λ (p : Place). p.len) ps

abbrev pub no_block : Held
no_block = record { at = 0; len = 0; key = [] }

pub follow-push : (at : ℕ) (held : List Held) (h : Held) → Follow at held → h.at ≡ at + total (map held_place held) → Follow at (held ++ h ∷ [])
follow-push at [] h f e = (omega (arith, e), tt)
follow-push at (x ∷ held) h f e = (f.0, follow-push (at + x.len) held h f.1 (omega (arith, e, sum_by-cons (λ (p : Place). p.len) (held_place x) (map held_place held))))

pub covers-total : (left : ℕ) (ps : List Place) → Covers left ps → total ps ≡ left
covers-total left [] c = sym c
covers-total left (p ∷ ps) c = omega (arith, sum_by-cons (λ (p : Place). p.len) p ps, covers-total (left - p.len) ps c.1, c.0)

follow-at : (at : ℕ) (held : List Held) (i : ℕ) (d : Held) → Follow at held → i < length held → (get_or held i d).at ≡ at + total (take i (map held_place held))
follow-at at [] i d f lt = absurd (omega arith)
follow-at at (h ∷ held) zero d f lt = omega (arith, f.0)
follow-at at (h ∷ held) (suc i) d f lt = omega (arith, follow-at (at + h.len) held i d f.1 (omega arith), sum_by-cons (λ (p : Place). p.len) (held_place h) (take i (map held_place held)))

pub held_at : (held : List Held) (i : ℕ) (h d : Held) → Follow 0 held → i < length held → h ≡ get_or held i d → (h.at, h.len) ≡ place_at (map held_place held) i
held_at held i h d f lt is =
    let at : h.at ≡ total (take i (map held_place held)) = omega (arith, ap (λ (x : Held). x.at) is, follow-at 0 held i d f lt) in
    let len : h.len ≡ (get_or (map held_place held) i no_place).len = ap (λ (x : Held). x.len) is ∙ sym (ap (λ (p : Place). p.len) (get_or-map held_place held i d no_place lt)) in
    ap (λ (n : ℕ). (n, h.len)) at ∙ ap (λ (n : ℕ). (total (take i (map held_place held)), n)) len

within-all : (ps : List Place) (i : ℕ) → i < length ps → total (take i ps) + (get_or ps i no_place).len ≤ total ps
within-all [] i lt = absurd (omega arith)
within-all (p ∷ ps) zero lt = omega (arith, sum_by-cons (λ (q : Place). q.len) p ps)
within-all (p ∷ ps) (suc i) lt =
    omega (arith, within-all ps i (omega arith), sum_by-cons (λ (q : Place). q.len) p ps, sum_by-cons (λ (q : Place). q.len) p (take i ps))

pub held_within : (held : List Held) (i : ℕ) (h d : Held) → Follow 0 held → i < length held → h ≡ get_or held i d → h.at + h.len ≤ total (map held_place held)
held_within held i h d f lt is =
    let at = held_at held i h d f lt is in
    let within = within-all (map held_place held) i (omega (arith, lt, length-map held_place held)) in
    omega (arith, within, ap (λ (x : ℕ × ℕ). x.0) at, ap (λ (x : ℕ × ℕ). x.1) at)

key_at : (held : List Held) (i : ℕ) (d : Held) → i < length held → first_key_at (map held_place held) i ≡ (get_or held i d).key
key_at held i d lt = ap (λ (p : Place). p.key) (get_or-map held_place held i d no_place lt)

pub parted : (test : List ℕ → Bool) (held : List Held) → KeysRise [] (map held_place held) → ((first next : List ℕ) → rises first next ≡ true → test next ≡ true → test first ≡ true) → IsPartitionedBy (λ (h : Held). test h.key) held
parted test held keys down = λ i j d le lt is.
    elim (cases_lt i j) [
      | inl less ↦
          let rise = keys-rise [] (map held_place held) i j keys less (omega (arith, lt, length-map held_place held)) in
          down (get_or held i d).key (get_or held j d).key (sym (ap (λ (k : List ℕ). rises k (get_or held j d).key) (key_at held i d (omega (arith, less, lt)))) ∙ sym (ap (λ (k : List ℕ). rises (first_key_at (map held_place held) i) k) (key_at held j d lt)) ∙ rise) is
      | inr ge ↦ let same : j ≡ i = omega (arith, le, ge) in subst (λ (k : ℕ). test (get_or held k d).key ≡ true) same is
    ]

pub counted : (test : List ℕ → Bool) (held : List Held) (count : ℕ) → count ≤ length held → IsPartitionPoint (λ (h : Held). test h.key ≡ true) (λ (h : Held). test h.key ≡ false) held count → IsCountOf test (map held_place held) count
counted test held count le point =
    let len = length-map held_place held in
    record {
      within = omega (arith, le, len);
      front = λ block lt. ap test (key_at held block no_block (omega (arith, lt, le))) ∙ point.0 block no_block (omega arith) lt;
      back = λ block ge lt. ap test (key_at held block no_block (omega (arith, lt, len))) ∙ point.1 block no_block ge (omega (arith, lt, len));
    }

pub good_keys : (at end : ℕ) (last : List ℕ) (ps : List Place) → AreGoodPlaces at end last ps → KeysRise last ps
good_keys at end last [] good = tt
good_keys at end last (p ∷ ps) good = (good.0.key.2, good.0.key.1, good_keys (at + p.len) end p.key ps good.1)
