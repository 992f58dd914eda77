-- The groups of a number are read again as the number, and what is read as a number is its groups.
use Rattle.std.proofs.Common.{◌≡◌, ℕ, zero, suc, ◌+◌, ◌-◌, ◌*◌, ◌/◌, ◌%◌, ◌^◌, ◌<◌, ◌≤◌, Bool, true, false, cond, eqb, ltb, List, [], ◌∷◌, ◌++◌, length, get_or, drop, append_assoc, Result, Ok, Err, refl, sym, ap, subst, ◌∙◌, arith, inl, inr, ◌⊎◌}
use Rattle.std.proofs.lemmas.Bool.{cases_lt, ltb-false, le-ltb}
use Rattle.std.proofs.lemmas.Bool.Decides.{nat_tests}
use Rattle.std.proofs.Math.Nat.{pow-suc}
use Rattle.std.specs.List.{AllByRecursion}
use Rattle.mx_avro.specs.declared.error.AvroError.{AvroError}
use Rattle.mx_avro.specs.declared.error.AvroError.TheVariants.{Short, Wide}
use Rattle.mx_avro.specs.Encoding.{groups}
use Rattle.mx_avro.specs.Decoding.{joined, groups_at}

abbrev pub IsBytes : List ℕ → Type 0
IsBytes bytes = (i : ℕ) → get_or bytes i 0 < 256

pub IsBytes-rest : (b : ℕ) (bytes : List ℕ) → IsBytes (b ∷ bytes) → IsBytes bytes
IsBytes-rest b bytes h i = h (suc i)

pub chosen : {A : Type 0} (b : Bool) (x y z : A) → cond b x y ≡ z → ((b ≡ true) × (x ≡ z)) ⊎ ((b ≡ false) × (y ≡ z))
chosen true x y z e = inl (refl, e)
chosen false x y z e = inr (refl, e)

abbrev done : {A : Type 0} → A → Result A AvroError
done x = Ok x

pub ok_is : {A : Type 0} (x y : A) → done x ≡ done y → x ≡ y
ok_is x y e = cc

-- ---- written in turns

groups_small : (k n : ℕ) → n < 128 → groups k n ≡ n ∷ []
unfolding groups
groups_small zero n lt = refl
groups_small (suc k) n lt = let below : ltb n 128 ≡ true = grind (arith, nat_tests) in rw below refl

pub groups_some : (k n : ℕ) → 0 < length (groups k n)
unfolding groups
groups_some zero n = omega arith
groups_some (suc k) n = elim (cases_lt n 128) [
  | inl low ↦ rw (groups_small (suc k) n low) (omega arith)
  | inr high ↦ let above : ltb n 128 ≡ false = le-ltb _ _ high in rw above (omega arith)
]

groups_more : (k n : ℕ) → 128 ≤ n → groups (suc k) n ≡ (n % 128 + 128) ∷ groups k (n / 128)
unfolding groups
groups_more k n le = let above : ltb n 128 ≡ false = le-ltb _ _ le in rw above refl

pub writes_one : (out total : List ℕ) (i n : ℕ) → i < 9 → 128 ≤ n → out ++ groups (9 - i) n ≡ total → (out ++ (n % 128 + 128) ∷ []) ++ groups (9 - (i + 1)) (n / 128) ≡ total
writes_one out total i n lt le so_far =
    let k : 9 - i ≡ suc (9 - (i + 1)) = omega arith in
    append_assoc out ((n % 128 + 128) ∷ []) (groups (9 - (i + 1)) (n / 128))
    ∙ ap (λ (r : List ℕ). out ++ r) (sym (groups_more (9 - (i + 1)) n le))
    ∙ ap (λ (j : ℕ). out ++ groups j n) (sym k) ∙ so_far

pub less_left : (i n : ℕ) → i < 9 → n < 2 * 128 ^ (9 - i) → n / 128 < 2 * 128 ^ (9 - (i + 1))
less_left i n lt fits =
    let k : 9 - i ≡ suc (9 - (i + 1)) = omega arith in
    let power : 128 ^ (9 - i) ≡ 128 ^ (9 - (i + 1)) * 128 = rw k (pow-suc 128 (9 - (i + 1))) in
    omega arith

pub writes_last : (out total : List ℕ) (i n : ℕ) → n < 128 → out ++ groups (9 - i) n ≡ total → out ++ n ∷ [] ≡ total
writes_last out total i n lt so_far = ap (λ (r : List ℕ). out ++ r) (sym (groups_small (9 - i) n lt)) ∙ so_far

-- ---- written, then read

again_more : (at n : ℕ) (high : List ℕ) (r : Result (ℕ × ℕ) AvroError) → 128 ≤ n → r ≡ Ok (n / 128, length high)
    → joined at (n % 128 + 128) r ≡ Ok (n, suc (length high))
again_more at n high r le e =
    let nonzero : eqb (n / 128) 0 ≡ false = grind (arith, nat_tests) in
    let back : n % 128 + 128 - 128 + 128 * (n / 128) ≡ n = omega arith in
    let one : length high + 1 ≡ suc (length high) = omega arith in
    rw (e, nonzero, back, one) refl

pub groups_again : (at k n : ℕ) (rest : List ℕ) → n < 2 * 128 ^ k → groups_at at k (groups k n ++ rest) ≡ Ok (n, length (groups k n))
unfolding groups_at groups
groups_again at zero n rest lt =
    let below : ltb n 2 ≡ true = grind (arith, nat_tests) in
    rw below refl
groups_again at (suc k) n rest lt =
    elim (cases_lt n 128) [
      | inl low ↦
          let below : ltb n 128 ≡ true = grind (arith, nat_tests) in
          rw (below, below) refl
      | inr high ↦
          let above : ltb n 128 ≡ false = le-ltb _ _ high in
          let more : ltb (n % 128 + 128) 128 ≡ false = le-ltb _ _ (omega arith) in
          let less : n / 128 < 2 * 128 ^ k = omega (arith, pow-suc 128 k) in
          rw (above, more) (again_more at n (groups k (n / 128)) _ high (groups_again at k (n / 128) rest less))
    ]

-- ---- read, then written

pub record Takes (k : ℕ) (bytes : List ℕ) (n count : ℕ) : Type 0 where
  pub parts : bytes ≡ groups k n ++ drop count bytes
  pub len : count ≡ length (groups k n)
  pub fits : n < 2 * 128 ^ k

joined_ok : (at b : ℕ) (r : Result (ℕ × ℕ) AvroError) (x : ℕ × ℕ) → joined at b r ≡ Ok x → (n : ℕ × ℕ) × (r ≡ Ok n) × (0 < n.0) × (x.0 ≡ b - 128 + 128 * n.0) × (x.1 ≡ suc n.1)
joined_ok at b (Ok n) x e = elim (chosen (eqb n.0 0) (Err (Wide at)) (Ok (b - 128 + 128 * n.0, n.1 + 1)) (Ok x) e) [
  | inl p ↦ absurd (let q = p.1 in cc)
  | inr p ↦ let q = p.1 in let t = p.0 in
      let pos : 0 < n.0 = grind (arith, nat_tests) in
      (n, refl, pos, (let h : b - 128 + 128 * n.0 ≡ x.0 = ap (λ (r : ℕ × ℕ). r.0) (ok_is _ _ q) in sym h), (let h : n.1 + 1 ≡ x.1 = ap (λ (r : ℕ × ℕ). r.1) (ok_is _ _ q) in omega arith))
]
joined_ok at b (Err d) x e = absurd cc

takes_last : (k b : ℕ) (rest : List ℕ) → groups k b ≡ b ∷ [] → b < 2 * 128 ^ k → Takes k (b ∷ rest) b 1
takes_last k b rest e lt = record { parts = rw e refl; len = rw e refl; fits = lt }

takes_more : (k b n count : ℕ) (rest : List ℕ) → 128 ≤ b → b < 256 → 0 < n → Takes k rest n count → Takes (suc k) (b ∷ rest) (b - 128 + 128 * n) (suc count)
unfolding groups
takes_more k b n count rest le lt pos t =
    let above : ltb (b - 128 + 128 * n) 128 ≡ false = le-ltb _ _ (omega arith) in
    let low : (b - 128 + 128 * n) % 128 + 128 ≡ b = omega arith in
    let high : (b - 128 + 128 * n) / 128 ≡ n = omega arith in
    record {
      parts = rw (above, low, high) (ap (λ (r : List ℕ). b ∷ r) t.parts);
      len = rw (above, high) (ap suc t.len);
      fits = omega (arith, pow-suc 128 k, t.fits);
    }

pow_pos_128 : (k : ℕ) → 0 < 128 ^ k
pow_pos_128 zero = omega arith
pow_pos_128 (suc k) = omega (arith, pow-suc 128 k, pow_pos_128 k)

pub groups_takes : (at k : ℕ) (bytes : List ℕ) (x : ℕ × ℕ) → IsBytes bytes → groups_at at k bytes ≡ Ok x → Takes k bytes x.0 x.1
unfolding groups_at groups
groups_takes at k [] x bs e = absurd cc
groups_takes at zero (b ∷ rest) x bs e = elim (chosen (ltb b 2) (Ok (b, 1)) (Err (Wide at)) (Ok x) e) [
  | inl p ↦ let t = p.0 in
      subst (λ (y : ℕ × ℕ). Takes 0 (b ∷ rest) y.0 y.1) (ok_is _ _ p.1) (takes_last 0 b rest refl (grind (arith, nat_tests)))
  | inr p ↦ absurd (let q = p.1 in cc)
]
groups_takes at (suc k) (b ∷ rest) x bs e = elim (chosen (ltb b 128) (Ok (b, 1)) (joined at b (groups_at at k rest)) (Ok x) e) [
  | inl p ↦ let t = p.0 in
      let low : b < 128 = grind (arith, nat_tests) in
      subst (λ (y : ℕ × ℕ). Takes (suc k) (b ∷ rest) y.0 y.1) (ok_is _ _ p.1) (takes_last (suc k) b rest (rw t refl) (omega (arith, pow-suc 128 k, pow_pos_128 k)))
  | inr p ↦
      let j = joined_ok at b (groups_at at k rest) x p.1 in
      let t = takes_more k b j.0.0 j.0.1 rest (ltb-false _ _ p.0) (bs 0) j.2 (groups_takes at k rest j.0 (IsBytes-rest b rest bs) j.1) in
      subst (λ (y : ℕ). Takes (suc k) (b ∷ rest) y x.1) (sym j.3) (subst (λ (y : ℕ). Takes (suc k) (b ∷ rest) (b - 128 + 128 * j.0.0) y) (sym j.4) t)
]

-- ---- refused

joined_err : (at b : ℕ) (r : Result (ℕ × ℕ) AvroError) (e : AvroError) → joined at b r ≡ Err e → (r ≡ Err e) ⊎ (e ≡ Wide at)
joined_err at b (Ok n) e h = elim (chosen (eqb n.0 0) (Err (Wide at)) (Ok (b - 128 + 128 * n.0, n.1 + 1)) (Err e) h) [
  | inl p ↦ inr (let q = p.1 in cc)
  | inr p ↦ absurd (let q = p.1 in cc)
]
joined_err at b (Err d) e h = inl h

pub cut : (at k : ℕ) (bytes : List ℕ) → groups_at at k bytes ≡ Err (Short at) → (length bytes ≤ k) × AllByRecursion (λ b. 128 ≤ b) bytes
unfolding groups_at
cut at k [] e = (omega arith, tt)
cut at zero (b ∷ rest) e = elim (chosen (ltb b 2) (Ok (b, 1)) (Err (Wide at)) (Err (Short at)) e) [
  | inl p ↦ absurd (let q = p.1 in cc)
  | inr p ↦ absurd (let q = p.1 in cc)
]
cut at (suc k) (b ∷ rest) e = elim (chosen (ltb b 128) (Ok (b, 1)) (joined at b (groups_at at k rest)) (Err (Short at)) e) [
  | inl p ↦ absurd (let q = p.1 in cc)
  | inr p ↦ elim (joined_err at b (groups_at at k rest) (Short at) p.1) [
    | inl q ↦ let behind = cut at k rest q in (omega (arith, behind.0), (ltb-false _ _ p.0, behind.1))
    | inr q ↦ absurd cc
  ]
]

pub is_cut : (at k : ℕ) (bytes : List ℕ) → (length bytes ≤ k) × AllByRecursion (λ b. 128 ≤ b) bytes → groups_at at k bytes ≡ Err (Short at)
unfolding groups_at
is_cut at k [] h = refl
is_cut at zero (b ∷ rest) h = absurd (omega (arith, h.0))
is_cut at (suc k) (b ∷ rest) h =
    let above : ltb b 128 ≡ false = le-ltb _ _ h.1.0 in
    rw (above, is_cut at k rest (omega (arith, h.0), h.1.1)) refl

pub only_faults : (at k : ℕ) (bytes : List ℕ) (e : AvroError) → groups_at at k bytes ≡ Err e → (e ≡ Short at) ⊎ (e ≡ Wide at)
unfolding groups_at
only_faults at k [] e h = inl cc
only_faults at zero (b ∷ rest) e h = elim (chosen (ltb b 2) (Ok (b, 1)) (Err (Wide at)) (Err e) h) [
  | inl p ↦ absurd (let q = p.1 in cc)
  | inr p ↦ inr (let q = p.1 in cc)
]
only_faults at (suc k) (b ∷ rest) e h = elim (chosen (ltb b 128) (Ok (b, 1)) (joined at b (groups_at at k rest)) (Err e) h) [
  | inl p ↦ absurd (let q = p.1 in cc)
  | inr p ↦ elim (joined_err at b (groups_at at k rest) e p.1) [
    | inl q ↦ only_faults at k rest e q
    | inr q ↦ inr q
  ]
]
