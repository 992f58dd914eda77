-- One digit more.
use Rattle.std.proofs.Common.{◌≡◌, ℕ, zero, suc, ◌+◌, ◌*◌, ◌/◌, ◌%◌, ◌^◌, ◌<◌, ◌≤◌, List, [], ◌∷◌, ◌++◌, length, get_or, take, drop, refl, sym, ◌∙◌, ap, subst, arith, length-append, append_assoc, add-one, lit<, slice_set, ⊎_elim}
use Rattle.std.proofs.Math.Seq.{get_or-append_seam}
use Rattle.std.proofs.lemmas.List.{take_all, drop_all, drop-set, append-nil, get_or_append_left}
use Rattle.std.proofs.lemmas.Nat.{div-mul-add}
use Rattle.std.proofs.Math.Nat.{pow-suc, pow-le-pow_right, eq-or-lt_of_le}
use Rattle.mx_base.specs.Digits.{digits, instant_text, IsInstant}

pub length-digits : (k n : ℕ) → length (digits k n) ≡ k
length-digits zero n = refl
length-digits (suc k) n = omega (arith, length-append (digits k (n / 10)) ((48 + n % 10) ∷ []), length-digits k (n / 10))

-- what is printed from the end
pub print_more : (j rest : ℕ) (out : List ℕ) → digits (suc j) rest ++ out ≡ digits j (rest / 10) ++ (48 + rest % 10) ∷ out
print_more j rest out = append_assoc (digits j (rest / 10)) ((48 + rest % 10) ∷ []) out

-- one digit read
pub read_more : (k n d : ℕ) (xs : List ℕ) → d < 10 → digits k n ≡ xs → digits (k + 1) (n * 10 + d) ≡ xs ++ (48 + d) ∷ []
read_more k n d xs small is =
    let q : (n * 10 + d) / 10 ≡ n = div-mul-add n 10 d small in
    let r : (n * 10 + d) % 10 ≡ d = omega (arith, q) in
    ap (λ (i : ℕ). digits i (n * 10 + d)) (add-one k)
    ∙ ap (λ (m : ℕ). digits k m ++ (48 + (n * 10 + d) % 10) ∷ []) q
    ∙ ap (λ (l : List ℕ). l ++ (48 + (n * 10 + d) % 10) ∷ []) is
    ∙ ap (λ (m : ℕ). xs ++ (48 + m) ∷ []) r

pub below_more : (k n d : ℕ) → d < 10 → n < 10 ^ k → n * 10 + d < 10 ^ (k + 1)
below_more k n d small h = subst (λ (m : ℕ). n * 10 + d < m) (sym (ap (λ (i : ℕ). 10 ^ i) (add-one k) ∙ pow-suc 10 k)) (omega (arith, h, small))

pub below_17 : (k n : ℕ) → k ≤ 16 → n < 10 ^ k → n < 10 ^ 16
below_17 k n le h = omega (arith, h, pow-le-pow_right {n = 10} (lit< tt) le)

pub each_digit : (k n i d : ℕ) → i < k → (48 ≤ get_or (digits k n) i d) × (get_or (digits k n) i d ≤ 57)
each_digit zero n i d h = absurd (omega (arith, h))
each_digit (suc k) n i d h = ⊎_elim
    (λ (last : i ≡ k). last_digit last)
    (λ (front : i < k). subst (λ (b : ℕ). (48 ≤ b) × (b ≤ 57)) (sym (get_or_append_left (digits k (n / 10)) ((48 + n % 10) ∷ []) d i (omega (arith, front, length-digits k (n / 10))))) (each_digit k (n / 10) i d front))
    (eq-or-lt_of_le (omega (arith, h)))
  where
    here : get_or (digits k (n / 10) ++ (48 + n % 10) ∷ []) k d ≡ 48 + n % 10
    here = subst (λ (j : ℕ). get_or (digits k (n / 10) ++ (48 + n % 10) ∷ []) j d ≡ 48 + n % 10) (length-digits k (n / 10)) (get_or-append_seam (digits k (n / 10)) (48 + n % 10) [] d)

    last_digit : i ≡ k → (48 ≤ get_or (digits k (n / 10) ++ (48 + n % 10) ∷ []) i d) × (get_or (digits k (n / 10) ++ (48 + n % 10) ∷ []) i d ≤ 57)
    last_digit last = subst (λ (j : ℕ). (48 ≤ get_or (digits k (n / 10) ++ (48 + n % 10) ∷ []) j d) × (get_or (digits k (n / 10) ++ (48 + n % 10) ∷ []) j d ≤ 57)) (sym last)
        (omega (arith, here), omega (arith, here))

pub length-instant : (n : ℕ) → length (instant_text n) ≡ 17
unfolding instant_text
length-instant n = length-digits 17 n

-- each byte of an instant's text is a digit
pub each_byte : (text : List ℕ) (i d : ℕ) → IsInstant text → i < 17 → (48 ≤ get_or text i d) × (get_or text i d ≤ 57)
unfolding instant_text
each_byte text i d is h = subst (λ (t : List ℕ). (48 ≤ get_or t i d) × (get_or t i d ≤ 57)) (sym is.2) (each_digit 17 is.0 i d h)

pub whole : (k n : ℕ) (bytes : List ℕ) → length bytes ≡ 17 → k ≡ 17 → digits k n ≡ take k bytes → bytes ≡ instant_text n
unfolding instant_text
whole k n bytes len is read = sym (subst (λ (j : ℕ). digits j n ≡ take j bytes) is read ∙ take_all 17 bytes (omega (arith, len)))

pub print_step : (j p rest : ℕ) (out : List ℕ) → p ≡ suc j → j < length out → digits j (rest / 10) ++ drop j (slice_set out j (48 + rest % 10)) ≡ digits p rest ++ drop p out
print_step j p rest out is within =
    ap (λ (l : List ℕ). digits j (rest / 10) ++ l) (set_front j (48 + rest % 10) out within)
    ∙ sym (print_more j rest (drop (suc j) out)) ∙ ap (λ (i : ℕ). digits i rest ++ drop i out) (sym is)
  where
    set_front : (j v : ℕ) (out : List ℕ) → j < length out → drop j (slice_set out j v) ≡ v ∷ drop (suc j) out
    set_front j v out within = drop-set out j v within ∙ ap (λ (i : ℕ). v ∷ drop i out) (add-one j)

pub printed_all : (p rest n : ℕ) (out : List ℕ) → p ≡ 0 → digits p rest ++ drop p out ≡ instant_text n → out ≡ instant_text n
printed_all p rest n out is h = subst (λ (i : ℕ). digits i rest ++ drop i out ≡ instant_text n) is h

pub starts : (n : ℕ) (out : List ℕ) → length out ≡ 17 → digits 17 n ++ drop 17 out ≡ instant_text n
unfolding instant_text
starts n out len = ap (λ (l : List ℕ). digits 17 n ++ l) (drop_all 17 out (omega (arith, len))) ∙ append-nil (digits 17 n)

-- what seventeen bytes that were read are
pub instant_text-read : (n : ℕ) (bytes : List ℕ) → length bytes ≡ 17 → bytes ≡ digits (length bytes) n → bytes ≡ instant_text n
unfolding instant_text
instant_text-read n bytes len is = is ∙ ap (λ (k : ℕ). digits k n) len

pub IsInstant-read : (n : ℕ) (bytes : List ℕ) → length bytes ≡ 17 → n < 10 ^ length bytes → bytes ≡ digits (length bytes) n → IsInstant bytes
IsInstant-read n bytes len small is = (n, subst (λ (k : ℕ). n < 10 ^ k) len small, instant_text-read n bytes len is)

pub IsInstant-unread : (bytes : List ℕ) → length bytes ≡ 17 → ((n : ℕ) → bytes ≡ digits (length bytes) n → ⊥) → IsInstant bytes → ⊥
unfolding instant_text
IsInstant-unread bytes len never is = never is.0 (is.2 ∙ ap (λ (k : ℕ). digits k is.0) (sym len))
