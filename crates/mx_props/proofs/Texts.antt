-- Texts without a newline, and where they end.
use Rattle.std.proofs.Common.{◌≡◌, ◌≢◌, ℕ, zero, suc, ◌+◌, ◌-◌, ◌<◌, ◌≤◌, Bool, true, false, cond, List, [], ◌∷◌, ◌++◌, length, get_or, take, drop, refl, sym, ◌∙◌, ap, subst, arith, append_assoc, Some, None, length-take, length-drop, add-one, drop-cons}
use Rattle.std.specs.Prelude.{◌==◌, ◌&&◌, not, nat_lt, position}
use Rattle.std.specs.List.{list_all, position_or_len}
use Rattle.std.specs.Str.{IsUtf8}
use Rattle.std.proofs.lemmas.Bool.Decides.{nat_tests, Decides-eqb}
use Rattle.std.proofs.lemmas.List.{take-append-drop, append_cancel_left, get_or-take}
use Rattle.std.proofs.lemmas.List.Folds.{list_all-append}
use Rattle.std.proofs.lemmas.List.Sums.{fails_before_first}
use Rattle.std.proofs.lemmas.List.Elements.{All-weaker}
use Rattle.std.proofs.lemmas.List.Sums.{AllPass-from_list_all}
use Rattle.std.proofs.lemmas.List.Quantifiers.{position-Some}
use Rattle.std.proofs.lemmas.Str.{IsUtf8-from_ascii}
use Rattle.std.proofs.lemmas.Str.Ascii.{IsAscii-from_all}
use Rattle.mx_schema.proofs.ColumnLemmas.{and_both, and_first, and_second, list_all-weaker, same_fronts}
use Rattle.mx_props.specs.Reading.{is_plain_byte, IsPlain, IsOneLine}

pub plain_one_line : (text : List ℕ) → IsPlain text → IsOneLine text
plain_one_line text plain = list_all-weaker is_plain_byte (λ x. not (x == 10)) (λ x h. and_second (nat_lt x 128) (not (x == 10)) h) text plain

small : (x : ℕ) → is_plain_byte x ≡ true → x < 128
small x h = let low : nat_lt x 128 ≡ true = and_first (nat_lt x 128) (not (x == 10)) h in grind (arith, nat_tests)

pub plain_utf8 : (text : List ℕ) → IsPlain text → IsUtf8 text
plain_utf8 text plain = IsUtf8-from_ascii text (IsAscii-from_all text (All-weaker (λ x. is_plain_byte x ≡ true) (λ x. x < 128) small text (AllPass-from_list_all is_plain_byte text plain)))

-- a text on one line has no line behind another
pub one_line_ends : (text line rest : List ℕ) → IsOneLine text → text ≢ line ++ 10 ∷ rest
one_line_ends text line rest one e =
    let split : list_all (λ x. not (x == 10)) (line ++ 10 ∷ rest) ≡ (list_all (λ x. not (x == 10)) line && false) = list_all-append (λ x. not (x == 10)) line (10 ∷ rest) in
    let both : (list_all (λ x. not (x == 10)) line && false) ≡ true = sym split ∙ sym (ap (list_all (λ x. not (x == 10))) e) ∙ one in
    let wrong : false ≡ true = and_second (list_all (λ x. not (x == 10)) line) false both in
    cc

pub none_passes : (xs : List ℕ) → ((k : ℕ) → k < length xs → (get_or xs k 0 == 10) ≡ false) → IsOneLine xs
none_passes [] f = refl
none_passes (x ∷ xs) f = and_both (not (x == 10)) (list_all (λ y. not (y == 10)) xs) (ap not (f 0 (omega arith))) (none_passes xs (λ k h. f (suc k) (omega (arith, h))))

pub no_position : (xs : List ℕ) → position (λ byte. byte == 10) xs ≡ None → IsOneLine xs
no_position xs none = none_passes xs (λ k h. fails_before_first (λ byte. byte == 10) xs k 0 (past k h (nat_lt (position_or_len (λ byte. byte == 10) xs) (length xs)) refl none))
  where
    past : (k : ℕ) → k < length xs → (b : Bool) → nat_lt (position_or_len (λ byte. byte == 10) xs) (length xs) ≡ b → cond b (Some (position_or_len (λ byte. byte == 10) xs)) None ≡ None → k < position_or_len (λ byte. byte == 10) xs
    past k h true is e = absurd (cc e)
    past k h false is e = let le : length xs ≤ position_or_len (λ byte. byte == 10) xs = grind (arith, nat_tests) in omega (arith, h, le)

take_whole : (xs : List ℕ) (n : ℕ) → length xs ≤ n → take n xs ≡ xs
take_whole [] zero le = refl
take_whole [] (suc n) le = refl
take_whole (x ∷ xs) zero le = absurd (omega (arith, le))
take_whole (x ∷ xs) (suc n) le = ap (λ (rest : List ℕ). x ∷ rest) (take_whole xs n (omega (arith, le)))

-- the first newline ends the first line
pub cut_at : (xs : List ℕ) (end : ℕ) → position (λ byte. byte == 10) xs ≡ Some end → IsOneLine (take end xs) × (xs ≡ take end xs ++ 10 ∷ take (length xs - (end + 1)) (drop (end + 1) xs))
cut_at xs end is =
    let facts = position-Some (λ byte. byte == 10) xs end 0 is in
    let within : end < length xs = facts.0 in
    let newline : get_or xs end 0 ≡ 10 = (Decides-eqb (get_or xs end 0) 10).0 facts.1 in
    let whole : take (length xs - (end + 1)) (drop (end + 1) xs) ≡ drop (end + 1) xs = take_whole (drop (end + 1) xs) (length xs - (end + 1)) (omega (arith, length-drop (end + 1) xs)) in
    let tail : drop end xs ≡ 10 ∷ drop (end + 1) xs = drop-cons xs end 0 within ∙ ap (λ (m : ℕ). get_or xs end 0 ∷ drop m xs) (sym (add-one end)) ∙ ap (λ (b : ℕ). b ∷ drop (end + 1) xs) newline in (
      none_passes (take end xs) (λ k h.
          let below : k < end = omega (arith, h, length-take end xs) in
          ap (λ (b : ℕ). b == 10) (get_or-take end xs k 0 below) ∙ facts.2 k below),
      sym (take-append-drop end xs) ∙ ap (λ (rest : List ℕ). take end xs ++ rest) (tail ∙ ap (λ (rest : List ℕ). 10 ∷ rest) (sym whole)),
    )

-- a line of a key and a value, and what stands behind it
pub line_shape : (key text rest : List ℕ) → (key ++ (text ++ 10 ∷ [])) ++ rest ≡ key ++ (text ++ 10 ∷ rest)
line_shape key text rest = append_assoc key (text ++ 10 ∷ []) rest ∙ ap (λ (t : List ℕ). key ++ t) (append_assoc text (10 ∷ []) rest)

-- the values behind one key are the same
pub same_value : (bytes key value rest text more : List ℕ) → bytes ≡ key ++ (value ++ 10 ∷ rest) → IsOneLine value → IsPlain text → bytes ≡ key ++ (text ++ 10 ∷ more) → value ≡ text
same_value bytes key value rest text more e one plain f =
    (same_fronts 10 value text rest more one (plain_one_line text plain) (append_cancel_left key (value ++ 10 ∷ rest) (text ++ 10 ∷ more) (sym e ∙ f))).0

-- ---- a value behind a key

pub none_behind : (bytes key : List ℕ) → ((rest : List ℕ) → bytes ≢ key ++ rest) → (value rest : List ℕ) → IsPlain value → bytes ≢ key ++ (value ++ 10 ∷ rest)
none_behind bytes key none value rest plain e = none (value ++ 10 ∷ rest) e

pub no_line : (bytes key behind : List ℕ) → bytes ≡ key ++ behind → IsOneLine behind → (value rest : List ℕ) → IsPlain value → bytes ≢ key ++ (value ++ 10 ∷ rest)
no_line bytes key behind is one value rest plain e = one_line_ends behind value rest one (append_cancel_left key behind (value ++ 10 ∷ rest) (sym is ∙ e))

pub no_text : (bytes key behind line left : List ℕ) → bytes ≡ key ++ behind → IsOneLine line × (behind ≡ line ++ 10 ∷ left) → ¬ (IsUtf8 line) → (value rest : List ℕ) → IsPlain value → bytes ≢ key ++ (value ++ 10 ∷ rest)
no_text bytes key behind line left is cut bad value rest plain e =
    bad (subst IsUtf8 (sym (same_value bytes key line left value rest (is ∙ ap (λ (b : List ℕ). key ++ b) cut.1) cut.0 plain e)) (plain_utf8 value plain))

pub text_behind : (bytes key behind line left value : List ℕ) → bytes ≡ key ++ behind → IsOneLine line × (behind ≡ line ++ 10 ∷ left) → value ≡ line → IsOneLine value × (bytes ≡ key ++ (value ++ 10 ∷ left))
text_behind bytes key behind line left value is cut same = (subst IsOneLine (sym same) cut.0, is ∙ ap (λ (b : List ℕ). key ++ b) (cut.1 ∙ ap (λ (l : List ℕ). l ++ 10 ∷ left) (sym same)))
