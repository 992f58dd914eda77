-- Pieces one behind the other.
use Rattle.std.proofs.Common.{◌≡◌, ℕ, ◌+◌, ◌-◌, ◌≤◌, List, [], ◌++◌, length, take, drop, Option, Some, None, refl, sym, ◌∙◌, ap, arith, append_assoc, length-drop}
use Rattle.std.proofs.Math.Seq.{take-add}
use Rattle.std.proofs.lemmas.List.{append-nil, take_all, drop-drop}
use Rattle.mx_store.specs.Streams.{before, added}

pub added-nothing : (w : Option (List ℕ)) → added w [] ≡ w
added-nothing None = refl
added-nothing (Some w) = ap (λ (l : List ℕ). Some l) (append-nil w)

pub added-added : (w : Option (List ℕ)) (a b : List ℕ) → added (added w a) b ≡ added w (a ++ b)
added-added None a b = refl
added-added (Some w) a b = ap (λ (l : List ℕ). Some l) (append_assoc w a b)

pub before-before : (a b : List ℕ) (r : Option (List ℕ)) → before a (before b r) ≡ before (a ++ b) r
before-before a b None = refl
before-before a b (Some r) = ap (λ (l : List ℕ). Some l) (sym (append_assoc a b r))

pub before-nothing : (r : Option (List ℕ)) → before [] r ≡ r
before-nothing None = refl
before-nothing (Some r) = refl

module _ (bytes rest : List ℕ) (k n : ℕ) (is : rest ≡ drop k bytes) (within : k ≤ length bytes) (fits : n ≤ length rest) where
  -- what is left of the rest
  pub rest-more : take (length rest - n) (drop n rest) ≡ drop (k + n) bytes
  rest-more = take_all (length rest - n) (drop n rest) (omega (arith, length-drop n rest)) ∙ ap (λ (l : List ℕ). drop n l) is ∙ drop-drop n k bytes

  pub within-more : k + n ≤ length bytes
  within-more = omega (arith, ap length is, length-drop k bytes)

  pub written-more : (w0 w1 w2 : Option (List ℕ)) → w1 ≡ added w0 (take k bytes) → w2 ≡ added w1 (take n rest) → w2 ≡ added w0 (take (k + n) bytes)
  written-more w0 w1 w2 one two =
      two ∙ ap (λ (w : Option (List ℕ)). added w (take n rest)) one ∙ added-added w0 (take k bytes) (take n rest)
      ∙ ap (λ (l : List ℕ). added w0 (take k bytes ++ take n l)) is ∙ ap (λ (l : List ℕ). added w0 l) (sym (take-add k n bytes))
