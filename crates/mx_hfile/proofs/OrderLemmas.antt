-- Keys that rise.
use Rattle.std.proofs.Common.{Ordering, Less, Equal, Greater, ◌≡◌, ℕ, ◌<◌, true, List, [], ◌∷◌, ◌++◌, length, refl, ap, arith}
use Rattle.std.specs.Ordering.{nat_cmp, is_lt}
use Rattle.std.specs.Cmp.Lexicographic.{slice_cmp}
use Rattle.std.proofs.lemmas.Cmp.{nat_list_cmp_total}
use Rattle.mx_base.specs.declared.entry.Entry.{Entry}
use Rattle.mx_hfile.specs.Encoding.{rises, RiseFrom}
use Rattle.mx_hfile.specs.Decoding.{last_key}

pub is_less : (o : Ordering) → is_lt o ≡ true → o ≡ Less
is_less Less e = refl
is_less Equal e = absurd cc
is_less Greater e = absurd cc

pub rises-trans : (a b c : List ℕ) → rises a b ≡ true → rises b c ≡ true → rises a c ≡ true
rises-trans a b c p q = ap is_lt (nat_list_cmp_total.trans a b c (is_less (slice_cmp nat_cmp a b) p) (is_less (slice_cmp nat_cmp b c) q))

pub rises-some : (last key : List ℕ) → rises last key ≡ true → 0 < length key
rises-some [] [] e = absurd cc
rises-some (x ∷ last) [] e = absurd cc
rises-some last (k ∷ key) e = omega arith

pub rise-lower : (a b : List ℕ) (es : List Entry) → rises a b ≡ true → RiseFrom b es → RiseFrom a es
rise-lower a b [] p r = tt
rise-lower a b (e ∷ es) p r = (rises-trans a b e.key p r.0, r.1)

-- what rises behind entries rises behind what was before them
pub rise-behind : (last : List ℕ) (a b : List Entry) → RiseFrom last (a ++ b) → RiseFrom last b
rise-behind last [] b r = r
rise-behind last (e ∷ a) b r = rise-lower last e.key b r.0 (rise-behind e.key a b r.1)

pub rise-split : (last : List ℕ) (a b : List Entry) → RiseFrom last (a ++ b) → RiseFrom last a × RiseFrom (last_key last a) b
rise-split last [] b r = (tt, r)
rise-split last (e ∷ a) b r = let s = rise-split e.key a b r.1 in ((r.0, s.0), s.1)

pub rise-join : (last : List ℕ) (a b : List Entry) → RiseFrom last a → RiseFrom (last_key last a) b → RiseFrom last (a ++ b)
rise-join last [] b r s = s
rise-join last (e ∷ a) b r s = (r.0, rise-join e.key a b r.1 s)
