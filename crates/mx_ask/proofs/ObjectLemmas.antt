-- The members behind `ask`, and the rest behind them.
use Rattle.std.proofs.Common.{◌≡◌, ◌≢◌, ℕ, ◌<◌, ◌^◌, Option, Some, None, refl, sym, ap, subst, ◌∙◌}
use Rattle.std.specs.Prelude.{codes, MatchOption}
use Rattle.serde_json.specs.Data.{Data, string, Members, no_members, member}
use Rattle.mx_base.specs.Digits.{instant_text}
use Rattle.mx_base.specs.Paths.{number_of}
use Rattle.mx_base.proofs.PathLemmas.{number_of-instant_text}
use Rattle.mx_ask.specs.Asks.{with_at, IsSession, IsMoment}

-- what holds where there is no value
pub at_none : {T : Type 0} (o : Option T) (P : Type 0) (Q : T → Type 0) → o ≡ None → P → MatchOption o P Q
at_none None P Q none p = p
at_none (Some x) P Q none p = absurd (cc none)

-- an object with `at` has its partition behind it
pub at_behind : (at : Option ℕ) (v d : Data) (xs ys : Members) → member (codes "at") v xs ≡ with_at at (member (codes "partition") d ys) → xs ≡ member (codes "partition") d ys
at_behind None v d xs ys e = cc
at_behind (Some at) v d xs ys e = cc

-- an object without `at` has its session behind the partition
pub partition_behind : (at : Option ℕ) (v d : Data) (xs ys : Members) → member (codes "partition") v xs ≡ with_at at (member (codes "partition") d ys) → xs ≡ ys
partition_behind None v d xs ys e = cc
partition_behind (Some at) v d xs ys e = cc

-- the members do not begin with `at`
abbrev pub IsWithoutAt : Members → Type 0
IsWithoutAt xs = (v : Data) (ys : Members) → xs ≢ member (codes "at") v ys

pub IsSession-without_at : (session : ℕ) (xs : Members) → IsSession session xs → IsWithoutAt xs
IsSession-without_at session no_members is = λ v ys e. cc
IsSession-without_at session (member name value rest) is = λ v ys e. cc

-- with `at` in front, the session is told behind it
pub session_behind : (at : Option ℕ) (session : ℕ) (v : Data) (xs rest : Members) → IsSession session rest → member (codes "at") v xs ≡ with_at at rest → IsSession session xs
session_behind None session v xs rest is e = absurd (IsSession-without_at session rest is v xs (sym e))
session_behind (Some at) session v xs rest is e =
    let same : rest ≡ xs = cc in
    subst (IsSession session) same is

instant_text-injective : (a b : ℕ) → a < 10 ^ 17 → b < 10 ^ 17 → instant_text a ≡ instant_text b → a ≡ b
instant_text-injective a b small_a small_b e = sym (number_of-instant_text a small_a) ∙ ap number_of e ∙ number_of-instant_text b small_b

pub with_at-injective : (a b : Option ℕ) (xs ys : Members) → IsMoment a → IsMoment b → IsWithoutAt xs → IsWithoutAt ys → with_at a xs ≡ with_at b ys → (a ≡ b) × (xs ≡ ys)
with_at-injective None None xs ys is_a is_b without_xs without_ys e = (refl, e)
with_at-injective None (Some b) xs ys is_a is_b without_xs without_ys e = absurd (without_xs (string (instant_text b)) ys e)
with_at-injective (Some a) None xs ys is_a is_b without_xs without_ys e = absurd (without_ys (string (instant_text a)) xs (sym e))
with_at-injective (Some a) (Some b) xs ys is_a is_b without_xs without_ys e =
    let texts : instant_text a ≡ instant_text b = cc in
    (ap Some (instant_text-injective a b is_a is_b texts), cc)
