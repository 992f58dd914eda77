use Rattle.std.proofs.Common.{◌≡◌, ℕ, ◌%◌, List, [], ◌∷◌, length, get_or, take, refl, sym, ap, ◌∙◌, arith}
use Rattle.std.specs.Int.{from_be_bytes, w32}
use Rattle.md5.specs.Md5.{md5, digest_bytes}
use Rattle.mx_base.specs.Shards.{shard_of}
use Rattle.mx_base.proofs.sharding.shard.Goals as goal

length-md5 : (m : List ℕ) → length (md5 m) ≡ 16
unfolding md5 digest_bytes
length-md5 m = refl

four_bytes : (l : List ℕ) → length l ≡ 16 → take 4 l ≡ get_or l 0 0 ∷ get_or l 1 0 ∷ get_or l 2 0 ∷ get_or l 3 0 ∷ []
four_bytes [] len = absurd (omega (arith, len))
four_bytes (a ∷ []) len = absurd (omega (arith, len))
four_bytes (a ∷ b ∷ []) len = absurd (omega (arith, len))
four_bytes (a ∷ b ∷ c ∷ []) len = absurd (omega (arith, len))
four_bytes (a ∷ b ∷ c ∷ d ∷ rest) len = refl

pub returns : goal.returns
unfolding shard_of
returns c =
    let number : c.from_be_bytes.result ≡ from_be_bytes w32 (take 4 (md5 c.args.name.now)) =
    c.from_be_bytes.ensures ∙ sym (ap (from_be_bytes w32) (four_bytes c.digest-digest.result (ap length c.digest-digest.ensures ∙ length-md5 c.args.name.now))) ∙ ap (λ (l : List ℕ). from_be_bytes w32 (take 4 l)) c.digest-digest.ensures in
    ap (λ (n : ℕ). n % c.shards.result) number ∙ ap (λ (k : ℕ). from_be_bytes w32 (take 4 (md5 c.args.name.now)) % k) c.shards.ensures.value
