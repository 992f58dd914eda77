-- Tests that hold together.
use Rattle.std.proofs.Common.{◌≡◌, Bool, true, false, ◌&&◌, refl}
use lib.Dec.{T}

pub both : (a b : Bool) → T a → T b → T (a && b)
both true b h k = k
both false b h k = h

pub first : (a b : Bool) → T (a && b) → T a
first true b h = tt
first false b h = absurd h

pub second : (a b : Bool) → T (a && b) → T b
second true b h = h
second false b h = absurd h

pub truth : (b : Bool) → T b → b ≡ true
truth true h = refl
truth false h = absurd h
