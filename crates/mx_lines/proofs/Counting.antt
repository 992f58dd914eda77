-- The bytes that were read and those that are left.
use Rattle.std.proofs.Common.{◌≡◌, ℕ, ◌+◌, ◌≤◌, List, [], ◌∷◌, ◌++◌, length, take, Option, Some, None, refl, sym, ◌∙◌, ap, subst, arith, length-append, length-take}
use Rattle.mx_store.specs.Streams.{before}
use Rattle.mx_lines.specs.Ahead.{CountsBytes}

pub counts-same : (n : ℕ) (l : Option (List ℕ)) → CountsBytes n l n l
counts-same n None = refl
counts-same n (Some bytes) = refl

pub counts-kept : (n : ℕ) (l m : Option (List ℕ)) → m ≡ l → CountsBytes n l n m
counts-kept n l m same = subst (λ (x : Option (List ℕ)). CountsBytes n l n x) (sym same) (counts-same n l)

pub counts-read : (n k : ℕ) (l m : Option (List ℕ)) (buffer : List ℕ) → l ≡ before (take k buffer) m → k ≤ length buffer → CountsBytes n l (n + k) m
counts-read n k l None buffer is within = subst (λ (x : Option (List ℕ)). CountsBytes n x (n + k) None) (sym is) refl
counts-read n k l (Some bytes) buffer is within = subst (λ (x : Option (List ℕ)). CountsBytes n x (n + k) (Some bytes)) (sym is)
    (let a = length-append (take k buffer) bytes in let t = length-take k buffer in omega (arith, a, t, within))

pub counts-trans : (a b c : ℕ) (l m n : Option (List ℕ)) → CountsBytes a l b m → CountsBytes b m c n → CountsBytes a l c n
counts-trans a b c None m n one two = subst (λ (x : Option (List ℕ)). CountsBytes b x c n → n ≡ None) (sym one) (λ h. h) two
counts-trans a b c (Some old) None n one two = absurd one
counts-trans a b c (Some old) (Some mid) None one two = absurd two
counts-trans a b c (Some old) (Some mid) (Some new) one two = omega (arith, one, two)
