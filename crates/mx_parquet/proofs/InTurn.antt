-- Reading each of a list in turn, as a loop does.
use Rattle.std.proofs.Common.{◌≡◌, length, List, [], ◌∷◌, ◌++◌, Ok, Err, refl, sym, ap, ◌∙◌, append_assoc, append-nil}
use Rattle.std.proofs.lemmas.List.{nil_from_length}
use Rattle.mx_parquet.specs.declared.error.Failure.{Failure}
use Rattle.mx_parquet.specs.declared.error.Failure.TheVariants as failures
use Rattle.mx_parquet.specs.Reading.{Read, ◌>>=◌, Fails, each_in}

-- what was read before, and what is still read
abbrev pub with_front : {A : Type 0} → List A → Read (List A) → Read (List A)
with_front front read = read >>= λ xs. Ok (front ++ xs)

pub regroup : {B : Type 0} (front : List B) (y : B) (read : Read (List B)) → with_front front (read >>= λ ys. Ok (y ∷ ys)) ≡ with_front (front ++ y ∷ []) read
regroup front y (Ok ys) = ap (λ (zs : List _). Ok zs) (simp append_assoc)
regroup front y (Err e) = refl

pub one_more : {A B : Type 0} (read : A → Read B) (front next : List B) (x : A) (rest xs : List A) (y : B) (total : Read (List B))
    → rest ≡ x ∷ xs → next ≡ front ++ y ∷ [] → read x ≡ Ok y → with_front front (each_in read rest) ≡ total → with_front next (each_in read xs) ≡ total
unfolding each_in
one_more read front next x rest xs y total is grown h so_far =
    let one : with_front front (each_in read rest) ≡ with_front (front ++ y ∷ []) (each_in read xs) = rw (is, h) (regroup front y (each_in read xs)) in
    rw grown (sym one ∙ so_far)

pub one_fails : {A B : Type 0} (e : Failure) (read : A → Read B) (front : List B) (x : A) (rest xs : List A) (total : Read (List B))
    → rest ≡ x ∷ xs → Fails e (read x) → with_front front (each_in read rest) ≡ total → Fails e total
unfolding each_in
one_fails failures.NoMemory read front x rest xs total is h so_far = tt
one_fails (failures.Flawed flaw) read front x rest xs total is h so_far =
    let one : with_front front (each_in read rest) ≡ Err flaw = rw (is, h) refl in
    sym so_far ∙ one

pub all_read : {A B : Type 0} (read : A → Read B) (front : List B) (rest : List A) (total : Read (List B))
    → length rest ≡ 0 → with_front front (each_in read rest) ≡ total → total ≡ Ok front
unfolding each_in
all_read read front rest total none so_far =
    let one : with_front front (each_in read rest) ≡ Ok front = rw (nil_from_length rest none) (ap (λ (zs : List _). Ok zs) (append-nil front)) in
    sym so_far ∙ one
