-- Reading words one after the other, as a loop does.
use Rattle.std.proofs.Common.{◌≡◌, ℕ, suc, ◌-◌, ◌+◌, ◌≤◌, ◌<◌, Bool, List, [], ◌∷◌, ◌++◌, length, Option, Some, Result, Ok, Err, refl, sym, ap, ◌∙◌, append_assoc, append-nil, arith, length-append}
use Rattle.std.specs.Option.{option_map}
use Rattle.std.specs.List.{slice_get}
use Rattle.mx_payload.specs.declared.payload.NameWord.{NameWord}
use Rattle.mx_lists.specs.declared.fault.Fault.{Fault}
use Rattle.mx_lists.specs.declared.fault.Fault.TheVariants as faults
use Rattle.mx_lists.specs.Reading.{◌>>=◌, Fails}
use Rattle.mx_payload.specs.Decoding.{word_in, words_in, last_name}

-- what was read before, and what is still read
abbrev pub with_front : List NameWord → Result (List NameWord × List ℕ) ℕ → Result (List NameWord × List ℕ) ℕ
with_front front read = read >>= λ x. Ok (front ++ x.0, x.1)

regroup : (front : List NameWord) (w : NameWord) (read : Result (List NameWord × List ℕ) ℕ) → with_front front (read >>= λ x. Ok (w ∷ x.0, x.1)) ≡ with_front (front ++ w ∷ []) read
regroup front w (Ok x) = ap (λ (ws : List NameWord). Ok (ws, x.1)) (simp append_assoc)
regroup front w (Err left) = refl

get_last : (front : List NameWord) (w : NameWord) → slice_get (front ++ w ∷ []) (length front) ≡ Some w
get_last [] w = refl
get_last (v ∷ front) w = get_last front w

last_name-push : (front : List NameWord) (w : NameWord) → last_name (front ++ w ∷ []) ≡ Some w.name
last_name-push front w =
    let at : length (front ++ w ∷ []) - 1 ≡ length front = omega (arith, length-append front (w ∷ [])) in
    ap (λ (k : ℕ). option_map (λ (v : NameWord). v.name) (slice_get (front ++ w ∷ []) k)) at ∙ ap (option_map (λ (v : NameWord). v.name)) (get_last front w)

pub goes_on : (plain : Bool) (front : List NameWord) (count i : ℕ) (bytes : List ℕ) (w : NameWord) (after : List ℕ) (total : Result (List NameWord × List ℕ) ℕ) → i < count → word_in plain (last_name front) bytes ≡ Ok (w, after)
    → with_front front (words_in plain (last_name front) (count - i) bytes) ≡ total → with_front (front ++ w ∷ []) (words_in plain (last_name (front ++ w ∷ [])) (count - (i + 1)) after) ≡ total
unfolding words_in
goes_on plain front count i bytes w after total lt h so_far =
    let k : count - i ≡ suc (count - (i + 1)) = omega arith in
    let one : with_front front (words_in plain (last_name front) (count - i) bytes) ≡ with_front (front ++ w ∷ []) (words_in plain (Some w.name) (count - (i + 1)) after) = rw (k, h) (regroup front w (words_in plain (Some w.name) (count - (i + 1)) after)) in
    ap (λ (o : Option (List ℕ)). with_front (front ++ w ∷ []) (words_in plain o (count - (i + 1)) after)) (last_name-push front w) ∙ sym one ∙ so_far

pub ends : (e : Fault) (plain : Bool) (front : List NameWord) (count i : ℕ) (bytes : List ℕ) (total : Result (List NameWord × List ℕ) ℕ) → i < count → Fails e (word_in plain (last_name front) bytes)
    → with_front front (words_in plain (last_name front) (count - i) bytes) ≡ total → Fails e total
unfolding words_in
ends faults.NoMemory plain front count i bytes total lt h so_far = tt
ends (faults.Bad left) plain front count i bytes total lt h so_far =
    let k : count - i ≡ suc (count - (i + 1)) = omega arith in
    let one : with_front front (words_in plain (last_name front) (count - i) bytes) ≡ Err left = rw (k, h) refl in
    sym so_far ∙ one

pub is_done : (plain : Bool) (front : List NameWord) (count i : ℕ) (bytes : List ℕ) (total : Result (List NameWord × List ℕ) ℕ) → count ≤ i → with_front front (words_in plain (last_name front) (count - i) bytes) ≡ total → total ≡ Ok (front, bytes)
unfolding words_in
is_done plain front count i bytes total le so_far =
    let k : count - i ≡ 0 = omega arith in
    let one : with_front front (words_in plain (last_name front) (count - i) bytes) ≡ Ok (front, bytes) = rw k (ap (λ (ws : List NameWord). Ok (ws, bytes)) (append-nil front)) in
    sym so_far ∙ one
