-- A block is walked through once, and what is found so far stands in front of what is still found.
use Rattle.std.proofs.Common.{◌≡◌, ℕ, ◌+◌, ◌-◌, ◌<◌, ◌≤◌, Bool, true, false, cond, eqb, List, [], ◌∷◌, ◌++◌, length, Option, Some, None, Result, Ok, Err, refl, sym, ap, ◌∙◌, length-append, arith}
use Rattle.std.specs.Int.{w32}
use Rattle.std.proofs.lemmas.Bool.{le-ltb}
use Rattle.mx_base.specs.declared.entry.Entry.{Entry}
use Rattle.mx_lists.specs.declared.fault.Fault.{Fault}
use Rattle.mx_lists.specs.declared.fault.Fault.TheVariants as faults
use Rattle.mx_hfile.specs.Encoding.{number, data_magic, entry_bytes}
use Rattle.mx_lists.specs.Reading.{◌>>=◌, Fails}
use Rattle.mx_hfile.specs.Decoding.{is_same, is_key, entry_in, entries_in, body_in}
use Rattle.mx_hfile.specs.Seen.{behind, earlier}
use Rattle.mx_hfile.specs.Ranges.{value_place, search_body, search_in, block_alone_in}
use Rattle.mx_lists.proofs.Codecs.{IsBytes}
use Rattle.mx_hfile.proofs.FieldLemmas.{wide32}
use Rattle.mx_hfile.proofs.Loops.{more_entries, bad_entry, late_entry, no_entry, behind_bad}
use Rattle.mx_hfile.proofs.DataLemmas.{body_takes, magic-length}

-- what was found, or is found among entries of which the first begins at a place
abbrev pub still : List ℕ → Option (ℕ × ℕ) → ℕ → Result (List Entry) ℕ → Result (Option (ℕ × ℕ)) ℕ
still key found at read = read >>= λ entries. Ok (earlier found (value_place key at entries))

abbrev put_first : Entry → Result (List Entry) ℕ → Result (List Entry) ℕ
put_first e read = read >>= λ others. Ok (e ∷ others)

behind-nil : (r : Result (List Entry) ℕ) → behind [] r ≡ r
behind-nil (Ok es) = refl
behind-nil (Err left) = refl

entries_step : (len : ℕ) (last bytes : List ℕ) (e : Entry) (after : List ℕ) → 0 < length bytes → len - length bytes < 16_384 → entry_in (is_key last None) bytes ≡ Ok (e, after)
    → entries_in (length bytes) len last bytes ≡ put_first e (entries_in (length after) len e.key after)
entries_step len last bytes e after some room h =
    sym (behind-nil (entries_in (length bytes) len last bytes))
    ∙ sym (more_entries [] len last bytes e after (behind [] (entries_in (length bytes) len last bytes)) some room h refl)

earlier_step : (b : Bool) (found : Option (ℕ × ℕ)) (x : ℕ × ℕ) (rest : Option (ℕ × ℕ)) → earlier found (cond b (Some x) rest) ≡ earlier (earlier found (cond b (Some x) None)) rest
earlier_step b (Some y) x rest = refl
earlier_step true None x rest = refl
earlier_step false None x rest = refl

earlier-none : (found : Option (ℕ × ℕ)) → earlier found None ≡ found
earlier-none (Some y) = refl
earlier-none None = refl

still_step : (key : List ℕ) (found : Option (ℕ × ℕ)) (at : ℕ) (e : Entry) (read : Result (List Entry) ℕ)
    → still key found at (put_first e read) ≡ still key (earlier found (cond (is_same e.key key) (Some (at + (6 + length e.key), at + length (entry_bytes e))) None)) (at + length (entry_bytes e)) read
still_step key found at e (Ok es) = ap (λ (x : Option (ℕ × ℕ)). Ok x) (earlier_step (is_same e.key key) found (at + (6 + length e.key), at + length (entry_bytes e)) (value_place key (at + length (entry_bytes e)) es))
still_step key found at e (Err left) = refl

pub more_places : (key : List ℕ) (found new : Option (ℕ × ℕ)) (at start end len : ℕ) (last bytes : List ℕ) (e : Entry) (after : List ℕ) (total : Result (Option (ℕ × ℕ)) ℕ) → 0 < length bytes → len - length bytes < 16_384
    → entry_in (is_key last None) bytes ≡ Ok (e, after) → new ≡ earlier found (cond (is_same e.key key) (Some (start, end)) None) → start ≡ at + (6 + length e.key) → end ≡ at + length (entry_bytes e)
    → still key found at (entries_in (length bytes) len last bytes) ≡ total → still key new end (entries_in (length after) len e.key after) ≡ total
more_places key found new at start end len last bytes e after total some room h is start-is end-is so_far =
    let rest = entries_in (length after) len e.key after in
    ap (λ (n : ℕ). still key new n rest) end-is
    ∙ ap (λ (f : Option (ℕ × ℕ)). still key f (at + length (entry_bytes e)) rest)
    (is ∙ ap (λ (n : ℕ). earlier found (cond (is_same e.key key) (Some (n, end)) None)) start-is ∙ ap (λ (n : ℕ). earlier found (cond (is_same e.key key) (Some (at + (6 + length e.key), n)) None)) end-is)
    ∙ sym (still_step key found at e rest) ∙ sym (ap (still key found at) (entries_step len last bytes e after some room h)) ∙ so_far

pub bad_place : (x : Fault) (key : List ℕ) (found : Option (ℕ × ℕ)) (at len : ℕ) (last bytes : List ℕ) (total : Result (Option (ℕ × ℕ)) ℕ) → 0 < length bytes → len - length bytes < 16_384
    → Fails x (entry_in (is_key last None) bytes) → still key found at (entries_in (length bytes) len last bytes) ≡ total → Fails x total
bad_place faults.NoMemory key found at len last bytes total some room h so_far = tt
bad_place (faults.Bad left) key found at len last bytes total some room h so_far =
    let read = behind_bad [] (entries_in (length bytes) len last bytes) left (bad_entry (faults.Bad left) [] len last bytes (behind [] (entries_in (length bytes) len last bytes)) some room h refl) in
    sym so_far ∙ ap (still key found at) read

pub late_place : (key : List ℕ) (found : Option (ℕ × ℕ)) (at len : ℕ) (last bytes : List ℕ) (total : Result (Option (ℕ × ℕ)) ℕ) → 0 < length bytes → 16_384 ≤ len - length bytes
    → still key found at (entries_in (length bytes) len last bytes) ≡ total → total ≡ Err (length bytes)
late_place key found at len last bytes total some full so_far =
    let read = behind_bad [] (entries_in (length bytes) len last bytes) (length bytes) (late_entry [] len last bytes (behind [] (entries_in (length bytes) len last bytes)) some full refl) in
    sym so_far ∙ ap (still key found at) read

pub no_place_left : (key : List ℕ) (found : Option (ℕ × ℕ)) (at len : ℕ) (last bytes : List ℕ) (total : Result (Option (ℕ × ℕ)) ℕ) → length bytes ≡ 0
    → still key found at (entries_in (length bytes) len last bytes) ≡ total → total ≡ Ok found
no_place_left key found at len last bytes total none so_far =
    let read = sym (behind-nil (entries_in (length bytes) len last bytes)) ∙ no_entry [] len last bytes (behind [] (entries_in (length bytes) len last bytes)) none refl in
    sym so_far ∙ ap (still key found at) read ∙ ap (λ (x : Option (ℕ × ℕ)). Ok x) (earlier-none found)

pub body-left : (bytes body : List ℕ) → IsBytes bytes → body_in bytes ≡ Ok body → length bytes ≡ 12 + length body
body-left bytes body fits e =
    let t = body_takes bytes body fits e in
    omega (arith, ap length t.parts, length-append (data_magic ++ number w32 (length body)) body, length-append data_magic (number w32 (length body)), magic-length, wide32.len (length body))

pub search_whole : (key bytes body : List ℕ) (at : ℕ) → length bytes ≤ 268_435_456 → body_in bytes ≡ Ok body → eqb (length body) 0 ≡ false → at ≡ 12 → search_in key bytes ≡ search_body key at body
unfolding search_in block_alone_in
search_whole key bytes body at le e some is = rw (le-ltb 268_435_456 (length bytes) le, e, some, is) refl
