-- The parts of a file are read one after the other.
use Rattle.std.proofs.Common.{◌≡◌, ℕ, ◌-◌, ◌≤◌, Bool, true, cond, eqb, ltb, ◌||◌, List, [], length, take, drop, Result, Ok, Err, refl, ap, ◌∙◌}
use Rattle.std.proofs.lemmas.Bool.{le-ltb}
use Rattle.mx_base.specs.declared.entry.Entry.{Entry}
use Rattle.mx_lists.specs.declared.fault.Fault.{Fault}
use Rattle.mx_lists.specs.declared.fault.Fault.TheVariants as faults
use Rattle.mx_hfile.specs.declared.error.HFileError.{HFileError}
use Rattle.mx_hfile.specs.declared.error.HFileError.TheVariants as errors
use Rattle.mx_hfile.specs.Encoding.{Place}
use Rattle.mx_lists.specs.Reading.{◌>>=◌, Fails}
use Rattle.mx_hfile.specs.Decoding.{HasCause, Trailer, placed, trailer_in, index_in, blocks_in, file_in}
use Rattle.mx_hfile.specs.Seen.{placed_error}

-- the rest of a file once the places of its blocks are known
abbrev pub data_of : List ℕ → Trailer → List Place → Result (List Entry) ℕ
data_of bytes t places = blocks_in [] 0 places (take t.offset bytes) >>= λ entries. cond (eqb (length entries) t.entry_count) (Ok entries) (Err (length bytes - 32))

-- the bytes of the index block
abbrev pub index_bytes : List ℕ → Trailer → List ℕ
index_bytes bytes t = take (length bytes - 64 - t.offset) (drop t.offset bytes)

abbrev after_trailer : List ℕ → Result Trailer ℕ → Result (List Entry) ℕ
after_trailer bytes read = placed (length bytes) read >>= λ t. placed (length bytes - 64) (index_in t.block_count t.offset (index_bytes bytes t)) >>= λ places. data_of bytes t places

pub file_in-range : (bytes : List ℕ) → 80 ≤ length bytes → length bytes ≤ 268_435_456 → file_in bytes ≡ after_trailer bytes (trailer_in (length bytes) (drop (length bytes - 64) bytes))
unfolding file_in
file_in-range bytes ge le = rw (le-ltb (length bytes) 80 ge, le-ltb 268_435_456 (length bytes) le) refl

pub bad_len : (bytes : List ℕ) → ltb (length bytes) 80 || ltb 268_435_456 (length bytes) ≡ true → file_in bytes ≡ Err 0
unfolding file_in
bad_len bytes e = rw e refl

pub bad_trailer : (x : Fault) (bytes : List ℕ) → 80 ≤ length bytes → length bytes ≤ 268_435_456 → Fails x (trailer_in (length bytes) (drop (length bytes - 64) bytes)) → HasCause (placed_error (length bytes) x) (file_in bytes)
bad_trailer faults.NoMemory bytes ge le f = tt
bad_trailer (faults.Bad left) bytes ge le f = file_in-range bytes ge le ∙ ap (after_trailer bytes) f

pub bad_index : (x : Fault) (bytes : List ℕ) (t : Trailer) → 80 ≤ length bytes → length bytes ≤ 268_435_456 → trailer_in (length bytes) (drop (length bytes - 64) bytes) ≡ Ok t
    → Fails x (index_in t.block_count t.offset (index_bytes bytes t)) → HasCause (placed_error (length bytes - 64) x) (file_in bytes)
bad_index faults.NoMemory bytes t ge le trailer f = tt
bad_index (faults.Bad left) bytes t ge le trailer f =
    file_in-range bytes ge le ∙ ap (after_trailer bytes) trailer ∙ ap (λ (r : Result (List Place) ℕ). placed (length bytes - 64) r >>= λ places. data_of bytes t places) f

pub file_in-data : (bytes : List ℕ) (t : Trailer) (places : List Place) → 80 ≤ length bytes → length bytes ≤ 268_435_456 → trailer_in (length bytes) (drop (length bytes - 64) bytes) ≡ Ok t
    → index_in t.block_count t.offset (index_bytes bytes t) ≡ Ok places → file_in bytes ≡ data_of bytes t places
file_in-data bytes t places ge le trailer index =
    file_in-range bytes ge le ∙ ap (after_trailer bytes) trailer ∙ ap (λ (r : Result (List Place) ℕ). placed (length bytes - 64) r >>= λ ps. data_of bytes t ps) index

abbrev counted : List ℕ → Trailer → Result (List Entry) ℕ → Result (List Entry) ℕ
counted bytes t read = read >>= λ entries. cond (eqb (length entries) t.entry_count) (Ok entries) (Err (length bytes - 32))

pub bad_data : (e : HFileError) (bytes : List ℕ) (t : Trailer) (places : List Place) → HasCause e (blocks_in [] 0 places (take t.offset bytes)) → HasCause e (data_of bytes t places)
bad_data errors.NoMemory bytes t places cause = tt
bad_data (errors.BadHFile at) bytes t places cause = ap (counted bytes t) cause

pub counted_data : (bytes : List ℕ) (t : Trailer) (places : List Place) (entries : List Entry) (b : Bool) → blocks_in [] 0 places (take t.offset bytes) ≡ Ok entries → eqb (length entries) t.entry_count ≡ b
    → data_of bytes t places ≡ cond b (Ok entries) (Err (length bytes - 32))
counted_data bytes t places entries b read is = ap (counted bytes t) read ∙ ap (λ (x : Bool). cond x (Ok entries) (Err (length bytes - 32))) is
