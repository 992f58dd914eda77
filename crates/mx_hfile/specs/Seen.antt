-- What the code holds, as the definitions see it.
use denote.Bor.{Bor}
use Rattle.std.specs.Prelude.{◌≡◌, ℕ, ◌-◌, ◌≤◌, List, [], ◌∷◌, ◌++◌, Option, Some, None, Result, Ok, Err}
use Rattle.mx_base.specs.declared.entry.Entry.{Entry}
use Rattle.mx_lists.specs.declared.fault.Fault.{Fault}
use Rattle.mx_lists.specs.declared.fault.Fault.TheVariants as faults
use Rattle.mx_hfile.specs.declared.error.HFileError.{HFileError}
use Rattle.mx_hfile.specs.declared.error.HFileError.TheVariants as errors
use Rattle.mx_hfile.specs.declared.listing.Listing.{Listing}
use Rattle.mx_hfile.specs.declared.trailer.Trailer.{Trailer as declared_Trailer}
use Rattle.mx_hfile.specs.Encoding.{Place}
use Rattle.mx_lists.specs.Reading.{◌>>=◌, Fails}
use Rattle.mx_hfile.specs.Decoding.{Trailer, last_key}

-- a fault of the bytes
abbrev pub IsBad : Fault → Type 0
IsBad faults.NoMemory = ⊥
IsBad (faults.Bad left) = Unit {0}

-- the earlier of two places
abbrev pub earlier : Option (ℕ × ℕ) → Option (ℕ × ℕ) → Option (ℕ × ℕ)
earlier None other = other
earlier (Some place) other = Some place

-- what the index says of a block
abbrev pub seen : Listing → Place
seen l = record { len = l.len; key = l.key.now }

-- what the trailer says
abbrev pub said : declared_Trailer → Trailer
said t = record { offset = t.offset; entry_count = t.entry_count; block_count = t.block_count }

-- blocks fill so many bytes, and no more
abbrev pub Covers : ℕ → List Place → Type 0
Covers left [] = left ≡ 0
Covers left (p ∷ places) = (p.len ≤ left) × Covers (left - p.len) places

-- what was read stands behind what was there
abbrev pub behind : List Entry → Result (List Entry) ℕ → Result (List Entry) ℕ
behind front read = read >>= λ entries. Ok (front ++ entries)

-- what is read was pushed, and its last key is the answer
abbrev pub Adds : List Entry → List Entry → Result (List Entry) ℕ → Result (Bor (List ℕ)) Fault → Type 0
Adds old new read (Ok key) = (behind old read ≡ Ok new) × (key.now ≡ last_key [] new)
Adds old new read (Err e) = Fails e read

-- a fault by its place, in a part that ends there
abbrev pub placed_error : ℕ → Fault → HFileError
placed_error end faults.NoMemory = errors.NoMemory
placed_error end (faults.Bad left) = errors.BadHFile (end - left)
