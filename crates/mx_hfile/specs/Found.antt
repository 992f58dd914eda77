-- What a look-up by ranges finds of a file.
use Rattle.std.specs.Prelude.{◌≡◌, ℕ, ◌-◌, ◌<◌, ◌≤◌, List, length, take, drop, map, Option, option_map, Result, Ok, slice_index, find}
use Rattle.mx_base.specs.declared.entry.Entry.{Entry}
use Rattle.mx_hfile.specs.declared.footer.Footer.{Footer}
use Rattle.mx_hfile.specs.Encoding.{AreEntries, blocks_bytes, Place, place_of, index, blocks_of, encoding}
use Rattle.mx_lists.specs.Reading.{◌>>=◌}
use Rattle.mx_hfile.specs.Decoding.{is_same, Trailer, trailer_in}
use Rattle.mx_hfile.specs.Ranges.{search_in}

-- entries that have a file
pub record HaveFile (entries : List Entry) : Type 0 where
  pub are : AreEntries entries
  pub len : length (encoding entries) ≤ 268_435_456

-- the bytes of a place, of which it has the start and the length
abbrev pub bytes_at : ℕ × ℕ → List ℕ → List ℕ
bytes_at place bytes = take place.1 (drop place.0 bytes)

-- the last 64 bytes of a file
abbrev pub trailer_bytes : List ℕ → List ℕ
trailer_bytes bytes = drop (length bytes - 64) bytes

-- what the trailer of a file of a length says, with the length of the index block
abbrev pub footer_from : ℕ → Trailer → Footer
footer_from len t = record { offset = t.offset; index_len = len - 64 - t.offset; entry_count = t.entry_count; block_count = t.block_count }

-- the index block of a file, which is what stands between the data and the trailer
abbrev pub index_bytes : Trailer → List ℕ → List ℕ
index_bytes t bytes = bytes_at (t.offset, length bytes - 64 - t.offset) bytes

-- bytes of a length that a file can have, whose trailer reads
pub record HasTrailer (bytes : List ℕ) (t : Trailer) : Type 0 where
  pub are : (i : ℕ) → slice_index bytes i < 256
  pub some : 80 ≤ length bytes
  pub most : length bytes ≤ 268_435_456
  pub reads : trailer_in (length bytes) (trailer_bytes bytes) ≡ Ok t

-- the index block of the file of these entries: its start and its length
abbrev pub index_place : List Entry → ℕ × ℕ
index_place entries = (length (blocks_bytes (blocks_of entries)), length (index (map place_of (blocks_of entries))))

-- what the trailer of the file of these entries says
abbrev pub footer_of_file : List Entry → Footer
footer_of_file entries = record { offset = (index_place entries).0; index_len = (index_place entries).1; entry_count = length entries; block_count = length (blocks_of entries) }

-- what the index says of the blocks of these entries
abbrev pub places_of : List Entry → List Place
places_of entries = map place_of (blocks_of entries)

-- the bytes from a start to an end
abbrev pub bytes_between : List ℕ → ℕ × ℕ → List ℕ
bytes_between bytes place = take (place.1 - place.0) (drop place.0 bytes)

-- the value of a key among entries
abbrev pub value_of : List ℕ → List Entry → Option (List ℕ)
value_of key entries = option_map (λ e. e.value) (find (λ e. is_same e.key key) entries)

-- the value that a search finds in a block
abbrev pub found_in : List ℕ → List ℕ → Result (Option (List ℕ)) ℕ
found_in key block = search_in key block >>= λ found. Ok (option_map (bytes_between block) found)
