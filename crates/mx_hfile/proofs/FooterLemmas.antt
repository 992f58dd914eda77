-- The parts of a file, each from its own bytes, are read as they were written.
use Rattle.std.proofs.Common.{◌≡◌, ℕ, ◌+◌, ◌-◌, ◌^◌, ◌<◌, ◌≤◌, true, eqb, ltb, ◌&&◌, List, [], ◌++◌, length, take, drop, Result, Ok, append_assoc, append-nil, length-append, refl, sym, ap, subst, ◌∙◌, arith}
use Rattle.std.specs.Int.{w32, w64}
use Rattle.std.specs.List.{AllByRecursion}
use Rattle.std.proofs.lemmas.Bool.{lt-ltb, eq-eqb}
use Rattle.std.proofs.lemmas.List.{length-take, length-drop}
use Rattle.std.proofs.Math.Seq.{drop-append_seam, take-append_seam}
use Rattle.mx_base.specs.declared.entry.Entry.{Entry}
use Rattle.mx_hfile.specs.declared.footer.Footer.{Footer}
use Rattle.mx_hfile.specs.Encoding.{RiseFrom, HasKey, number, trailer_magic, blocks_bytes, place_of, index, trailer, blocks_of, encoding}
use Rattle.mx_lists.specs.Reading.{◌>>=◌}
use Rattle.mx_hfile.specs.Decoding.{expected_in, number_in, placed, index_in, Trailer}
use Rattle.mx_hfile.specs.Ranges.{offset_alone_in, index_len_in, footer_in, loaded_in}
use Rattle.mx_hfile.specs.Found.{HaveFile, HasTrailer, footer_from, index_bytes, trailer_bytes, bytes_at, index_place, footer_of_file, places_of}
use Rattle.mx_lists.proofs.Codecs.{IsBytes-drop}
use Rattle.mx_hfile.proofs.FieldLemmas.{passing_again, wide32, wide64, number_codec, expected_again}
use Rattle.mx_hfile.proofs.TrailerLemmas.{zeros, trailer-parts, trailer_takes}
use Rattle.mx_hfile.proofs.DividingLemmas.{trailer-length, length-map, encoding-length, few_blocks}
use Rattle.mx_hfile.proofs.DivisionLemmas.{all, blocks_of-divides}
use Rattle.mx_hfile.proofs.PlaceLemmas.{AreGoodPlaces, index_again}
use Rattle.mx_hfile.proofs.FileLemmas.{same_file, places_good, few_entries, index_some}
use Rattle.mx_hfile.proofs.LoadLemmas.{loaded}
use Rattle.mx_hfile.proofs.DataLemmas.{both_true}

-- a trailer that has 64 bytes
abbrev footer_rest : List ℕ → Result Footer ℕ
footer_rest bytes =
    expected_in trailer_magic bytes >>= λ rest. expected_in (number w32 1) rest >>= λ rest. expected_in (number w32 0) rest
    >>= λ rest. offset_alone_in rest
    >>= λ offset. index_len_in offset.0 offset.1
    >>= λ len. number_in w64 len.1
    >>= λ entries. number_in w32 entries.1
    >>= λ blocks. expected_in (number w32 0) blocks.1
    >>= λ rest. expected_in zeros rest
    >>= λ rest. Ok (record { offset = offset.0; index_len = len.0; entry_count = entries.0; block_count = blocks.0 })

footer_again : (o m n k : ℕ) → 16 ≤ m → o + m + 64 ≤ 268_435_456 → n < 2 ^ 64 → k < 2 ^ 32 → footer_in (trailer o m n k) ≡ Ok (record { offset = o; index_len = m; entry_count = n; block_count = k })
unfolding footer_in
footer_again o m n k some le ln lk =
    let c64 = number_codec w64 (2 ^ 64) wide64 in
    let c32 = number_codec w32 (2 ^ 32) wide32 in
    let h : List ℕ = zeros ++ [] in
    let g : List ℕ = number w32 0 ++ h in
    let f : List ℕ = number w32 k ++ g in
    let e : List ℕ = number w64 n ++ f in
    let d : List ℕ = number w64 m ++ e in
    let len : eqb (length (trailer o m n k)) 64 ≡ true = eq-eqb (length (trailer o m n k)) 64 (trailer-length o m n k) in
    let offset : offset_alone_in (number w64 o ++ d) ≡ Ok (o, d) = passing_again (λ x. ltb x 268_435_377) (number_in w64) (number w64 o ++ d) (o, d) (c64.again o d (omega (arith, le))) (lt-ltb _ _ (omega (arith, le))) in
    let size : index_len_in o (number w64 m ++ e) ≡ Ok (m, e) =
    passing_again (λ x. ltb 15 x && ltb (o + x) 268_435_393) (number_in w64) (number w64 m ++ e) (m, e) (c64.again m e (omega (arith, le))) (both_true (ltb 15 m) (ltb (o + m) 268_435_393) (lt-ltb 15 m (omega (arith, some))) (lt-ltb (o + m) 268_435_393 (omega (arith, le)))) in
    rw len
    (ap footer_rest (sym (append-nil (trailer o m n k)) ∙ trailer-parts o m n k [])
    ∙ rw (expected_again trailer_magic (number w32 1 ++ (number w32 0 ++ (number w64 o ++ d))), expected_again (number w32 1) (number w32 0 ++ (number w64 o ++ d)), expected_again (number w32 0) (number w64 o ++ d), offset, size, c64.again n f ln, c32.again k g lk, expected_again (number w32 0) h, expected_again zeros []) refl)

-- ---- bytes whose trailer reads

pub footer_same : (bytes : List ℕ) (t : Trailer) → HasTrailer bytes t → footer_in (trailer_bytes bytes) ≡ Ok (footer_from (length bytes) t)
footer_same bytes t has =
    let len = length bytes in
    let some = has.some in
    let most = has.most in
    let tr = trailer_takes len (trailer_bytes bytes) t (IsBytes-drop (len - 64) bytes has.are) (omega (arith, length-drop (len - 64) bytes, some)) has.reads in
    let room = tr.room in
    ap footer_in tr.spelled ∙ footer_again t.offset (len - 64 - t.offset) t.entry_count t.block_count (omega (arith, room)) (omega (arith, room, some, most)) tr.entries tr.blocks

pub loaded_same : (bytes : List ℕ) (t : Trailer) → HasTrailer bytes t → loaded_in (trailer_bytes bytes) (index_bytes t bytes) ≡ placed (length bytes - 64) (index_in t.block_count t.offset (index_bytes t bytes))
unfolding loaded_in
loaded_same bytes t has =
    let len = length bytes in
    let some = has.some in
    let tr = trailer_takes len (trailer_bytes bytes) t (IsBytes-drop (len - 64) bytes has.are) (omega (arith, length-drop (len - 64) bytes, some)) has.reads in
    let room = tr.room in
    let is : length (index_bytes t bytes) ≡ len - 64 - t.offset = omega (arith, length-take (len - 64 - t.offset) (drop t.offset bytes), length-drop t.offset bytes, room) in
    let end : t.offset + length (index_bytes t bytes) ≡ len - 64 = omega (arith, is, room, some) in
    rw (footer_same bytes t has, eq-eqb (length (index_bytes t bytes)) (len - 64 - t.offset) is) (ap (λ (n : ℕ). placed n (index_in t.block_count t.offset (index_bytes t bytes))) end)

-- ---- the parts of a file

parts : (es : List Entry) → encoding es ≡ blocks_bytes (blocks_of es) ++ index (places_of es) ++ trailer (index_place es).0 (index_place es).1 (length es) (length (blocks_of es))
parts es = sym (same_file es (blocks_of es) refl)

pub trailer-part : (es : List Entry) → trailer_bytes (encoding es) ≡ trailer (index_place es).0 (index_place es).1 (length es) (length (blocks_of es))
trailer-part es =
    let data' = blocks_bytes (blocks_of es) in
    let places = index (places_of es) in
    let end = trailer (index_place es).0 (index_place es).1 (length es) (length (blocks_of es)) in
    let at : length (encoding es) - 64 ≡ length (data' ++ places) = omega (arith, encoding-length es, length-append data' places) in
    ap (λ (n : ℕ). drop n (encoding es)) at ∙ ap (drop (length (data' ++ places))) (parts es) ∙ drop-append_seam (data' ++ places) end

pub index-part : (es : List Entry) → bytes_at (index_place es) (encoding es) ≡ index (places_of es)
index-part es =
    let data' = blocks_bytes (blocks_of es) in
    let places = index (places_of es) in
    let end = trailer (index_place es).0 (index_place es).1 (length es) (length (blocks_of es)) in
    ap (λ (x : List ℕ). take (length places) (drop (length data') x)) (parts es ∙ append_assoc data' places end)
    ∙ ap (take (length places)) (drop-append_seam data' (places ++ end)) ∙ take-append_seam places end

-- the bytes of the blocks stand in front
pub data-part : (es : List Entry) → encoding es ≡ blocks_bytes (blocks_of es) ++ (index (places_of es) ++ trailer (index_place es).0 (index_place es).1 (length es) (length (blocks_of es)))
data-part es = parts es ∙ append_assoc (blocks_bytes (blocks_of es)) (index (places_of es)) (trailer (index_place es).0 (index_place es).1 (length es) (length (blocks_of es)))

pub good_places : (es : List Entry) → HaveFile es → AreGoodPlaces 0 (length (blocks_bytes (blocks_of es))) [] (places_of es)
good_places es have =
    let d = blocks_of-divides es in
    let sum = encoding-length es in
    let le = have.len in
    let rise : RiseFrom [] (all (blocks_of es)) = subst (RiseFrom []) (sym d.whole) have.are.rising in
    let keys : AllByRecursion HasKey (all (blocks_of es)) = subst (AllByRecursion HasKey) (sym d.whole) have.are.each in
    places_good 0 (length (blocks_bytes (blocks_of es))) [] (blocks_of es) (omega arith) (omega (arith, sum, le)) d.are rise keys

pub footer_is : (es : List Entry) → HaveFile es → footer_in (trailer_bytes (encoding es)) ≡ Ok (footer_of_file es)
footer_is es have =
    let d = blocks_of-divides es in
    let sum = encoding-length es in
    let le = have.len in
    let count : length es ≤ length (blocks_bytes (blocks_of es)) = omega (arith, few_entries (blocks_of es), ap (λ (x : List Entry). length x) d.whole) in
    let blocks = few_blocks (blocks_of es) in
    ap footer_in (trailer-part es) ∙ footer_again (index_place es).0 (index_place es).1 (length es) (length (blocks_of es)) (index_some (places_of es)) (omega (arith, sum, le)) (omega (arith, count, sum, le)) (omega (arith, blocks, sum, le))

pub loaded_is : (es : List Entry) → HaveFile es → loaded_in (trailer_bytes (encoding es)) (bytes_at (index_place es) (encoding es)) ≡ Ok (places_of es)
loaded_is es have =
    let end = length (blocks_bytes (blocks_of es)) in
    let read : index_in (length (blocks_of es)) end (bytes_at (index_place es) (encoding es)) ≡ Ok (places_of es) =
    ap (index_in (length (blocks_of es)) end) (index-part es) ∙ ap (λ (n : ℕ). index_in n end (index (places_of es))) (sym (length-map place_of (blocks_of es))) ∙ index_again end (places_of es) (good_places es have) in
    loaded (footer_of_file es) (trailer_bytes (encoding es)) (bytes_at (index_place es) (encoding es)) (places_of es) (footer_is es have) (ap length (index-part es)) read
