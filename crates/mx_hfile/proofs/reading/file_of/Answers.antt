use Rattle.std.proofs.Common.{rules, ◌≡◌, ◌-◌, length, map, take, drop, arith, sym, ap, subst, ◌∙◌, [], List, ℕ, eqb, false, true}
use Rattle.std.proofs.lemmas.Bool.{eq-eqb}
use Rattle.std.proofs.lemmas.Bool.Decides.{nat_tests}
use Rattle.std.proofs.lemmas.Result.{err_from_is_err_and}
use Rattle.mx_lists.specs.Reading.{Fails}
use Rattle.mx_hfile.specs.Decoding.{HasCause, trailer_in, index_in, blocks_in}
use Rattle.mx_hfile.specs.Seen.{seen, said}
use Rattle.mx_lists.proofs.Codecs.{IsBytes, IsBytes-take, IsBytes-drop}
use Rattle.mx_hfile.proofs.PlaceLemmas.{index_takes, covers}
use Rattle.mx_hfile.proofs.FileSteps.{bad_len, bad_trailer, bad_index, bad_data, file_in-data, counted_data, index_bytes}
use Rattle.mx_hfile.proofs.reading.file_of.Goals as goal

pub returns-then-not-is_length-clause-read : goal.returns-then-not-is_length-clause-read
returns-then-not-is_length-clause-read c = bad_len c.args.bytes.now (c.is_length.ensures.else_not (search rules))

pub returns-in-Err-clause-read : goal.returns-in-Err-clause-read
returns-in-Err-clause-read c =
    let bytes = c.args.bytes.now in
    let range = c.is_length.ensures.fits (search rules) in
    rw c.before-in-Err.ensures.place (bad_trailer c.in-Err.fault bytes range.0 range.1 (subst (λ (b : List ℕ). Fails c.in-Err.fault (trailer_in (length bytes) b)) c.split_at.ensures.back c.in-Err.ensures.read))

pub returns-in-Err-index_of-clause-read : goal.returns-in-Err-index_of-clause-read
returns-in-Err-index_of-clause-read c =
    let bytes = c.args.bytes.now in
    let range = c.is_length.ensures.fits (search rules) in
    let t = said c.in-Ok.trailer in
    let trailer = ap (trailer_in (length bytes)) (sym c.split_at.ensures.back) ∙ c.in-Ok.ensures.read in
    let index : c.split_at-3.result.0.now ≡ index_bytes bytes t = c.split_at-3.ensures.front ∙ ap (take (length bytes - 64 - t.offset)) c.split_at-2.ensures.back in
    rw c.before-in-Err-index_of.ensures.place (bad_index c.in-Err-index_of.fault bytes t range.0 range.1 trailer (subst (λ (b : List ℕ). Fails c.in-Err-index_of.fault (index_in t.block_count t.offset b)) index c.in-Err-index_of.ensures))

pub entries_of-requires : goal.entries_of-requires
entries_of-requires c =
    let t = said c.in-Ok.trailer in
    let fits : IsBytes c.args.bytes.now = λ i. omega (arith, c.type_inv.bytes i) in
    let index : c.split_at-3.result.0.now ≡ index_bytes c.args.bytes.now t = c.split_at-3.ensures.front ∙ ap (take (length c.args.bytes.now - 64 - t.offset)) c.split_at-2.ensures.back in
    let index-fits : IsBytes c.split_at-3.result.0.now = subst IsBytes (sym index) (IsBytes-take (length c.args.bytes.now - 64 - t.offset) (drop t.offset c.args.bytes.now) (IsBytes-drop t.offset c.args.bytes.now fits)) in
    let places = map seen c.in-Ok-index_of.listings.items in
    let good = index_takes t.block_count t.offset c.split_at-3.result.0.now places index-fits c.in-Ok-index_of.ensures in
    let len : length c.split_at-2.result.0.now ≡ t.offset - 0 = omega (arith, c.split_at-2.ensures.front_len) in
    rw (c.deref.ensures.value, len) (covers 0 t.offset [] places good.1.1)

pub returns-in_err-entries-clause-read : goal.returns-in_err-entries-clause-read
returns-in_err-entries-clause-read c =
    let bytes = c.args.bytes.now in
    let range = c.is_length.ensures.fits (search rules) in
    let t = said c.in-Ok.trailer in
    let places = map seen c.in-Ok-index_of.listings.items in
    let trailer = ap (trailer_in (length bytes)) (sym c.split_at.ensures.back) ∙ c.in-Ok.ensures.read in
    let index : c.split_at-3.result.0.now ≡ index_bytes bytes t = c.split_at-3.ensures.front ∙ ap (take (length bytes - 64 - t.offset)) c.split_at-2.ensures.back in
    let read = ap (index_in t.block_count t.offset) (sym index) ∙ c.in-Ok-index_of.ensures in
    let whole = file_in-data bytes t places range.0 range.1 trailer read in
    let p = err_from_is_err_and c.from_residual.result c.from_residual.ensures.1 in
    let cause = subst (λ (b : List ℕ). HasCause c.in_err-entries.field-0.0 (blocks_in [] 0 places b)) c.split_at-2.ensures.front (rw c.deref.ensures.value at c.in_err-entries.ensures.read) in
    rw (p.1, p.2, whole) (bad_data c.in_err-entries.field-0.0 bytes t places cause)

pub returns-then-len-trailer-clause-read : goal.returns-then-len-trailer-clause-read
returns-then-len-trailer-clause-read c =
    let bytes = c.args.bytes.now in
    let range = c.is_length.ensures.fits (search rules) in
    let t = said c.in-Ok.trailer in
    let places = map seen c.in-Ok-index_of.listings.items in
    let trailer = ap (trailer_in (length bytes)) (sym c.split_at.ensures.back) ∙ c.in-Ok.ensures.read in
    let index : c.split_at-3.result.0.now ≡ index_bytes bytes t = c.split_at-3.ensures.front ∙ ap (take (length bytes - 64 - t.offset)) c.split_at-2.ensures.back in
    let read = ap (index_in t.block_count t.offset) (sym index) ∙ c.in-Ok-index_of.ensures in
    let whole = file_in-data bytes t places range.0 range.1 trailer read in
    let blocks = ap (blocks_in [] 0 places) (sym c.split_at-2.ensures.front) ∙ (rw c.deref.ensures.value at c.in_ok-entries.ensures.read) in
    let ne : eqb (length c.in_ok-entries.entries.items) t.entry_count ≡ false = grind (arith, nat_tests) in
    whole ∙ counted_data bytes t places c.in_ok-entries.entries.items false blocks ne

pub returns-clause-read : goal.returns-clause-read
returns-clause-read c =
    let bytes = c.args.bytes.now in
    let range = c.is_length.ensures.fits (search rules) in
    let t = said c.in-Ok.trailer in
    let places = map seen c.in-Ok-index_of.listings.items in
    let trailer = ap (trailer_in (length bytes)) (sym c.split_at.ensures.back) ∙ c.in-Ok.ensures.read in
    let index : c.split_at-3.result.0.now ≡ index_bytes bytes t = c.split_at-3.ensures.front ∙ ap (take (length bytes - 64 - t.offset)) c.split_at-2.ensures.back in
    let read = ap (index_in t.block_count t.offset) (sym index) ∙ c.in-Ok-index_of.ensures in
    let whole = file_in-data bytes t places range.0 range.1 trailer read in
    let blocks = ap (blocks_in [] 0 places) (sym c.split_at-2.ensures.front) ∙ (rw c.deref.ensures.value at c.in_ok-entries.ensures.read) in
    let is : eqb (length c.in_ok-entries.entries.items) t.entry_count ≡ true = eq-eqb _ _ (omega arith) in
    whole ∙ counted_data bytes t places c.in_ok-entries.entries.items true blocks is
