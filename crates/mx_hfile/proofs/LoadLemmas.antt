-- The trailer and the index block are read one after the other.
use Rattle.std.proofs.Common.{◌≡◌, ℕ, ◌+◌, ◌-◌, ◌^◌, ◌<◌, ◌≤◌, false, eqb, List, [], length, map, Ok, Err, refl, sym, ap, subst, arith}
use Rattle.std.proofs.lemmas.Bool.{eq-eqb}
use Rattle.mx_lists.specs.declared.fault.Fault.{Fault}
use Rattle.mx_lists.specs.declared.fault.Fault.TheVariants as faults
use Rattle.mx_hfile.specs.declared.footer.Footer.{Footer}
use Rattle.mx_hfile.specs.declared.loading.Held.{Held}
use Rattle.mx_hfile.specs.Encoding.{Place}
use Rattle.mx_lists.specs.Reading.{Fails}
use Rattle.mx_hfile.specs.Decoding.{index_in}
use Rattle.mx_hfile.specs.Seen.{placed_error}
use Rattle.mx_hfile.specs.Ranges.{Reads, footer_in, loaded_in, KeysRise}
use Rattle.mx_hfile.specs.Held.{held_place, Follow, IsIndex}
use Rattle.mx_hfile.proofs.PlaceLemmas.{AreGoodPlaces, covers}
use Rattle.mx_hfile.proofs.DividingLemmas.{length-map}
use Rattle.mx_hfile.proofs.HeldLemmas.{total, covers-total, good_keys}

pub bad_footer : (x : Fault) (trailer bytes : List ℕ) → Fails x (footer_in trailer) → Reads (loaded_in trailer bytes) (Err (placed_error (length trailer) x))
unfolding loaded_in
bad_footer faults.NoMemory trailer bytes f = tt
bad_footer (faults.Bad left) trailer bytes f = rw f refl

pub bad_index_len : (footer : Footer) (trailer bytes : List ℕ) → footer_in trailer ≡ Ok footer → eqb (length bytes) footer.index_len ≡ false → loaded_in trailer bytes ≡ Err footer.offset
unfolding loaded_in
bad_index_len footer trailer bytes f ne =
    let at : footer.offset + length bytes - length bytes ≡ footer.offset = omega arith in
    rw (f, ne) (ap (λ (n : ℕ). Err n) at)

pub bad_index_alone : (x : Fault) (footer : Footer) (trailer bytes : List ℕ) → footer_in trailer ≡ Ok footer → length bytes ≡ footer.index_len → Fails x (index_in footer.block_count footer.offset bytes)
    → Reads (loaded_in trailer bytes) (Err (placed_error (footer.offset + length bytes) x))
unfolding loaded_in
bad_index_alone faults.NoMemory footer trailer bytes f is g = tt
bad_index_alone (faults.Bad left) footer trailer bytes f is g = rw (f, eq-eqb (length bytes) footer.index_len is, g) refl

pub loaded : (footer : Footer) (trailer bytes : List ℕ) (ps : List Place) → footer_in trailer ≡ Ok footer → length bytes ≡ footer.index_len → index_in footer.block_count footer.offset bytes ≡ Ok ps → loaded_in trailer bytes ≡ Ok ps
unfolding loaded_in
loaded footer trailer bytes ps f is g = rw (f, eq-eqb (length bytes) footer.index_len is, g) refl

pub good-total : (end : ℕ) (ps : List Place) → AreGoodPlaces 0 end [] ps → total ps ≡ end
good-total end ps good = omega (arith, covers-total (end - 0) ps (covers 0 end [] ps good))

pub is_index : (end blocks : ℕ) (ps : List Place) (held : List Held) → AreGoodPlaces 0 end [] ps → end + 80 ≤ 268_435_456 → length ps ≡ blocks → blocks < 2 ^ 32 → map held_place held ≡ ps → Follow 0 held → IsIndex held
is_index end blocks ps held good room count lt is follow =
    record {
      follow = follow;
      keys = subst (KeysRise []) (sym is) (good_keys 0 end [] ps good);
      few = omega (arith, count, lt, ap length is, length-map held_place held);
      room = omega (arith, room, good-total end ps good, ap total is);
    }
