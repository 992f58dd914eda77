use Rattle.std.proofs.Common.{◌≡◌, List, ℕ, Bool, true, false, length, Ok, Err, refl}
use Rattle.std.proofs.lemmas.Str.{is_utf8-from_IsUtf8, IsUtf8-from_is_utf8}
use Rattle.std.specs.Str.{is_utf8, IsUtf8}
use Rattle.mx_payload.specs.Decoding.{text_in, bytes_in}

pub reads_text : (bytes text rest : List ℕ) → bytes_in bytes ≡ Ok (text, rest) → IsUtf8 text → text_in bytes ≡ Ok (text, rest)
unfolding text_in
reads_text bytes text rest e u = let t = is_utf8-from_IsUtf8 text u in rw (e, t) refl

no_text : (b : Bool) (text : List ℕ) → is_utf8 text ≡ b → (IsUtf8 text → ⊥) → b ≡ false
no_text true text e no_utf8 = absurd (no_utf8 (IsUtf8-from_is_utf8 text e))
no_text false text e no_utf8 = refl

pub refuses_text : (bytes text rest : List ℕ) → bytes_in bytes ≡ Ok (text, rest) → (IsUtf8 text → ⊥) → text_in bytes ≡ Err (length bytes)
unfolding text_in
refuses_text bytes text rest e u = let t = no_text (is_utf8 text) text refl u in rw (e, t) refl
