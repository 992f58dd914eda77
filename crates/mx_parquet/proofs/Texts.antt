-- What is read of an element.
use Rattle.std.proofs.Common.{◌≡◌, ℕ, Bool, true, false, List, Ok, Err, refl}
use Rattle.std.specs.Str.{IsUtf8, is_utf8}
use Rattle.std.proofs.lemmas.Str.{IsUtf8-from_is_utf8, is_utf8-from_IsUtf8}
use Rattle.mx_parquet.specs.declared.error.Flaw.TheVariants as flaws
use Rattle.mx_parquet.specs.Reading.{bytes_in}
use Rattle.mx_parquet.specs.Shape.{Struct}
use Rattle.mx_parquet.specs.Footer.{text_in}

pub text_is : (id : ℕ) (fields : Struct) (bytes : List ℕ) → bytes_in id fields ≡ Ok bytes → IsUtf8 bytes → text_in id fields ≡ Ok bytes
unfolding text_in
text_is id fields bytes e good = rw (e, is_utf8-from_IsUtf8 bytes good) refl

pub no_utf8 : (bytes : List ℕ) (b : Bool) → is_utf8 bytes ≡ b → (IsUtf8 bytes → ⊥) → is_utf8 bytes ≡ false
no_utf8 bytes true e wrong = absurd (wrong (IsUtf8-from_is_utf8 bytes e))
no_utf8 bytes false e wrong = e

pub text_is_none : (id : ℕ) (fields : Struct) (bytes : List ℕ) → bytes_in id fields ≡ Ok bytes → (IsUtf8 bytes → ⊥) → text_in id fields ≡ Err flaws.Bad
unfolding text_in
text_is_none id fields bytes e wrong = rw (e, no_utf8 bytes (is_utf8 bytes) refl wrong) refl
