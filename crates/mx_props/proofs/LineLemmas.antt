-- What stands in front of bytes where a line does.
use Rattle.std.proofs.Common.{◌≡◌, ◌≢◌, ℕ, ◌<◌, Bool, true, false, List, [], ◌∷◌, ◌++◌, length, refl, sym, ◌∙◌, ap, subst, arith, Option}
use Rattle.std.specs.Prelude.{codes, ◌==◌, ◌&&◌, not, nat_lt}
use Rattle.std.specs.Option.{option_to_list}
use Rattle.std.proofs.lemmas.Bool.Decides.{nat_tests, Decides-eqb}
use Rattle.mx_base.specs.declared.part.Part.{Part}
use Rattle.mx_schema.specs.declared.column.Column.{Column}
use Rattle.mx_schema.specs.Columns.{schema_text, IsSchema}
use Rattle.mx_schema.proofs.ColumnLemmas.{list_all-weaker}
use Rattle.mx_schema.proofs.SchemaBytes.{is_schema_byte, schema_bytes}
use Rattle.mx_props.specs.Config.{parts_text, AreAvailable, IsApart, available_line, building_line, schema_line}
use Rattle.mx_props.specs.Reading.{is_plain_byte, IsPlain, IsOneLine}
use Rattle.mx_props.proofs.PartLemmas.{parts_plain, parts_text-injective, one_text-injective}
use Rattle.mx_props.proofs.Texts.{line_shape, same_value}

-- ---- schemas are plain

not_high : (x : ℕ) → is_schema_byte x ≡ true → x < 128
not_high x h = grind (arith, nat_tests)

not_newline : (x : ℕ) (b : Bool) → is_schema_byte x ≡ true → (x == 10) ≡ b → not b ≡ true
not_newline x false h e = refl
not_newline x true h e = let same : x ≡ 10 = (Decides-eqb x 10).0 e in let wrong : is_schema_byte 10 ≡ true = subst (λ (v : ℕ). is_schema_byte v ≡ true) same h in absurd (cc wrong)

plain_byte : (x : ℕ) → is_schema_byte x ≡ true → is_plain_byte x ≡ true
plain_byte x h = let small : x < 128 = not_high x h in let low : nat_lt x 128 ≡ true = grind (arith, nat_tests) in ap (λ (b : Bool). b && not (x == 10)) low ∙ not_newline x (x == 10) h refl

pub schema_plain : (schema : List Column) → IsSchema schema → IsPlain (schema_text schema)
schema_plain schema is = list_all-weaker is_schema_byte is_plain_byte plain_byte (schema_text schema) (schema_bytes schema is)

-- ---- the first line

available_shape : (parts : List Part) (rest : List ℕ) → available_line parts ++ rest ≡ codes "hoodie.table.metadata.partitions=" ++ (parts_text parts ++ 10 ∷ rest)
unfolding available_line
available_shape parts rest = line_shape (codes "hoodie.table.metadata.partitions=") (parts_text parts) rest

pub available_none : (bytes : List ℕ) → ((value rest : List ℕ) → IsPlain value → bytes ≢ codes "hoodie.table.metadata.partitions=" ++ (value ++ 10 ∷ rest)) → (parts : List Part) (rest : List ℕ) → AreAvailable parts → bytes ≢ available_line parts ++ rest
available_none bytes none parts rest is e = none (parts_text parts) rest (parts_plain parts) (e ∙ available_shape parts rest)

pub available_other : (bytes value left : List ℕ) → IsOneLine value × (bytes ≡ codes "hoodie.table.metadata.partitions=" ++ (value ++ 10 ∷ left)) → ((parts : List Part) → AreAvailable parts → value ≢ parts_text parts) → (parts : List Part) (rest : List ℕ) → AreAvailable parts → bytes ≢ available_line parts ++ rest
available_other bytes value left found none parts rest is e =
    none parts is (same_value bytes (codes "hoodie.table.metadata.partitions=") value left (parts_text parts) rest found.1 found.0 (parts_plain parts) (e ∙ available_shape parts rest))

pub available_found : (bytes value left : List ℕ) (parts : List Part) → bytes ≡ codes "hoodie.table.metadata.partitions=" ++ (value ++ 10 ∷ left) → value ≡ parts_text parts → bytes ≡ available_line parts ++ left
available_found bytes value left parts e is = e ∙ ap (λ (v : List ℕ). codes "hoodie.table.metadata.partitions=" ++ (v ++ 10 ∷ left)) is ∙ sym (available_shape parts left)

pub available_some : (parts : List Part) → AreAvailable parts → 0 < length parts
available_some [] is = absurd (cc is.files)
available_some (part ∷ parts) is = omega arith

-- parts that are listed and not available
pub unavailable : (value : List ℕ) (found : List Part) → (0 < length found) × (value ≡ parts_text found) → ¬ (AreAvailable found) → (parts : List Part) → AreAvailable parts → value ≢ parts_text parts
unavailable value found is none parts are e = none (subst AreAvailable (parts_text-injective parts found (available_some parts are) is.0 (sym e ∙ is.1)) are)

-- ---- the second line

building_shape : (building : Option Part) (rest : List ℕ) → building_line building ++ rest ≡ codes "hoodie.table.metadata.partitions.inflight=" ++ (parts_text (option_to_list building) ++ 10 ∷ rest)
unfolding building_line
building_shape building rest = line_shape (codes "hoodie.table.metadata.partitions.inflight=") (parts_text (option_to_list building)) rest

pub building_none : (bytes : List ℕ) (available : List Part) → ((value rest : List ℕ) → IsPlain value → bytes ≢ codes "hoodie.table.metadata.partitions.inflight=" ++ (value ++ 10 ∷ rest)) → (building : Option Part) (rest : List ℕ) → IsApart available building → bytes ≢ building_line building ++ rest
building_none bytes available none building rest is e = none (parts_text (option_to_list building)) rest (parts_plain (option_to_list building)) (e ∙ building_shape building rest)

pub building_other : (bytes value left : List ℕ) (available : List Part) → IsOneLine value × (bytes ≡ codes "hoodie.table.metadata.partitions.inflight=" ++ (value ++ 10 ∷ left)) → ((building : Option Part) → IsApart available building → value ≢ parts_text (option_to_list building)) → (building : Option Part) (rest : List ℕ) → IsApart available building → bytes ≢ building_line building ++ rest
building_other bytes value left available found none building rest is e =
    none building is (same_value bytes (codes "hoodie.table.metadata.partitions.inflight=") value left (parts_text (option_to_list building)) rest found.1 found.0 (parts_plain (option_to_list building)) (e ∙ building_shape building rest))

pub building_found : (bytes value left : List ℕ) (building : Option Part) → bytes ≡ codes "hoodie.table.metadata.partitions.inflight=" ++ (value ++ 10 ∷ left) → value ≡ parts_text (option_to_list building) → bytes ≡ building_line building ++ left
building_found bytes value left building e is = e ∙ ap (λ (v : List ℕ). codes "hoodie.table.metadata.partitions.inflight=" ++ (v ++ 10 ∷ left)) is ∙ sym (building_shape building left)

pub not_apart : (value : List ℕ) (available : List Part) (found : Option Part) → value ≡ parts_text (option_to_list found) → ¬ (IsApart available found) → (building : Option Part) → IsApart available building → value ≢ parts_text (option_to_list building)
not_apart value available found is none building apart e = none (subst (IsApart available) (one_text-injective building found (sym e ∙ is)) apart)

-- ---- the fourth line

schema_shape : (schema : List Column) (rest : List ℕ) → schema_line schema ++ rest ≡ codes "mdt.schema=" ++ (schema_text schema ++ 10 ∷ rest)
unfolding schema_line
schema_shape schema rest = line_shape (codes "mdt.schema=") (schema_text schema) rest

pub schema_none : (bytes : List ℕ) → ((value rest : List ℕ) → IsPlain value → bytes ≢ codes "mdt.schema=" ++ (value ++ 10 ∷ rest)) → (schema : List Column) (rest : List ℕ) → IsSchema schema → bytes ≢ schema_line schema ++ rest
schema_none bytes none schema rest is e = none (schema_text schema) rest (schema_plain schema is) (e ∙ schema_shape schema rest)

pub schema_other : (bytes value left : List ℕ) → IsOneLine value × (bytes ≡ codes "mdt.schema=" ++ (value ++ 10 ∷ left)) → ((schema : List Column) → IsSchema schema → value ≢ schema_text schema) → (schema : List Column) (rest : List ℕ) → IsSchema schema → bytes ≢ schema_line schema ++ rest
schema_other bytes value left found none schema rest is e =
    none schema is (same_value bytes (codes "mdt.schema=") value left (schema_text schema) rest found.1 found.0 (schema_plain schema is) (e ∙ schema_shape schema rest))

pub schema_found : (bytes value left : List ℕ) (schema : List Column) → bytes ≡ codes "mdt.schema=" ++ (value ++ 10 ∷ left) → value ≡ schema_text schema → bytes ≡ schema_line schema ++ left
schema_found bytes value left schema e is = e ∙ ap (λ (v : List ℕ). codes "mdt.schema=" ++ (v ++ 10 ∷ left)) is ∙ sym (schema_shape schema left)
