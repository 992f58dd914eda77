-- The words of a command.
use Rattle.std.specs.Prelude.{◌≡◌, String, List, [], ◌∷◌, Bool, true, false, codes, string_bytes, ℕ, Option, Some, None, if◌then◌else◌}
use Rattle.std.specs.Str.{bytes_eq}
use Rattle.mx_schema.specs.Columns.{IsSchema, schema_text}
use Rattle.mdt.specs.declared.words.Command.{Command}
use Rattle.mdt.specs.declared.words.Command.TheVariants.{Init, Serve}

-- `serve` and a folder
abbrev pub is_serve : {A : Type 0} → List (String A) → Bool
is_serve (command ∷ folder ∷ []) = bytes_eq (string_bytes command) (codes "serve")
is_serve (command ∷ folder ∷ word ∷ words) = false
is_serve (command ∷ []) = false
is_serve [] = false

-- what stands behind `init` and a folder
abbrev pub schema_word : {A : Type 0} → List (String A) → Option (List ℕ)
schema_word (command ∷ folder ∷ schema ∷ []) = if bytes_eq (string_bytes command) (codes "init") then Some (string_bytes schema) else None
schema_word (command ∷ folder ∷ schema ∷ word ∷ words) = None
schema_word (command ∷ folder ∷ []) = None
schema_word (command ∷ []) = None
schema_word [] = None

-- the words are those of the command: `init`, a folder and the text of a schema, or `serve` and a folder
abbrev pub IsCommand : {A : Type 0} → List (String A) → Command → Type 0
IsCommand words (Init schema) = IsSchema schema × (schema_word words ≡ Some (schema_text schema))
IsCommand words Serve = is_serve words ≡ true

-- ---- for private clauses

-- it makes a table of the schema that has this text
abbrev pub IsInitOf : List ℕ → Command → Type 0
IsInitOf text (Init schema) = IsSchema schema × (text ≡ schema_text schema)
IsInitOf text Serve = ⊥
