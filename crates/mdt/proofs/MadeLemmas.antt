-- What the making of a table leaves of the journal, and which command words are.
use Rattle.std.proofs.Common.{◌≡◌, ℕ, zero, suc, List, [], ◌++◌, take, Option, Some, None, refl, sym, ◌∙◌, ap, subst}
use Rattle.std.specs.Prelude.{Result, Ok, Err}
use Rattle.std.proofs.lemmas.List.{append-nil}
use Rattle.mx_base.specs.Objects.{object_path}
use Rattle.mx_base.specs.declared.object_name.ObjectName.TheVariants.{Config}
use Rattle.mx_schema.specs.declared.column.Column.{Column}
use Rattle.mx_store.specs.declared.change.Change.{Change}
use Rattle.mx_store.specs.Objects.{Objects, objects_of}
use Rattle.mx_store.proofs.Longer.{EachSince-start}
use Rattle.mx_folder.specs.Folder.{IsValidTable}
use Rattle.mx_folder.specs.Begin.{init_changes}
use Rattle.mx_folder.proofs.NamedLemmas.{object_at-none, some_or_none}
use Rattle.mx_world.specs.State.{StaysValid}
use Rattle.mx_open.specs.Init.{HoldsNothing, Inits, MadeFront, WasEmpty, with_changes}
use Rattle.mx_open.specs.declared.error.InitError.{InitError}
use Rattle.mdt.specs.declared.words.Command.{Command}
use Rattle.mdt.specs.declared.words.Command.TheVariants.{Init, Serve}
use Rattle.mx_open.specs.declared.error.InitError.TheVariants as init

valid_same : (before after : Option (List Change)) → after ≡ before → StaysValid before after
valid_same None after same = same
valid_same (Some j) after same = subst (StaysValid (Some j)) (sym same) (λ valid. EachSince-start IsValidTable j valid)

-- where nothing stands, there is no table
no_table : (o : Objects) → HoldsNothing o → ¬ (IsValidTable o)
no_table o nothing valid = some_or_none _ valid.opens.config (object_at-none o Config (nothing (object_path Config)))

valid_nothing : (before after : Option (List Change)) (changes : List Change) → WasEmpty before → after ≡ with_changes before changes → StaysValid before after
valid_nothing None after changes empty is = is
valid_nothing (Some j) after changes empty is = subst (StaysValid (Some j)) (sym is) (λ valid. absurd (no_table (objects_of j) empty valid))

-- ---- a table that is made

no_changes : (before : Option (List Change)) → with_changes before [] ≡ before
no_changes None = refl
no_changes (Some j) = ap (λ (l : List Change). Some l) (append-nil j)

front_valid : (changes : List Change) (before after : Option (List Change)) → MadeFront changes before after → StaysValid before after
front_valid changes before after front = by_count front.count refl
  where
    by_count : (n : ℕ) → front.count ≡ n → StaysValid before after
    by_count zero none = valid_same before after (front.made ∙ ap (λ (k : ℕ). with_changes before (take k changes)) none ∙ no_changes before)
    by_count (suc n) some = valid_nothing before after (take front.count changes) (front.empty (λ zero_is. absurd (cc (sym some ∙ zero_is)))) front.made

pub valid_made : (schema : List Column) (before after : Option (List Change)) (made : Result Unit InitError) → Inits schema before after made → StaysValid before after
valid_made schema before after (Ok done) inits = valid_nothing before after (init_changes schema) inits.0 inits.1
valid_made schema None after (Err (init.NotEmpty path)) inits = inits
valid_made schema (Some j) after (Err (init.NotEmpty path)) inits = valid_same (Some j) after inits.1
valid_made schema before after (Err init.StoreFault) inits = front_valid (init_changes schema) before after inits
valid_made schema before after (Err init.NoMemory) inits = front_valid (init_changes schema) before after inits

-- ---- the command of the words

schema_or : List Column → Option Command → List Column
schema_or otherwise None = otherwise
schema_or otherwise (Some (Init schema)) = schema
schema_or otherwise (Some Serve) = otherwise

-- the words are those of no other schema
pub init_same : (schema other : List Column) → ◌≡◌ {A = Option Command} (Some (Init schema)) (Some (Init other)) → schema ≡ other
unfolding schema_or
init_same schema other is = ap (schema_or schema) is

pub never_some : (command : Command) → ◌≡◌ {A = Option Command} None (Some command) → ⊥
never_some command is = absurd (cc is)
