use Rattle.std.proofs.Common.{◌≡◌, ◌⊎◌, inl, List, Option, Some, sym, subst, ap, ◌∙◌}
use Rattle.mx_schema.specs.declared.column.Column.{Column}
use Rattle.mx_store.specs.declared.change.Change.{Change}
use Rattle.mx_world.specs.State.{StaysValid}
use Rattle.mdt.specs.Ends.{MakesTable}
use Rattle.mdt.specs.declared.words.Command.{Command}
use Rattle.mdt.specs.declared.words.Command.TheVariants.{Init, Serve}
use Rattle.mdt.proofs.MadeLemmas.{init_same, never_some, valid_made}
use Rattle.mdt.proofs.command.command.Goals as goal

pub returns-in-Ok-Some-Init-clause-valid : goal.returns-in-Ok-Some-Init-clause-valid
returns-in-Ok-Some-Init-clause-valid g c =
    let makes = c.make_table.ensures.makes in
    subst (λ (o : Option (List Change)). StaysValid o (g.S.Store.journal c.make_table.result.store)) (sym c.requires.opening) (valid_made c.in-Ok-Some-Init.schema (g.S.Store.journal c.args.store) (g.S.Store.journal c.make_table.result.store) makes.made makes.inits)

pub returns-in-Ok-Some-Init-clause-init : goal.returns-in-Ok-Some-Init-clause-init
returns-in-Ok-Some-Init-clause-init g c other is =
    inl (subst (λ (o : Option (List Change)). MakesTable other o (g.S.Store.journal c.make_table.result.store) c.make_table.result.status) (sym c.requires.opening)
    (subst (λ (schema : List Column). MakesTable schema (g.S.Store.journal c.args.store) (g.S.Store.journal c.make_table.result.store) c.make_table.result.status) (init_same c.in-Ok-Some-Init.schema other (ap (λ (x : Command). Some x) (sym c.in-Ok-Some-Init.field-0-0-is) ∙ sym c.in-Ok-Some-Init.field-0-is ∙ c.in-Ok-Some-Init.ensures.only (Init other) is)) c.make_table.ensures.makes))

pub returns-in-Ok-None-clause-init : goal.returns-in-Ok-None-clause-init
returns-in-Ok-None-clause-init g c other is = absurd (never_some (Init other) (sym c.in-Ok-None.field-0-is ∙ c.in-Ok-None.ensures.only (Init other) is))

pub returns-in-Ok-None-clause-serves : goal.returns-in-Ok-None-clause-serves
returns-in-Ok-None-clause-serves g c is = absurd (never_some Serve (sym c.in-Ok-None.field-0-is ∙ c.in-Ok-None.ensures.only Serve is))
