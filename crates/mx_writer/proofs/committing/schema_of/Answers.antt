use Rattle.std.proofs.Common.{◌≡◌, ◌∙◌, ap, refl, rules, subst}
use Rattle.mx_base.specs.declared.object_name.ObjectName.TheVariants.{Config}
use Rattle.mx_folder.specs.Files.{IsSchemaOf}
use Rattle.mx_folder.proofs.NamedLemmas.{object_at-is}
use Rattle.mx_props.specs.Config as config
use Rattle.mx_props.specs.Config.{IsConfig}
use Rattle.mx_store.specs.Objects.{Objects}
use Rattle.mx_writer.proofs.EntryLemmas.{is_told}
use Rattle.mx_writer.proofs.committing.schema_of.Goals as goal

pub returns-clause-of_table : goal.returns-clause-of_table
returns-clause-of_table g c =
    let is_config : IsConfig c.args.table.now.mirror.config = search rules in
    is_told g.N.Named.opening (g.S.Store.journal c.args.table.now.store) c.args.table.now.mirror c.args.table.now.last c.args.table.now.applied c.args.table.now.doubt c.requires.sure c.last-last.ensures.stands
    (λ (o : Objects). IsSchemaOf o c.args.table.now.mirror.config.schema)
    (λ o is. record { config = c.args.table.now.mirror.config; is_config = is_config; stands = object_at-is o Config refl ∙ is.config; schema_is = refl })
