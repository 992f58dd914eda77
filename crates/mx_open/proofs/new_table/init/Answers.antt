use Rattle.std.proofs.Common.{rules}
use Rattle.mx_open.proofs.InitLemmas.{may_init, init_table}
use Rattle.mx_open.proofs.new_table.init.Goals as goal

pub make_all-requires : goal.make_all-requires
make_all-requires g c = record { may = may_init (g.S.Store.journal c.first_path.new.store) c.args.schema.now _ (search rules) (search rules) }

pub returns-clause-table : goal.returns-clause-table
returns-clause-table g c =
    init_table (g.S.Store.journal c.first_path.new.store) (g.S.Store.journal c.make_all.new.store) c.args.schema.now _ c.make_all.result (search rules) (search rules) (search rules) c.make_all.ensures.makes
