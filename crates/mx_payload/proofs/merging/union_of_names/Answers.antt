use Rattle.mx_payload.proofs.Unions.{names_union, names_kept}
use Rattle.mx_payload.proofs.merging.union_of_names.Goals as goal

pub returns-clause-union : goal.returns-clause-union
returns-clause-union c =
    names_union c.args.older.items c.args.newer.items c.in_ok-older.older.items c.in_ok-newer.newer.items c.in_ok-words.words.items c.names_of.result
    c.in_ok-older.ensures c.in_ok-newer.ensures c.in_ok-words.ensures.union c.names_of.ensures

pub returns-clause-kept : goal.returns-clause-kept
returns-clause-kept c =
    names_kept c.args.older.items c.args.newer.items c.in_ok-older.older.items c.in_ok-newer.newer.items c.in_ok-words.words.items c.names_of.result
    c.in_ok-older.ensures c.in_ok-newer.ensures c.in_ok-words.ensures.union c.in_ok-words.ensures.kept c.names_of.ensures
