use Rattle.mx_payload.proofs.Unions.{union_given, kept_given}
use Rattle.mx_payload.proofs.merging.union.Goals as goal

pub returns-clause-union : goal.returns-clause-union
returns-clause-union c =
    union_given c.args.older.items c.args.newer.items c.new-states.result c.put_all.new.states c.put_all-2.new.states c.all_words.result
    c.requires.older.rising c.requires.newer.rising c.new-states.ensures.empty c.in_ok-put_all.ensures c.in_ok-put_all-2.ensures c.all_words.ensures.ordered c.all_words.ensures.words

pub returns-clause-kept : goal.returns-clause-kept
returns-clause-kept c = kept_given c.args.older.items c.args.newer.items c.all_words.result c.requires.older c.requires.newer c.all_words.ensures.fits (returns-clause-union c)
