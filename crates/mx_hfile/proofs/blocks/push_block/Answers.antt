use Rattle.std.proofs.Common.{length, arith, sym, ap, ◌∙◌, [], subst, List}
use Rattle.std.proofs.lemmas.Result.{err_from_is_err_and}
use Rattle.mx_base.specs.declared.entry.Entry.{Entry}
use Rattle.mx_hfile.specs.Decoding.{last_key, entries_in}
use Rattle.mx_hfile.specs.Seen.{seen, Adds}
use Rattle.mx_hfile.proofs.FieldLemmas.{entry_shorter}
use Rattle.mx_hfile.proofs.Loops.{block_adds, block_bad, first_bad, last_key-append}
use Rattle.mx_hfile.proofs.blocks.push_block.Goals as goal

pub returns-in_err-body : goal.returns-in_err-body
returns-in_err-body c =
    let p = err_from_is_err_and c.from_residual.result c.from_residual.ensures.1 in
    rw (p.1, p.2) (block_bad c.in_err-body.field-0.0 c.args.last.now (seen c.args.listing.now) c.args.bytes.now c.in_err-body.ensures.read)

pub returns-in_err-key : goal.returns-in_err-key
returns-in_err-key c =
    let p = err_from_is_err_and c.from_residual-in_err-key.result c.from_residual-in_err-key.ensures.1 in
    rw (p.1, p.2) (first_bad c.in_err-key.field-0.0 c.args.last.now (seen c.args.listing.now) c.args.bytes.now c.in_ok-body.body.now c.in_ok-body.ensures.read c.in_err-key.ensures.read)

pub push_entries-requires-clause-last : goal.push_entries-requires-clause-last
push_entries-requires-clause-last c = sym (ap (last_key []) c.in_ok-push.ensures ∙ last_key-append [] c.args.entries.now.items _)

pub push_entries-requires-clause-len : goal.push_entries-requires-clause-len
push_entries-requires-clause-len c =
    let short = entry_shorter _ _ _ c.in_ok-key.ensures.read in
    omega (arith, short)

pub returns : goal.returns
returns c =
    block_adds
    c.push_entries.result c.args.entries.now.items c.push_entries.new.entries.items c.args.last.now (seen c.args.listing.now) c.args.bytes.now c.in_ok-body.body.now
    (record { key = c.in_ok-key.key.now; value = c.in_ok-key.value.now }) c.in_ok-key.rest.now c.in_ok-body.ensures.read c.in_ok-key.ensures.read
    (subst (λ (old : List Entry). Adds old c.push_entries.new.entries.items (entries_in (length c.in_ok-key.rest.now) (length c.in_ok-body.body.now) c.in_ok-key.key.now c.in_ok-key.rest.now) c.push_entries.result) c.in_ok-push.ensures c.push_entries.ensures)
