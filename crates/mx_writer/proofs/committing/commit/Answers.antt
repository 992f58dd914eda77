use Rattle.std.proofs.Common.{◌≡◌, ◌∙◌, ◌+◌, List, All, ap, refl, rules, sym, subst}
use Rattle.mx_commit.specs.declared.new_file.NewFile.{NewFile}
use Rattle.mx_commit.specs.declared.written.Written.{Written}
use Rattle.mx_commit.specs.Changes.{IsPlanOf}
use Rattle.mx_commit.specs.Made.{IsFileOf, new_files}
use Rattle.mx_commit.specs.Written.{AreApartFiles, AreWritten, new_group}
use Rattle.mx_commit.proofs.MakingLemmas.{new_apart}
use Rattle.mx_world.specs.State.{standing}
use Rattle.mx_writer.specs.Commit.{AreEntries, IsCommitOf, next_after}
use Rattle.mx_writer.proofs.CommitLemmas.{planned_may, planned_plain}
use Rattle.mx_writer.proofs.EndLemmas.{next_is, refused, roomless, short, stopped}
use Rattle.mx_writer.proofs.committing.commit.Goals as goal

pub plan_commit-requires-clause-apart : goal.plan_commit-requires-clause-apart
plan_commit-requires-clause-apart g c =
    let schema = c.args.table.now.mirror.config.schema in
    subst (AreApartFiles new_group) (sym c.in_ok-made.ensures.files) (new_apart schema (next_after c.args.table.now.last) c.args.files.now c.in_ok-made.ensures.may.good.apart)

pub change_in_turn-requires-clause-plain : goal.change_in_turn-requires-clause-plain
change_in_turn-requires-clause-plain g c =
    let schema = c.args.table.now.mirror.config.schema in
    planned_plain c.in_ok-made.made c.in-Some.at c.as_slice-2.result.now c.in_ok-changes.changes.items c.in_ok-changes.ensures.names
    (subst (AreApartFiles new_group) (sym c.in_ok-made.ensures.files) (new_apart schema (next_after c.args.table.now.last) c.args.files.now c.in_ok-made.ensures.may.good.apart))
    (search rules) (search rules) (subst (AreWritten c.in_ok-made.made c.in-Some.at) (sym c.as_slice-2.ensures.value) (subst (λ (files : List NewFile). AreEntries (g.S.Store.journal c.args.table.now.store) files c.in-Some.at c.in_ok-entries.entries.items) c.as_slice.ensures c.in_ok-entries.ensures).0) c.in_ok-changes.ensures.plan

pub change_in_turn-requires-clause-may : goal.change_in_turn-requires-clause-may
change_in_turn-requires-clause-may g c =
    let schema = c.args.table.now.mirror.config.schema in
    planned_may c.in_ok-made.made c.in-Some.at c.as_slice-2.result.now c.in_ok-changes.changes.items c.in_ok-changes.ensures.names
    (subst (AreApartFiles new_group) (sym c.in_ok-made.ensures.files) (new_apart schema (next_after c.args.table.now.last) c.args.files.now c.in_ok-made.ensures.may.good.apart))
    (search rules) (search rules) (subst (AreWritten c.in_ok-made.made c.in-Some.at) (sym c.as_slice-2.ensures.value) (subst (λ (files : List NewFile). AreEntries (g.S.Store.journal c.args.table.now.store) files c.in-Some.at c.in_ok-entries.entries.items) c.as_slice.ensures c.in_ok-entries.ensures).0) c.in_ok-changes.ensures.plan
    schema c.in_ok-made.ensures.held
    g.N.Named.opening (g.S.Store.journal c.args.table.now.store) c.args.table.now.mirror c.args.table.now.last c.args.table.now.applied c.args.table.now.doubt c.last.ensures.stands c.in_ok-made.ensures.of_table (search rules)

pub returns-clause-commits : goal.returns-clause-commits
returns-clause-commits g c =
    let schema = c.args.table.now.mirror.config.schema in
    let next : next_after c.args.table.now.last ≡ c.in-Some.at = next_is c.args.table.now.last c.in-Some.at (search rules) (search rules) in
    let made : c.in_ok-made.made ≡ new_files schema c.in-Some.at c.args.files.now = c.in_ok-made.ensures.files ∙ ap (λ at. new_files schema at c.args.files.now) next in
    record {
      schema = schema;
      of_table = c.in_ok-made.ensures.of_table;
      ends = (
        c.in_ok-made.ensures.may,
        search rules,
        search rules,
        c.in_ok-check_room.ensures.ok,
        (
          c.in_ok-changes.changes.items,
          record {
            written = c.in_ok-entries.entries.items;
            entries = subst (λ (files : List NewFile). AreWritten files c.in-Some.at c.in_ok-entries.entries.items) made (subst (λ (files : List NewFile). AreEntries (g.S.Store.journal c.args.table.now.store) files c.in-Some.at c.in_ok-entries.entries.items) c.as_slice.ensures c.in_ok-entries.ensures).0;
            told = (subst (λ (files : List NewFile). AreEntries (g.S.Store.journal c.args.table.now.store) files c.in-Some.at c.in_ok-entries.entries.items) c.as_slice.ensures c.in_ok-entries.ensures).1;
            plan = subst (λ (files : List NewFile). IsPlanOf files c.in_ok-entries.entries.items c.in-Some.at c.in_ok-changes.changes.items) made
                (subst (λ (ws : List Written). IsPlanOf c.in_ok-made.made ws c.in-Some.at c.in_ok-changes.changes.items) c.as_slice-2.ensures.value c.in_ok-changes.ensures.plan);
          },
          c.in_ok-change_in_turn.ensures.turns,
        ),
      );
    }

pub returns-in_err-check_room-clause-commits : goal.returns-in_err-check_room-clause-commits
returns-in_err-check_room-clause-commits g c =
    roomless c.args.table.now.mirror.config.schema c.args.files.now (standing g.S.Store.journal c.args.table.now) (standing g.S.Store.journal c.args.table.now) c.in_ok-made.ensures.of_table c.from_residual-in_err-check_room.result _ (search rules)
    c.in_ok-made.ensures.may (search rules) c.in_err-check_room.ensures.err refl

pub returns-in_err-entries-clause-commits : goal.returns-in_err-entries-clause-commits
returns-in_err-entries-clause-commits g c =
    short c.args.table.now.mirror.config.schema c.args.files.now (standing g.S.Store.journal c.args.table.now) (standing g.S.Store.journal c.args.table.now) c.in_ok-made.ensures.of_table c.from_residual-in_err-entries.result (search rules) refl

pub returns-in_err-changes-clause-commits : goal.returns-in_err-changes-clause-commits
returns-in_err-changes-clause-commits g c =
    short c.args.table.now.mirror.config.schema c.args.files.now (standing g.S.Store.journal c.args.table.now) (standing g.S.Store.journal c.args.table.now) c.in_ok-made.ensures.of_table c.from_residual-in_err-changes.result (search rules) refl

pub returns-in_err-change_in_turn-clause-commits : goal.returns-in_err-change_in_turn-clause-commits
returns-in_err-change_in_turn-clause-commits g c =
    let schema = c.args.table.now.mirror.config.schema in
    let next : next_after c.args.table.now.last ≡ c.in-Some.at = next_is c.args.table.now.last c.in-Some.at (search rules) (search rules) in
    let at_next : c.in-Some.at ≡ c.args.table.now.last + 1 = search rules in
    let made : c.in_ok-made.made ≡ new_files schema c.in-Some.at c.args.files.now = c.in_ok-made.ensures.files ∙ ap (λ at. new_files schema at c.args.files.now) next in
    stopped schema c.args.files.now (standing g.S.Store.journal c.args.table.now) (standing g.S.Store.journal c.change_in_turn.new.self) c.in_ok-made.ensures.of_table c.from_residual-in_err-change_in_turn.result _ c.in_ok-changes.changes.items (search rules)
    (subst (λ at. IsCommitOf schema c.args.files.now (standing g.S.Store.journal c.args.table.now) at c.in_ok-changes.changes.items) at_next (record {
      written = c.in_ok-entries.entries.items;
      entries = subst (λ (files : List NewFile). AreWritten files c.in-Some.at c.in_ok-entries.entries.items) made (subst (λ (files : List NewFile). AreEntries (g.S.Store.journal c.args.table.now.store) files c.in-Some.at c.in_ok-entries.entries.items) c.as_slice.ensures c.in_ok-entries.ensures).0;
      told = (subst (λ (files : List NewFile). AreEntries (g.S.Store.journal c.args.table.now.store) files c.in-Some.at c.in_ok-entries.entries.items) c.as_slice.ensures c.in_ok-entries.ensures).1;
      plan = subst (λ (files : List NewFile). IsPlanOf files c.in_ok-entries.entries.items c.in-Some.at c.in_ok-changes.changes.items) made
          (subst (λ (ws : List Written). IsPlanOf c.in_ok-made.made ws c.in-Some.at c.in_ok-changes.changes.items) c.as_slice-2.ensures.value c.in_ok-changes.ensures.plan);
    }))
    c.in_err-change_in_turn.ensures.turns

pub returns-in_err-made-clause-commits : goal.returns-in_err-made-clause-commits
returns-in_err-made-clause-commits g c =
    refused c.args.table.now.mirror.config.schema c.args.files.now (standing g.S.Store.journal c.args.table.now) (standing g.S.Store.journal c.args.table.now) c.in_err-made.ensures.of_table c.from_residual.result _ (search rules) c.in_err-made.ensures.err refl
