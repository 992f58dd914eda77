use Rattle.std.proofs.Common.{rules, ℕ, ◌≤◌, subst}
use Rattle.mx_groups.specs.Groups.{CountsLive}
use Rattle.mx_store.specs.Objects.{Objects}
use Rattle.mx_world.specs.declared.mirror.Mirror.{Mirror}
use Rattle.mx_world.specs.Instants.{CountsInstants}
use Rattle.mx_world.specs.Mirror.{IsMirrorOf}
use Rattle.mx_writer.specs.Commit.{HasRoom, WouldHaveInstants, WouldList}
use Rattle.mx_writer.proofs.EntryLemmas.{is_told}
use Rattle.mx_writer.proofs.committing.check_room.Goals as goal

pub returns-then-live-gt-MOST_LIVE-clause-err : goal.returns-then-live-gt-MOST_LIVE-clause-err
returns-then-live-gt-MOST_LIVE-clause-err g c =
    let counts = subst (λ (m : Mirror). (o : Objects) → IsMirrorOf o m → CountsInstants o c.in_ok-instants.field-0) c.mirror.ensures.value c.in_ok-instants.ensures in
    let lists = subst (λ (m : Mirror). (o : Objects) → IsMirrorOf o m → CountsLive o c.live.result) c.mirror-2.ensures.value c.live.ensures in (
      is_told g.N.Named.opening (g.S.Store.journal c.args.table.now.store) c.args.table.now.mirror c.args.table.now.last c.args.table.now.applied c.args.table.now.doubt c.requires.sure c.last-last.ensures.stands
          (λ (o : Objects). (x : ℕ) × WouldHaveInstants o x × (x ≤ 8192)) (λ o is. (c.saturating_add-instants.result, (c.in_ok-instants.field-0, counts o is, search rules), search rules)),
      is_told g.N.Named.opening (g.S.Store.journal c.args.table.now.store) c.args.table.now.mirror c.args.table.now.last c.args.table.now.applied c.args.table.now.doubt c.requires.sure c.last-last.ensures.stands
          (λ (o : Objects). WouldList o c.args.files.now c.saturating_add-live.result) (λ o is. (c.live.result, lists o is, search rules)),
      search rules,
    )

pub returns-clause-ok : goal.returns-clause-ok
returns-clause-ok g c =
    let counts = subst (λ (m : Mirror). (o : Objects) → IsMirrorOf o m → CountsInstants o c.in_ok-instants.field-0) c.mirror.ensures.value c.in_ok-instants.ensures in
    let lists = subst (λ (m : Mirror). (o : Objects) → IsMirrorOf o m → CountsLive o c.live.result) c.mirror-2.ensures.value c.live.ensures in
    is_told g.N.Named.opening (g.S.Store.journal c.args.table.now.store) c.args.table.now.mirror c.args.table.now.last c.args.table.now.applied c.args.table.now.doubt c.requires.sure c.last-last.ensures.stands
    (λ (o : Objects). HasRoom o c.args.files.now)
    (λ o is. record {
      instants = c.saturating_add-instants.result;
      would_have = (c.in_ok-instants.field-0, counts o is, search rules);
      few_instants = search rules;
      live = c.saturating_add-live.result;
      would_list = (c.live.result, lists o is, search rules);
      few_files = search rules;
    })
