use Rattle.std.proofs.Common.{ℕ, List, IfOk, sym, ap, ◌∙◌, subst, ◌≡◌}
use Rattle.mx_base.specs.Names.{IsPath}
use Rattle.mx_base.specs.Objects.{object_path}
use Rattle.mx_base.proofs.ObjectPaths.{IsPath-object_path, timeline_at, metadata_at, base_at, log_at}
use Rattle.mx_base.proofs.object_name.ObjectName.path.Goals as goal

pub joined-requires : goal.joined-requires
joined-requires c =
    subst IsPath (sym (timeline_at c.args.self.now c.in-Timeline.at c.in-Timeline.kind c.in-Timeline.state c.timeline_ending.result.now c.in-Timeline.is c.timeline_ending.ensures)) (IsPath-object_path c.args.self.now)

pub joined-requires-in-Metadata : goal.joined-requires-in-Metadata
joined-requires-in-Metadata c =
    subst IsPath (sym (metadata_at c.args.self.now c.in-Metadata.at c.in-Metadata.kind c.in-Metadata.completed c.metadata_ending.result.now c.in-Metadata.is c.metadata_ending.ensures)) (IsPath-object_path c.args.self.now)

pub joined-requires-in-Base : goal.joined-requires-in-Base
joined-requires-in-Base c =
    subst IsPath
    (sym (base_at c.args.self.now c.in-Base.part c.in-Base.shard c.in-Base.upto c.in-Base.kind c.as_str.result.now c.base_ending.result.now c.in-Base.is (c.as_str.ensures ∙ c.in_ok-front-in-Base.ensures) c.base_ending.ensures))
    (IsPath-object_path c.args.self.now)

pub joined-requires-in-Log : goal.joined-requires-in-Log
joined-requires-in-Log c =
    subst IsPath
    (sym (log_at c.args.self.now c.in-Log.part c.in-Log.shard c.in-Log.at c.as_str-in-Log.result.now c.in-Log.is (c.as_str-in-Log.ensures ∙ c.in_ok-front-in-Log.ensures)))
    (IsPath-object_path c.args.self.now)

pub returns-in-Config : goal.returns-in-Config
unfolding object_path
returns-in-Config c = subst (λ (l : List ℕ). IfOk c.of_config.result (λ p. p ≡ l)) (ap object_path (sym c.in-Config.is)) c.of_config.ensures

pub returns-in-Timeline : goal.returns-in-Timeline
returns-in-Timeline c =
    subst (λ (l : List ℕ). IfOk c.joined.result (λ p. p ≡ l))
    (timeline_at c.args.self.now c.in-Timeline.at c.in-Timeline.kind c.in-Timeline.state c.timeline_ending.result.now c.in-Timeline.is c.timeline_ending.ensures)
    c.joined.ensures

pub returns-in-Metadata : goal.returns-in-Metadata
returns-in-Metadata c =
    subst (λ (l : List ℕ). IfOk c.joined-in-Metadata.result (λ p. p ≡ l))
    (metadata_at c.args.self.now c.in-Metadata.at c.in-Metadata.kind c.in-Metadata.completed c.metadata_ending.result.now c.in-Metadata.is c.metadata_ending.ensures)
    c.joined-in-Metadata.ensures

pub returns-in_ok-front-in-Base : goal.returns-in_ok-front-in-Base
returns-in_ok-front-in-Base c =
    subst (λ (l : List ℕ). IfOk c.joined-in-Base.result (λ p. p ≡ l))
    (base_at c.args.self.now c.in-Base.part c.in-Base.shard c.in-Base.upto c.in-Base.kind c.as_str.result.now c.base_ending.result.now c.in-Base.is (c.as_str.ensures ∙ c.in_ok-front-in-Base.ensures) c.base_ending.ensures)
    c.joined-in-Base.ensures

pub returns-in_ok-front-in-Log : goal.returns-in_ok-front-in-Log
returns-in_ok-front-in-Log c =
    subst (λ (l : List ℕ). IfOk c.joined-in-Log.result (λ p. p ≡ l))
    (log_at c.args.self.now c.in-Log.part c.in-Log.shard c.in-Log.at c.as_str-in-Log.result.now c.in-Log.is (c.as_str-in-Log.ensures ∙ c.in_ok-front-in-Log.ensures))
    c.joined-in-Log.ensures
