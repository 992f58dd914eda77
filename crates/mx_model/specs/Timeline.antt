-- The commits that count, after the timeline of Hudi's technical specification.
use Rattle.std.specs.Prelude.{ℕ, List, [], ◌∷◌, Option, option_map, option_and_then, nat_le, max}
use Rattle.std.specs.List.{filter, filter_map}
use Rattle.std.specs.FinMap as finmap
use Rattle.mx_base.specs.Paths.{commit_instant}
use Rattle.mx_store.specs.Objects.{Objects, at_path}
use Rattle.mx_meta.specs.declared.commit_meta.CommitMeta.{CommitMeta}
use Rattle.mx_meta.specs.CommitText.{commit_meta_of}
use Rattle.mx_model.specs.declared.action.Action.{Action}

-- the commit of an instant that has this object
abbrev pub action_of : ℕ → List ℕ → Option Action
action_of at bytes = option_map (λ (meta : CommitMeta). record { at = at; meta = meta }) (commit_meta_of bytes)

-- the completed commit whose object stands at the path and reads
abbrev pub action_at : Objects → List ℕ → Option Action
action_at objects path = option_and_then (λ (at : ℕ). option_and_then (action_of at) (at_path objects path)) (commit_instant path)

-- the completed commits whose objects read, in byte order of their names, which is the order of their instants
abbrev pub completed_actions : Objects → List Action
completed_actions objects = filter_map (action_at objects) (finmap.keys objects)

-- those at most at an instant
abbrev pub actions_upto : List Action → ℕ → List Action
actions_upto actions at = filter (λ (action : Action). nat_le action.at at) actions

-- the greatest instant, and 0 where there is none
abbrev pub newest : List Action → ℕ
newest [] = 0
newest (action ∷ actions) = max action.at (newest actions)
