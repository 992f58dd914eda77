-- The commits that count, after the timeline of Hudi's technical specification.
use Rattle.std.specs.Prelude.{ℕ, zero, suc, List, ◌++◌, Option, IsSome, option_and_then}
use Rattle.std.specs.Option.{option_to_list}
use Rattle.mx_store.specs.Objects.{Objects}
use Rattle.mx_model.specs.declared.action.Action.{Action}
use Rattle.mx_model.specs.Timeline.{action_of}
use Rattle.mx_folder.specs.Named.{object_at, commit_name}

-- the commit of the instant is completed
abbrev pub IsCompleted : Objects → ℕ → Type 0
IsCompleted objects at = IsSome (object_at objects (commit_name at))

-- the completed commit of an instant, none where its object is absent or does not read
unfoldable pub action_at : Objects → ℕ → Option Action
action_at objects at = option_and_then (action_of at) (object_at objects (commit_name at))

-- the completed commits at most at an instant, by rising instant
unfoldable pub actions_upto : Objects → ℕ → List Action
actions_upto objects zero = option_to_list (action_at objects zero)
actions_upto objects (suc at) = actions_upto objects at ++ option_to_list (action_at objects (suc at))
