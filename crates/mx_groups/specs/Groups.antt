-- Which groups each completed commit wrote a file of.
use Rattle.std.specs.Prelude.{◌≡◌, ◌≢◌, ◌⊎◌, ℕ, ◌-◌, ◌^◌, ◌≤◌, min, max, List, [], length, All, Contains, IsSome, map, unwrap_or, Some}
use Rattle.std.specs.BTreeMap as tree
use Rattle.std.specs.BTreeMap.{BTreeMap}
use Rattle.std.specs.List.{flat_map, sum_by}
use Rattle.std.specs.Option.{option_map_or}
use Rattle.std.specs.Ordering.{nat_cmp}
use Rattle.mx_base.specs.Paths.{group_name}
use Rattle.mx_meta.specs.CommitText.{commit_meta_of}
use Rattle.mx_meta.specs.declared.commit_meta.CommitMeta.{CommitMeta}
use Rattle.mx_meta.specs.declared.commit_meta.PartitionStats.{PartitionStats}
use Rattle.mx_meta.specs.declared.commit_meta.WriteStat.{WriteStat}
use Rattle.mx_model.specs.Listing.{listed_files}
use Rattle.mx_model.specs.declared.action.Action.{Action}
use Rattle.mx_store.specs.Objects.{Objects}
use Rattle.mx_folder.specs.Actions.{action_at, actions_upto}
use Rattle.mx_groups.specs.declared.groups.Groups.{Groups}

-- the groups whose files a commit's object lists, in its order
abbrev pub groups_of : CommitMeta → List (List ℕ)
groups_of meta = flat_map (λ (p : PartitionStats). map (λ (s : WriteStat). group_name p.partition s.file_id) p.stats) meta.partitions

-- those of the completed commit of an instant, none where there is none or its object does not read
abbrev pub groups_at : Objects → ℕ → List (List ℕ)
groups_at objects at = option_map_or (λ (action : Action). groups_of action.meta) (action_at objects at) []

-- the groups under an instant
abbrev pub listed_at : BTreeMap ℕ (List (List ℕ)) → ℕ → List (List ℕ)
listed_at commits at = unwrap_or (tree.get nat_cmp commits at) []

-- what is held of a commit
abbrev pub held_at : Groups → ℕ → List (List ℕ)
held_at groups at = listed_at groups.commits at

-- of each completed commit its groups are held
abbrev pub AreGroupsOf : Objects → Groups → Type 0
AreGroupsOf objects groups = (at : ℕ) → held_at groups at ≡ groups_at objects at

-- the completed commits of a folder that read, in any order
pub record AreCommits (objects : Objects) (commits : List Action) : Type 0 where
  pub each : All (λ (action : Action). action_at objects action.at ≡ Some action) commits
  pub all : (at : ℕ) → IsSome (action_at objects at) → Contains (map (λ (action : Action). action.at) commits) at

-- the greatest instant of a completed commit that wrote a file of the group, 0 where there is none
pub record IsNewestOf (objects : Objects) (group : List ℕ) (at : ℕ) : Type 0 where
  pub counts : at ≢ 0 → Contains (groups_at objects at) group
  pub above : (other : ℕ) → Contains (groups_at objects other) group → other ≤ at

-- no commit that counts is above the instant
abbrev pub AreAllUpto : Objects → ℕ → Type 0
AreAllUpto objects at = (other : ℕ) → IsSome (action_at objects other) → other ≤ at

-- the completed commits list so many files, as far as a number of 64 bits tells it
abbrev pub CountsLive : Objects → ℕ → Type 0
CountsLive objects count = (at : ℕ) → AreAllUpto objects at → count ≡ min (2 ^ 64 - 1) (length (listed_files (actions_upto objects at)))

-- ---- for private clauses

-- how many groups stand under all instants
abbrev pub count_in : BTreeMap ℕ (List (List ℕ)) → ℕ
count_in commits = sum_by (λ groups. length groups) (tree.values commits)

-- those of a commit whose object has these bytes, none where it does not read
abbrev pub groups_in : List ℕ → List (List ℕ)
groups_in bytes = option_map_or groups_of (commit_meta_of bytes) []

-- the greater of the two where it holds, and else the first
abbrev pub RisesTo : ℕ → ℕ → Type 0 → ℕ → Type 0
RisesTo newest at P after = (P × (after ≡ max newest at)) ⊎ (¬ P × (after ≡ newest))

-- the greatest of these instants under which the group stands, 0 where it stands under none
pub record IsNewestIn (listed : List (ℕ × List (List ℕ))) (group : List ℕ) (newest : ℕ) : Type 0 where
  pub counts : newest ≢ 0 → (groups : List (List ℕ)) × Contains listed (newest, groups) × Contains groups group
  pub above : All (λ (e : ℕ × List (List ℕ)). Contains e.1 group → e.0 ≤ newest) listed

-- of these commits the groups are held, and of no other
abbrev pub HoldsThose : Objects → List Action → Groups → Type 0
HoldsThose objects front groups = (at : ℕ) →
    (Contains (map (λ (action : Action). action.at) front) at × (held_at groups at ≡ groups_at objects at))
    ⊎ (¬ (Contains (map (λ (action : Action). action.at) front) at) × (held_at groups at ≡ []))
