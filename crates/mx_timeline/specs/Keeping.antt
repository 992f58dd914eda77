-- What a timeline keeps, in the words of the names that it was made of.
use Rattle.std.specs.Prelude.{ℕ, List, IsTrue}
use Rattle.std.specs.BTreeSet.{contains}
use Rattle.std.specs.Ordering.{nat_cmp}
use Rattle.mx_base.specs.declared.object_name.ActionKind.{ActionKind}
use Rattle.mx_base.specs.declared.object_name.ActionKind.TheVariants.{Commit, Clean, Rollback, Indexing}
use Rattle.mx_base.specs.declared.object_name.ActionState.TheVariants.{Completed}
use Rattle.mx_timeline.specs.declared.stages.Stages.{Stages}
use Rattle.mx_timeline.specs.declared.timeline.Timeline.{Timeline}
use Rattle.mx_timeline.specs.declared.names.TimelineError.{TimelineError}
use Rattle.mx_timeline.specs.declared.names.TimelineError.TheVariants.{BadTimeline, NoMemory}
use Rattle.mx_timeline.specs.Timeline.{Stands, IsBegun, HasObject, IsFirstBad}

-- the sets are those of the begun and of the completed actions of the kind
pub record AreStages (names : List (List ℕ)) (kind : ActionKind) (stages : Stages) : Type 0 where
  pub begun : (at : ℕ) → IsTrue (contains nat_cmp stages.begun at) → IsBegun names kind at
  pub all_begun : (at : ℕ) → IsBegun names kind at → IsTrue (contains nat_cmp stages.begun at)
  pub completed : (at : ℕ) → IsTrue (contains nat_cmp stages.completed at) → Stands names kind Completed at
  pub all_completed : (at : ℕ) → Stands names kind Completed at → IsTrue (contains nat_cmp stages.completed at)

-- the timeline is the one that the names say
pub record IsTimelineOf (names : List (List ℕ)) (timeline : Timeline) : Type 0 where
  pub commits : AreStages names Commit timeline.commits
  pub cleans : AreStages names Clean timeline.cleans
  pub rollbacks : AreStages names Rollback timeline.rollbacks
  pub indexings : AreStages names Indexing timeline.indexings
  pub instants : (at : ℕ) → IsTrue (contains nat_cmp timeline.instants at) → HasObject names at
  pub all_instants : (at : ℕ) → HasObject names at → IsTrue (contains nat_cmp timeline.instants at)

-- why the names say no timeline; of want of memory nothing is said
abbrev pub HasCause : List (List ℕ) → TimelineError → Type 0
HasCause names (BadTimeline name) = IsFirstBad names name
HasCause names NoMemory = Unit
