-- The instant that an object draws, and the one that it names.
use Rattle.std.proofs.Common.{◌≡◌, inl, inr, ℕ, List, Option, Some, None, IfSome, refl, sym, ◌∙◌, ap}
use Rattle.std.specs.Prelude.{max}
use Rattle.std.proofs.lemmas.Option.{none-some, same_Some}
use Rattle.mx_base.specs.Objects.{IsObjectName, object_path}
use Rattle.mx_base.specs.declared.object_name.ActionState.TheVariants.{Requested, Inflight, Completed}
use Rattle.mx_base.specs.declared.object_name.ObjectName.{ObjectName}
use Rattle.mx_base.specs.declared.object_name.ObjectName.TheVariants.{Config, Timeline, Metadata, Base, Log}
use Rattle.mx_base.proofs.ObjectLemmas.{object_path-injective}
use Rattle.mx_folder.specs.Named.{is_hidden}
use Rattle.mx_folder.proofs.ListedLemmas.{data_outside}
use Rattle.mx_folder.proofs.PendingLemmas.{hidden_object}
use Rattle.mx_world.specs.Instants.{Requests, IsDrawnBy, NamesInstant, instant_of, requested_in}

pub drawn_some : (path : List ℕ) (last at : ℕ) (found : Option ℕ) → found ≡ Some at → Requests path at → ((a : ℕ) → Requests path a → found ≡ Some a) → IsDrawnBy path last (max last at)
drawn_some path last at found is requests only = record {
  drawn = λ a other. ap (max last) (same_Some at a (sym is ∙ only a other));
  kept = λ never. absurd (never at requests);
}

pub drawn_none : (path : List ℕ) (last : ℕ) (found : Option ℕ) → found ≡ None → ((a : ℕ) → Requests path a → found ≡ Some a) → IsDrawnBy path last last
drawn_none path last found is only = record { drawn = λ a other. absurd (none-some a (sym is ∙ only a other)); kept = λ never. refl }

-- what a path's name says of what it requests
pub requested_found : (path : List ℕ) (name : ObjectName) → IsObjectName name → path ≡ object_path name → IfSome (requested_in name) (Requests path)
requested_found path Config named is = tt
requested_found path (Timeline at kind Requested) named is = (kind, named, is)
requested_found path (Timeline at kind Inflight) named is = tt
requested_found path (Timeline at kind Completed) named is = tt
requested_found path (Metadata at kind completed) named is = tt
requested_found path (Base part shard upto kind) named is = tt
requested_found path (Log part shard at) named is = tt

-- the path of an object names the object's own instant alone
pub named_instant : (path : List ℕ) (name : ObjectName) → IsObjectName name → path ≡ object_path name → (at : ℕ) → NamesInstant path at → instant_of name ≡ Some at
named_instant path name named is at (inl (other, other_named, other_is, dated)) = ap instant_of (object_path-injective name other named other_named (sym is ∙ other_is)) ∙ dated
named_instant path name named is at (inr (file, stored, dated)) = absurd (cc (sym (data_outside path file stored) ∙ ap is_hidden is ∙ hidden_object name))
