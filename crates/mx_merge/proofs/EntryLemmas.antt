-- The entries of the keys that were met, in their order.
use Rattle.std.proofs.Common.{◌≡◌, ℕ, List, [], ◌∷◌, ◌++◌, Option, Some, None, Err, refl, sym, ◌∙◌, ap, subst}
use Rattle.std.specs.Prelude.{unwrap_or, filter_map}
use Rattle.std.specs.Option.{option_to_list}
use Rattle.std.specs.List.{AllByRecursion}
use Rattle.std.specs.BTreeMap as tree
use Rattle.mx_base.specs.declared.entry.Entry.{Entry}
use Rattle.mx_merge.specs.declared.run.Run.TheVariants as runs
use Rattle.mx_merge.specs.declared.known.Known.{Known}
use Rattle.mx_merge.specs.declared.known.Known.TheVariants.{Said}
use Rattle.mx_merge.specs.declared.error.MergeError.{MergeError}
use Rattle.mx_merge.specs.declared.error.MergeError.TheVariants.{NoMemory, BadPayload}
use Rattle.mx_merge.specs.Said.{KnownMap, known_at, entry_on, IsKnown, IsShown, AreEntries, TellsAll, FailsBy}
use Rattle.mx_lists.proofs.TreeLemmas.{R}

pub known_here : (m : KnownMap) (key : List ℕ) (known : Known) → tree.get R m key ≡ Some known → ((k : List ℕ) → IsKnown (known_at m k)) → IsKnown known
known_here m key known at kept = subst (λ (o : Option Known). IsKnown (unwrap_or o (Said runs.Nothing))) at (kept key)

all-push : {A : Type 0} (P : A → Type 0) (xs : List A) (x : A) → AllByRecursion P xs → P x → AllByRecursion P (xs ++ x ∷ [])
all-push P [] x all p = (p, tt)
all-push P (y ∷ xs) x all p = (all.0, all-push P xs x all.1 p)

abbrev with_front : Option Entry → List Entry → List Entry
with_front None es = es
with_front (Some e) es = e ∷ es

front-append : (o : Option Entry) (xs ys zs : List Entry) → xs ≡ ys ++ zs → with_front o xs ≡ with_front o ys ++ zs
front-append None xs ys zs h = h
front-append (Some e) xs ys zs h = ap (λ (es : List Entry). e ∷ es) h

alone : (o : Option Entry) → with_front o [] ≡ option_to_list o
alone None = refl
alone (Some e) = refl

on-push : (met : List (List ℕ × Known)) (e : List ℕ × Known) → filter_map entry_on (met ++ e ∷ []) ≡ filter_map entry_on met ++ option_to_list (entry_on e)
on-push [] e = alone (entry_on e)
on-push (x ∷ met) e = front-append (entry_on x) (filter_map entry_on (met ++ e ∷ [])) (filter_map entry_on met) (option_to_list (entry_on e)) (on-push met e)

pub entries-push : (met : List (List ℕ × Known)) (e : List ℕ × Known) (old new : List Entry) → AreEntries met old → IsShown e.1 → new ≡ old ++ option_to_list (entry_on e) → AreEntries (met ++ e ∷ []) new
entries-push met e old new are shown is = record {
  shown = all-push (λ x. IsShown x.1) met e are.shown shown;
  are = is ∙ ap (λ (es : List Entry). es ++ option_to_list (entry_on e)) are.are ∙ sym (on-push met e);
}

pub stops : (met before : List (List ℕ × Known)) (key : List ℕ) (known : Known) (behind : List (List ℕ × Known)) (e : MergeError) → met ≡ before ++ (key, known) ∷ behind → AllByRecursion (λ x. IsShown x.1) before → FailsBy known e → TellsAll met (Err e)
stops met before key known behind NoMemory parts shown fails = tt
stops met before key known behind (BadPayload at) parts shown fails = record {
  before = before;
  key = key;
  behind = behind;
  parts = parts ∙ ap (λ (k : Known). before ++ (key, k) ∷ behind) fails;
  shown = shown;
}
