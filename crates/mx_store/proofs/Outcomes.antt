-- What holds after a call, whatever it answers.
use Rattle.std.proofs.Common.{◌≡◌, inl, inr, ℕ, ◌≤◌, Bool, true, false, List, Option, Result, Ok, Err, sym, subst, arith}
use Rattle.mx_store.specs.declared.change.Change.{Change}
use Rattle.mx_store.specs.declared.change.Change.TheVariants.{Create, Put, Delete}
use Rattle.mx_store.specs.declared.store.StoreError.{StoreError}
use Rattle.mx_store.specs.declared.store.StoreError.TheVariants.{Failed, NoMemory}
use Rattle.mx_store.specs.Calls.{Counts, CountsErrors, with_change, IsAbsent, IsPresent, Creates, Puts, Deletes}

module _ (P : Option (List Change) → Type 0) (before after : Option (List Change)) where
  stays : P before → after ≡ before → P after
  stays old same = subst P (sym same) old

  -- what holds before, and with the change where it may be made, holds after
  pub creates-keeps : (path bytes : List ℕ) (r : Result Bool StoreError) → P before → (IsAbsent before path → P (with_change before (Create path bytes))) → Creates path bytes before after r → P after
  creates-keeps path bytes (Ok true) old new did = subst P (sym did.1) (new did.0)
  creates-keeps path bytes (Ok false) old new did = stays old did.1
  creates-keeps path bytes (Err Failed) old new (inl same) = stays old same
  creates-keeps path bytes (Err Failed) old new (inr one) = subst P (sym one.1) (new one.0)
  creates-keeps path bytes (Err NoMemory) old new did = stays old did

  pub puts-keeps : (path bytes : List ℕ) (r : Result Unit StoreError) → P before → P (with_change before (Put path bytes)) → Puts path bytes before after r → P after
  puts-keeps path bytes (Ok x) old new did = subst P (sym did) new
  puts-keeps path bytes (Err Failed) old new (inl same) = stays old same
  puts-keeps path bytes (Err Failed) old new (inr one) = subst P (sym one) new
  puts-keeps path bytes (Err NoMemory) old new did = stays old did

  pub deletes-keeps : (path : List ℕ) (r : Result Bool StoreError) → P before → (IsPresent before path → P (with_change before (Delete path))) → Deletes path before after r → P after
  deletes-keeps path (Ok true) old new did = subst P (sym did.1) (new did.0)
  deletes-keeps path (Ok false) old new did = stays old did.1
  deletes-keeps path (Err Failed) old new (inl same) = stays old same
  deletes-keeps path (Err Failed) old new (inr one) = subst P (sym one.1) (new one.0)
  deletes-keeps path (Err NoMemory) old new did = stays old did

-- an object was made
pub created : (path bytes : List ℕ) (before after : Option (List Change)) (r : Result Bool StoreError) → r ≡ Ok true → Creates path bytes before after r → IsAbsent before path × (after ≡ with_change before (Create path bytes))
created path bytes before after r is did = subst (λ (x : Result Bool StoreError). Creates path bytes before after x) is did

-- a count never falls
pub counts-rise : {T : Type 0} (before now : ℕ) (r : Result T StoreError) → Counts before now r → before ≤ now
counts-rise before now (Ok x) counts = omega (arith, counts)
counts-rise before now (Err Failed) counts = counts.0
counts-rise before now (Err NoMemory) counts = omega (arith, counts)

pub errors-rise : {T E : Type 0} (before now : ℕ) (r : Result T E) → CountsErrors before now r → before ≤ now
errors-rise before now (Ok x) counts = omega (arith, counts)
errors-rise before now (Err e) counts = counts.0
