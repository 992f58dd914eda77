-- What the calls of a store do.
use Rattle.std.specs.Prelude.{◌≡◌, ◌⊎◌, ℕ, ◌+◌, ◌-◌, ◌^◌, ◌≤◌, min, List, [], ◌∷◌, ◌++◌, take, drop, option_map, Option, Some, None, IsSome, Bool, true, false, Result, Ok, Err}
use Rattle.mx_store.specs.declared.change.Change.{Change}
use Rattle.mx_store.specs.declared.change.Change.TheVariants.{Create, Put, Delete}
use Rattle.mx_store.specs.declared.store.StoreError.{StoreError}
use Rattle.mx_store.specs.declared.store.StoreError.TheVariants.{Failed, NoMemory}
use Rattle.mx_store.specs.Objects.{at_path, objects_of}

-- a count that is greater than before, or stands at its last value; it never falls
abbrev pub Rose : ℕ → ℕ → Type 0
Rose before now = (before ≤ now) × (min (before + 1) (2 ^ 64 - 1) ≤ now)

-- Failed only where the count rose, and any other answer leaves it
abbrev pub Counts : {T : Type 0} → ℕ → ℕ → Result T StoreError → Type 0
Counts before now (Ok x) = now ≡ before
Counts before now (Err Failed) = Rose before now
Counts before now (Err NoMemory) = now ≡ before

-- the same for a call whose errors are all counted
abbrev pub CountsErrors : {T E : Type 0} → ℕ → ℕ → Result T E → Type 0
CountsErrors before now (Ok x) = now ≡ before
CountsErrors before now (Err e) = Rose before now

-- the journal with a change more, where it is told
abbrev pub with_change : Option (List Change) → Change → Option (List Change)
with_change None change = None
with_change (Some journal) change = Some (journal ++ change ∷ [])

-- nothing stands at the path, where it is told
abbrev pub IsAbsent : Option (List Change) → List ℕ → Type 0
IsAbsent None path = Unit {0}
IsAbsent (Some journal) path = at_path (objects_of journal) path ≡ None

-- something stands at the path, where it is told
abbrev pub IsPresent : Option (List Change) → List ℕ → Type 0
IsPresent None path = Unit {0}
IsPresent (Some journal) path = IsSome (at_path (objects_of journal) path)

-- a create makes the object exactly where nothing stood; one that failed made it or changed nothing
abbrev pub Creates : List ℕ → List ℕ → Option (List Change) → Option (List Change) → Result Bool StoreError → Type 0
Creates path bytes before after (Ok true) = IsAbsent before path × (after ≡ with_change before (Create path bytes))
Creates path bytes before after (Ok false) = IsPresent before path × (after ≡ before)
Creates path bytes before after (Err Failed) = (after ≡ before) ⊎ (IsAbsent before path × (after ≡ with_change before (Create path bytes)))
Creates path bytes before after (Err NoMemory) = after ≡ before

-- a put makes the object; one that failed made it or changed nothing
abbrev pub Puts : List ℕ → List ℕ → Option (List Change) → Option (List Change) → Result Unit StoreError → Type 0
Puts path bytes before after (Ok x) = after ≡ with_change before (Put path bytes)
Puts path bytes before after (Err Failed) = (after ≡ before) ⊎ (after ≡ with_change before (Put path bytes))
Puts path bytes before after (Err NoMemory) = after ≡ before

-- a delete takes the object away exactly where one stood; one that failed took it away or changed nothing
abbrev pub Deletes : List ℕ → Option (List Change) → Option (List Change) → Result Bool StoreError → Type 0
Deletes path before after (Ok true) = IsPresent before path × (after ≡ with_change before (Delete path))
Deletes path before after (Ok false) = IsAbsent before path × (after ≡ before)
Deletes path before after (Err Failed) = (after ≡ before) ⊎ (IsPresent before path × (after ≡ with_change before (Delete path)))
Deletes path before after (Err NoMemory) = after ≡ before

-- what a get finds, where it is told
abbrev pub Finds : List ℕ → Option (List Change) → Result (Option (List ℕ)) StoreError → Type 0
Finds path None result = Unit {0}
Finds path (Some journal) (Ok found) = found ≡ at_path (objects_of journal) path
Finds path (Some journal) (Err e) = Unit {0}

-- so many bytes from that place on; where the object ends before, all that it has from there
abbrev pub range_of : ℕ → ℕ → List ℕ → List ℕ
range_of at len bytes = take len (drop at bytes)

-- what a get of a range finds, where it is told
abbrev pub FindsRange : List ℕ → ℕ → ℕ → Option (List Change) → Result (Option (List ℕ)) StoreError → Type 0
FindsRange path at len None result = Unit {0}
FindsRange path at len (Some journal) (Ok found) = found ≡ option_map (range_of at len) (at_path (objects_of journal) path)
FindsRange path at len (Some journal) (Err e) = Unit {0}

-- the read is noted; after want of memory it may not be
abbrev pub Reads : {T : Type 0} → List ℕ → Option (List (List ℕ)) → Option (List (List ℕ)) → Result T StoreError → Type 0
Reads path None after result = after ≡ None
Reads path (Some reads) after (Err NoMemory) = (after ≡ Some reads) ⊎ (after ≡ Some (reads ++ path ∷ []))
Reads path (Some reads) after (Err Failed) = after ≡ Some (reads ++ path ∷ [])
Reads path (Some reads) after (Ok x) = after ≡ Some (reads ++ path ∷ [])
