-- What a base and its logs show on each key.
use Rattle.std.specs.Prelude.{◌≡◌, ℕ, ◌-◌, Bool, true, List, [], ◌∷◌, ◌++◌, map, length, Option, Some, None, option_map, Result, Ok, Err, IsOk, bytes_eq, filter, flat_map, filter_map, if◌then◌else◌}
use Rattle.std.specs.List.{AllByRecursion}
use Rattle.std.specs.List.Sorted.{IsStrictlySortedBy}
use Rattle.std.specs.Option.{option_to_list, option_or}
use Rattle.std.specs.Ordering.{nat_cmp, is_lt}
use Rattle.std.specs.Cmp.Lexicographic.{slice_cmp}
use Rattle.mx_base.specs.declared.entry.Entry.{Entry}
use Rattle.mx_payload.specs.declared.payload.Payload.{Payload}
use Rattle.mx_payload.specs.Encoding.{encoding}
use Rattle.mx_payload.specs.Decoding.{payload_in}
use Rattle.mx_merge.specs.declared.log.Log.{Log}
use Rattle.mx_merge.specs.declared.error.MergeError.{MergeError}
use Rattle.mx_merge.specs.declared.error.MergeError.TheVariants.{NoMemory, BadPayload}
use Rattle.mx_merge.specs.Shown.{shown}

-- the entries of a base, and then those of its logs, of which a newer one stands behind an older one
abbrev pub slice_entries : List Entry → List Log → List Entry
slice_entries base logs = base ++ flat_map (λ (log : Log). log.entries) logs

-- the values on a key, the oldest first
abbrev pub values_on_key : List ℕ → List Entry → List (List ℕ)
values_on_key key entries = map (λ (e : Entry). e.value) (filter (λ (e : Entry). bytes_eq e.key key) entries)

-- what was read, none where a rule is broken
abbrev pub read_payload : Result Payload ℕ → Option Payload
read_payload (Ok payload) = Some payload
read_payload (Err left) = None

-- the payload that a value spells, none where it spells none
abbrev pub payload_of : List ℕ → Option Payload
payload_of value = read_payload (payload_in value)

-- the payloads on a key, the oldest first
unfoldable pub payloads_on_key : List ℕ → List Entry → List Payload
payloads_on_key key entries = filter_map payload_of (values_on_key key entries)

-- what entries show on a key
unfoldable pub shown_on : List ℕ → List Entry → Option Payload
shown_on key entries = shown (payloads_on_key key entries)

-- a value spells a payload
abbrev pub IsRead : List ℕ → Type 0
IsRead value = IsOk (payload_in value)

-- each value on a key spells a payload
abbrev pub AreRead : List ℕ → List Entry → Type 0
AreRead key entries = AllByRecursion IsRead (values_on_key key entries)

-- the place of a broken rule in so many bytes, none where a payload was read
abbrev pub broken_at : ℕ → Result Payload ℕ → Option ℕ
broken_at len (Ok payload) = None
broken_at len (Err left) = Some (len - left)

-- the place of the first broken rule in the first value that spells no payload, none where each spells one
abbrev pub first_bad : List (List ℕ) → Option ℕ
first_bad [] = None
first_bad (value ∷ values) = option_or (broken_at (length value) (payload_in value)) (first_bad values)

-- the least key asked for on which a value is bad, and the place in the first such value there
pub record IsFirstBad (wanted : List ℕ → Bool) (entries : List Entry) (at : ℕ) : Type 0 where
  pub key : List ℕ
  pub is_wanted : wanted key ≡ true
  pub bad : first_bad (values_on_key key entries) ≡ Some at
  pub least : (other : List ℕ) → wanted other ≡ true → is_lt (slice_cmp nat_cmp other key) ≡ true → AreRead other entries

-- entries whose keys rise strictly, and which have on each key asked for the spelling of what it shows, and no others; each reads back
pub record AreMerged (wanted : List ℕ → Bool) (entries merged : List Entry) : Type 0 where
  pub rising : IsStrictlySortedBy (slice_cmp nat_cmp) (map (λ (e : Entry). e.key) merged)
  pub values : (key : List ℕ) → values_on_key key merged ≡ (if wanted key then option_to_list (option_map encoding (shown_on key entries)) else [])
  pub payloads : (key : List ℕ) → payloads_on_key key merged ≡ (if wanted key then option_to_list (shown_on key entries) else [])

-- the answer for the keys asked for: the merged entries where each value on them is read, else the first bad place
abbrev pub Merges : (List ℕ → Bool) → List Entry → Result (List Entry) MergeError → Type 0
Merges wanted entries (Ok merged) = ((key : List ℕ) → wanted key ≡ true → AreRead key entries) × AreMerged wanted entries merged
Merges wanted entries (Err NoMemory) = Unit {0}
Merges wanted entries (Err (BadPayload at)) = IsFirstBad wanted entries at

-- the answer for one key: what it shows where each value on it is read, else the first bad place
abbrev pub Shows : List ℕ → List Entry → Result (Option Payload) MergeError → Type 0
Shows key entries (Ok found) = AreRead key entries × (found ≡ shown_on key entries)
Shows key entries (Err NoMemory) = Unit {0}
Shows key entries (Err (BadPayload at)) = first_bad (values_on_key key entries) ≡ Some at

-- the same as an entry
abbrev pub Finds : List ℕ → List Entry → Result (Option Entry) MergeError → Type 0
Finds key entries (Ok found) = AreRead key entries × (found ≡ option_map (λ p. record { key = key; value = encoding p }) (shown_on key entries))
Finds key entries (Err NoMemory) = Unit {0}
Finds key entries (Err (BadPayload at)) = first_bad (values_on_key key entries) ≡ Some at
