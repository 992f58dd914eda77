-- What is read of the index is what the commits list.
use Rattle.std.proofs.Common.{◌≡◌, ℕ, zero, suc, Bool, true, false, cond, List, [], ◌∷◌, ◌++◌, map, Option, Some, None, IsSome, IfSome, is_some, refl, sym, ◌∙◌, ap, subst, append_assoc, arith}
use Rattle.std.specs.Prelude.{Contains, bytes_eq, filter, slice_get, option_and_then, option_map, unwrap_or}
use Rattle.std.specs.List.{flat_map, AllByRecursion}
use Rattle.std.specs.FinMap as finmap
use Rattle.std.specs.Option.{option_map_or}
use Rattle.std.proofs.lemmas.Grind.{flat_map-append}
use Rattle.std.proofs.lemmas.Simd.{map-map}
use Rattle.std.proofs.lemmas.Slice.Eq.{bytes_eq-Decides}
use Rattle.mx_ask.specs.declared.ask.Question.{Question}
use Rattle.mx_ask.specs.declared.ask.Question.TheVariants as asked
use Rattle.mx_ask.specs.declared.reply.FileSize.{FileSize}
use Rattle.mx_ask.specs.declared.reply.Reply.{Reply}
use Rattle.mx_ask.specs.Asks.{IsNamedQuestion}
use Rattle.mx_base.specs.Names.{is_partition, IsPartition}
use Rattle.mx_base.specs.Objects.{object_path}
use Rattle.mx_base.specs.declared.entry.Entry.{Entry}
use Rattle.mx_base.specs.declared.object_name.ObjectName.{ObjectName}
use Rattle.mx_base.specs.declared.object_name.ObjectName.TheVariants.{Config}
use Rattle.mx_base.specs.declared.part.Part.{Part}
use Rattle.mx_base.specs.declared.part.Part.TheVariants.{Files as FilesPart}
use Rattle.mx_base.proofs.ObjectLemmas.{object_path-injective}
use Rattle.mx_files.specs.Files.{FilesMap, files_map, sizes_in, all_partitions, expected_on, named_partitions}
use Rattle.mx_merge.specs.declared.log.Log.{Log}
use Rattle.mx_merge.specs.Merged.{AreRead, IsRead, shown_on, slice_entries}
use Rattle.mx_merge.specs.Shown.{SizeMap, words_with}
use Rattle.mx_meta.specs.ShardFiles.{base_meta_of}
use Rattle.mx_meta.specs.Views.{Bases}
use Rattle.mx_model.specs.Answer.{file_sizes, answer}
use Rattle.mx_model.specs.Listing.{listed_files}
use Rattle.mx_model.specs.declared.action.Action.{Action}
use Rattle.mx_model.proofs.TreeLemmas.{file_sizes-empty}
use Rattle.mx_payload.specs.declared.payload.NameWord.{NameWord}
use Rattle.mx_payload.specs.declared.payload.Payload.{Payload}
use Rattle.mx_payload.specs.declared.payload.Payload.TheVariants as payloads
use Rattle.mx_store.specs.declared.change.Change.{Change}
use Rattle.mx_store.specs.Objects.{Objects, objects_of}
use Rattle.mx_folder.specs.Named.{object_at, commit_name, first_base, first_bases, log_name}
use Rattle.mx_folder.specs.Actions.{IsCompleted, action_at, actions_upto}
use Rattle.mx_folder.specs.Completed.{completed_upto}
use Rattle.mx_folder.specs.Folder.{IsOpenable}
use Rattle.mx_folder.specs.Reading.{Reads, IsAvailable, SpellPayloads}
use Rattle.mx_folder.specs.Slices.{base_of, log_of, base_entries, entries_at, logged_entries, slice_at}
use Rattle.mx_folder.proofs.ActionLemmas.{action_at-some}
use Rattle.mx_folder.proofs.CompletedLemmas.{logged_completed}
use Rattle.mx_folder.proofs.NamedLemmas.{object_at-is, object_at-stands, object_at-some, is_some_same, some_value}
use Rattle.mx_folder.proofs.PendingLemmas.{hidden_object}
use Rattle.mx_world.specs.declared.mirror.Mirror.{Mirror}
use Rattle.mx_world.specs.Mirror.{IsMirrorOf}
use Rattle.mx_world.specs.State.{Stands}
use Rattle.mx_lookup.specs.Looking.{IsPinned, floor, ReadsAll, log_paths, IsLookedUp, key_of, sizes_told, names_told, told, base_there, log_there, IsBase, AreLogs}

-- ---- what is read

pub reads_more : (front : List (List ℕ)) (path : List ℕ) (before during after : Option (List (List ℕ))) → ReadsAll front before during → ReadsAll (path ∷ []) during after → ReadsAll (front ++ path ∷ []) before after
reads_more front path None during after first second = subst (λ (d : Option (List (List ℕ))). ReadsAll (path ∷ []) d after) first second
reads_more front path (Some before) during after first second =
    subst (λ (d : Option (List (List ℕ))). ReadsAll (path ∷ []) d after) first second ∙ ap (λ (l : List (List ℕ)). Some l) (append_assoc before front (path ∷ []))

-- the base, and then the logs
pub reads_behind : (path : List ℕ) (paths : List (List ℕ)) (before during after : Option (List (List ℕ))) → ReadsAll (path ∷ []) before during → ReadsAll paths during after → ReadsAll (path ∷ paths) before after
reads_behind path paths None during after first second = subst (λ (d : Option (List (List ℕ))). ReadsAll paths d after) first second
reads_behind path paths (Some before) during after first second =
    subst (λ (d : Option (List (List ℕ))). ReadsAll paths d after) first second ∙ ap (λ (l : List (List ℕ)). Some l) (append_assoc before (path ∷ []) paths)

-- ---- the slice

same_base : (o : Objects) → base_there o ≡ base_entries o
unfolding base_entries
same_base o = ap (λ (x : Option (List ℕ)). unwrap_or (option_and_then base_of x) []) (sym (object_at-is o first_base refl))

-- the log of a completed commit has a name
same_log : (o : Objects) (at : ℕ) → IsCompleted o at → log_there o at ≡ entries_at o at
unfolding entries_at
same_log o at done = ap (λ (x : Option (List ℕ)). unwrap_or (option_and_then (log_of at) x) []) (sym (object_at-is o (log_name at) (object_at-stands o (commit_name at) done).0))

logs_same : (o : Objects) (at : ℕ) → flat_map (log_there o) (completed_upto o at) ≡ flat_map (entries_at o) (completed_upto o at)
unfolding completed_upto
logs_same o zero = refl
logs_same o (suc at) =
    flat_map-append (log_there o) (completed_upto o at) _
    ∙ ap (λ (es : List Entry). es ++ flat_map (log_there o) (cond (is_some (object_at o (commit_name (suc at)))) (suc at ∷ []) [])) (logs_same o at)
    ∙ ap (λ (es : List Entry). flat_map (entries_at o) (completed_upto o at) ++ es) (step (is_some (object_at o (commit_name (suc at)))) refl)
    ∙ sym (flat_map-append (entries_at o) (completed_upto o at) _)
  where
    step : (b : Bool) → is_some (object_at o (commit_name (suc at))) ≡ b → flat_map (log_there o) (cond b (suc at ∷ []) []) ≡ flat_map (entries_at o) (cond b (suc at ∷ []) [])
    step true stands = ap (λ (es : List Entry). es ++ []) (same_log o (suc at) stands)
    step false absent = refl

-- ---- a folder that opens

-- what stands at the name of an object reads as it
reads_at : (o : Objects) → IsOpenable o → (name : ObjectName) (bytes : List ℕ) → object_at o name ≡ Some bytes → Reads o name bytes
reads_at o opens name bytes stands =
    let found = object_at-some o name bytes stands in
    let object = (opens.sound (object_path name)).object bytes (hidden_object name) found.1 in
    subst (λ (other : ObjectName). Reads o other bytes) (sym (object_path-injective name object.name found.0 object.is_name object.path_is)) object.reads

-- the one base has nothing behind the instant 0
floor_is : (o : Objects) → IsOpenable o → floor o ≡ 0
floor_is o opens = from (object_at o first_bases) refl
  where
    from : (x : Option (List ℕ)) → object_at o first_bases ≡ x → floor o ≡ 0
    from None absent = ap (λ (x : Option (List ℕ)). option_map_or (λ (bases : Bases). bases.upto) (option_and_then base_meta_of x) 0) absent
    from (Some bytes) stands =
        let reads = reads_at o opens first_bases bytes stands in
        ap (λ (x : Option (List ℕ)). option_map_or (λ (bases : Bases). bases.upto) (option_and_then base_meta_of x) 0) stands
        ∙ ap (λ (x : Option Bases). option_map_or (λ (bases : Bases). bases.upto) x 0) reads.1

-- each completed commit reads
completed_reads : (o : Objects) → IsOpenable o → (at : ℕ) → IsCompleted o at → IsSome (action_at o at)
completed_reads o opens at done = from (object_at o (commit_name at)) refl
  where
    from : (x : Option (List ℕ)) → object_at o (commit_name at) ≡ x → IsSome (action_at o at)
    from None absent = absurd (cc (sym (ap is_some absent) ∙ done))
    from (Some bytes) stands = let reads = reads_at o opens (commit_name at) bytes stands in is_some_same _ _ (action_at-some o at bytes reads.0 stands reads.1) refl

slice_found : (o : Objects) → IsOpenable o → (at : ℕ) → base_there o ++ flat_map (log_there o) (completed_upto o at) ≡ slice_at o at
slice_found o opens at =
    ap (λ (es : List Entry). es ++ flat_map (log_there o) (completed_upto o at)) (same_base o)
    ∙ ap (λ (es : List Entry). base_entries o ++ es) (logs_same o at ∙ logged_completed o (completed_reads o opens) at)

-- ---- each value of the slice is a payload

files_first : (parts : List Part) → slice_get parts 0 ≡ Some FilesPart → Contains parts FilesPart
files_first [] is = absurd (cc is)
files_first (part ∷ parts) is = (0, omega arith, ap (λ (x : Option Part). unwrap_or x part) is)

-- the files part can be read
files_available : (o : Objects) → IsOpenable o → IsAvailable o FilesPart
files_available o opens =
    let found = some_value (object_at o Config) opens.config in
    let reads = reads_at o opens Config found.0 found.1 in
    (reads.config, reads.is_config, found.1 ∙ ap (λ (x : List ℕ). Some x) reads.text, files_first reads.config.available reads.is_config.available.files)

base_spelled : (o : Objects) → IsOpenable o → SpellPayloads (base_entries o)
unfolding base_entries
base_spelled o opens = from (object_at o first_base) refl
  where
    from : (x : Option (List ℕ)) → object_at o first_base ≡ x → SpellPayloads (unwrap_or (option_and_then base_of (object_at o first_base)) [])
    from None absent = subst (λ (x : Option (List ℕ)). SpellPayloads (unwrap_or (option_and_then base_of x) [])) (sym absent) tt
    from (Some bytes) stands =
        let reads = (reads_at o opens first_base bytes stands).1 (files_available o opens) in
        subst (λ (x : Option (List ℕ)). SpellPayloads (unwrap_or (option_and_then base_of x) [])) (sym stands) (subst (λ (x : Option (List Entry)). SpellPayloads (unwrap_or x [])) (sym reads.1) reads.2)

log_spelled : (o : Objects) → IsOpenable o → (at : ℕ) → SpellPayloads (entries_at o at)
unfolding entries_at
log_spelled o opens at = from (object_at o (log_name at)) refl
  where
    from : (x : Option (List ℕ)) → object_at o (log_name at) ≡ x → SpellPayloads (unwrap_or (option_and_then (log_of at) (object_at o (log_name at))) [])
    from None absent = subst (λ (x : Option (List ℕ)). SpellPayloads (unwrap_or (option_and_then (log_of at) x) [])) (sym absent) tt
    from (Some bytes) stands =
        let reads = reads_at o opens (log_name at) bytes stands (files_available o opens) in
        subst (λ (x : Option (List ℕ)). SpellPayloads (unwrap_or (option_and_then (log_of at) x) [])) (sym stands) (subst (λ (x : Option (List Entry)). SpellPayloads (unwrap_or x [])) (sym reads.1) reads.2)

both_spelled : (xs ys : List Entry) → SpellPayloads xs → SpellPayloads ys → SpellPayloads (xs ++ ys)
both_spelled [] ys left right = right
both_spelled (x ∷ xs) ys left right = (left.0, both_spelled xs ys left.1 right)

logs_spelled : (o : Objects) → IsOpenable o → (actions : List Action) → SpellPayloads (logged_entries o actions)
logs_spelled o opens [] = tt
logs_spelled o opens (action ∷ actions) = both_spelled (entries_at o action.at) (logged_entries o actions) (log_spelled o opens action.at) (logs_spelled o opens actions)

slice_spelled : (o : Objects) → IsOpenable o → (at : ℕ) → SpellPayloads (slice_at o at)
slice_spelled o opens at = both_spelled (base_entries o) (logged_entries o (actions_upto o at)) (base_spelled o opens) (logs_spelled o opens (actions_upto o at))

read_on : (key : List ℕ) (es : List Entry) → SpellPayloads es → AreRead key es
read_on key [] spelled = tt
read_on key (e ∷ es) spelled = from (bytes_eq e.key key) (read_on key es spelled.1)
  where
    from : (b : Bool) → AreRead key es → AllByRecursion IsRead (map (λ (x : Entry). x.value) (cond b (e ∷ filter (λ (x : Entry). bytes_eq x.key key) es) (filter (λ (x : Entry). bytes_eq x.key key) es)))
    from true rest = (spelled.0, rest)
    from false rest = rest

-- ---- what is expected is the answer

no_name : is_partition all_partitions ≡ false
unfolding is_partition
no_name = refl

no_partition : (partition : List ℕ) → IsPartition partition → bytes_eq partition all_partitions ≡ false
no_partition partition is = from (bytes_eq partition all_partitions) refl
  where
    from : (b : Bool) → bytes_eq partition all_partitions ≡ b → bytes_eq partition all_partitions ≡ false
    from true same = absurd (cc (sym no_name ∙ ap is_partition (sym ((bytes_eq-Decides partition all_partitions).0 same)) ∙ is))
    from false differ = differ

listed_sizes : (files : FilesMap) (partition : List ℕ) → sizes_told (option_map (λ (sizes : SizeMap). payloads.Files (words_with sizes)) (finmap.get files partition)) ≡ file_sizes (sizes_in files partition)
listed_sizes files partition = from (finmap.get files partition)
  where
    from : (x : Option SizeMap) → sizes_told (option_map (λ (sizes : SizeMap). payloads.Files (words_with sizes)) x) ≡ file_sizes (unwrap_or x finmap.empty)
    from None = sym file_sizes-empty
    from (Some sizes) = map-map (λ (w : NameWord). record { name = w.name; size = w.size }) (λ (e : List ℕ × ℕ). record { name = e.0; size = e.1; deleted = false }) (finmap.entries sizes)

listed_names : (names : List (List ℕ)) → names_told (named_partitions names) ≡ names
listed_names [] = refl
listed_names (name ∷ names) = refl

told_answer : (question : Question) → IsNamedQuestion question → (files : FilesMap) (at : ℕ) → told question at (expected_on (key_of question) files) ≡ answer question files at
unfolding expected_on
told_answer (asked.Files partition) named files at =
    ap (λ (b : Bool). Reply.Files at (sizes_told (cond b (named_partitions (finmap.keys files)) (option_map (λ (sizes : SizeMap). payloads.Files (words_with sizes)) (finmap.get files partition))))) (no_partition partition named)
    ∙ ap (λ (fs : List FileSize). Reply.Files at fs) (listed_sizes files partition)
told_answer asked.Partitions named files at =
    ap (λ (b : Bool). Reply.Partitions at (names_told (cond b (named_partitions (finmap.keys files)) (option_map (λ (sizes : SizeMap). payloads.Files (words_with sizes)) (finmap.get files all_partitions))))) ((bytes_eq-Decides all_partitions all_partitions).1 refl)
    ∙ ap (λ (ns : List (List ℕ)). Reply.Partitions at ns) (listed_names (finmap.keys files))

-- ---- the look-up

module _ (o : Objects) (m : Mirror) (is : IsMirrorOf o m) (question : Question) (named : IsNamedQuestion question) (asked : Option ℕ) (at : ℕ) (instants : List ℕ) (base : List Entry) (logs : List Log) (reply : Reply) (before during after : Option (List (List ℕ))) where
  abbrev slice : List Entry
  slice = slice_entries base logs

  looked_up : ((o : Objects) → IsMirrorOf o m → IsPinned o asked at) → ((o : Objects) → IsMirrorOf o m → instants ≡ completed_upto o at)
      → base ≡ base_there o → flat_map (λ (log : Log). log.entries) logs ≡ flat_map (log_there o) instants
      → ReadsAll (object_path first_base ∷ []) before during → ReadsAll (log_paths instants) during after
      → (shown : Option Payload) → (AreRead (key_of question) slice → shown ≡ shown_on (key_of question) slice) → reply ≡ told question at shown → IsLookedUp o question asked reply before after
  looked_up pinned listed is_base are_logs first others shown known is_reply = record {
    at = at;
    pinned = pinned o is;
    retained = λ valid. let low = floor_is o valid.opens in omega (arith, low);
    answer = λ valid.
        let same : slice ≡ slice_at o at =
        ap (λ (es : List Entry). es ++ flat_map (λ (log : Log). log.entries) logs) is_base
        ∙ ap (λ (es : List Entry). base_there o ++ es) (are_logs ∙ ap (λ (ts : List ℕ). flat_map (log_there o) ts) (listed o is))
        ∙ slice_found o valid.opens at in
        let read : AreRead (key_of question) slice = subst (AreRead (key_of question)) (sym same) (read_on (key_of question) (slice_at o at) (slice_spelled o valid.opens at)) in
        is_reply
        ∙ ap (told question at) (known read ∙ ap (shown_on (key_of question)) same ∙ valid.shows at (key_of question))
        ∙ told_answer question named (files_map (listed_files (actions_upto o at))) at;
    reads = reads_behind (object_path first_base) (log_paths (completed_upto o at)) before during after first (subst (λ (ts : List ℕ). ReadsAll (log_paths ts) during after) (listed o is) others);
  }

pub answer_found : (opening journal : Option (List Change)) (m : Mirror) (last applied : ℕ) (doubt : Option Change) → doubt ≡ None → Stands opening journal m last applied doubt
    → (question : Question) → IsNamedQuestion question → (asked : Option ℕ) (at : ℕ) (instants : List ℕ) (base : List Entry) (logs : List Log) (reply : Reply) (before during after : Option (List (List ℕ)))
    → ((o : Objects) → IsMirrorOf o m → IsPinned o asked at) → ((o : Objects) → IsMirrorOf o m → instants ≡ completed_upto o at) → IsBase journal base → AreLogs journal instants logs
    → ReadsAll (object_path first_base ∷ []) before during → ReadsAll (log_paths instants) during after
    → (shown : Option Payload) → (AreRead (key_of question) (slice_entries base logs) → shown ≡ shown_on (key_of question) (slice_entries base logs)) → reply ≡ told question at shown
    → IfSome journal (λ j. IsLookedUp (objects_of j) question asked reply before after)
answer_found opening None m last applied doubt sure stands question named asked at instants base logs reply before during after pinned listed is_base are_logs first others shown known is_reply = tt
answer_found opening (Some journal) m last applied (Some change) sure stands question named asked at instants base logs reply before during after pinned listed is_base are_logs first others shown known is_reply = absurd (cc sure)
answer_found None (Some journal) m last applied None sure stands question named asked at instants base logs reply before during after pinned listed is_base are_logs first others shown known is_reply = absurd (cc stands)
answer_found (Some opening) (Some journal) m last applied None sure stands question named asked at instants base logs reply before during after pinned listed is_base are_logs first others shown known is_reply =
    looked_up (objects_of journal) m stands.mirror_is question named asked at instants base logs reply before during after pinned listed is_base are_logs first others shown known is_reply
