-- What the payloads of one key show together, after the merging of records in Hudi's metadata table (RFC-15).
use Rattle.std.specs.Prelude.{ℕ, false, List, [], ◌∷◌, map, fold, Option, Some, None, option_and_then, ◌==◌, if◌then◌else◌}
use Rattle.std.specs.List.{flat_map, list_all, last_or}
use Rattle.std.specs.Ordering.{nat_cmp}
use Rattle.std.specs.Cmp.Lexicographic.{slice_cmp}
use Rattle.std.specs.FinMap as finmap
use Rattle.mx_payload.specs.declared.payload.NameWord.{NameWord}
use Rattle.mx_payload.specs.declared.payload.Payload.{Payload}
use Rattle.mx_payload.specs.declared.payload.Payload.TheVariants.{Partitions, Files, Stats, Bloom, Location}
use Rattle.mx_payload.specs.Union.{kind, words_of}

-- from names to sizes
abbrev pub SizeMap : Type 0
SizeMap = finmap.FinMap (slice_cmp nat_cmp) ℕ

-- a payload of another kind takes the place of all before it: what is left are those from the last change of kind on
abbrev pub last_run : List Payload → List Payload
last_run [] = []
last_run (p ∷ ps) = if list_all (λ q. kind q == kind p) ps then p ∷ ps else last_run ps

-- the sizes after one more word: it takes its name out, or gives it its size
abbrev pub with_word : SizeMap → NameWord → SizeMap
with_word sizes w = if w.deleted then finmap.remove sizes w.name else finmap.insert sizes w.name w.size

-- the sizes after more words, each in turn
abbrev pub sizes_left : SizeMap → List NameWord → SizeMap
sizes_left sizes words = fold with_word sizes words

-- the names that lists leave, each as the last word that speaks of it says
abbrev pub sizes_of : List Payload → SizeMap
sizes_of payloads = sizes_left finmap.empty (flat_map words_of payloads)

-- a word for each name, in byte order of names
abbrev pub words_with : SizeMap → List NameWord
words_with sizes = map (λ (e : List ℕ × ℕ). record { name = e.0; size = e.1; deleted = false }) (finmap.entries sizes)

-- payloads of one kind, of which this is the last, show: a list what its words leave, else the last, unless it is deleted
abbrev pub shown_by : List Payload → Payload → Option Payload
shown_by run (Partitions names) = Some (Partitions (finmap.keys (sizes_of run)))
shown_by run (Files words) = Some (Files (words_with (sizes_of run)))
shown_by run (Stats file column stat deleted) = if deleted then None else Some (Stats file column stat deleted)
shown_by run (Bloom bits deleted) = if deleted then None else Some (Bloom bits deleted)
shown_by run (Location partition file instant deleted) = if deleted then None else Some (Location partition file instant deleted)

-- what a key shows that has these payloads, the oldest first
unfoldable pub shown : List Payload → Option Payload
shown payloads = option_and_then (shown_by (last_run payloads)) (last_or None payloads)
