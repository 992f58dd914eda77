-- What a commit makes, and in which order.
use Rattle.std.specs.Prelude.{◌≡◌, ℕ, List, [], ◌∷◌, ◌++◌, length, codes, map, Some}
use Rattle.serde_json.specs.Written.{compact_text}
use Rattle.mx_base.specs.Objects.{object_path}
use Rattle.mx_base.specs.declared.entry.Entry.{Entry}
use Rattle.mx_base.specs.declared.entry.FileAt.{FileAt}
use Rattle.mx_files.specs.Delta.{IsDelta}
use Rattle.mx_folder.specs.Named.{commit_name, delta_name, log_name}
use Rattle.mx_folder.specs.Pending.{requested_name, inflight_name, delta_mark}
use Rattle.mx_folder.specs.Reading.{SpellPayloads}
use Rattle.mx_folder.specs.Slices.{log_of}
use Rattle.mx_log.specs.Encoding.{log_encoding}
use Rattle.mx_meta.specs.CommitText.{commit_meta_data, commit_meta_of}
use Rattle.mx_meta.specs.PathLists.{path_list_data, path_list_of}
use Rattle.mx_meta.specs.ShardFiles.{delta_meta_data, delta_meta_of}
use Rattle.mx_meta.specs.declared.commit_meta.CommitMeta.{CommitMeta}
use Rattle.mx_meta.specs.declared.path_list.PathList.{PathList}
use Rattle.mx_store.specs.declared.change.Change.{Change}
use Rattle.mx_store.specs.declared.change.Change.TheVariants.{Create}
use Rattle.mx_commit.specs.declared.new_file.NewFile.{NewFile}
use Rattle.mx_commit.specs.declared.written.Written.{Written}
use Rattle.mx_commit.specs.Written.{data_file, IsMetaOf}

-- the files that the commit will write, in the order of the ask
abbrev pub files_planned : List NewFile → ℕ → PathList
files_planned files at = record { paths = map (λ (file : NewFile). data_file file at) files }

-- a file that it adds
abbrev pub file_added : ℕ → NewFile → FileAt
file_added at file = record { partition = file.partition; file = file.file; at = at; size = length file.bytes }

-- the files that it adds, in the same order
abbrev pub files_added : List NewFile → ℕ → List FileAt
files_added files at = map (file_added at) files

-- the logs that it writes: one, and none where it has no files
abbrev pub logs_written : List NewFile → ℕ → List (List ℕ)
logs_written [] at = []
logs_written (file ∷ files) at = object_path (log_name at) ∷ []

-- the data files
abbrev pub data_changes : List NewFile → ℕ → List Change
data_changes files at = map (λ (file : NewFile). Create (data_file file at) file.bytes) files

-- the request, the list of files, and the data files
abbrev pub file_changes : List NewFile → ℕ → List Change
file_changes files at =
    Create (object_path (requested_name at)) (codes "{}")
    ∷ Create (object_path (inflight_name at)) (compact_text (path_list_data (files_planned files at)))
    ∷ data_changes files at

-- the log of these entries
abbrev pub added_changes : List NewFile → ℕ → List Entry → List Change
added_changes [] at entries = []
added_changes (file ∷ files) at entries = Create (object_path (log_name at)) (log_encoding at entries) ∷ []

-- the mark before the logs, the log, and the object that names it
abbrev pub log_changes : List NewFile → ℕ → List Entry → List Change
log_changes files at entries =
    Create (object_path (delta_mark at)) (codes "{}")
    ∷ (added_changes files at entries ++ Create (object_path (delta_name at)) (compact_text (delta_meta_data (logs_written files at))) ∷ [])

-- what is made before the commit counts
abbrev pub early_changes : List NewFile → ℕ → List Entry → List Change
early_changes files at entries = file_changes files at ++ log_changes files at entries

-- the object with which the commit counts
abbrev pub completion : ℕ → CommitMeta → Change
completion at meta = Create (object_path (commit_name at)) (compact_text (commit_meta_data meta))

-- the changes of a commit, in their order
abbrev pub commit_changes : List NewFile → ℕ → List Entry → CommitMeta → List Change
commit_changes files at entries meta = early_changes files at entries ++ completion at meta ∷ []

-- what is written reads back
pub record ReadsBack (files : List NewFile) (at : ℕ) (entries : List Entry) (meta : CommitMeta) : Type 0 where
  pub planned : path_list_of (compact_text (path_list_data (files_planned files at))) ≡ Some (files_planned files at)
  pub added : log_of at (log_encoding at entries) ≡ Some entries
  pub payloads : SpellPayloads entries
  pub logs : delta_meta_of (compact_text (delta_meta_data (logs_written files at))) ≡ Some (logs_written files at)
  pub completes : commit_meta_of (compact_text (commit_meta_data meta)) ≡ Some meta

-- the changes are those of a commit of the files that are written so; its log has what they add to the index, and what is written
-- reads back
pub record IsPlanOf (files : List NewFile) (written : List Written) (at : ℕ) (changes : List Change) : Type 0 where
  pub entries : List Entry
  pub is_delta : IsDelta (files_added files at) [] entries
  pub meta : CommitMeta
  pub is_meta : IsMetaOf written meta
  pub are : changes ≡ commit_changes files at entries meta
  pub reads : ReadsBack files at entries meta
