-- What the object of a commit says of its files.
use Rattle.std.specs.Prelude.{◌≡◌, ◌≢◌, ℕ, List, [], ◌∷◌, ◌++◌, All, Contains, length, map, Option, true}
use Rattle.std.specs.List.Sorted.{IsStrictlySortedBy}
use Rattle.std.specs.Ordering.{nat_cmp}
use Rattle.std.specs.Cmp.Lexicographic.{slice_cmp}
use Rattle.mx_ask.specs.declared.ask.FileRows.{FileRows}
use Rattle.mx_base.specs.Names.{IsFileId, IsPartition}
use Rattle.mx_base.specs.Paths.{data_path}
use Rattle.mx_meta.specs.CommitText.{stat_below}
use Rattle.mx_meta.specs.Rising.{is_rising}
use Rattle.mx_meta.specs.declared.commit_meta.CommitMeta.{CommitMeta}
use Rattle.mx_meta.specs.declared.commit_meta.PartitionStats.{PartitionStats}
use Rattle.mx_commit.specs.declared.new_file.NewFile.{NewFile}
use Rattle.mx_commit.specs.declared.written.Written.{Written}

-- its id and its partition are such
pub record IsNamedFile (file : NewFile) : Type 0 where
  pub id : IsFileId file.file
  pub partition : IsPartition file.partition

-- where the data file of the instant stands
abbrev pub data_file : NewFile → ℕ → List ℕ
data_file file at = data_path file.partition file.file at

-- the entry of a file, where this commit wrote the group's file before
abbrev pub written_file : NewFile → ℕ → Option ℕ → Written
written_file file at before = record {
  partition = file.partition;
  stat = record {
    file_id = file.file;
    file_size_in_bytes = length file.bytes;
    num_writes = file.rows;
    path = data_file file at;
    prev_commit = before;
  };
}

-- the entries are those of the files, in their order, whatever wrote the groups before
abbrev pub AreWritten : List NewFile → ℕ → List Written → Type 0
AreWritten [] at [] = Unit {0}
AreWritten [] at (w ∷ ws) = ⊥
AreWritten (file ∷ files) at [] = ⊥
AreWritten (file ∷ files) at (w ∷ ws) = ((before : Option ℕ) × (w ≡ written_file file at before)) × AreWritten files at ws

-- the entries are of two groups
abbrev pub IsOtherGroup : Written → Written → Type 0
IsOtherGroup x y = ¬ ((x.partition ≡ y.partition) × (x.stat.file_id ≡ y.stat.file_id))

-- no two are of one group
abbrev pub AreOfOtherGroups : List Written → Type 0
AreOfOtherGroups [] = Unit {0}
AreOfOtherGroups (w ∷ ws) = All (IsOtherGroup w) ws × AreOfOtherGroups ws

-- the object has this entry under its partition
abbrev pub HasEntry : CommitMeta → Written → Type 0
HasEntry meta w = (p : PartitionStats) × Contains meta.partitions p × (p.partition ≡ w.partition) × Contains p.stats w.stat

-- the object has these entries and no other, the partitions by name and the entries of each by file id
pub record IsMetaOf (written : List Written) (meta : CommitMeta) : Type 0 where
  pub rising : IsStrictlySortedBy (slice_cmp nat_cmp) (map (λ (p : PartitionStats). p.partition) meta.partitions)
  pub ordered : All (λ (p : PartitionStats). is_rising stat_below p.stats ≡ true) meta.partitions
  pub filled : All (λ (p : PartitionStats). p.stats ≢ []) meta.partitions
  pub all : All (HasEntry meta) written
  pub only : (w : Written) → HasEntry meta w → Contains written w

-- ---- files of one group

-- a group is a partition and a file id
abbrev pub Group : Type 0
Group = List ℕ × List ℕ

-- the group of a file of an ask
abbrev pub asked_group : FileRows → Group
asked_group file = (file.partition, file.file)

-- the group of a file that is written
abbrev pub new_group : NewFile → Group
new_group file = (file.partition, file.file)

-- the groups are the same
abbrev pub IsSameGroup : Group → Group → Type 0
IsSameGroup x y = (x.0 ≡ y.0) × (x.1 ≡ y.1)

-- no two files are of one group
abbrev pub AreApartFiles : {X : Type 0} → (X → Group) → List X → Type 0
AreApartFiles group [] = Unit {0}
AreApartFiles {X} group (file ∷ files) = All (λ (other : X). ¬ (IsSameGroup (group file) (group other))) files × AreApartFiles group files

-- the first file of the group of one in front of it
pub record IsFirstDouble (files : List FileRows) (file : FileRows) : Type 0 where
  pub front : List FileRows
  pub behind : List FileRows
  pub splits : files ≡ front ++ file ∷ behind
  pub apart : AreApartFiles asked_group front
  pub other : FileRows
  pub among : Contains front other
  pub same : IsSameGroup (asked_group file) (asked_group other)
