-- Which paths are those of data files.
use Rattle.std.specs.Prelude.{◌≡◌, ℕ, ◌<◌, ◌^◌, List}
use Rattle.mx_base.specs.Names.{IsPartition, IsFileId}
use Rattle.mx_base.specs.Paths.{data_path}
use Rattle.mx_base.specs.declared.data_file.DataFile.{DataFile}

-- a data file stands at the path; it has an instant above 0
pub record IsDataFileAt (path : List ℕ) (file : DataFile) : Type 0 where
  pub partition : IsPartition file.partition
  pub group : IsFileId file.file
  pub meant : 0 < file.at
  pub small : file.at < 10 ^ 17
  pub is : path ≡ data_path file.partition file.file file.at
