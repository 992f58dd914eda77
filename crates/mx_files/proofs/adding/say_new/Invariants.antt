use Rattle.std.proofs.Common.{◌≡◌, fold, take, All}
use Rattle.mx_base.specs.Names.{IsPartition}
use Rattle.mx_files.specs.Said.{with_new_file}
use Rattle.mx_files.proofs.adding.say_new.Given as goal

abbrev pub invariant-loop-file : goal.invariant-loop-file
invariant-loop-file l = record {
  said : l.said ≡ fold with_new_file l.fn.said (take l.file-index l.news);
  partitions : All (λ file. IsPartition file.partition) (take l.file-index l.news);
}
