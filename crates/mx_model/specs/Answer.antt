-- The reply that the maps give.
use Rattle.std.specs.Prelude.{ℕ, List, map}
use Rattle.std.specs.FinMap as finmap
use Rattle.mx_ask.specs.declared.ask.Question.{Question}
use Rattle.mx_ask.specs.declared.reply.FileSize.{FileSize}
use Rattle.mx_ask.specs.declared.reply.Reply.{Reply}
use Rattle.mx_files.specs.Files.{FilesMap, sizes_in}
use Rattle.mx_merge.specs.Shown.{SizeMap}

-- names and sizes, in byte order of names
abbrev pub file_sizes : SizeMap → List FileSize
file_sizes sizes = map (λ (e : List ℕ × ℕ). record { name = e.0; size = e.1 }) (finmap.entries sizes)

-- what the maps at an instant answer: the files of a partition, or the partitions, in byte order
abbrev pub answer : Question → FilesMap → ℕ → Reply
answer (Question.Files partition) files at = Reply.Files at (file_sizes (sizes_in files partition))
answer Question.Partitions files at = Reply.Partitions at (finmap.keys files)
