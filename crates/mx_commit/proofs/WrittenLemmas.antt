-- The entries of files, one more at a time.
use Rattle.std.proofs.Common.{◌≡◌, ℕ, List, [], ◌∷◌, ◌++◌, Option}
use Rattle.mx_commit.specs.declared.new_file.NewFile.{NewFile}
use Rattle.mx_commit.specs.declared.written.Written.{Written}
use Rattle.mx_commit.specs.Written.{written_file, AreWritten}

pub more_written : (files : List NewFile) (at : ℕ) (ws : List Written) (file : NewFile) (before : Option ℕ) (w : Written) → AreWritten files at ws → w ≡ written_file file at before → AreWritten (files ++ file ∷ []) at (ws ++ w ∷ [])
more_written [] at [] file before w are is = ((before, is), tt)
more_written [] at (v ∷ ws) file before w are is = absurd are
more_written (f ∷ files) at [] file before w are is = absurd are
more_written (f ∷ files) at (v ∷ ws) file before w are is = (are.0, more_written files at ws file before w are.1 is)
