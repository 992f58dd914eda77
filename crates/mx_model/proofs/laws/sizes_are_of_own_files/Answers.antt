use Rattle.mx_model.proofs.MapLemmas.{sizes_in-files_map}
use Rattle.mx_model.proofs.laws.sizes_are_of_own_files.Goals as goal

pub returns : goal.returns
returns c = sizes_in-files_map c.args.files.now c.args.partition.now
