use Rattle.std.proofs.Common.{rules}
use Rattle.mx_folder.specs.Reading.{IsDataFileOf}
use Rattle.mx_meta.proofs.JsonLemmas.{named_more}
use Rattle.mx_open.proofs.KindLemmas.{one_not, all_taken, said_not, said_so}
use Rattle.mx_open.proofs.kinds.are_data_files_of.Goals as goal

pub returns-then-not-branch : goal.returns-then-not-branch
returns-then-not-branch c = one_not (IsDataFileOf c.args.at) c.args.paths.now c.loop-path.path-index c.path-item.result (search rules) c.path-item.is (said_not c.in_ok-is_data_file_of.field-0 (IsDataFileOf c.args.at c.path-item.result) c.if-not-branch.true c.in_ok-is_data_file_of.ensures)

pub loop-path-preserved : goal.loop-path-preserved
loop-path-preserved c =
    named_more (IsDataFileOf c.args.at) c.args.paths.now c.loop-path.path-index c.path-item.result c.loop-path.invariant (said_so c.in_ok-is_data_file_of.field-0 (IsDataFileOf c.args.at c.path-item.result) c.if-not-branch.false c.in_ok-is_data_file_of.ensures) (search rules) c.path-item.is

pub returns : goal.returns
returns c = all_taken (IsDataFileOf c.args.at) c.args.paths.now c.loop-path.path-index (search rules) c.loop-path.invariant
