use Rattle.std.proofs.Common.{Some, Err, sym, ap, subst, ◌∙◌}
use Rattle.mx_base.specs.Names.{IsFileId, IsPartition}
use Rattle.mx_base.specs.declared.path.NameError.{NameError}
use Rattle.mx_base.specs.declared.data_file.DataFile.{DataFile}
use Rattle.mx_base.proofs.DataLemmas.{the_file, same_file}
use Rattle.mx_base.proofs.data_file.DataFile.of.Goals as goal

pub returns-in_default-parse-clause-only : goal.returns-in_default-parse-clause-only
returns-in_default-parse-clause-only c file is =
    let read = c.in-Some.ensures in
    let parts = the_file c.args.path.now c.in-Some.folder.now c.in-Some.file.now c.in-Some.number file read.2 read.1 (sym c.as_str.ensures.value ∙ read.3) is in
    absurd (cc (c.in_default-parse.ensures.ok.1 (subst IsFileId (sym parts.1) is.group)))

pub returns-in-Ok-parse-clause-only : goal.returns-in-Ok-parse-clause-only
returns-in-Ok-parse-clause-only c file is =
    let read = c.in-Some.ensures in
    let parts = the_file c.args.path.now c.in-Some.folder.now c.in-Some.file.now c.in-Some.number file read.2 read.1 (sym c.as_str.ensures.value ∙ read.3) is in
    ap (λ (f : DataFile). Some f)
    (same_file c.in-Ok-parse.partition c.in-Ok.file c.of_number.result file (c.in-Ok-parse.ensures.value ∙ parts.0) (c.in-Ok.ensures.value ∙ parts.1) (c.of_number.ensures ∙ parts.2))

pub returns-in-Err-BadName-clause-only : goal.returns-in-Err-BadName-clause-only
returns-in-Err-BadName-clause-only c file is =
    let read = c.in-Some.ensures in
    let parts = the_file c.args.path.now c.in-Some.folder.now c.in-Some.file.now c.in-Some.number file read.2 read.1 (sym c.as_str.ensures.value ∙ read.3) is in
    absurd (c.in-Err-BadName.ensures.bad (ap (λ (e : NameError). Err e) c.in-Err-BadName.field-0-is) (subst IsPartition (sym parts.0) is.partition))
