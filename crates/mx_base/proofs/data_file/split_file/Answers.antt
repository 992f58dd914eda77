use Rattle.std.proofs.Common.{◌-◌, length, sym, arith}
use Rattle.std.specs.Prelude.{codes}
use Rattle.mx_base.specs.Paths.{data_file_name}
use Rattle.mx_base.proofs.DataLemmas.{too_short, cut_before_name, name_behind, cut_behind_file, rest_behind, slash_behind, cut_path}
use Rattle.mx_base.proofs.ObjectReadings.{prefixed}
use Rattle.mx_base.proofs.data_file.split_file.Goals as goal

pub returns-then-path-lt69 : goal.returns-then-path-lt69
returns-then-path-lt69 c partition file at id meant small same = too_short c.args.path.now c.if-path-lt69.true partition file at id same

pub returns-in_default : goal.returns-in_default
returns-in_default c partition file at id meant small same =
    absurd (cc (c.in_default.ensures.variant.1 (cut_before_name c.args.path.now (length c.args.path.now - 69) (omega arith) partition file at id same)))

pub returns-in_default-strip_prefix : goal.returns-in_default-strip_prefix
returns-in_default-strip_prefix c partition file at id meant small same =
    c.in_default-strip_prefix.ensures.cases (data_file_name file at) (name_behind c.args.path.now c.in-Some.folder.now c.in-Some.name.now (length c.args.path.now - 69) (omega arith) c.in-Some.ensures.back partition file at id same)

pub returns-in_default-split_at_checked : goal.returns-in_default-split_at_checked
returns-in_default-split_at_checked c partition file at id meant small same =
    let behind = name_behind c.args.path.now c.in-Some.folder.now c.in-Some.name.now (length c.args.path.now - 69) (omega arith) c.in-Some.ensures.back partition file at id same in
    let slashed = prefixed (codes "/") c.in-Some-strip_prefix.name.now c.in-Some.name.now _ c.in-Some-strip_prefix.ensures.cases.1.1 c.in-Some-strip_prefix.ensures.cases.2 in
    absurd (cc (c.in_default-split_at_checked.ensures.variant.1 (cut_behind_file c.in-Some-strip_prefix.name.now file at id (slash_behind c.in-Some.name.now c.in-Some-strip_prefix.name.now file at (sym slashed) behind))))

pub returns-in-Some-instant_behind : goal.returns-in-Some-instant_behind
returns-in-Some-instant_behind c =
    let slashed = prefixed (codes "/") c.in-Some-strip_prefix.name.now c.in-Some.name.now _ c.in-Some-strip_prefix.ensures.cases.1.1 c.in-Some-strip_prefix.ensures.cases.2 in
    let read = c.in-Some-instant_behind.ensures in (
      read.0,
      read.1,
      c.in-Some-split_at_checked.ensures.front_len,
      cut_path c.args.path.now c.in-Some.folder.now c.in-Some.name.now c.in-Some-strip_prefix.name.now c.in-Some-split_at_checked.file.now c.in-Some-split_at_checked.rest.now (length c.args.path.now - 69) c.in-Some-instant_behind.number
          c.in-Some.ensures.front c.in-Some.ensures.back (sym slashed) c.in-Some-split_at_checked.ensures.front c.in-Some-split_at_checked.ensures.back read.2,
    )

pub returns-in-None : goal.returns-in-None
returns-in-None c partition file at id meant small same =
    let behind = name_behind c.args.path.now c.in-Some.folder.now c.in-Some.name.now (length c.args.path.now - 69) (omega arith) c.in-Some.ensures.back partition file at id same in
    let slashed = prefixed (codes "/") c.in-Some-strip_prefix.name.now c.in-Some.name.now _ c.in-Some-strip_prefix.ensures.cases.1.1 c.in-Some-strip_prefix.ensures.cases.2 in
    c.in-None.ensures at meant small
    (rest_behind c.in-Some-strip_prefix.name.now c.in-Some-split_at_checked.rest.now file at c.in-Some-split_at_checked.ensures.back id (slash_behind c.in-Some.name.now c.in-Some-strip_prefix.name.now file at (sym slashed) behind))
