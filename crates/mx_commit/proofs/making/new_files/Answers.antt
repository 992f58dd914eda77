use Rattle.std.proofs.Common.{◌≡◌, ◌≤◌, ℕ, ◌∷◌, [], ◌++◌, ap, get_or, length, rules, sym, subst}
use Rattle.std.proofs.lemmas.List.Elements.{All-push, All-same}
use Rattle.mx_ask.specs.declared.ask.FileRows.{FileRows}
use Rattle.mx_commit.specs.declared.new_file.NewFile.{NewFile}
use Rattle.mx_commit.specs.Made.{IsFileOf, file_bytes}
use Rattle.mx_commit.proofs.MakingLemmas.{few_at, made_more, refused_at, small_more}
use Rattle.mx_commit.proofs.making.new_files.Goals as goal

pub new_file-requires-clause-few : goal.new_file-requires-clause-few
new_file-requires-clause-few c =
    let file = c.index-files-number.result in
    let is : file ≡ get_or c.args.files.now c.loop-number.number file = c.index-files-number.is in
    subst (λ (f : FileRows). length f.rows ≤ 16384) (sym is) (few_at c.args.files.now c.loop-number.number file c.requires.few c.loop-number-test.true)

pub returns-in_err-new_file-clause-size : goal.returns-in_err-new_file-clause-size
returns-in_err-new_file-clause-size c =
    refused_at c.args.schema.now c.args.at c.args.files.now c.loop-number.number c.index-files-number.result c.loop-number-test.true c.index-files-number.is c.loop-number.made c.loop-number.invariant.files c.loop-number.invariant.small
    c.from_residual.result _ (search rules) c.in_err-new_file.ensures.size

small_made : (file : NewFile) (size : ℕ) → length file.bytes ≡ size → size ≤ 4194304 → length file.bytes ≤ 4194304
small_made file size is small = subst (λ (n : ℕ). n ≤ 4194304) (sym is) small

pub loop-number-preserved : goal.loop-number-preserved
loop-number-preserved c = record {
  files = made_more c.args.schema.now c.args.at c.args.files.now c.loop-number.number c.index-files-number.result c.loop-number-test.true c.index-files-number.is c.loop-number.made c.push.new.self c.in_ok-new_file.field-0
      c.loop-number.invariant.files c.in_ok-new_file.ensures.file c.in_ok-push.ensures.ok;
  held = All-same (IsFileOf c.args.schema.now) c.push.new.self (c.loop-number.made ++ c.in_ok-new_file.field-0 ∷ []) c.in_ok-push.ensures.ok
      (All-push (IsFileOf c.args.schema.now) c.loop-number.made c.in_ok-new_file.field-0 c.loop-number.invariant.held c.in_ok-new_file.ensures.held);
  small = small_more c.loop-number.made c.push.new.self c.in_ok-new_file.field-0 c.loop-number.invariant.small (small_made c.in_ok-new_file.field-0 (length (file_bytes c.args.schema.now c.args.at c.loop-number.number c.index-files-number.result)) (ap (λ (f : NewFile). length f.bytes) c.in_ok-new_file.ensures.file) c.in_ok-new_file.ensures.size) c.in_ok-push.ensures.ok;
}
