use Rattle.std.proofs.Common.{◌≡◌, ◌≤◌, ◌∙◌, ℕ, ap, length, sym, subst}
use Rattle.mx_commit.proofs.MakingLemmas.{length-full}
use Rattle.mx_commit.proofs.making.new_file.Goals as goal

pub bytes_of-requires-clause-count : goal.bytes_of-requires-clause-count
bytes_of-requires-clause-count c =
    let full : length c.as_slice-2.result.now ≡ length c.as_slice.result.now = ap length c.as_slice-2.ensures.value ∙ ap length c.in_ok-rows.ensures.rows ∙ length-full _ _ 0 c.as_slice.result.now in
    let asked : length c.as_slice.result.now ≡ length c.args.file.now.rows = ap length c.as_slice.ensures in
    subst (λ (n : ℕ). n ≤ 16384) (sym (full ∙ asked)) c.requires.few
