use Rattle.std.proofs.Common.{◌≡◌, ℕ, ◌≤◌, Bool, List, length, ◌∙◌, rules, tests, lit<, arith}
use Rattle.std.specs.Prelude.{nat_le, ◌&&◌, ◌==◌}
use Rattle.std.specs.List.{list_all, slice_split}
use Rattle.std.proofs.lemmas.Bool.Decides.{nat_tests}
use Rattle.std.proofs.lemmas.Iterator.Search.{all_from_yields_List}
use Rattle.std.proofs.lemmas.Iterator.Splits.{YieldsList-from_str_split}
use Rattle.mx_base.specs.Names.{is_path, is_segment}
use Rattle.mx_base.proofs.grammar.is_path.Goals as goal

short : (text : List ℕ) (b : Bool) → length text ≤ 1024 → b ≡ (nat_le (length text) 1024 && b)
short text b h = grind (arith, nat_tests)

pub returns-then-text-le1024 : goal.returns-then-text-le1024
unfolding is_path
returns-then-text-le1024 c =
    all_from_yields_List is_segment _ _ c.all.result c.all.ensures.ran
    (YieldsList-from_str_split 47 c.args.text.now (lit< tt) c.split.ensures.text c.split.ensures.has_more c.split.ensures.pattern)
    (λ x b q k. search (rules, tests))
    ∙ short c.args.text.now (list_all is_segment (slice_split (λ byte. byte == 47) c.args.text.now)) c.if-text-le1024.true
