use mir.Val.{bool_byte}
use Rattle.std.proofs.Common.{◌≡◌, ◌∙◌, Bool, true, false, cond, refl}
use Rattle.std.specs.Int.{w64}
use Rattle.std.proofs.lemmas.Int.{to_z_pos}
use Rattle.mx_levels.proofs.RunLemmas.{put_repeated}
use Rattle.mx_levels.proofs.writing.put_run.Goals as goal

byte_is : (level : Bool) → bool_byte level ≡ cond level 1 0
byte_is true = refl
byte_is false = refl

pub returns : goal.returns
returns c =
    put_repeated
    c.args.out.now.items c.put_long.new.out.items _ c.args.count c.from.result _ c.args.level c.in_ok-put_long.ensures
    (to_z_pos w64 c.args.count c.requires) (c.from.ensures ∙ byte_is c.args.level) c.in_ok-push.ensures.items
