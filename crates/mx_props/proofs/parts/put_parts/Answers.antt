use Rattle.std.proofs.Common.{string_bytes, rules}
use Rattle.mx_props.proofs.PartLemmas.{put}
use Rattle.mx_props.proofs.parts.put_parts.Goals as goal

pub returns : goal.returns
returns c =
    put (string_bytes c.args.text.now) (string_bytes c.push_str.new.self) (string_bytes c.put_others.new.text) c.args.parts.now c.in-Some.first.now c.in-Some.others.now (search rules) (search rules) (search rules)
