use Rattle.std.proofs.Common.{ap, ◌∙◌}
use Rattle.serde_json.specs.Written.{has_float}
use Rattle.mx_ask.specs.Replies.{reply_text}
use Rattle.mx_ask.proofs.Floats.{reply_data_no_float}
use Rattle.mx_ask.proofs.printing.print_reply.Goals as goal

pub print-requires : goal.print-requires
print-requires c = ap has_float c.in_ok-value.ensures ∙ reply_data_no_float c.args.reply.now c.args.seq

pub returns : goal.returns
unfolding reply_text
returns c = rw c.in_ok-value.ensures at c.print.ensures.text
