use Rattle.text_replies.proofs.ReplyLaws.{refusal_line_lem}
use Rattle.text_replies.proofs.write_refusal.Goals as goal

pub returns : goal.returns
returns c = search refusal_line_lem depth 12
