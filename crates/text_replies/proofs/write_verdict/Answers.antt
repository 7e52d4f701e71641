use Rattle.text_replies.proofs.ReplyLaws.{fits_line, misfit_line}
use Rattle.text_replies.proofs.write_verdict.Goals as goal

pub returns-then-fits : goal.returns-then-fits
returns-then-fits c = search fits_line depth 12

pub returns : goal.returns
returns c = search misfit_line depth 12
