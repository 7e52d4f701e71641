use Rattle.text_writing.proofs.+number.Given as goal

abbrev pub decreases-number : goal.decreases-number
decreases-number l = l.digits
