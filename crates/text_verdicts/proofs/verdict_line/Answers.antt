use Rattle.text_verdicts.proofs.LineLaws.{verdict_said}
use Rattle.text_verdicts.proofs.verdict_line.Goals as goal

pub returns : goal.returns
returns c = search verdict_said depth 12
