use mathlib.Core.Path.{◌∙◌}
use Rattle.judge_rows.proofs.CutLaws.{whole_cut}
use Rattle.judge_rows.proofs.clear_rows.Goals as goal

pub returns : goal.returns
returns c i j = c.cut_down.ensures i j ∙ whole_cut _ _ i j c.requires
