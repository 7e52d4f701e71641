use native.Mathlib.Omega.{arith}
use mathlib.Core.Path.{ap, ◌∙◌}
use mathlib.Core.Bool.{Bool, ◌&&◌}
use Rattle.code_sets.specs.Bits.{has}
use Rattle.judge_rows.specs.Rows.{between, clear}
use Rattle.judge_rows.proofs.CutLaws.{copied_row}
use Rattle.judge_rows.proofs.rows_of.Goals as goal

pub returns : goal.returns
returns c i j = let a = c.args in
    c.cut_down.ensures i j
    ∙ ap (λ (t : Bool). t && between (clear (has a.blocked.bits)) a.episode.now i j) (copied_row a.work.now _ a.v i j (omega arith) c.copy_from_slice.ensures.after)
