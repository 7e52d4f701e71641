use mathlib.Core.Logic.{⊎_elim}
use Rattle.code_sets.proofs.BitLaws.{has_zero}
use Rattle.mine_missed.proofs.missed_parts.Goals as goal

pub returns-in-Choice : goal.returns-in-Choice
returns-in-Choice c k lt = ⊎_elim (λ e. rw e (has_zero k)) (λ e. rw e (has_zero k)) c.in-Choice.is
