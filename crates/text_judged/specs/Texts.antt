-- What the printed text is in the end.
use Rattle.std.specs.Prelude.{◌≡◌, List, ℕ, ◌≤◌, length, take, drop}
use Rattle.rules.specs.Printed.{JudgedText}

-- the first r bytes are the text, and all else is as it was
pub record JudgedInto (input old new : List ℕ) (r : ℕ) : Type 0 where
  pub text : JudgedText input (take r new)
  pub rest : drop r new ≡ drop r old
  pub most : r ≤ 53040
  pub kept : length new ≡ length old
