-- An answer as one number for a caller in C: bits 32 and up hold a refusal's number, 0 where there is none; bits 0 to 31 hold the
-- value or the refusal's place.
use Rattle.std.specs.Prelude.{◌≡◌, List, ℕ, ◌+◌, ◌*◌, ◌%◌, Result, Ok, Err}
use Rattle.rules.specs.Calls.{AddSays, MineSays, JudgeSays}
use Rattle.rules.specs.declared.Refusal.{Refusal}
use Rattle.rules.specs.declared.Verdict.{Verdict}
use Rattle.rules.specs.declared.Verdict.TheVariants.{Fits, Misfit}
use Rattle.rules.specs.Refusals.{number_of, Answer}

abbrev pub packed : Answer → ℕ
packed (Ok n) = n % 4294967296
packed (Err refusal) = number_of refusal.reason * 4294967296 + refusal.place % 4294967296

-- 1 for fits, 0 for misfit
abbrev pub packed_verdict : Result Verdict Refusal → ℕ
packed_verdict (Ok Fits) = 1
packed_verdict (Ok Misfit) = 0
packed_verdict (Err refusal) = packed (Err refusal)

-- the call's own promise, with its answer packed
pub record AddPacked (b e : List ℕ) (r : ℕ) (b' : List ℕ) : Type 0 where
  pub answer : Answer
  pub says : AddSays 1 b e answer b'
  pub told : r ≡ packed answer

pub record MinePacked (log out work : List ℕ) (r : ℕ) (out' work' : List ℕ) : Type 0 where
  pub answer : Answer
  pub says : MineSays 1 log out work answer out' work'
  pub told : r ≡ packed answer

pub record JudgePacked (b e work : List ℕ) (r : ℕ) (work' : List ℕ) : Type 0 where
  pub verdict : Result Verdict Refusal
  pub says : JudgeSays b e work verdict work'
  pub told : r ≡ packed_verdict verdict
