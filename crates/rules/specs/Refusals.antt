-- Answers and refusals: the rows of the table of refusals, and how the tests of a call follow one another.
use Rattle.std.specs.Prelude.{Bool, ℕ, ◌+◌, Result, Ok, Err}
use Rattle.rules.specs.Words.{pick}
use Rattle.rules.specs.declared.Reason.{Reason}
use Rattle.rules.specs.declared.Reason.TheVariants.{LogLength, OutLength, WorkLength, LogCheck, BadRecord, BadCode, NoRecord, TreeBlock, BadTree, EpisodeLength, EpisodeCode, BlockFull}
use Rattle.rules.specs.declared.Refusal.{Refusal}

-- the number of a row
abbrev pub number_of : Reason → ℕ
number_of LogLength = 1
number_of OutLength = 2
number_of WorkLength = 3
number_of LogCheck = 4
number_of BadRecord = 5
number_of BadCode = 6
number_of NoRecord = 7
number_of TreeBlock = 8
number_of BadTree = 9
number_of EpisodeLength = 10
number_of EpisodeCode = 11
number_of BlockFull = 12

-- a number, or a refusal
abbrev pub Answer : Type 0
Answer = Result ℕ Refusal

-- the refusal for a reason, at a place
abbrev pub refused : Reason → ℕ → Answer
refused reason place = Err (record { reason = reason; place = place })

-- no refusal
abbrev pub Given : Answer → Type 0
Given (Ok n) = Unit {0}
Given (Err refusal) = ⊥

-- what is due where the test holds, else the refusal
abbrev pub demand : Bool → Reason → ℕ → Answer → Answer
demand ok reason place rest = pick ok rest (refused reason place)

-- what follows an answer that is no refusal
abbrev pub and_then : Answer → (ℕ → Answer) → Answer
and_then (Ok n) go = go n
and_then (Err refusal) go = Err refusal

-- the same answer about a block that starts at a base: places count from the start of the log
abbrev pub shifted : ℕ → Answer → Answer
shifted base (Ok n) = Ok (base + n)
shifted base (Err refusal) = refused refusal.reason (base + refusal.place)
