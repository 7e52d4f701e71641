-- What the two programs print for the whole of their input.
use Rattle.std.specs.Prelude.{◌≡◌, List, [], ◌∷◌, Bool, true, false, ℕ, take, drop, Ok, Err}
use Rattle.rules.specs.Heartbeats.{without_heartbeats}
use Rattle.rules.specs.Trees.{Tree, size, In}
use Rattle.rules.specs.Refusals.{number_of, Answer, and_then}
use Rattle.rules.specs.LogBlock.{log_episodes}
use Rattle.rules.specs.TreeBlock.{tree_block}
use Rattle.rules.specs.Calls.{log_reading, tree_of, checking}
use Rattle.rules.specs.Listing.{listing, refusal_line, verdict_lines}

-- ---- mining: the input is a log

abbrev pub mined_by : Answer → List ℕ → List ℕ
mined_by (Ok _) log = listing (tree_block (tree_of 1 log)) (size (tree_of 1 log))
mined_by (Err refusal) log = refusal_line (number_of refusal.reason) refusal.place

-- the listing of the log's tree, or the refusal's line
unfoldable pub mined_text : List ℕ → List ℕ
mined_text log = mined_by (log_reading 1 log) log

-- ---- judging: the input is a tree block and then a log

-- the tree is checked, then the whole log as mining does
unfoldable pub judge_reading : List ℕ → Answer
judge_reading input = and_then (checking (take 512 input)) (λ _. log_reading 1 (drop 512 input))

-- true where it holds, false where it does not
abbrev pub Tells : Bool → Type 0 → Type 0
Tells true A = A
Tells false A = A → ⊥

-- a test for each episode, in their order, tells whether the tree has it, its heartbeats left out
abbrev pub Told : Tree → List (List ℕ) → List Bool → Type 0
Told t [] [] = Unit {0}
Told t [] (f ∷ fs) = ⊥
Told t (e ∷ es) [] = ⊥
Told t (e ∷ es) (f ∷ fs) = Tells f (In t (without_heartbeats e)) × Told t es fs

-- a line for each test, counted from 1
pub record VerdictsOf (t : Tree) (log text : List ℕ) : Type 0 where
  pub verdicts : List Bool
  pub told : Told t (log_episodes 1 log) verdicts
  pub lines : text ≡ verdict_lines 1 verdicts

abbrev pub JudgedBy : Answer → List ℕ → List ℕ → List ℕ → Type 0
JudgedBy (Ok _) block log text = (t : Tree) → tree_block t ≡ block → VerdictsOf t log text
JudgedBy (Err refusal) block log text = text ≡ refusal_line (number_of refusal.reason) refusal.place

-- the verdicts on the log's episodes by the tree that the first 512 bytes are the block of, or the refusal's line
pub record JudgedText (input text : List ℕ) : Type 0 where
  pub said : JudgedBy (judge_reading input) (take 512 input) (drop 512 input) text
