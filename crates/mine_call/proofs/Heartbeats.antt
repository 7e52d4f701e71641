-- Logs whose episodes differ in heartbeats alone are one log for mining. For events of any width.
use mathlib.Core.Path.{◌≡◌}
use mathlib.Core.List.{List}
use Prim.Native.Nat.{ℕ}
use Rattle.rules.specs.Refusals.{Given, Answer}
use Rattle.rules.specs.LogBlock.{log_events}
use Rattle.rules.specs.Calls.{code_count, log_reading, tree_of, MineSays}
use Rattle.rules.proofs.AnswerLaws.{given_is}
use Rattle.rules.proofs.SameEpisodes.{Same, mined_same}
use Rattle.mine_call.proofs.Joined.{call_same}

module _ (w : ℕ) (a b : List ℕ) (same : Same (log_events w a) (log_events w b)) where
  -- THEOREM: where the episodes without heartbeats are the same set, so are the trees
  pub tree_heartbeats : tree_of w a ≡ tree_of w b
  tree_heartbeats = mined_same code_count (log_events w a) (log_events w b) same

  -- THEOREM: and mining two such logs that are accepted answers the same, and leaves the same block and work
  pub mine_heartbeats : (out work : List ℕ) (r s : Answer) (out₁ out₂ work₁ work₂ : List ℕ) → Given (log_reading w a) → Given (log_reading w b) →
      MineSays w a out work r out₁ work₁ → MineSays w b out work s out₂ work₂ → (r ≡ s) × (out₁ ≡ out₂) × (work₁ ≡ work₂)
  mine_heartbeats out work r s out₁ out₂ work₁ work₂ ga gb =
      let x = given_is (log_reading w a) ga in
      let y = given_is (log_reading w b) gb in
      call_same w out work a b x.0 y.0 x.1 y.1 tree_heartbeats r s out₁ out₂ work₁ work₂
