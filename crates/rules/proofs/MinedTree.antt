-- A mined tree is well formed and fits a tree block.
use mathlib.Core.Path.{◌≡◌, refl, ap}
use mathlib.Core.List.{List, [], ◌∷◌}
use Prim.Native.Nat.{ℕ, suc, ◌+◌, ◌-◌, ◌*◌, ◌≤◌, ◌<◌}
use native.Mathlib.Omega.{arith}
use lib.ListN.{length}
use Rattle.rules.specs.Heartbeats.{heartbeat}
use Rattle.rules.specs.Trees.{size}
use Rattle.rules.specs.WellFormed.{WellFormed}
use Rattle.rules.specs.Mining.{Log, occurring, mined}
use Rattle.rules.proofs.Occurring.{Below, occurring_few}
use Rattle.rules.proofs.HeartbeatLaws.{Quiet, quiet_code, quiet_few}
use Rattle.rules.proofs.Leaves.{labels_distinct, label_occurs}
use Rattle.rules.proofs.Size.{mined_size, mined_silent, mined_wide}

module _ (m : ℕ) (l : Log) (s : Below m l) where
  -- THEOREM: a tree mined without heartbeats is well formed
  pub mined_well_formed : Quiet l → WellFormed m (mined m l)
  mined_well_formed q =
      record {
        wide = mined_wide m l s;
        coded = λ c i. quiet_code m l q c (label_occurs m l s c i);
        distinct = labels_distinct m l s;
      }

  -- k is at least the number of codes that occur
  by_codes : (k : ℕ) (cs : List ℕ) → occurring m l ≡ cs → 1 ≤ k → length (occurring m l) ≤ k → size (mined m l) + 1 ≤ 4 * k
  by_codes k [] e h few = let z = ap size (mined_silent m l s e) in omega arith
  by_codes k (c ∷ cs) e h few =
      let n : length (occurring m l) ≡ suc (length cs) = ap length e in
      let most = mined_size m l s (omega arith) in
      omega arith

  -- THEOREM: with m codes, m at least 1, a mined tree has at most 4 m - 1 nodes
  pub mined_fits : 1 ≤ m → size (mined m l) + 1 ≤ 4 * m
  mined_fits h = by_codes m (occurring m l) refl h (occurring_few m l)

  -- THEOREM: where one of them is the heartbeat, at most 4 (m - 1) - 1
  pub quiet_fits : Quiet l → heartbeat < m → size (mined m l) + 1 ≤ 4 * (m - 1)
  quiet_fits q h = by_codes (m - 1) (occurring m l) refl (omega arith) (let few = quiet_few m l q h in omega arith)
