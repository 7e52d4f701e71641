-- One more entry that has its rows, and those that a node needs.
use Prim.Native.Nat.{ℕ, ◌+◌, ◌≤◌, ◌<◌}
use native.Mathlib.Omega.{arith}
use mathlib.Core.List.{List}
use mathlib.Core.Path.{◌≡◌, ap, ◌∙◌, subst}
use mathlib.Core.Logic.{⊎_elim}
use lib.ListN.{length}
use Rattle.rules.specs.Words.{mem}
use Rattle.rules.specs.Trees.{labels, In}
use Rattle.rules.specs.TreeBlock.{size_at}
use Rattle.rules.specs.Holds.{Holds}
use Rattle.rules.specs.Calls.{entry_count}
use Rattle.code_sets.proofs.BitLaws.{lt_or_le}
use Rattle.judge_rows.specs.Rows.{at, kept, Stored}
use Rattle.judge_rows.proofs.TableLaws.{kept_new, kept_old}
use Rattle.judge_meanings.proofs.MeansLaws.{means_rows}
use Rattle.judge_subtrees.specs.Entries.{Subtree}
use Rattle.judge_subtrees.proofs.EntryLaws.{subtree_size}
use Rattle.judge_nodes.specs.Children.{Ready}
use Rattle.judge_nodes.specs.Nodes.{NodeMeans}
use Rattle.judge_fits.specs.Fits.{Placed}
use Rattle.judge_fits.proofs.MemoryLaws.{stored_rest}

-- the entries of the tree at v, where all those after v have their rows
pub ready_below : (b e work : List ℕ) (v n : ℕ) → Subtree b v n → Ready b e work (v + 1) n → Ready b e work (v + 1) (v + size_at b v)
unfolding Ready
ready_below b e work v n s r t u g k = let q = subtree_size b v n s in r t u g (omega arith)

-- one more entry has its rows
ready_more : (b e old R new : List ℕ) (v n : ℕ) → length R ≡ 64 → Stored old v R 64 new → NodeMeans b e v (at R)
    → Ready b e old (v + 1) n → Ready b e new v n
unfolding Ready NodeMeans
ready_more b e old R new v n len s h r t u g k held w = ⊎_elim
    (λ (q : v < u). means_rows (λ c. mem c (labels t)) (λ x. In t x) e (kept old u) (kept new u) (kept_old old R new v u s (λ p. omega arith)) (r t u (omega arith) k held w))
    (λ (q : u ≤ v).
    let p : u ≡ v = omega arith in
    let hv = subst (Holds t b) p held in
    means_rows (λ c. mem c (labels t)) (λ x. In t x) e (at R) (kept new u) (λ i j. ap (λ (m : ℕ). kept new m i j) p ∙ kept_new old R new v len s i j)
    (h t hv w))
    (lt_or_le v u)

pub placed : (b e old R new : List ℕ) (v : ℕ) → v < entry_count → length R ≡ 64 → Stored old v R 64 new → NodeMeans b e v (at R) → Placed b e v old new
placed b e old R new v l len s h = record { ready = λ n sub r. ready_more b e old R new v n len s h r; rest = stored_rest old R new v l s }
