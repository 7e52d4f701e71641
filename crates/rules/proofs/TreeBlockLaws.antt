-- The block of a tree: its entries, zeros up to byte 508, the check.
use mathlib.Core.Path.{◌≡◌, refl, sym, ap, ◌∙◌}
use mathlib.Core.List.{List, ◌∷◌, ◌++◌, append_assoc}
use Prim.Native.Nat.{ℕ, zero, suc, ◌+◌, ◌-◌, ◌*◌, ◌≤◌}
use native.Mathlib.Nat.{zero-add}
use native.Mathlib.Omega.{arith}
use lib.ListN.{length, take, drop, length-append, length-replicate, take-append-drop}
use lib.Seq.{take-append-add, take_at, length-take-le}
use Rattle.rules.specs.Words.{part, zeros}
use Rattle.rules.specs.Trees.{Tree, size}
use Rattle.rules.specs.LogBlock.{weighed, four_bytes, sealed}
use Rattle.rules.specs.TreeBlock.{entries, tree_block}
use Rattle.rules.specs.Holds.{Holds}
use Rattle.rules.specs.Calls.{entry_count}
use Rattle.rules.proofs.Entries.{entries_length, entries_one}
use Rattle.rules.proofs.HoldsLaws.{holds, held_entries}

pub take_zeros : (k n : ℕ) → k ≤ n → take k (zeros n) ≡ zeros k
unfolding zeros
take_zeros zero n h = refl
take_zeros (suc k) zero h = absurd (omega arith)
take_zeros (suc k) (suc n) h = ap (◌∷◌ 0) (take_zeros k n (omega arith))

pub zeros_length : (n : ℕ) → length (zeros n) ≡ n
unfolding zeros
zeros_length n = length-replicate n 0

-- the entries and zeros up to byte 512
abbrev pub filled : Tree → List ℕ
filled t = entries t ++ zeros (512 - length (entries t))

-- the entries and zeros up to byte 508
abbrev pub payload : Tree → List ℕ
payload t = entries t ++ zeros (508 - 4 * size t)

module _ (t : Tree) (h : size t ≤ entry_count) where
  pub filled_length : length (filled t) ≡ 512
  filled_length =
      let e = entries_length t in
      let g = length-append (entries t) (zeros (512 - length (entries t))) in
      let z = zeros_length (512 - length (entries t)) in
      omega arith

  pub payload_length : length (payload t) ≡ 508
  payload_length =
      let e = entries_length t in
      let g = length-append (entries t) (zeros (508 - 4 * size t)) in
      let z = zeros_length (508 - 4 * size t) in
      omega arith

  pub filled_front : take 508 (filled t) ≡ payload t
  filled_front =
      let e = entries_length t in
      ap (λ (k : ℕ). take k (filled t)) (let z : 508 ≡ length (entries t) + (508 - 4 * size t) = omega arith in z)
      ∙ take-append-add (entries t) (zeros (512 - length (entries t))) (508 - 4 * size t)
      ∙ ap (λ (l : List ℕ). entries t ++ l) (take_zeros (508 - 4 * size t) (512 - length (entries t)) (omega arith))

  pub tree_block_is : tree_block t ≡ entries t ++ (zeros (508 - 4 * size t) ++ four_bytes (weighed (filled t) 508))
  unfolding tree_block sealed
  tree_block_is =
      ap (λ (l : List ℕ). l ++ four_bytes (weighed (filled t) 508)) filled_front
      ∙ append_assoc (entries t) (zeros (508 - 4 * size t)) (four_bytes (weighed (filled t) 508))

-- the block of a tree holds it from entry 0 on
pub tree_block_holds : (t : Tree) (b : List ℕ) → tree_block t ≡ b → size t ≤ entry_count → Holds t b 0
tree_block_holds t b e h = holds t b (zeros (508 - 4 * size t) ++ four_bytes (weighed (filled t) 508)) 0 (sym e ∙ tree_block_is t h)

-- ---- the block of a tree of any size; no other tree has it

filled_long : (u : Tree) → 508 ≤ length (filled u)
filled_long u =
    let g = length-append (entries u) (zeros (512 - length (entries u))) in
    let z = zeros_length (512 - length (entries u)) in
    omega arith

-- the first 508 bytes of a tree's block, whatever the tree's size
tree_block_front : (u : Tree) → take 508 (tree_block u) ≡ take 508 (filled u)
unfolding tree_block sealed
tree_block_front u = take_at (take 508 (filled u)) (four_bytes (weighed (filled u) 508)) 508 (length-take-le 508 (filled u) (filled_long u))

pub tree_block_length : (u : Tree) → length (tree_block u) ≡ 512
unfolding tree_block sealed
tree_block_length u =
    let f = length-take-le 508 (filled u) (filled_long u) in
    let g = length-append (take 508 (filled u)) (four_bytes (weighed (filled u) 508)) in
    omega arith

-- a tree whose block starts with the entries of another is that one
front_one : (t u : Tree) (rest : List ℕ) → take 508 (filled u) ≡ entries t ++ rest → t ≡ u
front_one t u rest e =
    (entries_one t u (rest ++ drop 508 (filled u)) (zeros (512 - length (entries u)))
    (sym (append_assoc (entries t) rest (drop 508 (filled u))) ∙ ap (λ (l : List ℕ). l ++ drop 508 (filled u)) (sym e) ∙ take-append-drop 508 (filled u))).0

-- THEOREM: two trees with one block are one tree, where one of them has at most 127 nodes
pub block_one : (t u : Tree) → size t ≤ entry_count → tree_block t ≡ tree_block u → t ≡ u
block_one t u h e = front_one t u (zeros (508 - 4 * size t)) (sym (tree_block_front u) ∙ ap (take 508) (sym e) ∙ tree_block_front t ∙ filled_front t h)

-- the first 508 bytes of a block that holds a tree
pub held_front : (t : Tree) (b : List ℕ) → Holds t b 0 → size t ≤ entry_count → length b ≡ 512 → take 508 b ≡ entries t ++ part b (size t * 4) (508 - size t * 4)
held_front t b held h long =
    let l = entries_length t in
    let whole : b ≡ entries t ++ drop (size t * 4) b = held_entries t b 0 held (omega arith) ∙ ap (λ (k : ℕ). entries t ++ drop (k * 4) b) (zero-add (size t)) in
    ap (take 508) whole ∙ ap (λ (k : ℕ). take k (entries t ++ drop (size t * 4) b)) (let z : 508 ≡ length (entries t) + (508 - size t * 4) = omega arith in z)
    ∙ take-append-add (entries t) (drop (size t * 4) b) (508 - size t * 4)

-- a tree whose block holds another is that one
pub held_one : (t u : Tree) (b : List ℕ) → Holds t b 0 → size t ≤ entry_count → tree_block u ≡ b → t ≡ u
held_one t u b held h e =
    front_one t u (part b (size t * 4) (508 - size t * 4))
    (sym (tree_block_front u) ∙ ap (take 508) e ∙ held_front t b held h (ap length (sym e) ∙ tree_block_length u))
