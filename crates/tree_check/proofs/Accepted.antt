-- Checking accepts a block of bytes exactly where it is the block of a well-formed tree, and of one tree alone.
use mathlib.Core.Path.{◌≡◌, refl, sym, ap, ◌∙◌}
use mathlib.Core.List.{List, [], ◌∷◌, ◌++◌}
use mathlib.Core.Bool.{true}
use Prim.Native.Nat.{ℕ, suc, ◌-◌, ◌*◌, ◌≤◌, ◌<◌}
use native.Mathlib.Omega.{arith}
use lib.ListN.{length, get_or, take, drop, length-drop, get_or-replicate}
use lib.Seq.{take_at, drop_at, length-take-le}
use lib.Dec.{eqb}
use borrow.Author.Tests.{eqb-true}
use Rattle.rules.specs.Words.{part, zeros}
use Rattle.rules.specs.Trees.{Tree, size}
use Rattle.rules.specs.WellFormed.{WellFormed}
use Rattle.rules.specs.Mining.{Log, mined}
use Rattle.rules.specs.LogBlock.{weighed, check_right, four_bytes, sealed, first_set}
use Rattle.rules.specs.TreeBlock.{entries, tree_block}
use Rattle.rules.specs.Calls.{code_count, entry_count, formed, checking}
use Rattle.rules.proofs.AnswerLaws.{demand_given}
use Rattle.rules.proofs.Entries.{entries_length}
use Rattle.rules.proofs.TreeBlockLaws.{zeros_length, filled, payload, filled_length, filled_front, tree_block_is, tree_block_length, tree_block_holds, held_front, block_one}
use Rattle.rules.proofs.ByteLaws.{bytes_append, bytes_at, bytes_zeros, entries_bytes}
use Rattle.rules.proofs.FormedLaws.{EmptyAfter, FormedTree, formed_tree, tree_formed}
use Rattle.rules.proofs.Occurring.{Below}
use Rattle.rules.proofs.HeartbeatLaws.{Quiet}
use Rattle.rules.proofs.MinedTree.{mined_well_formed, mined_fits}
use Rattle.block_seal.proofs.CheckLaws.{sealed_bytes, sealed_right}
use Rattle.block_padding.proofs.PaddingLaws.{unset_zero, zero_unset}
use Rattle.tree_check.proofs.SealLaws.{sealed_same, right_sealed}
use Rattle.tree_check.proofs.CheckingLaws.{checking_right}
use Rattle.std.specs.Prelude.{Ok}
use Rattle.rules.specs.declared.Reason.TheVariants.{TreeBlock}

-- b is the block of the well-formed tree t of n nodes, at most 127
pub record Accepted (b : List ℕ) (n : ℕ) (t : Tree) : Type 0 where
  pub well_formed : WellFormed code_count t
  pub fits : size t ≤ entry_count
  pub block : tree_block t ≡ b
  pub count : size t ≡ n

-- ---- from a block that passes to its tree

all_zero : (l : List ℕ) → ((j : ℕ) → get_or l j 0 ≡ 0) → l ≡ zeros (length l)
unfolding zeros
all_zero [] h = refl
all_zero (x ∷ l) h = λ i. h 0 i ∷ all_zero l (λ j. h (suc j)) i

module _ (b : List ℕ) (long : length b ≡ 512) (n : ℕ) (t : Tree) (h : FormedTree b n t) where
  fits4 : size t * 4 ≤ 508
  fits4 = let f = h.fits in omega arith

  empty_part : part b (size t * 4) (508 - size t * 4) ≡ zeros (508 - 4 * size t)
  empty_part =
      let p = part b (size t * 4) (508 - size t * 4) in
      let d = length-drop (size t * 4) b in
      let f = fits4 in
      let len : length p ≡ 508 - size t * 4 = length-take-le (508 - size t * 4) (drop (size t * 4) b) (omega arith) in
      let e = h.empty in
      all_zero p (unset_zero p (omega arith)) ∙ ap zeros (let z : length p ≡ 508 - 4 * size t = omega arith in z)

  payload_first : payload t ≡ take 508 b
  payload_first = sym (held_front t b h.held h.fits long ∙ ap (λ (x : List ℕ). entries t ++ x) empty_part)

  tree_sealed : tree_block t ≡ sealed b
  unfolding tree_block
  tree_sealed = sealed_same (filled t) b (filled_front t h.fits ∙ payload_first)

-- THEOREM: what checking accepts is the block of a well-formed tree of as many nodes as it answers
pub accepted_tree : (b : List ℕ) → ((i : ℕ) → get_or b i 0 < 256) → (n : ℕ) → checking b ≡ Ok n → (t : Tree) × Accepted b n t
unfolding checking
accepted_tree b bytes n e =
    let sized = demand_given (eqb (length b) 512) TreeBlock 0 _ n e in
    let right = demand_given (check_right b) TreeBlock 0 (formed b) n sized.1 in
    let long : length b ≡ 512 = eqb-true (length b) 512 sized.0 in
    let found = formed_tree b n right.1 in (
      found.0,
      record {
        well_formed = found.1.well_formed;
        fits = found.1.fits;
        block = tree_sealed b long n found.0 found.1 ∙ right_sealed b long bytes right.0;
        count = found.1.count;
      },
    )

-- ---- from a tree to its block

module _ (t : Tree) (w : WellFormed code_count t) (h : size t ≤ entry_count) where
  filled_bytes : (i : ℕ) → get_or (filled t) i 0 < 256
  filled_bytes =
      bytes_at (filled t)
      (bytes_append (entries t) (zeros (512 - length (entries t))) (entries_bytes t (λ c m. omega (arith, (w.coded c m).0)) (omega arith))
      (bytes_zeros (512 - length (entries t))))

  pub block_bytes : (i : ℕ) → get_or (tree_block t) i 0 < 256
  unfolding tree_block
  block_bytes = sealed_bytes (filled t) (filled_length t h) filled_bytes

  block_right : check_right (tree_block t) ≡ true
  unfolding tree_block
  block_right = sealed_right (filled t) (filled_length t h) filled_bytes

  empty_after : EmptyAfter (tree_block t) (size t)
  empty_after =
      let k : ℕ = 508 - 4 * size t in
      let l = entries_length t in
      let check = four_bytes (weighed (filled t) 508) in
      let rest : part (tree_block t) (size t * 4) (508 - size t * 4) ≡ zeros k =
      ap (λ (x : List ℕ). part x (size t * 4) (508 - size t * 4)) (tree_block_is t h)
      ∙ ap (take (508 - size t * 4)) (drop_at (entries t) (zeros k ++ check) (size t * 4) (omega arith))
      ∙ take_at (zeros k) check (508 - size t * 4) (let z = zeros_length k in omega arith) in
      let none : length (zeros k) ≤ first_set (zeros k) = unfold zeros in zero_unset (zeros k) (λ j g. get_or-replicate k j 0 0 (let z = zeros_length k in omega arith)) in
      let z = zeros_length k in
      rw rest (omega arith)

  block_formed : FormedTree (tree_block t) (size t) t
  block_formed = record { well_formed = w; fits = h; held = tree_block_holds t (tree_block t) refl h; empty = empty_after; count = refl }

  -- THEOREM: the block of a well-formed tree is accepted with its number of nodes
  pub block_accepted : checking (tree_block t) ≡ Ok (size t)
  block_accepted =
      checking_right (tree_block t) (tree_block_length t) block_right ∙ tree_formed (tree_block t) (size t) t block_formed

-- THEOREM: checking accepts the block of a well-formed tree
pub tree_accepted : (b : List ℕ) (n : ℕ) (t : Tree) → Accepted b n t → checking b ≡ Ok n
tree_accepted b n t a = ap checking (sym a.block) ∙ block_accepted t a.well_formed a.fits ∙ ap Ok a.count

-- THEOREM: no other tree, of any form, has the block
pub accepted_one : (b : List ℕ) (n : ℕ) (t u : Tree) → Accepted b n t → tree_block u ≡ b → t ≡ u
accepted_one b n t u a e = block_one t u a.fits (a.block ∙ sym e)

-- THEOREM: checking accepts the block of a tree mined without heartbeats, with its number of nodes
pub mined_accepted : (l : Log) → Below code_count l → Quiet l → checking (tree_block (mined code_count l)) ≡ Ok (size (mined code_count l))
mined_accepted l s q =
    let h = mined_fits code_count l s (omega arith) in
    block_accepted (mined code_count l) (mined_well_formed code_count l s q) (omega arith)
