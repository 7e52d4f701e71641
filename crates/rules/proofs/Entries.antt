-- A tree's entries: four bytes a node, and no other tree has them.
use mathlib.Core.Path.{◌≡◌, refl, sym, ap, ap₂, ◌∙◌}
use mathlib.Core.List.{List, ◌++◌, append_assoc}
use Prim.Native.Nat.{ℕ, ◌*◌, ◌≤◌}
use native.Mathlib.Omega.{arith}
use lib.ListN.{length, length-append, get_or, drop}
use lib.Dec.{eqb}
use borrow.Author.Tests.{eqb-true, eqb-false}
use Rattle.rules.specs.Trees.{Op, choice, sequence, parallel, loop, Tree, silent, leaf, node, Forest, none, more, size, sizes, children}
use Rattle.rules.specs.TreeBlock.{kind_of, operator_of, entries, entries_all}
use Rattle.rules.proofs.AnswerLaws.{pick_case}

mutual
  unfolding entries entries_all

  pub entries_length : (t : Tree) → length (entries t) ≡ 4 * size t
  entries_length silent = refl
  entries_length (leaf a) = refl
  entries_length (node o f) = let e = entries_all_length f in omega arith

  pub entries_all_length : (f : Forest) → length (entries_all f) ≡ 4 * sizes f
  entries_all_length none = refl
  entries_all_length (more t f) =
      let e = entries_length t in
      let g = entries_all_length f in
      let h = length-append (entries t) (entries_all f) in
      omega arith

-- ---- the operator of a kind

pub operator_kind : (o : Op) → operator_of (kind_of o) ≡ o
operator_kind choice = refl
operator_kind sequence = refl
operator_kind parallel = refl
operator_kind loop = refl

pub kind_operator : (k : ℕ) → 3 ≤ k → k ≤ 6 → kind_of (operator_of k) ≡ k
kind_operator k low high =
    pick_case (λ (o : Op). kind_of o ≡ k) (eqb k 3) (λ e. sym (eqb-true k 3 e)) (λ three.
    pick_case (λ (o : Op). kind_of o ≡ k) (eqb k 4) (λ e. sym (eqb-true k 4 e)) (λ four.
    pick_case (λ (o : Op). kind_of o ≡ k) (eqb k 5) (λ e. sym (eqb-true k 5 e)) (λ five.
    let a = eqb-false k 3 three in
    let c = eqb-false k 4 four in
    let d = eqb-false k 5 five in
    omega arith)))

pub kind_low : (o : Op) → 3 ≤ kind_of o
kind_low choice = omega arith
kind_low sequence = omega arith
kind_low parallel = omega arith
kind_low loop = omega arith

pub kind_high : (o : Op) → kind_of o ≤ 6
kind_high choice = omega arith
kind_high sequence = omega arith
kind_high parallel = omega arith
kind_high loop = omega arith

same_op : (o p : Op) → kind_of o ≡ kind_of p → o ≡ p
same_op o p e = sym (operator_kind o) ∙ ap operator_of e ∙ operator_kind p

-- ---- THEOREM: preorder with the numbers of children reads back, whatever stands after it

byte : {xs ys : List ℕ} → xs ≡ ys → (i : ℕ) → get_or xs i 0 ≡ get_or ys i 0
byte e i = ap (λ (l : List ℕ). get_or l i 0) e

mutual
  unfolding entries entries_all

  pub entries_one : (t u : Tree) (r s : List ℕ) → entries t ++ r ≡ entries u ++ s → (t ≡ u) × (r ≡ s)
  entries_one silent silent r s e = (refl, ap (drop 4) e)
  entries_one silent (leaf a) r s e = let k = byte e 0 in absurd (omega arith)
  entries_one silent (node o f) r s e = let k = byte e 0 in let l = kind_low o in absurd (omega arith)
  entries_one (leaf a) silent r s e = let k = byte e 0 in absurd (omega arith)
  entries_one (leaf a) (leaf c) r s e = (ap leaf (byte e 1), ap (drop 4) e)
  entries_one (leaf a) (node o f) r s e = let k = byte e 0 in let l = kind_low o in absurd (omega arith)
  entries_one (node o f) silent r s e = let k = byte e 0 in let l = kind_low o in absurd (omega arith)
  entries_one (node o f) (leaf a) r s e = let k = byte e 0 in let l = kind_low o in absurd (omega arith)
  entries_one (node o f) (node p g) r s e =
      let below = entries_all_one f g r s (byte e 1) (ap (drop 4) e) in
      (ap₂ node (same_op o p (byte e 0)) below.0, below.1)

  pub entries_all_one : (f g : Forest) (r s : List ℕ) → children f ≡ children g → entries_all f ++ r ≡ entries_all g ++ s → (f ≡ g) × (r ≡ s)
  entries_all_one none none r s c e = (refl, e)
  entries_all_one none (more u g) r s c e = absurd (omega arith)
  entries_all_one (more t f) none r s c e = absurd (omega arith)
  entries_all_one (more t f) (more u g) r s c e =
      let first = entries_one t u (entries_all f ++ r) (entries_all g ++ s) (sym (append_assoc (entries t) (entries_all f) r) ∙ e ∙ append_assoc (entries u) (entries_all g) s) in
      let rest = entries_all_one f g r s (omega arith) first.1 in
      (ap₂ more first.0 rest.0, rest.1)
