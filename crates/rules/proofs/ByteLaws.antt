-- The entries of a tree are bytes where its codes and its size are below 256.
use mathlib.Core.Path.{refl}
use mathlib.Core.Logic.{inl}
use mathlib.Core.List.{List, [], ◌∷◌, ◌++◌}
use Prim.Native.Nat.{ℕ, zero, suc, ◌<◌}
use native.Mathlib.Omega.{arith}
use lib.ListN.{get_or}
use Rattle.rules.specs.Words.{Has, zeros}
use Rattle.rules.specs.Trees.{Tree, silent, leaf, node, Forest, none, more, size, sizes, labels, labels_all}
use Rattle.rules.specs.TreeBlock.{entries, entries_all}
use Rattle.rules.proofs.ListLaws.{has_append_left, has_append_right}
use Rattle.rules.proofs.Entries.{kind_high}
use Rattle.rules.proofs.TreeLaws.{children_sizes}

-- every element is a byte
abbrev pub Bytes : List ℕ → Type 0
Bytes [] = Unit {0}
Bytes (x ∷ xs) = (x < 256) × Bytes xs

pub bytes_append : (xs ys : List ℕ) → Bytes xs → Bytes ys → Bytes (xs ++ ys)
bytes_append [] ys h k = k
bytes_append (x ∷ xs) ys h k = (h.0, bytes_append xs ys h.1 k)

pub bytes_at : (xs : List ℕ) → Bytes xs → (i : ℕ) → get_or xs i 0 < 256
bytes_at [] h i = omega arith
bytes_at (x ∷ xs) h zero = h.0
bytes_at (x ∷ xs) h (suc i) = bytes_at xs h.1 i

pub bytes_zeros : (n : ℕ) → Bytes (zeros n)
unfolding zeros
bytes_zeros zero = tt
bytes_zeros (suc n) = (omega arith, bytes_zeros n)

mutual
  unfolding entries entries_all

  pub entries_bytes : (t : Tree) → ((c : ℕ) → Has c (labels t) → c < 256) → size t < 256 → Bytes (entries t)
  entries_bytes silent coded h = (omega arith, (omega arith, (omega arith, (omega arith, tt))))
  entries_bytes (leaf a) coded h = (omega arith, (coded a (inl refl), (omega arith, (omega arith, tt))))
  entries_bytes (node o f) coded h =
      let k = kind_high o in
      let n = children_sizes f in
      (omega arith, (omega arith, (h, (omega arith, entries_all_bytes f coded (omega arith)))))

  pub entries_all_bytes : (f : Forest) → ((c : ℕ) → Has c (labels_all f) → c < 256) → sizes f < 256 → Bytes (entries_all f)
  entries_all_bytes none coded h = tt
  entries_all_bytes (more t f) coded h =
      bytes_append (entries t) (entries_all f) (entries_bytes t (λ c m. coded c (has_append_left c (labels t) (labels_all f) m)) (omega arith))
      (entries_all_bytes f (λ c m. coded c (has_append_right c (labels t) (labels_all f) m)) (omega arith))
