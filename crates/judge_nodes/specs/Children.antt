-- A list of children, joined by the operator of their parent, and the codes that count for it.
use Rattle.std.specs.Prelude.{ℕ, ◌+◌, ◌≤◌, ◌<◌, List, ◌≡◌, Bool, true, false}
use Rattle.rules.specs.Words.{mem, Has}
use Rattle.rules.specs.Trees.{Op, choice, sequence, parallel, loop, Tree, Forest, more, sizes, labels, labels_all, In, InOne, InRow, InMix, InLoop}
use Rattle.rules.specs.WellFormed.{WellFormed}
use Rattle.rules.specs.Holds.{Holds, HoldsAll}
use Rattle.rules.specs.Calls.{code_count}
use Rattle.judge_rows.specs.Rows.{kept}
use Rattle.judge_meanings.specs.Means.{Means}
use Rattle.judge_subtrees.specs.Entries.{WellFormedAll}

-- the language of a list of children, by the operator of their parent; of a loop's the redos
abbrev pub Listed : Op → Forest → List ℕ → Type 0
Listed choice f w = InOne f w
Listed sequence f w = InRow f w
Listed parallel f w = InMix f w
Listed loop f w = InOne f w

-- which codes count: those of the whole node, but for the children of a parallel, where each has its own
abbrev pub scope : Op → (ℕ → Bool) → List ℕ → ℕ → Bool
scope choice S own c = S c
scope sequence S own c = S c
scope parallel S own c = mem c own
scope loop S own c = S c

-- the codes of a node that a child is read against: all, but none for a parallel
abbrev pub against : Op → (ℕ → Bool) → ℕ → Bool
against choice S c = S c
against sequence S c = S c
against parallel S c = false
against loop S c = S c

-- the codes S that a child's rows are read against: all of the node's, but none for a parallel
abbrev pub Scoped : Op → (ℕ → Bool) → Forest → Type 0
Scoped choice S f = (c : ℕ) → Has c (labels_all f) → S c ≡ true
Scoped sequence S f = (c : ℕ) → Has c (labels_all f) → S c ≡ true
Scoped parallel S f = (c : ℕ) → S c ≡ false
Scoped loop S f = (c : ℕ) → Has c (labels_all f) → S c ≡ true

-- the entries from `from` up to `end` have their rows
unfoldable pub Ready : List ℕ → List ℕ → List ℕ → ℕ → ℕ → Type 0
Ready b e work from end =
    (t : Tree) (v : ℕ) → from ≤ v → v < end → Holds t b v → WellFormed code_count t → Means (λ c. mem c (labels t)) (λ w. In t w) e (kept work v)

-- rows of a list of children
unfoldable pub ListMeans : List ℕ → List ℕ → List ℕ → Op → (ℕ → Bool) → ℕ → ℕ → (ℕ → ℕ → Bool) → Type 0
ListMeans b e work o S from end R =
    (f : Forest) → HoldsAll f b from → from + sizes f ≡ end → WellFormedAll code_count f → Scoped o S f → Ready b e work from end
    → Means (scope o S (labels_all f)) (λ w. Listed o f w) e R

-- rows of a loop, its body the first child
unfoldable pub LoopMeans : List ℕ → List ℕ → List ℕ → (ℕ → Bool) → ℕ → ℕ → (ℕ → ℕ → Bool) → Type 0
LoopMeans b e work S from end R =
    (t : Tree) (f : Forest) → HoldsAll (more t f) b from → from + sizes (more t f) ≡ end → WellFormedAll code_count (more t f) → Scoped loop S (more t f) → Ready b e work from end
    → Means S (λ w. InLoop (more t f) w) e R
