-- Tree blocks: a tree as entries of four bytes in preorder, and the rules by which a block is well formed.
-- `limit` is the number of entries, m the number of codes.
use Rattle.std.specs.Prelude.{List, [], ◌∷◌, ◌++◌, ℕ, zero, suc, ◌+◌, ◌-◌, ◌*◌, length, get_or, ltb, eqb}
use Rattle.rules.specs.Words.{pick, mem, zeros}
use Rattle.rules.specs.Heartbeats.{heartbeat}
use Rattle.rules.specs.Trees.{Op, choice, sequence, parallel, loop, Tree, silent, leaf, node, Forest, none, more, size, sizes, children}
use Rattle.rules.specs.LogBlock.{sealed}
use Rattle.rules.specs.declared.Operator.{Operator}
use Rattle.rules.specs.declared.Operator.TheVariants.{Choice, Sequence, Parallel, Loop}

-- the operator that the code names
abbrev pub op_of : Operator → Op
op_of Choice = choice
op_of Sequence = sequence
op_of Parallel = parallel
op_of Loop = loop

-- ---- writing

abbrev pub kind_of : Op → ℕ
kind_of choice = 3
kind_of sequence = 4
kind_of parallel = 5
kind_of loop = 6

-- the operator of a kind
abbrev pub operator_of : ℕ → Op
operator_of kind = pick (eqb kind 3) choice (pick (eqb kind 4) sequence (pick (eqb kind 5) parallel loop))

-- kind, argument, size, zero
abbrev pub entry : ℕ → ℕ → ℕ → List ℕ
entry kind argument size = kind ∷ argument ∷ size ∷ 0 ∷ []

unfoldable mutual
  pub entries : Tree → List ℕ
  entries silent = entry 1 0 1
  entries (leaf a) = entry 2 a 1
  entries (node o f) = entry (kind_of o) (children f) (suc (sizes f)) ++ entries_all f

  pub entries_all : Forest → List ℕ
  entries_all none = []
  entries_all (more t f) = entries t ++ entries_all f

-- the 512 bytes of a tree: its entries, zero after them, the check
unfoldable pub tree_block : Tree → List ℕ
tree_block t = sealed (entries t ++ zeros (512 - length (entries t)))

-- ---- reading: one rule for a node and one for a list

-- where a node or a list ends and the codes of leaves met so far, or that it is broken
pub data Sound : Type 0 where
  upto : ℕ → List ℕ → Sound
  broken : Sound

abbrev pub kind_at : List ℕ → ℕ → ℕ
kind_at b v = get_or b (v * 4) 0

abbrev pub argument_at : List ℕ → ℕ → ℕ
argument_at b v = get_or b (v * 4 + 1) 0

abbrev pub size_at : List ℕ → ℕ → ℕ
size_at b v = get_or b (v * 4 + 2) 0

abbrev pub zero_at : List ℕ → ℕ → ℕ
zero_at b v = get_or b (v * 4 + 3) 0

-- a silent entry: argument 0, size 1
abbrev pub silent_rule : ℕ → ℕ → ℕ → List ℕ → Sound
silent_rule at argument size seen = pick (eqb argument 0) (pick (eqb size 1) (upto (at + 1) seen) broken) broken

-- an activity: a code below m, no heartbeat, that no leaf before it has, size 1
abbrev pub leaf_rule : ℕ → ℕ → ℕ → ℕ → List ℕ → Sound
leaf_rule m at argument size seen =
    pick (ltb argument m) (pick (eqb argument heartbeat) broken (pick (eqb size 1) (pick (mem argument seen) broken (upto (at + 1) (argument ∷ seen))) broken)) broken

-- an operator, of two children or more, ends where its size says
abbrev pub sized_rule : ℕ → ℕ → Sound → Sound
sized_rule at size (upto next seen) = pick (eqb next (at + size)) (upto next seen) broken
sized_rule at size broken = broken

abbrev pub followed_by : Sound → (ℕ → List ℕ → Sound) → Sound
followed_by (upto next seen) go = go next seen
followed_by broken go = broken

-- the entry by its kind, where `below` is the rule for its list of children
abbrev pub entry_rule : ℕ → List ℕ → ℕ → List ℕ → (ℕ → Sound) → Sound
entry_rule m b at seen below =
    pick (eqb (zero_at b at) 0)
    (pick (eqb (kind_at b at) 1) (silent_rule at (argument_at b at) (size_at b at) seen)
    (pick (eqb (kind_at b at) 2) (leaf_rule m at (argument_at b at) (size_at b at) seen)
    (pick (ltb (kind_at b at) 3) broken
    (pick (ltb 6 (kind_at b at)) broken
    (pick (ltb (argument_at b at) 2) broken (sized_rule at (size_at b at) (below (argument_at b at))))))))
    broken

-- f bounds the depth of the rules; twice the entries that remain are always enough
unfoldable mutual
  pub node_at : ℕ → ℕ → ℕ → List ℕ → ℕ → List ℕ → Sound
  node_at limit m zero b at seen = broken
  node_at limit m (suc f) b at seen =
      pick (ltb at limit) (entry_rule m b at seen (λ n. list_at limit m f b (at + 1) n seen)) broken

  pub list_at : ℕ → ℕ → ℕ → List ℕ → ℕ → ℕ → List ℕ → Sound
  list_at limit m zero b at n seen = broken
  list_at limit m (suc f) b at zero seen = upto at seen
  list_at limit m (suc f) b at (suc n) seen =
      followed_by (node_at limit m f b at seen) (λ next more. list_at limit m f b next n more)

abbrev pub root_of : ℕ → ℕ → List ℕ → Sound
root_of limit m b = node_at limit m (suc (2 * limit)) b 0 []
