-- Logs joined: their graph is the union of their graphs, and the tree does not depend on their order.
use mathlib.Core.Path.{◌≡◌, sym, ◌∙◌, ap}
use mathlib.Core.Logic.{⊎_elim}
use mathlib.Core.List.{◌++◌}
use mathlib.Core.Bool.{Bool, true, ◌||◌}
use Prim.Native.Nat.{ℕ}
use Rattle.rules.specs.Words.{any, keep, mem, from}
use Rattle.rules.specs.Mining.{Episode, Log, Graph, occurring, graph, starts_with, ends_with, mined}
use Rattle.rules.specs.Union.{union}
use Rattle.rules.proofs.BoolLaws.{or_left, or_right, or_cases, or_comm, or_assoc, bool_ext}
use Rattle.rules.proofs.ListLaws.{Has, has_append_left, has_append_right, has_append_cases, keep_ext, any_append, mem_keep}
use Rattle.rules.proofs.Occurring.{code_below}
use Rattle.rules.proofs.GraphLaws.{step_at, edge_step, edge_in}
use Rattle.rules.proofs.SameEpisodes.{Same, graph_same, mined_same}

-- THEOREM: the union is commutative
pub union_comm : (m : ℕ) (g h : Graph) → union m g h ≡ union m h g
unfolding union
union_comm m g h = λ i.
    record {
      codes = keep (λ c. or_comm (mem c g.codes) (mem c h.codes) i) (from 0 m);
      edge = λ a b. or_comm (g.edge a b) (h.edge a b) i;
      start = λ a. or_comm (g.start a) (h.start a) i;
      end = λ a. or_comm (g.end a) (h.end a) i;
    }

-- THEOREM: and associative
pub union_assoc : (m : ℕ) (g h k : Graph) → union m (union m g h) k ≡ union m g (union m h k)
unfolding union
union_assoc m g h k = λ i.
    record {
      codes = codes_same i;
      edge = λ a b. or_assoc (g.edge a b) (h.edge a b) (k.edge a b) i;
      start = λ a. or_assoc (g.start a) (h.start a) (k.start a) i;
      end = λ a. or_assoc (g.end a) (h.end a) (k.end a) i;
    }
  where
    both : Graph → Graph → ℕ → Bool
    both x y c = mem c x.codes || mem c y.codes

    codes_same : keep (λ c. mem c (keep (both g h) (from 0 m)) || mem c k.codes) (from 0 m) ≡ keep (λ c. mem c g.codes || mem c (keep (both h k) (from 0 m))) (from 0 m)
    codes_same =
        keep_ext _ _ (from 0 m) (λ c i.
        ap (λ (t : Bool). t || mem c k.codes) (mem_keep (both g h) c (from 0 m) i)
        ∙ or_assoc (mem c g.codes) (mem c h.codes) (mem c k.codes)
        ∙ ap (◌||◌ (mem c g.codes)) (sym (mem_keep (both h k) c (from 0 m) i)))

module _ (m : ℕ) (l k : Log) where
  occurring_joined : occurring m (l ++ k) ≡ keep (λ c. mem c (occurring m l) || mem c (occurring m k)) (from 0 m)
  unfolding occurring
  occurring_joined =
      keep_ext _ _ (from 0 m) (λ c i.
      any_append (mem c) l k
      ∙ (λ j. sym (mem_keep (λ x. any (mem x) l) c (from 0 m) i) j || sym (mem_keep (λ x. any (mem x) k) c (from 0 m) i) j))

  edge_joined : (a b : ℕ) → (graph m (l ++ k)).edge a b ≡ ((graph m l).edge a b || (graph m k).edge a b)
  edge_joined a b = bool_ext ((graph m (l ++ k)).edge a b) ((graph m l).edge a b || (graph m k).edge a b) shared joined
    where
      shared : (graph m (l ++ k)).edge a b ≡ true → ((graph m l).edge a b || (graph m k).edge a b) ≡ true
      shared h =
          let s = edge_step m (l ++ k) a b h in
          let codes = edge_in m (l ++ k) a b h in
          let p = code_below m (l ++ k) a codes.0 in
          let q = code_below m (l ++ k) b codes.1 in
          ⊎_elim
          (λ i. or_left ((graph m l).edge a b) ((graph m k).edge a b) (step_at m l s.0 i a b p q s.2))
          (λ i. or_right ((graph m l).edge a b) ((graph m k).edge a b) (step_at m k s.0 i a b p q s.2))
          (has_append_cases s.0 l k s.1)

      -- an edge of one of the logs
      part : (n : Log) → ((t : Episode) → Has t n → Has t (l ++ k)) → (graph m n).edge a b ≡ true → (graph m (l ++ k)).edge a b ≡ true
      part n within h =
          let s = edge_step m n a b h in
          let codes = edge_in m n a b h in
          step_at m (l ++ k) s.0 (within s.0 s.1) a b (code_below m n a codes.0) (code_below m n b codes.1) s.2

      joined : ((graph m l).edge a b || (graph m k).edge a b) ≡ true → (graph m (l ++ k)).edge a b ≡ true
      joined h =
          ⊎_elim (part l (λ t i. has_append_left t l k i)) (part k (λ t i. has_append_right t l k i)) (or_cases ((graph m l).edge a b) ((graph m k).edge a b) h)

  -- THEOREM: the graph of two logs joined is the union of their graphs
  pub graph_joined : graph m (l ++ k) ≡ union m (graph m l) (graph m k)
  unfolding graph union
  graph_joined = λ i.
      record {
        codes = occurring_joined i;
        edge = λ a b. edge_joined a b i;
        start = λ a. any_append (starts_with a) l k i;
        end = λ a. any_append (ends_with a) l k i;
      }

twice : (l : Log) → Same (l ++ l) l
twice l = (λ t i. ⊎_elim (λ j. j) (λ j. j) (has_append_cases t l l i), λ t i. has_append_left t l l i)

-- THEOREM: a log joined to itself adds nothing to its graph
pub union_self : (m : ℕ) (l : Log) → union m (graph m l) (graph m l) ≡ graph m l
union_self m l = sym (graph_joined m l l) ∙ graph_same m (l ++ l) l (twice l)

-- THEOREM: the tree is the same for either order
pub mined_order : (m : ℕ) (l k : Log) → mined m (l ++ k) ≡ mined m (k ++ l)
mined_order m l k = mined_same m (l ++ k) (k ++ l) (swapped l k, swapped k l)
  where
    swapped : (x y : Log) (t : Episode) → Has t (x ++ y) → Has t (y ++ x)
    swapped x y t i = ⊎_elim (λ j. has_append_right t y x j) (λ j. has_append_left t y x j) (has_append_cases t x y i)

-- THEOREM: and for a log joined to itself
pub mined_twice : (m : ℕ) (l : Log) → mined m (l ++ l) ≡ mined m l
mined_twice m l = mined_same m (l ++ l) l (twice l)
