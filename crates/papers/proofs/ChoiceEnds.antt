-- What 000 says in words ahead of Definition 5, that no part lacks a start node or an end node, follows from its one condition.
use mathlib.Core.Path.{refl, sym, subst}
use mathlib.Core.Logic.{inl, inr}
use mathlib.Core.List.{List, [], ◌∷◌, ◌++◌, append_assoc}
use Prim.Native.Nat.{ℕ, ◌<◌}
use lib.ListN.{length}
use Rattle.rules.specs.Mining.{Episode, Log}
use Rattle.rules.proofs.ListLaws.{Has, has_append_right}
use Rattle.papers.specs.Cuts.{graph_of, Σ, StartAndEnd, ChoiceCut}
use Rattle.papers.proofs.Partitions.{only_there}

module _ (l : Log) (qs : List (List ℕ)) (c : ChoiceCut (graph_of l) qs) (i : ℕ) where
  -- an edge neither leaves a part nor comes from another
  forward : (a b : ℕ) → (graph_of l).edge a b → Has a (Σ qs i) → Has b (Σ qs i)
  forward a b e x =
      only_there (graph_of l) qs c.cut i b (_, e.2, has_append_right b e.0 (a ∷ b ∷ e.1) (inr (inl refl))) (λ j n y. c.condition_1 i j n a b x y e)

  back : (a b : ℕ) → (graph_of l).edge a b → Has b (Σ qs i) → Has a (Σ qs i)
  back a b e y =
      only_there (graph_of l) qs c.cut i a (_, e.2, has_append_right a e.0 (a ∷ b ∷ e.1) (inl refl)) (λ j n x. c.condition_1 j i (λ k. n (sym k)) a b x y e)

  -- from a code back to the first of what is left of a trace
  to_first : (u : Episode) (x : ℕ) (t : Episode) → Has (u ++ (x ∷ t)) l → (a : ℕ) → Has a (x ∷ t) → Has a (Σ qs i) → Has x (Σ qs i)
  to_first u x [] m a (inl e) h = subst (λ (z : ℕ). Has z (Σ qs i)) e h
  to_first u x [] m a (inr k) h = absurd k
  to_first u x (y ∷ t) m a (inl e) h = subst (λ (z : ℕ). Has z (Σ qs i)) e h
  to_first u x (y ∷ t) m a (inr k) h = back x y (u, t, m) (to_first (u ++ (x ∷ [])) y t (rw append_assoc m) a k h)

  -- and on to its last
  to_last : (u : Episode) (x : ℕ) (t : Episode) → Has (u ++ (x ∷ t)) l → Has x (Σ qs i) → (a : ℕ) × Has a (Σ qs i) × (graph_of l).end a
  to_last u x [] m h = (x, h, (u, m))
  to_last u x (y ∷ t) m h = to_last (u ++ (x ∷ [])) y t (rw append_assoc m) (forward x y (u, t, m) h)

  of_trace : (t : Episode) → Has t l → (a : ℕ) → Has a t → Has a (Σ qs i) → StartAndEnd (graph_of l) (Σ qs i)
  of_trace [] m a k h = absurd k
  of_trace (x ∷ t) m a k h = let first = to_first [] x t m a k h in ((x, first, (t, m)), to_last [] x t m first)

-- THEOREM: each part of an exclusive choice cut of the graph of a log has a start node and an end node
pub choice_ends : (l : Log) (qs : List (List ℕ)) → ChoiceCut (graph_of l) qs → (i : ℕ) → i < length qs → StartAndEnd (graph_of l) (Σ qs i)
choice_ends l qs c i h =
    let a = c.cut.non_empty i h in
    let t = c.cut.of_nodes i a.0 a.1 in
    of_trace l qs c i t.0 t.1 a.0 t.2 a.1
