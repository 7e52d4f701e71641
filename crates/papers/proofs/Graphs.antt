-- The graph of the rules is the papers' graph of the log, and reach is by a chain of its edges.
use mathlib.Core.Path.{◌≡◌, refl, sym, ap, subst}
use mathlib.Core.Logic.{inl, ⊎_elim, ◌↔◌}
use mathlib.Core.List.{[], ◌∷◌, ◌++◌}
use mathlib.Core.Bool.{true, ◌&&◌, false≢true}
use Prim.Native.Nat.{ℕ}
use lib.Dec.{eqb}
use borrow.Author.Tests.{eqb-true, eq-eqb}
use Rattle.rules.specs.Mining.{Episode, Log, graph, occurring, starts_with, last_of, ends_with, follows, reach}
use Rattle.rules.proofs.BoolLaws.{or_cases, or_right, and_cases}
use Rattle.rules.proofs.ListLaws.{Has, any_has, has_any, has_append_right}
use Rattle.rules.proofs.Occurring.{Below, code_in, code_of}
use Rattle.rules.proofs.GraphLaws.{step_edge, edge_step, first_step, Chain, edge, then, reach_chain, chain_reach}
use Rattle.papers.specs.Cuts.{graph_of, EdgeChain, one, then as chained}

-- ---- the steps, the start and the end of an episode

start_split : (c : ℕ) (t : Episode) → starts_with c t ≡ true → (v : Episode) × (t ≡ c ∷ v)
start_split c [] h = absurd (false≢true h)
start_split c (x ∷ t) h = (t, ap (λ (y : ℕ). y ∷ t) (sym (eqb-true c x h)))

step_split : (a b : ℕ) (t : Episode) → follows a b t ≡ true → (u : Episode) × (v : Episode) × (t ≡ u ++ (a ∷ b ∷ v))
step_split a b [] h = absurd (false≢true h)
step_split a b (x ∷ t) h =
    ⊎_elim
    (λ k. let p = and_cases (eqb a x) (starts_with b t) k in let q = start_split b t p.1 in ([], q.0, λ i. sym (eqb-true a x p.0) i ∷ q.1 i))
    (λ k. let q = step_split a b t k in (x ∷ q.0, q.1, ap (◌∷◌ x) q.2))
    (or_cases (eqb a x && starts_with b t) (follows a b t) h)

split_step : (a b : ℕ) (u v : Episode) → follows a b (u ++ (a ∷ b ∷ v)) ≡ true
split_step a b [] v = first_step a b v
split_step a b (x ∷ u) v =
    or_right (eqb a x && starts_with b (u ++ (a ∷ b ∷ v))) (follows a b (u ++ (a ∷ b ∷ v))) (split_step a b u v)

last_split : (x : ℕ) (t : Episode) → (u : Episode) × (x ∷ t ≡ u ++ (last_of x t ∷ []))
last_split x [] = ([], refl)
last_split x (y ∷ t) = let q = last_split y t in (x ∷ q.0, ap (◌∷◌ x) q.1)

end_split : (c : ℕ) (t : Episode) → ends_with c t ≡ true → (u : Episode) × (t ≡ u ++ (c ∷ []))
end_split c [] h = absurd (false≢true h)
end_split c (x ∷ t) h = rw (eqb-true c (last_of x t) h) (last_split x t)

split_last : (x c : ℕ) (u : Episode) → last_of x (u ++ (c ∷ [])) ≡ c
split_last x c [] = refl
split_last x c (y ∷ u) = split_last y c u

split_end : (c : ℕ) (u : Episode) → ends_with c (u ++ (c ∷ [])) ≡ true
split_end c [] = eq-eqb c c refl
split_end c (x ∷ u) = eq-eqb c (last_of x (u ++ (c ∷ []))) (sym (split_last x c u))

-- ---- the graph

module _ (m : ℕ) (l : Log) where
  -- THEOREM: the codes of the graph, those that occur, are the nodes of G(L)
  pub nodes : Below m l → (a : ℕ) → Has a (occurring m l) ↔ (graph_of l).node a
  nodes s a = (code_of m l a, λ k. code_in m l s k.0 k.1 a k.2)

  -- THEOREM: its edges are the edges of G(L)
  pub edges : Below m l → (a b : ℕ) → ((graph m l).edge a b ≡ true) ↔ (graph_of l).edge a b
  edges s a b = (
    (λ h. let k = edge_step m l a b h in let q = step_split a b k.0 k.2 in (q.0, q.1, subst (λ (t : Episode). Has t l) q.2 k.1)),
    (λ k. step_edge m l s (k.0 ++ (a ∷ b ∷ k.1)) k.2 a b (split_step a b k.0 k.1)),
  )

  -- THEOREM: its starts are the start nodes of G(L)
  pub starts : (a : ℕ) → ((graph m l).start a ≡ true) ↔ (graph_of l).start a
  unfolding graph
  starts a = (
    (λ h. let k = has_any (starts_with a) l h in let q = start_split a k.0 k.2 in (q.0, subst (λ (t : Episode). Has t l) q.1 k.1)),
    (λ k. any_has (starts_with a) (a ∷ k.0) l k.1 (eq-eqb a a refl)),
  )

  -- THEOREM: its ends are the end nodes of G(L)
  pub ends : (a : ℕ) → ((graph m l).end a ≡ true) ↔ (graph_of l).end a
  unfolding graph
  ends a = (
    (λ h. let k = has_any (ends_with a) l h in let q = end_split a k.0 k.2 in (q.0, subst (λ (t : Episode). Has t l) q.1 k.1)),
    (λ k. any_has (ends_with a) (k.0 ++ (a ∷ [])) l k.1 (split_end a k.0)),
  )

  -- a start or an end is a code
  pub start_code : Below m l → (a : ℕ) → (graph m l).start a ≡ true → Has a (occurring m l)
  start_code s a h = let k = (starts a).0 h in code_in m l s (a ∷ k.0) k.1 a (inl refl)

  pub end_code : Below m l → (a : ℕ) → (graph m l).end a ≡ true → Has a (occurring m l)
  end_code s a h = let k = (ends a).0 h in code_in m l s (k.0 ++ (a ∷ [])) k.1 a (has_append_right a k.0 (a ∷ []) (inl refl))

module _ (m : ℕ) (l : Log) (s : Below m l) where
  to_chain : {a b : ℕ} → Chain (graph m l).edge a b → EdgeChain (graph_of l) a b
  to_chain (edge {a = a} {b = b} h) = one ((edges m l s a b).0 h)
  to_chain (then {a = a} {b = b} h k) = chained ((edges m l s a b).0 h) (to_chain k)

  of_chain : {a b : ℕ} → EdgeChain (graph_of l) a b → Chain (graph m l).edge a b
  of_chain (one {a = a} {b = b} h) = edge ((edges m l s a b).1 h)
  of_chain (chained {a = a} {b = b} h k) = then ((edges m l s a b).1 h) (of_chain k)

  -- THEOREM: a code reaches another exactly where G(L) has a path from the one to the other
  pub reaches : (a b : ℕ) → (reach (graph m l) a b ≡ true) ↔ EdgeChain (graph_of l) a b
  reaches a b = ((λ h. to_chain (reach_chain m l a b h)), (λ k. chain_reach m l (of_chain k)))
