-- What the graph of a log says: tables, edges, and reach by chains of edges.
use mathlib.Core.Path.{◌≡◌, refl, sym, subst}
use mathlib.Core.Logic.{◌⊎◌, inl, inr, ⊎_elim}
use mathlib.Core.List.{List, [], ◌∷◌}
use mathlib.Core.Bool.{true, ◌&&◌, ◌||◌, false≢true}
use Prim.Native.Nat.{ℕ, ◌<◌}
use lib.Dec.{eqb}
use borrow.Author.Tests.{eqb-true, eq-eqb}
use Rattle.rules.specs.Words.{any, keep, each, mem}
use Rattle.rules.specs.Mining.{Episode, Log, Rel, table_of, tabled, occurring, graph, starts_with, last_of, ends_with, follows, through, reach}
use Rattle.rules.proofs.BoolLaws.{bool_ext, or_left, or_right, or_cases, and_both, and_cases}
use Rattle.rules.proofs.ListLaws.{Has, any_has, has_any, has_keep, keep_has, each_has, has_each, mem_has, has_mem}
use Rattle.rules.proofs.Occurring.{Below, code_at}

-- ---- tables

row_of : Rel → List ℕ → ℕ → ℕ × List ℕ
row_of e cs a = (a, keep (e a) cs)

pub tabled_in : (e : Rel) (cs : List ℕ) (a b : ℕ) → Has a cs → Has b cs → e a b ≡ true → tabled cs e a b ≡ true
unfolding tabled table_of row_of
tabled_in e cs a b i j h =
    any_has (λ r. eqb a r.0 && mem b r.1) (row_of e cs a) (each (row_of e cs) cs) (each_has (row_of e cs) a cs i)
    (and_both (eqb a a) (mem b (keep (e a) cs)) (eq-eqb a a refl) (has_mem b (keep (e a) cs) (keep_has (e a) b cs j h)))

pub in_tabled : (e : Rel) (cs : List ℕ) (a b : ℕ) → tabled cs e a b ≡ true → Has a cs × Has b cs × (e a b ≡ true)
unfolding tabled table_of row_of
in_tabled e cs a b h =
    let k = has_any (λ r. eqb a r.0 && mem b r.1) (each (row_of e cs) cs) h in
    let q = has_each (row_of e cs) k.0 cs k.1 in
    let x = q.0 in
    let both = and_cases (eqb a x) (mem b (keep (e x) cs)) (subst (λ (r : ℕ × List ℕ). (eqb a r.0 && mem b r.1) ≡ true) q.2 k.2) in
    let same : a ≡ x = eqb-true a x both.0 in
    let there = has_keep (e x) b cs (mem_has b (keep (e x) cs) both.1) in
    (rw same q.1, there.0, rw same there.1)

-- THEOREM: a table of a relation on some codes is the relation, at those codes
pub tabled_is : (e : Rel) (cs : List ℕ) (a b : ℕ) → Has a cs → Has b cs → tabled cs e a b ≡ e a b
tabled_is e cs a b i j = bool_ext (tabled cs e a b) (e a b) (λ h. (in_tabled e cs a b h).2) (tabled_in e cs a b i j)

-- ---- the codes of a step, a start and an end stand in the episode

pub start_has : (c : ℕ) (t : Episode) → starts_with c t ≡ true → Has c t
start_has c [] h = absurd (false≢true h)
start_has c (x ∷ t) h = inl (eqb-true c x h)

pub last_has : (x : ℕ) (t : Episode) → Has (last_of x t) (x ∷ t)
last_has x [] = inl refl
last_has x (y ∷ t) = inr (last_has y t)

pub end_has : (c : ℕ) (t : Episode) → ends_with c t ≡ true → Has c t
end_has c [] h = absurd (false≢true h)
end_has c (x ∷ t) h = subst (λ (d : ℕ). Has d (x ∷ t)) (sym (eqb-true c (last_of x t) h)) (last_has x t)

pub step_codes : (a b : ℕ) (t : Episode) → follows a b t ≡ true → Has a t × Has b t
step_codes a b [] h = absurd (false≢true h)
step_codes a b (x ∷ t) h =
    ⊎_elim
    (λ k. let p = and_cases (eqb a x) (starts_with b t) k in (inl (eqb-true a x p.0), inr (start_has b t p.1)))
    (λ k. let r = step_codes a b t k in (inr r.0, inr r.1))
    (or_cases (eqb a x && starts_with b t) (follows a b t) h)

-- the first step of an episode, and the others
pub first_step : (x y : ℕ) (t : Episode) → follows x y (x ∷ y ∷ t) ≡ true
first_step x y t =
    or_left (eqb x x && eqb y y) (follows x y (y ∷ t)) (and_both (eqb x x) (eqb y y) (eq-eqb x x refl) (eq-eqb y y refl))

pub later_step : (x y : ℕ) (t : Episode) (a b : ℕ) → follows a b (y ∷ t) ≡ true → follows a b (x ∷ y ∷ t) ≡ true
later_step x y t a b h = or_right (eqb a x && eqb b y) (follows a b (y ∷ t)) h

-- ---- edges

module _ (m : ℕ) (l : Log) where
  -- a step of an episode is an edge
  pub step_at : (t : Episode) → Has t l → (a b : ℕ) → a < m → b < m → follows a b t ≡ true → (graph m l).edge a b ≡ true
  unfolding graph
  step_at t i a b p q h =
      tabled_in (λ x y. any (follows x y) l) (occurring m l) a b (code_at m l t i a (step_codes a b t h).0 p) (code_at m l t i b (step_codes a b t h).1 q) (any_has (follows a b) t l i h)

  pub step_edge : Below m l → (t : Episode) → Has t l → (a b : ℕ) → follows a b t ≡ true → (graph m l).edge a b ≡ true
  step_edge s t i a b h = let codes = step_codes a b t h in step_at t i a b (s t i a codes.0) (s t i b codes.1) h

  -- an edge is a step of some episode
  pub edge_step : (a b : ℕ) → (graph m l).edge a b ≡ true → (t : Episode) × Has t l × (follows a b t ≡ true)
  unfolding graph
  edge_step a b h = has_any (follows a b) l (in_tabled (λ x y. any (follows x y) l) (occurring m l) a b h).2

  -- THEOREM: an edge a to b where b directly follows a somewhere
  pub edge_is : Below m l → (a b : ℕ) → (graph m l).edge a b ≡ any (follows a b) l
  edge_is s a b =
      bool_ext ((graph m l).edge a b) (any (follows a b) l) (λ h. let k = edge_step a b h in any_has (follows a b) k.0 l k.1 k.2)
      (λ h. let k = has_any (follows a b) l h in step_edge s k.0 k.1 a b k.2)

  pub edge_in : (a b : ℕ) → (graph m l).edge a b ≡ true → Has a (occurring m l) × Has b (occurring m l)
  unfolding graph
  edge_in a b h = let q = in_tabled (λ x y. any (follows x y) l) (occurring m l) a b h in (q.0, q.1)

-- ---- chains of edges

-- b is reached from a by one edge or more
pub data Chain (e : Rel) : ℕ → ℕ → Type 0 where
  edge : {a b : ℕ} → e a b ≡ true → Chain e a b
  then : {a b c : ℕ} → e a b ≡ true → Chain e b c → Chain e a c

pub chain_join : {e : Rel} {a b c : ℕ} → Chain e a b → Chain e b c → Chain e a c
chain_join (edge h) d = then h d
chain_join (then h k) d = then h (chain_join k d)

module _ (cs : List ℕ) (e : Rel) (within : (a b : ℕ) → e a b ≡ true → Has a cs × Has b cs) where
  r_in : (ks : List ℕ) (a b : ℕ) → through cs ks e a b ≡ true → Has a cs × Has b cs
  unfolding through
  r_in [] a b h = within a b h
  r_in (k ∷ ks) a b h =
      let q = in_tabled (λ x y. through cs ks e x y || (through cs ks e x k && through cs ks e k y)) cs a b h in (q.0, q.1)

  r_cases : (k : ℕ) (ks : List ℕ) (a b : ℕ) → through cs (k ∷ ks) e a b ≡ true →
      (through cs ks e a b ≡ true) ⊎ ((through cs ks e a k ≡ true) × (through cs ks e k b ≡ true))
  unfolding through
  r_cases k ks a b h =
      let q = in_tabled (λ x y. through cs ks e x y || (through cs ks e x k && through cs ks e k y)) cs a b h in
      ⊎_elim inl (λ j. inr (and_cases (through cs ks e a k) (through cs ks e k b) j)) (or_cases (through cs ks e a b) (through cs ks e a k && through cs ks e k b) q.2)

  r_old : (k : ℕ) (ks : List ℕ) (a b : ℕ) → through cs ks e a b ≡ true → through cs (k ∷ ks) e a b ≡ true
  unfolding through
  r_old k ks a b h =
      let q = r_in ks a b h in
      tabled_in (λ x y. through cs ks e x y || (through cs ks e x k && through cs ks e k y)) cs a b q.0 q.1
      (or_left (through cs ks e a b) (through cs ks e a k && through cs ks e k b) h)

  r_new : (k : ℕ) (ks : List ℕ) (a b : ℕ) → through cs ks e a k ≡ true → through cs ks e k b ≡ true → through cs (k ∷ ks) e a b ≡ true
  unfolding through
  r_new k ks a b h j =
      tabled_in (λ x y. through cs ks e x y || (through cs ks e x k && through cs ks e k y)) cs a b (r_in ks a k h).0 (r_in ks k b j).1
      (or_right (through cs ks e a b) (through cs ks e a k && through cs ks e k b) (and_both (through cs ks e a k) (through cs ks e k b) h j))

  to_k : (k : ℕ) (ks : List ℕ) (a : ℕ) → through cs (k ∷ ks) e a k ≡ true → through cs ks e a k ≡ true
  to_k k ks a h = ⊎_elim (λ i. i) (λ p. p.0) (r_cases k ks a k h)

  of_k : (k : ℕ) (ks : List ℕ) (b : ℕ) → through cs (k ∷ ks) e k b ≡ true → through cs ks e k b ≡ true
  of_k k ks b h = ⊎_elim (λ i. i) (λ p. p.1) (r_cases k ks k b h)

  r_trans : (ks : List ℕ) (c : ℕ) → Has c ks → (a b : ℕ) → through cs ks e a c ≡ true → through cs ks e c b ≡ true → through cs ks e a b ≡ true
  r_trans [] c m a b h j = absurd m
  r_trans (k ∷ ks) c (inl p) a b h j =
      r_new k ks a b (to_k k ks a (subst (λ (x : ℕ). through cs (k ∷ ks) e a x ≡ true) p h)) (of_k k ks b (subst (λ (x : ℕ). through cs (k ∷ ks) e x b ≡ true) p j))
  r_trans (k ∷ ks) c (inr m) a b h j =
      ⊎_elim
      (λ ac. ⊎_elim (λ cb. r_old k ks a b (r_trans ks c m a b ac cb)) (λ cb. r_new k ks a b (r_trans ks c m a k ac cb.0) cb.1) (r_cases k ks c b j))
      (λ ac. ⊎_elim (λ cb. r_new k ks a b ac.0 (r_trans ks c m k b ac.1 cb)) (λ cb. r_new k ks a b ac.0 cb.1) (r_cases k ks c b j))
      (r_cases k ks a c h)

  r_edge : (ks : List ℕ) (a b : ℕ) → e a b ≡ true → through cs ks e a b ≡ true
  unfolding through
  r_edge [] a b h = h
  r_edge (k ∷ ks) a b h = r_old k ks a b (r_edge ks a b h)

  -- THEOREM: through the codes is by chains of edges
  pub through_chain : (ks : List ℕ) (a b : ℕ) → through cs ks e a b ≡ true → Chain e a b
  unfolding through
  through_chain [] a b h = edge h
  through_chain (k ∷ ks) a b h =
      ⊎_elim (through_chain ks a b) (λ p. chain_join (through_chain ks a k p.0) (through_chain ks k b p.1)) (r_cases k ks a b h)

  pub chain_through : {a b : ℕ} → Chain e a b → through cs cs e a b ≡ true
  chain_through (edge {a = a} {b = b} h) = r_edge cs a b h
  chain_through (then {a = a} {b = b} {c = c} h k) = r_trans cs b (within a b h).1 a c (r_edge cs a b h) (chain_through k)

module _ (m : ℕ) (l : Log) where
  -- THEOREM: reach is by one edge or more
  pub reach_chain : (a b : ℕ) → reach (graph m l) a b ≡ true → Chain (graph m l).edge a b
  unfolding reach graph
  reach_chain a b h = through_chain (occurring m l) (graph m l).edge (edge_in m l) (occurring m l) a b h

  pub chain_reach : {a b : ℕ} → Chain (graph m l).edge a b → reach (graph m l) a b ≡ true
  unfolding reach graph
  chain_reach k = chain_through (occurring m l) (graph m l).edge (edge_in m l) k

  pub reach_trans : (a b c : ℕ) → reach (graph m l) a b ≡ true → reach (graph m l) b c ≡ true → reach (graph m l) a c ≡ true
  reach_trans a b c h j = chain_reach (chain_join (reach_chain a b h) (reach_chain b c j))

  pub reach_edge : (a b : ℕ) → (graph m l).edge a b ≡ true → reach (graph m l) a b ≡ true
  reach_edge a b h = chain_reach (edge h)
