-- The tree depends only on the set of episodes.
use mathlib.Core.Path.{◌≡◌, refl, sym, ◌∙◌, ap, subst}
use mathlib.Core.List.{List}
use mathlib.Core.Bool.{Bool, true}
use Prim.Native.Nat.{ℕ, zero, suc}
use Rattle.rules.specs.Words.{any, all, keep, each, flat, mem, from}
use Rattle.rules.specs.Trees.{Op, choice, sequence, parallel, loop, Tree, node}
use Rattle.rules.specs.Mining.{Episode, Log, project, grow, flower_of, occurring, graph, tabled, follows, starts_with, ends_with, shape, shape_of, is_empty, one_event, split, runs, Shape, nothing, single, flower, cut, build, mine, mined}
use Rattle.rules.proofs.BoolLaws.{bool_ext}
use Rattle.rules.proofs.ListLaws.{Has, any_has, has_any, all_has, has_all, has_keep, keep_has, flat_has, has_flat, each_has, has_each}

-- each episode of l is in k
abbrev pub Within : Log → Log → Type 0
Within l k = (t : Episode) → Has t l → Has t k

-- the same set of episodes
abbrev pub Same : Log → Log → Type 0
Same l k = Within l k × Within k l

any_within : (p : Episode → Bool) (l k : Log) → Within l k → any p l ≡ true → any p k ≡ true
any_within p l k s h = let q = has_any p l h in any_has p q.0 k (s q.0 q.1) q.2

all_within : (p : Episode → Bool) (l k : Log) → Within k l → all p l ≡ true → all p k ≡ true
all_within p l k s h = has_all p k (λ t i. all_has p t l h (s t i))

module _ (m : ℕ) (l k : Log) (s : Same l k) where
  pub any_same : (p : Episode → Bool) → any p l ≡ any p k
  any_same p = bool_ext (any p l) (any p k) (any_within p l k s.0) (any_within p k l s.1)

  pub all_same : (p : Episode → Bool) → all p l ≡ all p k
  all_same p = bool_ext (all p l) (all p k) (all_within p l k s.1) (all_within p k l s.0)

  pub occurring_same : occurring m l ≡ occurring m k
  unfolding occurring
  occurring_same = λ i. keep (λ c. any_same (mem c) i) (from 0 m)

  pub graph_same : graph m l ≡ graph m k
  unfolding graph
  graph_same = λ i.
      record {
        codes = occurring_same i;
        edge = tabled (occurring_same i) (λ a b. any_same (follows a b) i);
        start = λ a. any_same (starts_with a) i;
        end = λ a. any_same (ends_with a) i;
      }

  pub shape_same : shape m l ≡ shape m k
  unfolding shape
  shape_same = λ i. shape_of (all_same is_empty i) (any_same is_empty i) (occurring_same i) (all_same one_event i) (graph_same i)

each_within : (f : Episode → Episode) (l k : Log) → Within l k → Within (each f l) (each f k)
each_within f l k s t i = let q = has_each f t l i in subst (λ (u : Episode). Has u (each f k)) (sym q.2) (each_has f q.0 k (s q.0 q.1))

keep_within : (f : Episode → Bool) (l k : Log) → Within l k → Within (keep f l) (keep f k)
keep_within f l k s t i = let q = has_keep f t l i in keep_has f t k (s t q.0) q.1

runs_within : (p : List ℕ) (l k : Log) → Within l k → Within (flat (each (runs p) l)) (flat (each (runs p) k))
runs_within p l k s t i =
    let q = has_flat t (each (runs p) l) i in
    let u = has_each (runs p) q.0 l q.1 in
    flat_has t (runs p u.0) (each (runs p) k) (each_has (runs p) u.0 k (s u.0 u.1)) (subst (Has t) u.2 q.2)

pub split_within : (o : Op) (p : List ℕ) (l k : Log) → Within l k → Within (split o p l) (split o p k)
unfolding split
split_within choice p l k s = keep_within (all (λ c. mem c p)) l k s
split_within sequence p l k s = each_within (project p) l k s
split_within parallel p l k s = each_within (project p) l k s
split_within loop p l k s = runs_within p l k s

pub split_same : (o : Op) (p : List ℕ) (l k : Log) → Same l k → Same (split o p l) (split o p k)
split_same o p l k s = (split_within o p l k s.0, split_within o p k l s.1)

build_same : (sub : Log → Tree) (l k : Log) → ((o : Op) (p : List ℕ) → sub (split o p l) ≡ sub (split o p k)) → (s : Shape) → build sub l s ≡ build sub k s
unfolding build
build_same sub l k h nothing = refl
build_same sub l k h (single a) = refl
build_same sub l k h (flower cs) = refl
build_same sub l k h (cut o ps) = λ i. node o (grow (λ p. h o p i) ps)

mine_same : (m n : ℕ) (l k : Log) → Same l k → mine m n l ≡ mine m n k
unfolding mine
mine_same m zero l k s = ap flower_of (occurring_same m l k s)
mine_same m (suc n) l k s =
    build_same (mine m n) l k (λ o p. mine_same m n (split o p l) (split o p k) (split_same o p l k s)) (shape m l) ∙ ap (build (mine m n) k) (shape_same m l k s)

-- THEOREM: logs with the same set of episodes give the same tree
pub mined_same : (m : ℕ) (l k : Log) → Same l k → mined m l ≡ mined m k
unfolding mined
mined_same m l k s = mine_same m (suc m) l k s
