-- Splitting: every event of a log goes to exactly one part, and a part's log has the part's codes.
use mathlib.Core.Path.{◌≡◌, refl, sym, ◌∙◌, ap, subst}
use mathlib.Core.Logic.{inl, inr}
use mathlib.Core.List.{List, [], ◌∷◌, ◌++◌}
use mathlib.Core.Bool.{Bool, true, false}
use Prim.Native.Nat.{ℕ}
use Rattle.rules.specs.Words.{any, all, push, keep, each, flat, mem, from}
use Rattle.rules.specs.Trees.{Op, choice, sequence, parallel, loop}
use Rattle.rules.specs.Mining.{Episode, Log, occurring, graph, parts_of, split, project, runs}
use Rattle.rules.proofs.BoolLaws.{not_both_lem}
use Rattle.rules.proofs.ListLaws.{Has, all_has, has_keep, keep_has, flat_has, has_flat, has_each, mem_has, has_mem, mem_not, keep_append, keep_all, keep_none, flat_append}
use Rattle.rules.proofs.Occurring.{Below, code_in, code_of}
use Rattle.rules.proofs.Components.{picked_keep, picked_wider, picked_same}
use Rattle.rules.proofs.Runs.{runs_project, run_codes}
use Rattle.rules.proofs.Cuts.{Parting, choice_whole}

projected : (p : List ℕ) (l : Log) → flat (each (project p) l) ≡ project p (flat l)
unfolding project
projected p [] = refl
projected p (t ∷ l) = ap (◌++◌ (project p t)) (projected p l) ∙ sym (keep_append (λ c. mem c p) t (flat l))

run_up : (p : List ℕ) (l : Log) → flat (flat (each (runs p) l)) ≡ project p (flat l)
unfolding project
run_up p [] = refl
run_up p (t ∷ l) =
    flat_append (runs p t) (flat (each (runs p) l))
    ∙ (λ i. runs_project p t i ++ run_up p l i)
    ∙ sym (keep_append (λ c. mem c p) t (flat l))

kept_push : (p : List ℕ) (t : Episode) (b : Bool) (u : Log) (v : Episode) → all (λ x. mem x p) t ≡ b → ((c : ℕ) → Has c t → Has c p → all (λ x. mem x p) t ≡ true) →
    flat u ≡ v → flat (push b t u) ≡ project p t ++ v
unfolding project
kept_push p t true u v e whole h = λ i. sym (keep_all (λ c. mem c p) t (λ c j. all_has (λ x. mem x p) c t e j)) i ++ h i
kept_push p t false u v e whole h =
    h ∙ ap (λ (w : Episode). w ++ v) (sym (keep_none (λ c. mem c p) t (λ c j. mem_not c p (λ k. not_both_lem (all (λ x. mem x p) t) (whole c j k) e))))

kept : (p : List ℕ) (l : Log) → ((t : Episode) → Has t l → (c : ℕ) → Has c t → Has c p → all (λ x. mem x p) t ≡ true) → flat (keep (all (λ x. mem x p)) l) ≡ project p (flat l)
unfolding project
kept p [] whole = refl
kept p (t ∷ l) whole =
    kept_push p t (all (λ x. mem x p) t) (keep (all (λ x. mem x p)) l) (project p (flat l)) refl (whole t (inl refl)) (kept p l (λ u i. whole u (inr i)))
    ∙ sym (keep_append (λ c. mem c p) t (flat l))

-- THEOREM: a code of a part's log is a code of the log and of the part
pub split_codes : (o : Op) (p : List ℕ) (l : Log) (t : Episode) → Has t (split o p l) → (c : ℕ) → Has c t → ((u : Episode) × Has u l × Has c u) × Has c p
unfolding split project
split_codes choice p l t i c j =
    let k = has_keep (all (λ x. mem x p)) t l i in ((t, k.0, j), mem_has c p (all_has (λ x. mem x p) c t k.1 j))
split_codes sequence p l t i c j =
    let k = has_each (project p) t l i in
    let q = has_keep (λ x. mem x p) c k.0 (subst (Has c) k.2 j) in
    ((k.0, k.1, q.0), mem_has c p q.1)
split_codes parallel p l t i c j =
    let k = has_each (project p) t l i in
    let q = has_keep (λ x. mem x p) c k.0 (subst (Has c) k.2 j) in
    ((k.0, k.1, q.0), mem_has c p q.1)
split_codes loop p l t i c j =
    let k = has_flat t (each (runs p) l) i in
    let q = has_each (runs p) k.0 l k.1 in
    let z = run_codes p q.0 t (subst (Has t) q.2 k.2) c j in
    ((q.0, q.1, z.0), z.1)

-- a part's log has codes below m too
pub split_below : (m : ℕ) (o : Op) (p : List ℕ) (l : Log) → Below m l → Below m (split o p l)
split_below m o p l s t i c j = let k = (split_codes o p l t i c j).0 in s k.0 k.1 c k.2

module _ (m : ℕ) (l : Log) (s : Below m l) (o : Op) (k : Parting (occurring m l) (parts_of o (graph m l))) (p : List ℕ) (i : Has p (parts_of o (graph m l))) where
  -- THEOREM: the events of a part's log are, in their order, the events of the log that are in the part
  pub split_events : flat (split o p l) ≡ project p (flat l)
  unfolding split
  split_events = by o i
    where
      by : (o : Op) → Has p (parts_of o (graph m l)) → flat (split o p l) ≡ project p (flat l)
      by choice i = kept p l (choice_whole m l s p i)
      by sequence i = projected p l
      by parallel i = projected p l
      by loop i = run_up p l

  code_split : (c : ℕ) → Has c p → (t : Episode) × Has t (split o p l) × Has c t
  unfolding project
  code_split c j =
      let q = code_of m l c (k.inside c (flat_has c p (parts_of o (graph m l)) i j)) in
      has_flat c (split o p l) (subst (Has c) (sym split_events) (keep_has (λ x. mem x p) c (flat l) (flat_has c q.0 l q.1 q.2) (has_mem c p j)))

  -- THEOREM: the codes that occur in a part's log are the part
  pub split_occurring : occurring m (split o p l) ≡ p
  split_occurring =
      picked_same (from 0 m) (occurring m (split o p l)) p (unfold occurring in picked_keep (λ c. any (mem c) (split o p l)) (from 0 m))
      (unfold occurring in picked_wider (λ c. any (mem c) l) (from 0 m) p (k.picked p i))
      (λ c j. let q = code_of m (split o p l) c j in (split_codes o p l q.0 q.1 c q.2).1)
      (λ c j. let z = code_split c j in code_in m (split o p l) (split_below m o p l s) z.0 z.1 c z.2)
