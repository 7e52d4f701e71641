-- Each episode of a log is in the language of the tree that is mined from it.
use mathlib.Core.Path.{refl, ap, subst}
use mathlib.Core.Logic.{inl, inr}
use mathlib.Core.List.{List, [], ◌∷◌}
use mathlib.Core.Bool.{true≢false}
use Prim.Native.Nat.{ℕ, zero, suc}
use Rattle.rules.specs.Words.{all, each, mem}
use Rattle.rules.specs.Trees.{Op, choice, sequence, parallel, loop, Tree, In, InOne, once, again}
use Rattle.rules.specs.Mining.{Episode, Log, occurring, graph, reach, body_part, redo_parts, loop_parts, choice_parts, parts_of, shape, Shape, cut, split, project, runs, leaves, flower_of, grow, build, mine, mined}
use Rattle.rules.proofs.ListLaws.{Has, keep_has, flat_has, has_flat, each_has}
use Rattle.rules.proofs.Occurring.{Below, code_in}
use Rattle.rules.proofs.GraphLaws.{step_edge, reach_trans, reach_edge}
use Rattle.rules.proofs.Interleaving.{mix}
use Rattle.rules.proofs.Joining.{Onward, onward, row}
use Rattle.rules.proofs.Order.{sequence_order}
use Rattle.rules.proofs.Runs.{looped_runs, blocks}
use Rattle.rules.proofs.Cuts.{choice_whole, loop_apart, loop_sorts, loop_stays, start_body, end_body}
use Rattle.rules.proofs.Splits.{split_below}
use Rattle.rules.proofs.Shapes.{Taken, shape_cases}

leaves_has : (cs : List ℕ) (c : ℕ) → Has c cs → InOne (leaves cs) (c ∷ [])
leaves_has (x ∷ cs) c (inl e) = inl (ap (λ (y : ℕ). y ∷ []) e)
leaves_has (x ∷ cs) c (inr i) = inr (leaves_has cs c i)
leaves_has [] c i = absurd i

-- THEOREM: a flower has every episode of its codes
pub flower_fits : (cs : List ℕ) (t : Episode) → ((c : ℕ) → Has c t → Has c cs) → In (flower_of cs) t
flower_fits cs [] h = once refl
flower_fits cs (x ∷ t) h = again {u = []} {v = x ∷ []} {w = t} refl (leaves_has cs x (h x (inl refl))) (flower_fits cs t (λ c i. h c (inr i)))

one : (f : List ℕ → Tree) (ps : List (List ℕ)) (p : List ℕ) (t : Episode) → Has p ps → In (f p) t → InOne (grow f ps) t
one f (q ∷ ps) p t (inl e) h = inl (subst (λ (x : List ℕ). In (f x) t) e h)
one f (q ∷ ps) p t (inr i) h = inr (one f ps p t i h)
one f [] p t i h = absurd i

module _ (m : ℕ) (sub : Log → Tree) (l : Log) (s : Below m l) (below : (o : Op) (p : List ℕ) (t : Episode) → Has t (split o p l) → In (sub (split o p l)) t) where
  abbrev Fits : Shape → Type 0
  Fits z = (t : Episode) → Has t l → In (build sub l z) t

  choice_fits : Taken m l choice → Fits (cut choice (parts_of choice (graph m l)))
  unfolding build split
  choice_fits k [] i = absurd (true≢false (k.full [] i))
  choice_fits k (x ∷ t) i =
      let q = has_flat x (choice_parts (graph m l)) (k.parting.covers x (code_in m l s (x ∷ t) i x (inl refl))) in
      one (λ p. sub (split choice p l)) (choice_parts (graph m l)) q.0 (x ∷ t) q.1
      (below choice q.0 (x ∷ t) (keep_has (all (λ c. mem c q.0)) (x ∷ t) l i (choice_whole m l s q.0 q.1 (x ∷ t) i x (inl refl) q.2)))

  parallel_fits : Taken m l parallel → Fits (cut parallel (parts_of parallel (graph m l)))
  unfolding build
  parallel_fits k t i =
      mix (λ p. sub (split parallel p l)) (parts_of parallel (graph m l)) t k.parting.apart (λ c j. k.parting.covers c (code_in m l s t i c j))
      (λ p _. below parallel p (project p t) (unfold split in each_has (project p) t l i))

  episode_onward : (t : Episode) → Has t l → Onward (reach (graph m l)) t
  episode_onward [] i = tt
  episode_onward (x ∷ t) i = onward (reach (graph m l)) (reach_trans m l) x t (λ a b h. reach_edge m l a b (step_edge m l s (x ∷ t) i a b h))

  sequence_fits : Taken m l sequence → Fits (cut sequence (parts_of sequence (graph m l)))
  unfolding build
  sequence_fits k t i =
      row (reach (graph m l)) (λ p. sub (split sequence p l)) (parts_of sequence (graph m l)) t k.parting.apart (λ c j. k.parting.covers c (code_in m l s t i c j))
      (episode_onward t i) (sequence_order m l) (λ p _. below sequence p (project p t) (unfold split in each_has (project p) t l i))

  loop_fits : Taken m l loop → Fits (cut loop (parts_of loop (graph m l)))
  unfolding build loop_parts
  loop_fits k [] i = absurd (true≢false (k.full [] i))
  loop_fits k (x ∷ t) i =
      let body = body_part (graph m l) in
      let redos = redo_parts (graph m l) in
      let f : List ℕ → Tree = λ p. sub (split loop p l) in
      let run : (p : List ℕ) (u : Episode) → Has u (runs p (x ∷ t)) → Has u (split loop p l) =
      λ p u j. unfold split in flat_has u (runs p (x ∷ t)) (each (runs p) l) (each_has (runs p) (x ∷ t) l i) j in
      looped_runs body redos (loop_apart m l) (λ u. In (f body) u) (λ v. InOne (grow f redos) v)
      (blocks body redos (loop_apart m l) (graph m l).edge (occurring m l) (loop_sorts m l) (loop_stays m l) x t (step_edge m l s (x ∷ t) i)
      (λ c j. code_in m l s (x ∷ t) i c (inr j)) (start_body m l s x t i) (end_body m l s x t i))
      (λ u j. below loop body u (run body u j))
      (λ p v n j. one f redos p v n (below loop p v (run p v j)))

  cut_fits : (o : Op) → Taken m l o → Fits (cut o (parts_of o (graph m l)))
  cut_fits choice k t i = choice_fits k t i
  cut_fits sequence k t i = sequence_fits k t i
  cut_fits parallel k t i = parallel_fits k t i
  cut_fits loop k t i = loop_fits k t i

  shape_fits : Fits (shape m l)
  unfolding build
  shape_fits = shape_cases m l s Fits (λ h. h) (λ a i h. h) (λ c j _ t i. flower_fits (occurring m l) t (code_in m l s t i)) cut_fits

mine_fits : (m n : ℕ) (l : Log) → Below m l → (t : Episode) → Has t l → In (mine m n l) t
unfolding mine
mine_fits m zero l s t i = flower_fits (occurring m l) t (code_in m l s t i)
mine_fits m (suc n) l s t i = shape_fits m (mine m n) l s (λ o p. mine_fits m n (split o p l) (split_below m o p l s)) t i

-- THEOREM: every episode of a log fits its mined tree
pub mined_fits : (m : ℕ) (l : Log) → Below m l → (t : Episode) → Has t l → In (mined m l) t
unfolding mined
mined_fits m l s t i = mine_fits m (suc m) l s t i
