-- A loop's rows against the language.
use Prim.Native.Nat.{ℕ, ◌≤◌}
use native.Mathlib.Omega.{arith}
use mathlib.Core.List.{List, ◌++◌, append_assoc}
use mathlib.Core.Path.{◌≡◌, refl, sym, ap, ◌∙◌, subst}
use mathlib.Core.Bool.{Bool}
use lib.ListN.{length}
use Rattle.rules.specs.Trees.{Looped, once as body, again as redo}
use Rattle.judge_rows.specs.Rows.{Loops, once, again, Says}
use Rattle.judge_meanings.specs.Means.{Lang, word, Place, Means}
use Rattle.judge_meanings.proofs.MeansLaws.{word_joined, word_cut}

module _ (S : ℕ → Bool) (K L : Lang) (e : List ℕ) (A B : ℕ → ℕ → Bool) (hA : Means S K e A) (hB : Means S L e B) where
  loops_in : {i j : ℕ} → Loops A B i j → Place S (Looped K L) e i j
  unfolding Means
  loops_in {i} {j} (once p) = let x = (hA i j).0 p in record { order = x.order; inside = x.inside; holds = body x.holds }
  loops_in {i} {j} (again {k = k} {m = m} p q l) =
      let x = (hA i k).0 p in
      let y = (hB k m).0 q in
      let z = loops_in l in
      let o = x.order in
      let n = y.order in
      let r = z.order in
      record {
        order = omega arith;
        inside = z.inside;
        holds = subst (λ (w : List ℕ). Looped K L w)
            (sym (word_joined S e i m j (omega arith) r ∙ ap (λ (w : List ℕ). w ++ word S e m j) (word_joined S e i k m o n)))
            (redo x.holds y.holds z.holds);
      }

  in_loops : {w : List ℕ} → Looped K L w → (i j : ℕ) → i ≤ j → j ≤ length e → word S e i j ≡ w → Loops A B i j
  unfolding Means
  in_loops (body k) i j h g q = once ((hA i j).1 (record { order = h; inside = g; holds = subst K (sym q) k }))
  in_loops (redo {u = u} {v = v} {w = w} ku lv lw) i j h g q =
      let a = word_cut S e i j u (v ++ w) h g (q ∙ append_assoc u v w) in
      let b = word_cut S e a.0 j v w a.2 g a.4 in
      let bj : b.0 ≤ j = b.2 in
      let ab : a.0 ≤ b.0 = b.1 in
      again ((hA i a.0).1 (record { order = a.1; inside = omega arith; holds = subst K (sym a.3) ku }))
      ((hB a.0 b.0).1 (record { order = ab; inside = omega arith; holds = subst L (sym b.3) lv }))
      (in_loops lw b.0 j bj g b.4)

  -- whatever table says `Loops` means the loop's language
  pub loop_means : (R : ℕ → ℕ → Bool) → ((i j : ℕ) → Says (R i j) (Loops A B i j)) → Means S (λ w. Looped K L w) e R
  unfolding Means
  loop_means R h i j = (λ t. loops_in ((h i j).0 t), λ q. (h i j).1 (in_loops q.holds i j q.order q.inside refl))
