-- The parts of loop are a cut by Definition 4 of 003.
use mathlib.Core.Path.{◌≡◌, ap}
use mathlib.Core.Logic.{◌⊎◌, inl, inr, ⊎_elim}
use mathlib.Core.List.{List}
use mathlib.Core.Bool.{true, false, not}
use Prim.Native.Nat.{ℕ}
use Rattle.rules.specs.Words.{keep}
use Rattle.rules.specs.Mining.{Log, graph, occurring, components, either, on_border, is_redo, redo_parts, body_part, loop_parts}
use Rattle.rules.proofs.BoolLaws.{bool_cases, or_left, or_right}
use Rattle.rules.proofs.ListLaws.{Has, has_keep, keep_has, flat_has}
use Rattle.rules.proofs.Occurring.{Below}
use Rattle.rules.proofs.Components.{closed}
use Rattle.rules.proofs.GraphLaws.{edge_in}
use Rattle.rules.proofs.Cuts.{either_sym, rest, redo_component, loop_apart, border_body, loop_stays, start_body, loop_parting}
use Rattle.papers.specs.Cuts.{graph_of, Σ, LoopCut}
use Rattle.papers.proofs.Places.{part_has, part_flat, apart_at}
use Rattle.papers.proofs.Graphs.{edges, starts, ends, start_code, end_code}
use Rattle.papers.proofs.Partitions.{parting_cut}
use Rattle.papers.proofs.RedoCodes.{RedoCode, redo_code}

-- the starts and ends
abbrev pub border : ℕ → Log → List ℕ
border m l = keep (on_border (graph m l)) (occurring m l)

module _ (m : ℕ) (l : Log) (s : Below m l) where
  start_border : (a : ℕ) → (graph m l).start a ≡ true → Has a (border m l)
  start_border a h = keep_has (on_border (graph m l)) a (occurring m l) (start_code m l s a h) (or_left ((graph m l).start a) ((graph m l).end a) h)

  end_border : (a : ℕ) → (graph m l).end a ≡ true → Has a (border m l)
  end_border a h = keep_has (on_border (graph m l)) a (occurring m l) (end_code m l s a h) (or_right ((graph m l).start a) ((graph m l).end a) h)

  in_body : (a : ℕ) → Has a (border m l) → Has a (body_part (graph m l))
  in_body a i = let k = has_keep (on_border (graph m l)) a (occurring m l) i in border_body m l a k.0 k.1

  is_redo_lem : (p : List ℕ) → Has p (redo_parts (graph m l)) → (x : ℕ) → Has x p → RedoCode (graph m l) (border m l) x
  unfolding redo_parts graph rest
  is_redo_lem p i = redo_code (graph m l) (border m l) p (has_keep (is_redo (graph m l) (border m l)) p (components (either (graph m l).edge) (rest m l)) i).1

  -- the codes of the body that have an edge with a redo part are starts and ends
  at_border : (p : List ℕ) → Has p (redo_parts (graph m l)) → (x b : ℕ) → Has x p → Has b (occurring m l) → Has b (body_part (graph m l)) → either (graph m l).edge x b ≡ true → Has b (border m l)
  unfolding rest
  at_border p i x b ix ib body h =
      let g = graph m l in
      ⊎_elim (λ (t : on_border g b ≡ true). keep_has (on_border g) b (occurring m l) ib t)
      (λ (t : on_border g b ≡ false).
      absurd
      ((loop_apart m l).0 b body
      (flat_has b p (redo_parts g) i
      (closed (either g.edge) (either_sym g.edge) (rest m l) p (redo_component m l p i) x b ix (keep_has (λ a. not (on_border g a)) b (occurring m l) ib (ap not t)) h))))
      (bool_cases (on_border g b))

  into_border : (p : List ℕ) → Has p (redo_parts (graph m l)) → (x b : ℕ) → Has x p → Has b (body_part (graph m l)) → (graph m l).edge b x ≡ true → Has b (border m l)
  into_border p i x b ix body h = let e = (graph m l).edge in at_border p i x b ix (edge_in m l b x h).0 body (or_right (e x b) (e b x) h)

  from_border : (p : List ℕ) → Has p (redo_parts (graph m l)) → (x b : ℕ) → Has x p → Has b (body_part (graph m l)) → (graph m l).edge x b ≡ true → Has b (border m l)
  from_border p i x b ix body h = let e = (graph m l).edge in at_border p i x b ix (edge_in m l x b h).1 body (or_left (e x b) (e b x) h)

  -- THEOREM: the parts of loop are a loop cut, where the graph has a start node: where the log has an episode that is not empty
  pub loop_cut : (x : ℕ) → (graph_of l).start x → LoopCut (graph_of l) (loop_parts (graph m l))
  unfolding loop_parts
  loop_cut x st =
      let g = graph m l in
      let ps = redo_parts g in
      let has = part_has ps in
      let first : (a : ℕ) → (graph_of l).start a ⊎ (graph_of l).end a → Has a (body_part g) =
      λ a h. ⊎_elim (λ k. in_body a (start_border a ((starts m l a).1 k))) (λ k. in_body a (end_border a ((ends m l a).1 k))) h in
      record {
        cut = parting_cut m l s (loop_parts g) (loop_parting m l x (start_body m l s x st.0 st.1));
        condition_1 = first;
        condition_2 = λ i a b ia ib h.
            let e = (edges m l s b a).1 h in
            (ends m l b).0 ((is_redo_lem (Σ ps i) (has i a ia) a ia).leaves_end b (into_border (Σ ps i) (has i a ia) a b ia ib e) e);
        condition_3 = λ i a b ia ib h.
            let e = (edges m l s a b).1 h in
            (starts m l b).0 ((is_redo_lem (Σ ps i) (has i a ia) a ia).reaches_start b (from_border (Σ ps i) (has i a ia) a b ia ib e) e);
        condition_4 = λ i j n a b ia ib h.
            let e = (edges m l s a b).1 h in
            ⊎_elim (λ k. (loop_apart m l).0 b k (part_flat ps j b ib)) (λ k. apart_at ps (loop_apart m l).1 i j n b k ib)
            (loop_stays m l (Σ ps i) (has i a ia) a b ia (edge_in m l a b e).1 e);
        condition_5 = λ i a b ia h. (
          (λ k.
              let e = (edges m l s a k.0).1 k.2 in
              let t = (starts m l b).1 h in
              (edges m l s a b).0 ((is_redo_lem (Σ ps i) (has i a ia) a ia).to_starts k.0 b (from_border (Σ ps i) (has i a ia) a k.0 ia k.1 e) e (start_border b t) t)),
          (λ k. (b, first b (inl h), k)),
        );
        condition_6 = λ i a b ia h. (
          (λ k.
              let e = (edges m l s k.0 a).1 k.2 in
              let t = (ends m l b).1 h in
              (edges m l s b a).0 ((is_redo_lem (Σ ps i) (has i a ia) a ia).from_ends k.0 b (into_border (Σ ps i) (has i a ia) a k.0 ia k.1 e) e (end_border b t) t)),
          (λ k. (b, first b (inr h), k)),
        );
      }
