-- The base cases, the flower and the cuts: each is made of a log exactly where document 01 says.
use mathlib.Core.Path.{◌≡◌, refl, sym, ◌∙◌, ap, subst}
use mathlib.Core.Logic.{inl, ⊎_elim, ◌↔◌}
use mathlib.Core.List.{List, [], ◌∷◌}
use mathlib.Core.Bool.{true≢false}
use Prim.Native.Nat.{ℕ}
use native.Mathlib.Omega.{arith}
use Rattle.rules.specs.Words.{flat}
use Rattle.rules.specs.Trees.{Op, choice, sequence, parallel, loop, silent, labels, labels_all}
use Rattle.rules.specs.Mining.{Episode, Log, occurring, graph, body_part, loop_parts, parts_of, shape, nothing, single, flower, cut, split, leaves, flower_of, build, mined}
use Rattle.rules.proofs.BoolLaws.{clash}
use Rattle.rules.proofs.ListLaws.{Has, flat_has}
use Rattle.rules.proofs.Distinct.{distinct_flat, distinct_le}
use Rattle.rules.proofs.Occurring.{Below, code_of, occurring_distinct}
use Rattle.rules.proofs.Cuts.{Two, parting_distinct}
use Rattle.rules.proofs.Splits.{split_below, split_occurring}
use Rattle.rules.proofs.Shapes.{First, Taken, cut_taken, OnlyEmpty, OnlyOne, Beside, NoCut, Blooms, shape_cases, two_length, parts_some, one_code, full_not}
use Rattle.rules.proofs.Recursion.{mined_is}
use Rattle.rules.proofs.Leaves.{leaves_labels, occurs_label}

first_part : (ps : List (List ℕ)) → Two ps → (p : List ℕ) × Has p ps
first_part [] w = absurd w
first_part (p ∷ []) w = absurd w
first_part (p ∷ q ∷ ps) w = (p, inl refl)

-- only one cut is the first with two parts
first_unique : (m : ℕ) (l : Log) (o q : Op) → Two (parts_of o (graph m l)) → First m l o → Two (parts_of q (graph m l)) → First m l q → o ≡ q
first_unique m l choice choice a f b g = refl
first_unique m l choice sequence a f b g = absurd (g a)
first_unique m l choice parallel a f b g = absurd (g.0 a)
first_unique m l choice loop a f b g = absurd (g.0 a)
first_unique m l sequence choice a f b g = absurd (f b)
first_unique m l sequence sequence a f b g = refl
first_unique m l sequence parallel a f b g = absurd (g.1 a)
first_unique m l sequence loop a f b g = absurd (g.1 a)
first_unique m l parallel choice a f b g = absurd (f.0 b)
first_unique m l parallel sequence a f b g = absurd (f.1 b)
first_unique m l parallel parallel a f b g = refl
first_unique m l parallel loop a f b g = absurd (g.2 a)
first_unique m l loop choice a f b g = absurd (f.0 b)
first_unique m l loop sequence a f b g = absurd (f.1 b)
first_unique m l loop parallel a f b g = absurd (f.2 b)
first_unique m l loop loop a f b g = refl

module _ (m : ℕ) (l : Log) (s : Below m l) where
  -- where a cut is taken there is an episode
  taken_some : (o : Op) → Taken m l o → (t : Episode) × Has t l
  taken_some o k =
      let p = first_part (parts_of o (graph m l)) k.two in
      let c = k.parting.some p.0 p.1 in
      let q = code_of m l c.0 (k.parting.inside c.0 (flat_has c.0 p.0 (parts_of o (graph m l)) p.1 c.1)) in
      (q.0, q.1)

  taken_not_empty : (o : Op) → Taken m l o → OnlyEmpty l → ⊥
  taken_not_empty o k h = let t = taken_some o k in full_not t.0 (k.full t.0 t.1) (h t.0 t.1)

  -- two parts have two codes
  taken_not_one : (o : Op) → Taken m l o → (a : ℕ) → OnlyOne l a → ⊥
  taken_not_one o k a h =
      let ps = parts_of o (graph m l) in
      let d = distinct_le (flat ps) (a ∷ []) (distinct_flat ps k.parting.apart (parting_distinct (occurring m l) ps (occurring_distinct m l) k.parting))
      (λ c i. inl (one_code m l a h c (k.parting.inside c i))) in
      let n = parts_some ps k.parting.some in
      let t = two_length ps k.two in
      omega arith

  taken_not_bloom : (o : Op) → Taken m l o → Blooms m l → ⊥
  taken_not_bloom o k b = ⊎_elim (λ (e : Beside l). true≢false (k.full [] e.0)) (λ (n : NoCut m l). n o k.two) b.cause

  -- THEOREM: nothing is made of a log exactly where it has only the empty episode
  pub nothing_where : (shape m l ≡ nothing) ↔ OnlyEmpty l
  nothing_where = (to, fro)
    where
      to : shape m l ≡ nothing → OnlyEmpty l
      to =
          shape_cases m l s (λ z. z ≡ nothing → OnlyEmpty l) (λ h _. h) (λ a i h e. clash (cc))
          (λ c i b e. clash (cc)) (λ o k e. clash (cc))

      fro : OnlyEmpty l → shape m l ≡ nothing
      fro h =
          shape_cases m l s (λ z. z ≡ nothing) (λ _. refl)
          (λ a i o. absurd (let k = code_of m l a i in full_not (a ∷ []) refl (sym (o k.0 k.1) ∙ h k.0 k.1)))
          (λ c i b. absurd (b.not_empty h))
          (λ o k. absurd (taken_not_empty o k h))

  -- THEOREM: the single a is made of a log exactly where it has an episode and only that of one event a
  pub single_where : (a : ℕ) → (shape m l ≡ single a) ↔ (Has (a ∷ []) l × OnlyOne l a)
  single_where a = (to, fro)
    where
      to : shape m l ≡ single a → Has (a ∷ []) l × OnlyOne l a
      to =
          shape_cases m l s (λ z. z ≡ single a → Has (a ∷ []) l × OnlyOne l a) (λ _ e. clash (cc))
          (λ x i h e.
          let same : x ≡ a = cc in
          let k = code_of m l x i in
          subst (λ (y : ℕ). Has (y ∷ []) l × OnlyOne l y) same (subst (λ (u : Episode). Has u l) (h k.0 k.1) k.1, h))
          (λ c i b e. clash (cc)) (λ o k e. clash (cc))

      fro : Has (a ∷ []) l × OnlyOne l a → shape m l ≡ single a
      fro h =
          shape_cases m l s (λ z. z ≡ single a) (λ e. absurd (full_not (a ∷ []) refl (e (a ∷ []) h.0))) (λ x i _. ap single (one_code m l a h.1 x i))
          (λ c i b. absurd (b.not_one a h.1))
          (λ o k. absurd (taken_not_one o k a h.1))

  -- THEOREM: a flower is made of a log exactly where no base case holds and the empty episode stands beside others or no cut has two parts; its codes are those that occur
  pub flower_where : (shape m l ≡ flower (occurring m l)) ↔ Blooms m l
  flower_where = (to, fro)
    where
      to : shape m l ≡ flower (occurring m l) → Blooms m l
      to =
          shape_cases m l s (λ z. z ≡ flower (occurring m l) → Blooms m l) (λ _ e. clash (cc))
          (λ a i h e. clash (cc)) (λ c i b _. b) (λ o k e. clash (cc))

      fro : Blooms m l → shape m l ≡ flower (occurring m l)
      fro b =
          shape_cases m l s (λ z. z ≡ flower (occurring m l)) (λ h. absurd (b.not_empty h)) (λ a i h. absurd (b.not_one a h)) (λ c i _. refl)
          (λ o k. absurd (taken_not_bloom o k b))

  -- THEOREM: a cut is made of a log exactly where it is the first with two parts or more and no episode is empty
  pub cut_where : (o : Op) (ps : List (List ℕ)) → (shape m l ≡ cut o ps) ↔ ((ps ≡ parts_of o (graph m l)) × Taken m l o)
  cut_where o ps = (cut_taken m l s o ps, fro)
    where
      fro : (ps ≡ parts_of o (graph m l)) × Taken m l o → shape m l ≡ cut o ps
      fro h =
          shape_cases m l s (λ z. z ≡ cut o ps) (λ e. absurd (taken_not_empty o h.1 e)) (λ a i e. absurd (taken_not_one o h.1 a e)) (λ c i b. absurd (taken_not_bloom o h.1 b))
          (λ q k. let same : q ≡ o = first_unique m l q o k.two k.first h.1.two h.1.first in (λ i. cut (same i) (parts_of (same i) (graph m l))) ∙ ap (cut o) (sym h.0))

  -- THEOREM: a flower that is made of a log has the codes that occur
  pub flower_codes : (cs : List ℕ) → shape m l ≡ flower cs → cs ≡ occurring m l
  flower_codes cs =
      shape_cases m l s (λ z. z ≡ flower cs → cs ≡ occurring m l) (λ _ e. clash (cc))
      (λ a i h e. clash (cc)) (λ c i b e. cc) (λ o k e. clash (cc))

  body_full : Taken m l loop → mined m (split loop (body_part (graph m l)) l) ≡ silent → ⊥
  unfolding loop_parts
  body_full k e =
      let body = body_part (graph m l) in
      let c = k.parting.some body (inl refl) in
      let i = occurs_label m (split loop body l) (split_below m loop body l s) c.0 (subst (Has c.0) (sym (split_occurring m l s loop k.parting body (inl refl))) c.1) in
      subst (Has c.0) (ap labels e) i

  cut_no_flower : (o : Op) → Taken m l o → (cs : List ℕ) → build (mined m) l (cut o (parts_of o (graph m l))) ≡ flower_of cs → ⊥
  unfolding build loop_parts
  cut_no_flower choice k cs e = clash (cc)
  cut_no_flower sequence k cs e = clash (cc)
  cut_no_flower parallel k cs e = clash (cc)
  cut_no_flower loop k cs e = body_full k cc

  -- THEOREM: the tree of a log is a flower exactly where a flower is made of the log; a loop cut never gives one
  pub flower_tree : (cs : List ℕ) → (mined m l ≡ flower_of cs) ↔ (shape m l ≡ flower cs)
  flower_tree cs = (λ e. to (sym (mined_is m l s) ∙ e), λ e. mined_is m l s ∙ ap (build (mined m) l) e ∙ unfold build in refl)
    where
      to : build (mined m) l (shape m l) ≡ flower_of cs → shape m l ≡ flower cs
      to =
          unfold build in
          shape_cases m l s (λ z. build (mined m) l z ≡ flower_of cs → z ≡ flower cs) (λ _ e. clash (cc))
          (λ a i h e. clash (cc))
          (λ c i b e. let f : leaves (occurring m l) ≡ leaves cs = cc in ap flower (sym (leaves_labels (occurring m l)) ∙ ap labels_all f ∙ leaves_labels cs))
          (λ o k e. absurd (cut_no_flower o k cs e))

  -- THEOREM: the tree of a log is the flower of its codes exactly where document 01 says
  pub flower_exactly : (mined m l ≡ flower_of (occurring m l)) ↔ Blooms m l
  flower_exactly =
      ((λ e. flower_where.0 ((flower_tree (occurring m l)).0 e)), λ b. (flower_tree (occurring m l)).1 (flower_where.1 b))
