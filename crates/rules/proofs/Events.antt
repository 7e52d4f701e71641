-- Every event of a log goes to exactly one part.
use mathlib.Core.Path.{◌≡◌, refl, sym, ◌∙◌, ap, subst}
use mathlib.Core.Logic.{inl, inr, ⊎_elim}
use mathlib.Core.List.{List, [], ◌∷◌}
use mathlib.Core.Bool.{true, false, true≢false}
use Prim.Native.Nat.{ℕ, ◌+◌}
use native.Mathlib.Omega.{arith}
use lib.Dec.{eqb}
use lib.ListN.{length}
use borrow.Author.Tests.{eqb-true}
use Rattle.rules.specs.Words.{all, each, flat, mem}
use Rattle.rules.specs.Trees.{Op, choice}
use Rattle.rules.specs.Mining.{Episode, Log, occurring, graph, choice_parts, parts_of, split, project}
use Rattle.rules.proofs.BoolLaws.{bool_cases, not_both_lem}
use Rattle.rules.proofs.ListLaws.{Has, all_has, has_keep, keep_has, has_append_cases, flat_has, has_flat, mem_has, has_mem, keep_keep}
use Rattle.rules.proofs.Distinct.{Apart, apart_unique, count_of, count_none}
use Rattle.rules.proofs.Occurring.{Below, code_in}
use Rattle.rules.proofs.Cuts.{Parting, choice_whole}
use Rattle.rules.proofs.Splits.{split_events}
use Rattle.rules.proofs.Shapes.{Taken}

abbrev pub sum : List ℕ → ℕ
sum [] = 0
sum (n ∷ ns) = n + sum ns

-- THEOREM: each code that occurs is in exactly one part
pub one_part : (cs : List ℕ) (ps : List (List ℕ)) → Parting cs ps → (c : ℕ) → Has c cs → (p : List ℕ) × Has p ps × Has c p × ((q : List ℕ) → Has q ps → Has c q → q ≡ p)
one_part cs ps k c i =
    let q = has_flat c ps (k.covers c i) in
    (q.0, q.1, q.2, λ r j h. apart_unique ps k.apart r q.0 c j q.1 h q.2)

-- a number that stands at one part and 0 at the others
sum_none : (f : List ℕ → ℕ) (ps : List (List ℕ)) → ((p : List ℕ) → Has p ps → f p ≡ 0) → sum (each f ps) ≡ 0
sum_none f [] h = refl
sum_none f (p ∷ ps) h = let a = h p (inl refl) in let b = sum_none f ps (λ q i. h q (inr i)) in omega arith

sum_one : (f : List ℕ → ℕ) (n c : ℕ) (ps : List (List ℕ)) → Apart ps → Has c (flat ps) → ((p : List ℕ) → Has p ps → Has c p → f p ≡ n) →
    ((p : List ℕ) → Has p ps → (Has c p → ⊥) → f p ≡ 0) → sum (each f ps) ≡ n
sum_one f n c [] a i here else = absurd i
sum_one f n c (p ∷ ps) a i here else =
    ⊎_elim
    (λ (h : mem c p ≡ true).
    let x = here p (inl refl) (mem_has c p h) in
    let y = sum_none f ps (λ q j. else q (inr j) (λ k. a.0 c (mem_has c p h) (flat_has c q ps j k))) in
    omega arith)
    (λ (h : mem c p ≡ false).
    let off : Has c p → ⊥ = λ k. not_both_lem (mem c p) (has_mem c p k) h in
    let x = else p (inl refl) off in
    let y = sum_one f n c ps a.1 (⊎_elim (λ k. absurd (off k)) (λ k. k) (has_append_cases c p (flat ps) i)) (λ q j. here q (inr j)) (λ q j. else q (inr j)) in
    omega arith)
    (bool_cases (mem c p))

module _ (m : ℕ) (l : Log) (s : Below m l) (o : Op) (k : Taken m l o) (c : ℕ) where
  -- THEOREM: a part's log has all the events of its codes
  pub events_here : (p : List ℕ) → Has p (parts_of o (graph m l)) → Has c p → count_of c (flat (split o p l)) ≡ count_of c (flat l)
  unfolding project
  events_here p i j =
      ap (count_of c) (split_events m l s o k.parting p i)
      ∙ ap length (keep_keep (λ x. mem x p) (eqb c) (flat l) (λ x h. subst (λ (y : ℕ). mem y p ≡ true) (eqb-true c x h) (has_mem c p j)))

  -- THEOREM: and no event of another
  pub events_else : (p : List ℕ) → Has p (parts_of o (graph m l)) → (Has c p → ⊥) → count_of c (flat (split o p l)) ≡ 0
  unfolding project
  events_else p i n =
      count_none c (flat (split o p l))
      (λ h. n (mem_has c p (has_keep (λ x. mem x p) c (flat l) (subst (Has c) (split_events m l s o k.parting p i) h)).1))

  -- THEOREM: every event of a log goes to exactly one part: the parts' logs together have as many events of each code as the log
  pub events_shared : sum (each (λ p. count_of c (flat (split o p l))) (parts_of o (graph m l))) ≡ count_of c (flat l)
  events_shared =
      let ps = parts_of o (graph m l) in
      let f : List ℕ → ℕ = λ p. count_of c (flat (split o p l)) in
      ⊎_elim (λ (h : mem c (occurring m l) ≡ true). sum_one f (count_of c (flat l)) c ps k.parting.apart (k.parting.covers c (mem_has c (occurring m l) h)) events_here events_else)
      (λ (h : mem c (occurring m l) ≡ false).
      let off : Has c (occurring m l) → ⊥ = λ j. not_both_lem (mem c (occurring m l)) (has_mem c (occurring m l) j) h in
      sum_none f ps (λ p i. events_else p i (λ j. off (k.parting.inside c (flat_has c p ps i j))))
      ∙ sym (count_none c (flat l) (λ j. let t = has_flat c l j in off (code_in m l s t.0 t.1 c t.2))))
      (bool_cases (mem c (occurring m l)))

-- THEOREM: a choice puts each episode, whole, into exactly one part's log
pub choice_once : (m : ℕ) (l : Log) → Below m l → Taken m l choice → (t : Episode) → Has t l →
    (p : List ℕ) × Has p (choice_parts (graph m l)) × Has t (split choice p l) × ((q : List ℕ) → Has q (choice_parts (graph m l)) → Has t (split choice q l) → q ≡ p)
unfolding split
choice_once m l s k [] i = absurd (true≢false (k.full [] i))
choice_once m l s k (x ∷ t) i =
    let o = one_part (occurring m l) (choice_parts (graph m l)) k.parting x (code_in m l s (x ∷ t) i x (inl refl)) in (
      o.0,
      o.1,
      keep_has (all (λ c. mem c o.0)) (x ∷ t) l i (choice_whole m l s o.0 o.1 (x ∷ t) i x (inl refl) o.2),
      λ q j h. o.3 q j (mem_has x q (all_has (λ c. mem c q) x (x ∷ t) (has_keep (all (λ c. mem c q)) (x ∷ t) l h).1 (inl refl))),
    )
