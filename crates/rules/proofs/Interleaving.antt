-- An episode is an interleaving of its projections on parts that have its codes.
use mathlib.Core.Path.{◌≡◌, refl, ap}
use mathlib.Core.Logic.{inl, inr, ⊎_elim}
use mathlib.Core.List.{List, [], ◌∷◌}
use mathlib.Core.Bool.{Bool, true, false, not}
use Prim.Native.Nat.{ℕ}
use borrow.Author.Tests.{not-true}
use Rattle.rules.specs.Words.{push, keep, flat, mem}
use Rattle.rules.specs.Trees.{Tree, Mixed, done, left, right, In, InMix}
use Rattle.rules.specs.Mining.{Episode, project, grow}
use Rattle.rules.proofs.BoolLaws.{bool_cases, not_both_lem}
use Rattle.rules.proofs.ListLaws.{Has, has_keep, has_append_cases, flat_has, mem_has, has_mem, nil_of, keep_keep}
use Rattle.rules.proofs.Distinct.{Apart}

mixed_push : (b : Bool) (x : ℕ) {u v w : List ℕ} → Mixed u v w → Mixed (push b x u) (push (not b) x v) (x ∷ w)
mixed_push true x m = left m
mixed_push false x m = right m

-- those that pass a test and those that do not
pub mixed_keep : (p : ℕ → Bool) (t : List ℕ) → Mixed (keep p t) (keep (λ c. not (p c)) t) t
mixed_keep p [] = done
mixed_keep p (x ∷ t) = mixed_push (p x) x (mixed_keep p t)

-- the events that are not in the part
abbrev pub without : List ℕ → Episode → Episode
without p t = keep (λ c. not (mem c p)) t

pub without_covered : (p : List ℕ) (ps : List (List ℕ)) (t : Episode) → ((c : ℕ) → Has c t → Has c (flat (p ∷ ps))) →
    (c : ℕ) → Has c (without p t) → Has c (flat ps)
without_covered p ps t cov c m =
    let k = has_keep (λ x. not (mem x p)) c t m in
    ⊎_elim (λ i. not_both_lem (mem c p) (has_mem c p i) (not-true (mem c p) k.1)) (λ j. j) (has_append_cases c p (flat ps) (cov c k.0))

pub without_project : (p : List ℕ) (ps : List (List ℕ)) (t : Episode) → Apart (p ∷ ps) → (q : List ℕ) → Has q ps → project q (without p t) ≡ project q t
unfolding project
without_project p ps t a q m =
    keep_keep (λ c. not (mem c p)) (λ c. mem c q) t
    (λ c h. ⊎_elim (λ (k : mem c p ≡ true). absurd (a.0 c (mem_has c p k) (flat_has c q ps m (mem_has c q h)))) (λ (k : mem c p ≡ false). ap not k) (bool_cases (mem c p)))

-- THEOREM: an episode whose projections are in the languages of the children is in that of their parallel
pub mix : (f : List ℕ → Tree) (ps : List (List ℕ)) (t : Episode) → Apart ps → ((c : ℕ) → Has c t → Has c (flat ps)) →
    ((p : List ℕ) → Has p ps → In (f p) (project p t)) → InMix (grow f ps) t
mix f [] t a cov sub = nil_of t cov
mix f (p ∷ ps) t a cov sub = (
  project p t,
  without p t,
  unfold project in mixed_keep (λ c. mem c p) t,
  sub p (inl refl),
  mix f ps (without p t) a.1 (without_covered p ps t cov) (λ q m. rw (without_project p ps t a q m) (sub q (inr m))),
)
