-- An episode whose parts stand in order is the joining of its projections.
use mathlib.Core.Path.{◌≡◌, refl, sym, ◌∙◌, ap}
use mathlib.Core.Logic.{inl, inr, ⊎_elim}
use mathlib.Core.List.{List, [], ◌∷◌, ◌++◌}
use mathlib.Core.Bool.{Bool, true, false, not}
use Prim.Native.Nat.{ℕ}
use Rattle.rules.specs.Words.{push, keep, flat, mem}
use Rattle.rules.specs.Trees.{Tree, In, InRow}
use Rattle.rules.specs.Mining.{Episode, Rel, project, grow, follows}
use Rattle.rules.proofs.BoolLaws.{not_both_lem}
use Rattle.rules.proofs.ListLaws.{Has, has_keep, has_append_cases, mem_has, has_mem, nil_of}
use Rattle.rules.proofs.Distinct.{Apart}
use Rattle.rules.proofs.GraphLaws.{first_step, later_step}
use Rattle.rules.proofs.Interleaving.{without, without_covered, without_project}

-- each code of the episode is related to each later one
abbrev pub Onward : Rel → Episode → Type 0
Onward r [] = Unit {0}
Onward r (x ∷ t) = ((b : ℕ) → Has b t → r x b ≡ true) × Onward r t

-- every code of a part is related to every code of a later part, and never the other way
abbrev pub InOrder : Rel → List (List ℕ) → Type 0
InOrder r [] = Unit {0}
InOrder r (p ∷ ps) = ((a b : ℕ) → Has a p → Has b (flat ps) → (r a b ≡ true) × (r b a ≡ false)) × InOrder r ps

abbrev pub Transitive : Rel → Type 0
Transitive r = (a b c : ℕ) → r a b ≡ true → r b c ≡ true → r a c ≡ true

pub onward : (r : Rel) → Transitive r → (x : ℕ) (t : Episode) → ((a b : ℕ) → follows a b (x ∷ t) ≡ true → r a b ≡ true) → Onward r (x ∷ t)
onward r tr x [] steps = ((λ b m. absurd m), tt)
onward r tr x (y ∷ t) steps =
    let xy : r x y ≡ true = steps x y (first_step x y t) in
    let k = onward r tr y t (λ a b h. steps a b (later_step x y t a b h)) in
    ((λ b m. ⊎_elim (λ e. rw e xy) (λ i. tr x y b xy (k.0 b i)) m), k)

onward_push : (r : Rel) (b : Bool) (x : ℕ) (u : Episode) → ((c : ℕ) → Has c u → r x c ≡ true) → Onward r u → Onward r (push b x u)
onward_push r true x u h k = (h, k)
onward_push r false x u h k = k

onward_keep : (r : Rel) (p : ℕ → Bool) (t : Episode) → Onward r t → Onward r (keep p t)
onward_keep r p [] h = tt
onward_keep r p (x ∷ t) h = onward_push r (p x) x (keep p t) (λ c m. h.0 c (has_keep p c t m).0) (onward_keep r p t h.1)

cleft_push : (b : Bool) (x : ℕ) (u v t : List ℕ) → t ≡ u ++ v → (b ≡ false → u ≡ []) → x ∷ t ≡ push b x u ++ push (not b) x v
cleft_push true x u v t e f = ap (◌∷◌ x) e
cleft_push false x u v t e f = ap (◌∷◌ x) (rw (f refl) at e) ∙ sym (ap (λ (w : List ℕ). w ++ (x ∷ v)) (f refl))

cleft : (r : Rel) (p : List ℕ) (t : Episode) → Onward r t → ((a b : ℕ) → Has a t → mem a p ≡ false → Has b p → r a b ≡ false) → t ≡ project p t ++ without p t
unfolding project
cleft r p [] h k = refl
cleft r p (x ∷ t) h k =
    cleft_push (mem x p) x (project p t) (without p t) t (cleft r p t h.1 (λ a b i. k a b (inr i)))
    (λ n. nil_of (project p t) (λ c m. let q = has_keep (λ y. mem y p) c t m in not_both_lem (r x c) (h.0 c q.0) (k x c (inl refl) n (mem_has c p q.1))))

-- THEOREM: an episode whose projections are in the languages of the children, in their order, is in that of their sequence
pub row : (r : Rel) (f : List ℕ → Tree) (ps : List (List ℕ)) (t : Episode) → Apart ps → ((c : ℕ) → Has c t → Has c (flat ps)) →
    Onward r t → InOrder r ps → ((p : List ℕ) → Has p ps → In (f p) (project p t)) → InRow (grow f ps) t
row r f [] t a cov h o sub = nil_of t cov
row r f (p ∷ ps) t a cov h o sub = (
  project p t,
  without p t,
  cleft r p t h (λ c b i n j. (o.0 b c j (⊎_elim (λ k. not_both_lem (mem c p) (has_mem c p k) n) (λ k. k) (has_append_cases c p (flat ps) (cov c i)))).1),
  sub p (inl refl),
  row r f ps (without p t) a.1 (without_covered p ps t cov) (onward_keep r (λ c. not (mem c p)) t h) o.1 (λ q m. rw (without_project p ps t a q m) (sub q (inr m))),
)
