-- What rows mean: other rows, other words for the language or the set; the silent, the leaf, the choice, one after the other, both at once.
use Prim.Native.Nat.{ℕ, ◌+◌, ◌-◌, ◌≤◌}
use native.Mathlib.Omega.{arith}
use mathlib.Core.List.{List, [], ◌∷◌, ◌++◌}
use mathlib.Core.Path.{◌≡◌, refl, sym, ap, ap₂, ◌∙◌, subst, fun_ext}
use mathlib.Core.Logic.{◌⊎◌, inl, inr, ⊎_elim}
use mathlib.Core.Bool.{Bool, true, false, ◌||◌, ◌&&◌, not, false≢true}
use lib.Dec.{eqb, leb}
use borrow.Author.Tests.{leb-true, le-leb, eqb-true}
use lib.ListN.{length}
use lib.Seq.{slice, length-slice}
use Rattle.rules.specs.Words.{pick, push, keep}
use Rattle.rules.proofs.BoolLaws.{or_left, or_right, or_cases, and_both, and_cases}
use Rattle.rules.proofs.ListLaws.{keep_has, keep_keep, all_has, has_all}
use Rattle.code_sets.proofs.AnyLaws.{any_some, any_here}
use Rattle.judge_rows.specs.Rows.{between, clear, less, single, after, Upper, Says}
use Rattle.judge_meanings.specs.Means.{Lang, word, Means, Joined, Merged}
use Rattle.judge_meanings.proofs.SliceLaws.{cut_front, cut_back, slice_joined}
use Rattle.judge_meanings.proofs.KeepLaws.{Within, keep_append, keep_cut, clear_nil, nil_clear, keep_on, keep_mixed, mixed_keep}

-- rows that say the same
pub means_rows : (S : ℕ → Bool) (L : Lang) (e : List ℕ) (R Q : ℕ → ℕ → Bool) → ((i j : ℕ) → Q i j ≡ R i j) → Means S L e R → Means S L e Q
unfolding Means
means_rows S L e R Q q h i j = (λ p. (h i j).0 (sym (q i j) ∙ p), λ p. q i j ∙ (h i j).1 p)

-- languages with the same episodes
pub means_lang : (S : ℕ → Bool) (K L : Lang) (e : List ℕ) (R : ℕ → ℕ → Bool) → ((w : List ℕ) → K w → L w) → ((w : List ℕ) → L w → K w) → Means S K e R → Means S L e R
unfolding Means
means_lang S K L e R f g h i j = (
  λ p. let x = (h i j).0 p in record { order = x.order; inside = x.inside; holds = f (word S e i j) x.holds },
  λ q. (h i j).1 (record { order = q.order; inside = q.inside; holds = g (word S e i j) q.holds }),
)

-- sets with the same codes
pub means_set : (S T : ℕ → Bool) (L : Lang) (e : List ℕ) (R : ℕ → ℕ → Bool) → ((c : ℕ) → S c ≡ T c) → Means S L e R → Means T L e R
means_set S T L e R h m = subst (λ (X : ℕ → Bool). Means X L e R) (fun_ext h) m

-- rows that mean something have places from their own on
pub means_upper : (S : ℕ → Bool) (L : Lang) (e : List ℕ) (R : ℕ → ℕ → Bool) → length e ≤ 63 → Means S L e R → Upper R
unfolding Means Upper
means_upper S L e R l h i j p = let x = (h i j).0 p in let o = x.order in let n = x.inside in (o, omega arith)

-- a test of the events between two places
pub between_means : (S : ℕ → Bool) (L : Lang) (P : List ℕ → Bool) → ((w : List ℕ) → Says (P w) (L (keep S w))) → (e : List ℕ) → Means S L e (between P e)
unfolding Means between
between_means S L P h e i j = (
  λ t.
      let d = and_cases (leb i j) (leb j (length e) && P (slice i j e)) t in
      let f = and_cases (leb j (length e)) (P (slice i j e)) d.1 in
      record { order = leb-true i j d.0; inside = leb-true j (length e) f.0; holds = (h (slice i j e)).0 f.1 },
  λ q. and_both (leb i j) (leb j (length e) && P (slice i j e)) (le-leb i j q.order)
      (and_both (leb j (length e)) (P (slice i j e)) (le-leb j (length e) q.inside) ((h (slice i j e)).1 q.holds)),
)

-- no event of S
pub silent_means : (S : ℕ → Bool) (e : List ℕ) → Means S (λ w. w ≡ []) e (between (clear S) e)
silent_means S = between_means S (λ w. w ≡ []) (clear S) (λ w. (clear_nil S w, nil_clear S w))

-- exactly one event a
module _ (a : ℕ) where
  abbrev only : ℕ → Bool
  only x = eqb x a

  single_in : (w : List ℕ) → single a w ≡ true → keep only w ≡ a ∷ []
  unfolding single
  single_in [] h = absurd (false≢true h)
  single_in (c ∷ w) h = go (eqb c a) refl (single_in w) h
    where
      go : (b : Bool) → eqb c a ≡ b → (single a w ≡ true → keep only w ≡ a ∷ []) → pick b (clear only w) (single a w) ≡ true → push b c (keep only w) ≡ a ∷ []
      go true e f h = ap₂ ◌∷◌ (eqb-true c a e) (clear_nil only w h)
      go false e f h = f h

  single_out : (w : List ℕ) → keep only w ≡ a ∷ [] → single a w ≡ true
  unfolding single
  single_out [] h = absurd (let z : ◌≡◌ {A = ℕ} 0 1 = cc in omega arith)
  single_out (c ∷ w) h = go (eqb c a) (single_out w) h
    where
      go : (b : Bool) → (keep only w ≡ a ∷ [] → single a w ≡ true) → push b c (keep only w) ≡ a ∷ [] → pick b (clear only w) (single a w) ≡ true
      go true f h = nil_clear only w (cc)
      go false f h = f h

  pub leaf_means : (e : List ℕ) → Means (λ x. eqb x a) (λ w. w ≡ a ∷ []) e (between (single a) e)
  leaf_means = between_means only (λ w. w ≡ a ∷ []) (single a) (λ w. (single_in w, single_out w))

-- ---- a child's rows, as a parent with more codes sees them: no other code of the parent between

same_off : (s t : Bool) → (t ≡ true → s ≡ true) → not (s && not t) ≡ true → s ≡ t
same_off true true u h = refl
same_off true false u h = absurd (false≢true h)
same_off false true u h = absurd (false≢true (u refl))
same_off false false u h = refl

off_same : (s t : Bool) → (s ≡ true → t ≡ true) → not (s && not t) ≡ true
off_same true t u = ap (λ (b : Bool). not (not b)) (u refl)
off_same false t u = refl

module _ (S T : ℕ → Bool) (sub : (c : ℕ) → T c ≡ true → S c ≡ true) where
  pub seen_means : (L : Lang) (e : List ℕ) (R : ℕ → ℕ → Bool) → ((w : List ℕ) → L w → Within T w) → Means T L e R → Means S L e (λ i j. R i j && between (clear (less S T)) e i j)
  unfolding Means between
  seen_means L e R own h i j =
      let w = slice i j e in (
        λ t.
            let b = and_cases (R i j) (between (clear (less S T)) e i j) t in
            let d = and_cases (leb i j) (leb j (length e) && clear (less S T) w) b.1 in
            let f = and_cases (leb j (length e)) (clear (less S T) w) d.1 in
            let x = (h i j).0 b.0 in
            record { order = x.order; inside = x.inside; holds = subst L (sym (same w f.1)) x.holds },
        λ q.
            let cl : clear (less S T) w ≡ true = has_all (λ c. not (less S T c)) w (λ c m. off_same (S c) (T c) (λ s. own (keep S w) q.holds c (keep_has S c w m s))) in
            and_both (R i j) (between (clear (less S T)) e i j)
            ((h i j).1 (record { order = q.order; inside = q.inside; holds = subst L (same w cl) q.holds }))
            (and_both (leb i j) (leb j (length e) && clear (less S T) w) (le-leb i j q.order)
            (and_both (leb j (length e)) (clear (less S T) w) (le-leb j (length e) q.inside) cl)),
      )
    where
      same : (w : List ℕ) → clear (less S T) w ≡ true → keep S w ≡ keep T w
      same w h = keep_on S T w (λ c m. same_off (S c) (T c) (sub c) (all_has (λ x. not (less S T x)) c w h m))

-- ---- choice
pub nothing_means : (S : ℕ → Bool) (L : Lang) (e : List ℕ) (R : ℕ → ℕ → Bool) → ((w : List ℕ) → L w → ⊥) → ((i j : ℕ) → R i j ≡ false) → Means S L e R
unfolding Means
nothing_means S L e R f h i j = (λ p. absurd (false≢true (sym (h i j) ∙ p)), λ q. absurd (f (word S e i j) q.holds))

pub either_means : (S : ℕ → Bool) (K L : Lang) (e : List ℕ) (A B : ℕ → ℕ → Bool) → Means S K e A → Means S L e B → Means S (λ w. K w ⊎ L w) e (λ i j. A i j || B i j)
unfolding Means
either_means S K L e A B hA hB i j = (
  λ t. ⊎_elim
      (λ a. let x = (hA i j).0 a in record { order = x.order; inside = x.inside; holds = inl x.holds })
      (λ b. let x = (hB i j).0 b in record { order = x.order; inside = x.inside; holds = inr x.holds })
      (or_cases (A i j) (B i j) t),
  λ q. ⊎_elim
      (λ k. or_left (A i j) (B i j) ((hA i j).1 (record { order = q.order; inside = q.inside; holds = k })))
      (λ l. or_right (A i j) (B i j) ((hB i j).1 (record { order = q.order; inside = q.inside; holds = l })))
      q.holds,
)

-- ---- one after the other

-- the events of S between places, joined at a place and cut at one
pub word_joined : (S : ℕ → Bool) (e : List ℕ) (i k j : ℕ) → i ≤ k → k ≤ j → word S e i j ≡ word S e i k ++ word S e k j
word_joined S e i k j h g = ap (keep S) (slice_joined e i k j h g) ∙ keep_append S (slice i k e) (slice k j e)

pub word_cut : (S : ℕ → Bool) (e : List ℕ) (i j : ℕ) (u v : List ℕ) → i ≤ j → j ≤ length e → word S e i j ≡ u ++ v
    → (k : ℕ) × (i ≤ k) × (k ≤ j) × (word S e i k ≡ u) × (word S e k j ≡ v)
word_cut S e i j u v h g q =
    let t = keep_cut S (slice i j e) u v q in
    let len : length (slice i j e) ≡ j - i = length-slice i j e g in
    let le : i + t.0 ≤ j = omega (arith, t.1) in
    (i + t.0, omega arith, le, sym (ap (keep S) (cut_front e i t.0 j le)) ∙ t.2, sym (ap (keep S) (cut_back e i t.0 j le)) ∙ t.3)

pub after_means : (S : ℕ → Bool) (K L : Lang) (e : List ℕ) (A B : ℕ → ℕ → Bool) → length e ≤ 63 → Means S K e A → Means S L e B → Means S (Joined K L) e (λ i j. after (A i) B j)
unfolding Means after
after_means S K L e A B small hA hB i j = (
  λ t.
      let s = any_some 64 (λ k. A i k && B k j) t in
      let k = s.0 in
      let b = and_cases (A i k) (B k j) s.2 in
      let x = (hA i k).0 b.0 in
      let y = (hB k j).0 b.1 in
      let o = x.order in
      let p = y.order in
      record { order = omega arith; inside = y.inside; holds = (word S e i k, word S e k j, word_joined S e i k j o p, x.holds, y.holds) },
  λ q.
      let w = q.holds in
      let n = q.inside in
      let c = word_cut S e i j w.0 w.1 q.order n w.2 in
      let k = c.0 in
      let l : k ≤ j = c.2 in
      any_here 64 (λ k. A i k && B k j) k (omega arith) (and_both (A i k) (B k j)
      ((hA i k).1 (record { order = c.1; inside = omega arith; holds = subst K (sym c.3) w.3 }))
      ((hB k j).1 (record { order = l; inside = n; holds = subst L (sym c.4) w.4 }))),
)

-- ---- both at once, over sets with no code in common
pub mixed_means : (S T : ℕ → Bool) → ((c : ℕ) → S c ≡ true → T c ≡ false) → (K L : Lang) → ((w : List ℕ) → K w → Within S w) → ((w : List ℕ) → L w → Within T w)
    → (e : List ℕ) (A B : ℕ → ℕ → Bool) → Means S K e A → Means T L e B → Means (λ c. S c || T c) (Merged K L) e (λ i j. A i j && B i j)
unfolding Means
mixed_means S T apart K L ownK own_l e A B hA hB i j = (
  λ t.
      let b = and_cases (A i j) (B i j) t in
      let x = (hA i j).0 b.0 in
      let y = (hB i j).0 b.1 in
      record { order = x.order; inside = x.inside; holds = (word S e i j, word T e i j, keep_mixed S T apart (slice i j e), x.holds, y.holds) },
  λ q.
      let w = q.holds in
      let t = mixed_keep S T apart w.2 (ownK w.0 w.3) (own_l w.1 w.4) in
      let U : ℕ → Bool = λ c. S c || T c in
      and_both (A i j) (B i j)
      ((hA i j).1 (record { order = q.order; inside = q.inside; holds = subst K (sym t.0 ∙ keep_keep U S (slice i j e) (λ c. or_left (S c) (T c))) w.3 }))
      ((hB i j).1 (record { order = q.order; inside = q.inside; holds = subst L (sym t.1 ∙ keep_keep U T (slice i j e) (λ c. or_right (S c) (T c))) w.4 })),
)
