-- Two records compared: iterators whose items are the same one after another, and codes one by one.
use mathlib.Core.Path.{◌≡◌, refl, sym, ap, subst, ◌∙◌}
use mathlib.Core.List.{List, [], ◌∷◌, map}
use mathlib.Core.Bool.{Bool, true, false, true≢false, cond, not, ◌&&◌}
use Prim.Native.Nat.{ℕ, ◌+◌, ◌*◌, ◌≤◌, ◌<◌}
use native.Mathlib.Nat.{mul-le-mul_right, suc-mul}
use native.Mathlib.Numerals.{add-one}
use native.Mathlib.Omega.{arith}
use lib.ListN.{length, get_or, drop}
use lib.Dec.{eqb}
use denote.Ref.{Bor}
use borrow.Author.Tests.{eqb-true}
use Rattle.std.specs.Prelude.{Option, None, Some}
use Rattle.std.specs.Option.{MatchOption, IfSome}
use Rattle.std.specs.List.{AllZip, filter}
use Rattle.std.specs.Iterator.{Yields, YieldsThen, ComparesItemsByEq}
use Rattle.std.proofs.lemmas.Iterator.{YieldsList, items_from_drains}
use Rattle.rules.specs.Words.{push}
use Rattle.std.specs.Int.{div_ceil}
use Rattle.std.proofs.lemmas.Grind.{div_ceil_times}
use Rattle.rules.specs.Heartbeats.{heartbeat, without_heartbeats}
use Rattle.rules.proofs.BoolLaws.{and_cases}
use Rattle.mine_places.specs.Places.{codes_of}
use Rattle.mine_places.proofs.ListLaws.{codes_next, codes_end}

abbrev Equal : Bor ℕ → Bor ℕ → Bool
Equal x y = eqb x.now y.now

same_items : (xs ys : List (Bor ℕ)) → AllZip (λ x y. Equal x y ≡ true) xs ys → map (λ x. x.now) xs ≡ map (λ x. x.now) ys
same_items [] [] z = refl
same_items [] (y ∷ ys) z = absurd z
same_items (x ∷ xs) [] z = absurd z
same_items (x ∷ xs) (y ∷ ys) z = (λ i. eqb-true x.now y.now z.0 i ∷ same_items xs ys z.1 i)

module _ {S T : Type 0} {steps : S → Option (Bor ℕ) → S → Type 0} {others : T → Option (Bor ℕ) → T → Type 0} {s : S} {t : T} {r : Bool} {xs ys : List ℕ} where
  pub same_from_eq : ComparesItemsByEq steps (λ x y. y ≡ x) others s t Equal r → YieldsList steps (λ x. x.now) s xs → YieldsList others (λ x. x.now) t ys → r ≡ true → xs ≡ ys
  same_from_eq c y z e = by c.3 c.4 c.8 c.9 c.11
    where
      by : (o p : Option (Bor ℕ)) → YieldsThen steps s c.1 o c.5 → YieldsThen others c.0 c.2 p c.6 → MatchOption o (MatchOption p (r ≡ true) (λ _. r ≡ false)) (λ x. (r ≡ false) × IfSome p (λ y. Equal x y ≡ false)) → xs ≡ ys
      by None None g h l =
          sym (items_from_drains c.1 (g.0, g.1, λ _. (c.5, g.2)) y) ∙ same_items c.1 c.2 c.10
          ∙ items_from_drains c.2 (h.0, subst (λ (u : T). Yields others u c.2 h.0) c.7 h.1, λ _. (c.6, h.2)) z
      by None (Some b) g h l = absurd (true≢false (sym e ∙ l))
      by (Some a) p g h l = absurd (true≢false (sym e ∙ l.0))

-- the codes other than the heartbeat, as a chain leaves them
pub filter_without : (codes : List ℕ) → filter (λ c. not (eqb c heartbeat)) codes ≡ without_heartbeats codes
unfolding without_heartbeats
filter_without [] = refl
filter_without (c ∷ codes) = by (not (eqb c heartbeat)) (filter_without codes)
  where
    by : (b : Bool) {xs ys : List ℕ} → xs ≡ ys → cond b (c ∷ xs) xs ≡ push b c ys
    by true e = ap (λ (l : List ℕ). c ∷ l) e
    by false e = e

-- the place of event i, of w bytes each
next_place : (i w : ℕ) → (i + 1) * w ≡ i * w + w
next_place i w = ap (λ (k : ℕ). k * w) (add-one i) ∙ suc-mul i w

module _ (w : ℕ) (some : 1 ≤ w) (a : List ℕ) (i : ℕ) where
  pub event_inside : i < div_ceil (length a) w → i * w < length a
  event_inside h = omega (arith, mul-le-mul_right {m = i + 1} {n = div_ceil (length a) w} w (omega arith), next_place i w, (div_ceil_times (length a) w some).1)

  pub event_past : div_ceil (length a) w ≤ i → length a ≤ i * w
  event_past h = omega (arith, mul-le-mul_right {m = div_ceil (length a) w} {n = i} w h, (div_ceil_times (length a) w some).0)

-- records whose codes are compared one by one: the same where those from event i on are
module _ (w : ℕ) (some : 1 ≤ w) (a b : List ℕ) (i : ℕ) (same : Bool) where
  abbrev pub SameFrom : Type 0
  SameFrom = same ≡ true → codes_of w (drop (i * w) a) ≡ codes_of w (drop (i * w) b) → codes_of w a ≡ codes_of w b

  module _ (so_far : SameFrom) where
    pub same_turn : i * w < length a → i * w < length b → (same && eqb (get_or a (i * w) 0) (get_or b (i * w) 0)) ≡ true →
        codes_of w (drop ((i + 1) * w) a) ≡ codes_of w (drop ((i + 1) * w) b) → codes_of w a ≡ codes_of w b
    same_turn h g t rest =
        let both = and_cases same (eqb (get_or a (i * w) 0) (get_or b (i * w) 0)) t in
        let later : codes_of w (drop (i * w + w) a) ≡ codes_of w (drop (i * w + w) b) = subst (λ (k : ℕ). codes_of w (drop k a) ≡ codes_of w (drop k b)) (next_place i w) rest in
        so_far both.0 (codes_next w some a (i * w) h ∙ (λ k. eqb-true (get_or a (i * w) 0) (get_or b (i * w) 0) both.1 k ∷ later k) ∙ sym (codes_next w some b (i * w) g))

    pub same_end : length a ≤ i * w → length b ≤ i * w → same ≡ true → codes_of w a ≡ codes_of w b
    same_end h g t = so_far t (codes_end w some a (i * w) h ∙ sym (codes_end w some b (i * w) g))
