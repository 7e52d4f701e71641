-- What each code of a record adds to the parts that are missed.
use mathlib.Core.Path.{◌≡◌, refl, sym, ◌∙◌, ap, fun_ext}
use mathlib.Core.List.{List, [], ◌∷◌}
use mathlib.Core.Bool.{Bool, true, false, not, ◌&&◌, ◌||◌}
use Prim.Native.Nat.{ℕ, ◌<◌}
use native.Mathlib.Omega.{arith}
use lib.Dec.{eqb, ltb}
use lib.ListN.{length}
use borrow.Author.Tests.{eqb-true, eq-eqb, not-true}
use Rattle.rules.specs.Words.{any, push, mem, from}
use Rattle.rules.specs.Mining.{Episode, is_empty, project}
use Rattle.rules.specs.Calls.{code_count}
use Rattle.rules.proofs.BoolLaws.{bool_ext, or_off, or_right, and_cases, more_none, more_twice}
use Rattle.rules.proofs.ListLaws.{any_false, has_mem, has_from}
use Rattle.code_sets.specs.Bits.{has}
use Rattle.code_sets.proofs.BitLaws.{has_zero}
use Rattle.mine_views.specs.Sublogs.{Set, Walk, step_by, walk, done, lacks}
use Rattle.mine_views.proofs.PieceLaws.{pieces_one}
use Rattle.mine_missed.specs.Missed.{part_at, missed_by, lacked_by}
use Rattle.mine_missed.proofs.MissedLaws.{same_at, spread}

-- does a sub-episode lack the part's codes, in the rest of a walk? The open one has had an event of the part's, or another one, or none.
lacking_on : List ℕ → Bool → Bool → Walk → Bool
lacking_on p true some w = any (lacks p) w.1
lacking_on p false true w = lacks p w.0 || any (lacks p) w.1
lacking_on p false false w = any (lacks p) (done w)

-- a code that is no cut: an event where it is kept
module _ (p : List ℕ) (x : ℕ) (w : Walk) where
  event : (q : Bool) → lacking_on p q true w ≡ (is_empty (push q x (project p w.0)) || any (lacks p) w.1)
  unfolding lacking_on project
  event true = refl
  event false = refl

  event_on : (kept mine some : Bool) → lacking_on p (mine || (kept && mem x p)) (some || (kept && true)) w ≡ lacking_on p mine some (step_by kept false x w)
  unfolding lacking_on project
  event_on false mine some = λ i. lacking_on p (or_off mine i) (or_off some i) w
  event_on true true some = refl
  event_on true false true = event (mem x p)
  event_on true false false = event (mem x p)

-- a cut
cut_on : (p : List ℕ) (w : Walk) (mine some : Bool) → ((some && not mine) || any (lacks p) (done w)) ≡ lacking_on p mine some ([], done w)
unfolding lacking_on project
cut_on p w true true = refl
cut_on p w true false = refl
cut_on p w false true = refl
cut_on p w false false = refl

-- ---- the events of the open sub-episode, as a set: those of the codes that were seen that are kept

abbrev own : ℕ → ℕ → Set
own seen k y = has seen y && has k y

-- one more code
module _ (seen next k c : ℕ) (grew : (y : ℕ) → has next y ≡ (has seen y || eqb y c)) where
  own_more : (y : ℕ) → own next k y ≡ (own seen k y || (has k c && eqb c y))
  own_more y =
      let turn : eqb c y ≡ eqb y c = bool_ext (eqb c y) (eqb y c) (λ e. eq-eqb y c (sym (eqb-true c y e))) (λ e. eq-eqb c y (sym (eqb-true y c e))) in
      rw (grew y, turn, ← same_at (has k) y c, spread false (has seen y) (eqb y c) (has k y))

  any_more : (xs : List ℕ) → any (own next k) xs ≡ (any (own seen k) xs || (has k c && mem c xs))
  any_more [] = sym (more_none false (has k c))
  any_more (y ∷ xs) = (λ i. own_more y i || any_more xs i) ∙ turn (own seen k y) (any (own seen k) xs) (has k c) (eqb c y) (mem c xs)
    where
      turn : (a b q e m : Bool) → ((a || (q && e)) || (b || (q && m))) ≡ ((a || b) || (q && (e || m)))
      turn true b q e m = refl
      turn false true q e m = or_right (q && e) true refl
      turn false false true e m = refl
      turn false false false e m = refl

-- ---- the parts that are missed, with those that some sub-episodes lack, and with those that the rest of a walk lacks

abbrev lacked_in : List ℕ → ℕ → List Episode → Set
lacked_in sets m l j = has m j || (ltb j (length sets) && any (lacks (part_at sets j)) l)

rest_missed : List ℕ → ℕ → Set → Walk → Set
rest_missed sets m o w j = has m j || (ltb j (length sets) && lacking_on (part_at sets j) (any o (part_at sets j)) (any o (from 0 code_count)) w)

-- no event is open
fresh : (sets : List ℕ) (m seen k : ℕ) (w : Walk) → seen ≡ 0 → rest_missed sets m (own seen k) w ≡ lacked_in sets m (done w)
unfolding rest_missed lacking_on
fresh sets m seen k w e = λ i j. has m j || (ltb j (length sets) && lacking_on (part_at sets j) (none (part_at sets j) i) (none (from 0 code_count) i) w)
  where
    none : (xs : List ℕ) → any (own seen k) xs ≡ false
    none xs = any_false (own seen k) xs (λ y _. rw (e, has_zero))

-- the open events, which a number has, end
ended : (sets : List ℕ) (m seen k e : ℕ) → ((y : ℕ) → has e y ≡ own seen k y) → (n : ℕ) → ((j : ℕ) → has n j ≡ (has m j || lacked_by sets (has e) j)) → (w : Walk) →
    rest_missed sets m (own seen k) ([], done w) ≡ lacked_in sets n (done w)
unfolding rest_missed
ended sets m seen k e met n grew w = fun_ext (λ j. rw (grew j, more_twice, cut_on) (λ i. rest_missed sets m (λ y. sym (met y) i) ([], done w) j))

-- ---- the loop over a record's events

-- the parts that are missed, where these codes are left
pub missed_from : List ℕ → ℕ → ℕ → ℕ → ℕ → List ℕ → Set
missed_from sets k cuts m seen left = rest_missed sets m (own seen k) (walk (has k) (has cuts) left)

module _ (sets : List ℕ) (k cuts m seen c : ℕ) (left rest : List ℕ) (next-c : left ≡ c ∷ rest) (t : Bool) (call : t ≡ has cuts c) where
  turned : missed_from sets k cuts m seen left ≡ rest_missed sets m (own seen k) (step_by (has k c) t c (walk (has k) (has cuts) rest))
  unfolding missed_from
  turned = rw call (ap (λ (l : List ℕ). rest_missed sets m (own seen k) (walk (has k) (has cuts) l)) next-c)

  -- a code that is no cut
  pub missed_seen : t ≡ false → c < code_count → (next : ℕ) → ((y : ℕ) → has next y ≡ (has seen y || eqb y c)) → missed_from sets k cuts m seen left ≡ missed_from sets k cuts m next rest
  unfolding missed_from rest_missed
  missed_seen off small next grew =
      let among : mem c (from 0 code_count) ≡ true = has_mem c (from 0 code_count) (has_from code_count 0 c (omega arith) (omega arith)) in
      turned ∙ fun_ext (λ j. rw (off, any_more seen next k c grew (part_at sets j), any_more seen next k c grew (from 0 code_count), among, event_on))

-- the cuts are the breaks that are not kept
module _ (k b cuts : ℕ) (apart : (y : ℕ) → has cuts y ≡ (has b y && not (has k y))) where
  walk_cuts : (t : List ℕ) → walk (has k) (has cuts) t ≡ walk (has k) (has b) t
  walk_cuts [] = refl
  walk_cuts (x ∷ t) = (λ i. step_by (has k x) (apart x i) x (walk_cuts t i)) ∙ by (has k x) (has b x)
    where
      by : (q r : Bool) → step_by q (r && not q) x (walk (has k) (has b) t) ≡ step_by q r x (walk (has k) (has b) t)
      by true r = refl
      by false true = refl
      by false false = refl

  -- before the first event
  pub missed_first : (bare : Bool) (sets codes : List ℕ) (m seen : ℕ) → seen ≡ 0 →
      missed_from sets k cuts m seen codes ≡ missed_by (record { kept = has k; breaks = has b; bare = bare }) sets (has m) (codes ∷ [])
  unfolding missed_from missed_by
  missed_first bare sets codes m seen e =
      fresh sets m seen k (walk (has k) (has cuts) codes) e
      ∙ ap (lacked_in sets m) (ap done (walk_cuts codes) ∙ pieces_one (record { kept = has k; breaks = has b; bare = bare }) codes)

  -- a number has the open events
  module _ (seen e : ℕ) (met : (y : ℕ) → has e y ≡ own seen k y) (sets : List ℕ) (m n : ℕ) (grew : (j : ℕ) → has n j ≡ (has m j || lacked_by sets (has e) j)) (left : List ℕ) where
    -- at a cut
    pub missed_cut : (c : ℕ) (rest : List ℕ) → left ≡ c ∷ rest → (t : Bool) → t ≡ has cuts c → t ≡ true → (next : ℕ) → next ≡ 0 → missed_from sets k cuts m seen left ≡ missed_from sets k cuts n next rest
    unfolding missed_from
    missed_cut c rest h t call on next z =
        let later = walk (has k) (has cuts) rest in
        let off = not-true (has k c) (and_cases (has b c) (not (has k c)) (sym (apart c) ∙ sym call ∙ on)).1 in
        turned sets k cuts m seen c left rest h t call
        ∙ (λ q. rest_missed sets m (own seen k) (step_by (off q) (on q) c later))
        ∙ ended sets m seen k e met n grew later ∙ sym (fresh sets n next k later z)

    -- at the record's end
    pub missed_end : left ≡ [] → has n ≡ missed_from sets k cuts m seen left
    unfolding missed_from
    missed_end h = rw h (sym (ended sets m seen k e met n grew ([], []) ∙ fun_ext (λ j. more_none (has n j) (ltb j (length sets)))))
