-- What a log adds to the parts that are missed, and what one sub-episode adds.
use mathlib.Core.Path.{◌≡◌, refl, sym, ◌∙◌, ap, fun_ext}
use mathlib.Core.Logic.{⊎_elim}
use mathlib.Core.List.{List, [], ◌++◌}
use mathlib.Core.Bool.{Bool, true, false, not, ◌&&◌, ◌||◌}
use Prim.Native.Nat.{ℕ, ◌+◌, ◌-◌, ◌*◌, ◌%◌, ◌^◌, ◌≤◌, ◌<◌}
use native.Mathlib.Nat.{pos_of_ne-zero}
use native.Mathlib.Omega.{arith}
use lib.Dec.{eqb, ltb}
use lib.Bits.{bit_and, bit_or}
use lib.Count.{count_trailing_zeros}
use lib.ListN.{length, get_or}
use borrow.Author.Tests.{lt-ltb, le-ltb, eq-eqb, ne_eqb, eqb-true}
use Rattle.rules.specs.Words.{any, from}
use Rattle.rules.specs.Mining.{Log}
use Rattle.rules.specs.Calls.{code_count}
use Rattle.rules.proofs.BoolLaws.{or_off, and_comm, bool_cases, more_none, more_twice}
use Rattle.rules.proofs.ListLaws.{any_has, any_false, has_from, any_append}
use Rattle.code_sets.specs.Bits.{has}
use Rattle.code_sets.proofs.BitLaws.{has_zero, has_with, has_every, lt_or_le}
use Rattle.code_sets.proofs.LowestLaws.{lowest_is}
use Rattle.cut_parts.proofs.SetLaws.{meets_on, meets_off, meets_listed}
use Rattle.mine_views.specs.Sublogs.{Set, Sight, pieces_of, lacks, bare_of}
use Rattle.mine_views.proofs.PieceLaws.{pieces_append, bare_empty, bare_full}
use Rattle.mine_missed.specs.Missed.{part_at, missed_by, lacked_by}

-- a test of numbers, where two of them are the same
pub same_at : (f : Set) (y c : ℕ) → (f y && eqb y c) ≡ (f c && eqb y c)
same_at f y c =
    ⊎_elim
    (λ (e : eqb y c ≡ true). ap (λ (z : ℕ). f z && eqb y c) (eqb-true y c e))
    (λ (n : eqb y c ≡ false). rw (n, and_comm (f y) false, and_comm (f c) false))
    (bool_cases (eqb y c))

pub spread : (t l q n : Bool) → ((t || (l && n)) || (n && q)) ≡ (t || ((l || q) && n))
spread true l q n = refl
spread false true q true = refl
spread false true q false = refl
spread false false q n = and_comm n q

-- ---- a pass over a log

module _ (s : Sight) (sets : List ℕ) where
  pub missed_nil : (before : Set) → missed_by s sets before [] ≡ before
  unfolding missed_by
  missed_nil before = fun_ext (λ k. more_none (before k) (ltb k (length sets)))

  pub missed_append : (before : Set) (l m : Log) → missed_by s sets (missed_by s sets before l) m ≡ missed_by s sets before (l ++ m)
  unfolding missed_by
  missed_append before l m = fun_ext (λ k. rw (more_twice, ← any_append (lacks (part_at sets k)) (pieces_of s l) (pieces_of s m), pieces_append))

  -- the parts of a view that has the empty episode are all missed
  pub missed_all : (first : ℕ) (l : Log) → length sets ≤ code_count → ((k : ℕ) → has first k ≡ (s.bare && ltb k code_count)) → (r : ℕ) → has r ≡ missed_by s sets (has first) l →
      (k : ℕ) → k < length sets → has r k ≡ bare_of (part_at sets k) l s
  unfolding missed_by
  missed_all first l few h r e k lt =
      rw (e, h k, lt-ltb k (length sets) lt, lt-ltb k code_count (omega arith))
      (⊎_elim (λ (y : s.bare ≡ true). rw (← bare_empty s (part_at sets k) l y, y)) (λ (n : s.bare ≡ false). rw (← bare_full s (part_at sets k) l n, n)) (bool_cases s.bare))

-- which parts are taken to be missed before the first place
pub first_all : (b : Bool) → b ≡ true → (k : ℕ) → has (2 ^ code_count - 1) k ≡ (b && ltb k code_count)
first_all b e k = rw e (has_every code_count k)

pub first_none : (b : Bool) → b ≡ false → (k : ℕ) → has 0 k ≡ (b && ltb k code_count)
first_none b e k = rw e (has_zero k)

-- ---- one sub-episode

-- no event is no sub-episode
pub lacked_none : (own : ℕ) (sets : List ℕ) (missed : ℕ) → own ≡ 0 → (k : ℕ) → has missed k ≡ (has missed k || lacked_by sets (has own) k)
lacked_none own sets missed e k = rw (e, any_false (has 0) (from 0 code_count) (λ x _. has_zero x), more_none)

some_event : (own : ℕ) → own < 2 ^ code_count → (own ≡ 0 → ⊥) → any (has own) (from 0 code_count) ≡ true
some_event own small h =
    let q = lowest_is code_count own (pos_of_ne-zero h) small in
    let c = count_trailing_zeros code_count own in
    any_has (has own) c (from 0 code_count) (has_from code_count 0 c (omega arith) (let l = q.0 in omega arith)) q.1

-- the parts below k, of which one more is looked at
module _ (own : ℕ) (sets : List ℕ) (missed : ℕ) where
  abbrev pub Below : ℕ → ℕ → Type 0
  Below m k = (j : ℕ) → has m j ≡ (has missed j || (ltb j k && not (any (has own) (part_at sets j))))

  ltb_more : (j k : ℕ) → ltb j (k + 1) ≡ (ltb j k || eqb j k)
  ltb_more j k =
      ⊎_elim
      (λ (l : j < k). rw (lt-ltb j (k + 1) (omega arith), lt-ltb j k l))
      (λ (l : k ≤ j). rw (le-ltb j k l) (⊎_elim (λ (g : j < k + 1). rw (lt-ltb j (k + 1) g, eq-eqb j k (omega arith))) (λ (g : k + 1 ≤ j). rw (le-ltb j (k + 1) g, ne_eqb j k (omega arith))) (lt_or_le j (k + 1))))
      (lt_or_le j k)

  module _ (m k : ℕ) (inv : Below m k) where
    -- what the part k adds
    grown : (n : ℕ) (t : Bool) → not (any (has own) (part_at sets k)) ≡ t → ((j : ℕ) → has n j ≡ (has m j || (t && eqb j k))) → Below n (k + 1)
    grown n t e h j = rw (h j, inv j, ltb_more, ← e, ← same_at (λ x. not (any (has own) (part_at sets x))) j k, spread)

    pub below_lacked : own < 2 ^ code_count → k < code_count → bit_and (get_or sets k 0) own ≡ 0 → Below (bit_or m ((1 * 2 ^ k) % 2 ^ code_count)) (k + 1)
    below_lacked small lt e =
        grown (bit_or m ((1 * 2 ^ k) % 2 ^ code_count)) true
        (ap not (sym (meets_listed code_count own (get_or sets k 0) small) ∙ meets_off own (get_or sets k 0) e))
        (λ j. has_with code_count m k j lt)

    pub below_met : own < 2 ^ code_count → (bit_and (get_or sets k 0) own ≡ 0 → ⊥) → Below m (k + 1)
    below_met small e =
        grown m false
        (ap not (sym (meets_listed code_count own (get_or sets k 0) small) ∙ meets_on own (get_or sets k 0) e))
        (λ j. sym (or_off (has m j)))

    -- every part has been looked at
    pub below_all : own < 2 ^ code_count → (own ≡ 0 → ⊥) → k ≤ length sets → length sets ≤ k → (j : ℕ) → has m j ≡ (has missed j || lacked_by sets (has own) j)
    below_all small some few all j = let same : k ≡ length sets = omega arith in rw (inv j, some_event own small some, same)
