-- What each turn of a loop over one record's events keeps of the codes that occur.
use mathlib.Core.Path.{◌≡◌, refl, sym, ◌∙◌, ap}
use mathlib.Core.List.{List, [], ◌∷◌}
use mathlib.Core.Bool.{Bool, true, false, not, ◌&&◌, ◌||◌}
use Prim.Native.Nat.{ℕ, ◌<◌, ◌-◌, ◌^◌}
use lib.Dec.{eqb, ltb}
use borrow.Author.Tests.{lt-ltb}
use Rattle.std.specs.List.{list_all}
use Rattle.rules.specs.Words.{mem, keep, push}
use Rattle.rules.specs.Heartbeats.{heartbeat, without_heartbeats}
use Rattle.rules.specs.Mining.{is_empty}
use Rattle.rules.specs.Calls.{code_count}
use Rattle.rules.proofs.BoolLaws.{or_off, or_assoc, and_drop}
use Rattle.rules.proofs.ListLaws.{mem_has}
use Rattle.rules.proofs.HeartbeatLaws.{mem_without}
use Rattle.code_sets.specs.Bits.{has}
use Rattle.code_sets.proofs.BitLaws.{has_every}
use Rattle.mine_places.specs.Places.{All}
use Rattle.mine_places.proofs.ListLaws.{all_has}

-- before the first event: every code of the record is one of the codes
pub met_first : (k : ℕ) (codes : List ℕ) → All (λ c. c < code_count) codes → (j : ℕ) → (has k j || (ltb j code_count && mem j codes)) ≡ (has k j || mem j codes)
met_first k codes all j =
    ap (◌||◌ (has k j)) (and_drop (ltb j code_count) (mem j codes) (λ e. lt-ltb j code_count (all_has (λ c. c < code_count) codes all j (mem_has j codes e))))

-- the codes that are left, and those that were met
module _ (k : ℕ) (a : ℕ → Bool) (left : List ℕ) (inv : (j : ℕ) → a j ≡ (has k j || mem j left)) where
  pub met_next : (c : ℕ) (rest : List ℕ) → left ≡ c ∷ rest → (r : ℕ) → ((j : ℕ) → has r j ≡ (has k j || eqb j c)) → (j : ℕ) → a j ≡ (has r j || mem j rest)
  met_next c rest f r e j = rw (e j, or_assoc) (rw f at (inv j))

  pub met_end : left ≡ [] → (j : ℕ) → has k j ≡ a j
  met_end f j = sym (rw (f, or_off) at (inv j))

-- all of them are heartbeats
pub all_beats : (codes : List ℕ) → list_all (λ c. eqb c heartbeat) codes ≡ is_empty (without_heartbeats codes)
unfolding without_heartbeats
all_beats [] = refl
all_beats (c ∷ codes) = by (eqb c heartbeat) (all_beats codes)
  where
    by : (b : Bool) → list_all (λ c. eqb c heartbeat) codes ≡ is_empty (keep (λ c. not (eqb c heartbeat)) codes) → (b && list_all (λ c. eqb c heartbeat) codes) ≡ is_empty (push (not b) c (keep (λ c. not (eqb c heartbeat)) codes))
    by true e = e
    by false e = refl

-- the heartbeat set aside
module _ (k r : ℕ) (codes : List ℕ) where
  -- the codes that were met are the record's besides its own
  pub met_quiet : ((j : ℕ) → has r j ≡ (has k j || (ltb j code_count && mem j codes))) → (j : ℕ) → (has r j && not (eqb j heartbeat)) ≡ ((has k j && not (eqb j heartbeat)) || (ltb j code_count && mem j (without_heartbeats codes)))
  met_quiet h j = rw (h j, mem_without j codes) (by (has k j) (ltb j code_count) (mem j codes) (not (eqb j heartbeat)))
    where
      by : (a t m n : Bool) → ((a || (t && m)) && n) ≡ ((a && n) || (t && (m && n)))
      by true t m true = refl
      by true true true false = refl
      by true true false false = refl
      by true false m false = refl
      by false true m n = refl
      by false false m n = refl

  -- every other code has been met
  pub met_full : ((j : ℕ) → has r j ≡ (has k j || eqb j heartbeat)) → r ≡ 2 ^ code_count - 1 → (j : ℕ) → (has k j && not (eqb j heartbeat)) ≡ ((has k j && not (eqb j heartbeat)) || (ltb j code_count && mem j (without_heartbeats codes)))
  met_full h e j =
      let f : ltb j code_count ≡ (has k j || eqb j heartbeat) = sym (ap (λ (x : ℕ). has x j) e ∙ has_every code_count j) ∙ h j in
      rw (f, mem_without j codes) (by (has k j) (eqb j heartbeat) (mem j codes))
    where
      by : (a b m : Bool) → (a && not b) ≡ ((a && not b) || ((a || b) && (m && not b)))
      by true true true = refl
      by true true false = refl
      by true false m = refl
      by false true true = refl
      by false true false = refl
      by false false m = refl
