-- The blanks of a line counted, a line from a value on, and values put one after the other.
use mathlib.Core.Path.{◌≡◌, refl, sym, ap, ◌∙◌}
use mathlib.Core.List.{List, [], ◌∷◌}
use mathlib.Core.Bool.{Bool, true, false, cond}
use Prim.Native.Nat.{ℕ, zero, suc, ◌+◌, ◌-◌, ◌%◌, ◌≤◌, ◌<◌}
use native.Mathlib.Numerals.{add-one}
use native.Mathlib.Omega.{arith}
use lib.ListN.{length, set}
use lib.Seq.{sets, set_out}
use lib.Dec.{eqb}
use Rattle.std.specs.List.{count_by}
use Rattle.std.proofs.Math.Dec.{eqb-suc-zero}
use Rattle.std.proofs.lemmas.List.Recursion.{is_count_by}
use Rattle.rules.specs.Words.{pick}
use Rattle.bench_sheet.specs.Words.{grown, number_from, number_of, values_of, from_value, bytes_from}

one_more : (e : Bool) (n : ℕ) → pick e (suc n) n ≡ cond e (1 + n) n
one_more true n = omega arith
one_more false n = refl

pub values_count : (line : List ℕ) → count_by (λ b. eqb b 32) line ≡ values_of line
unfolding values_of
values_count line = sym (is_count_by values_of (λ b. eqb b 32) refl (λ b t. one_more (eqb b 32) (values_of t)) line)

less_one : (k : ℕ) → suc k - 1 ≡ k
less_one k = omega arith

-- the rest from value k on begins with that value's word
module _ (b : ℕ) (t : List ℕ) (ih : (k : ℕ) → number_of (from_value t k) 0 ≡ number_of t (suc k)) where
  first_at : (e : Bool) (k : ℕ) → number_of (pick e (pick (eqb k 0) t (from_value t (k - 1))) (from_value t k)) 0
      ≡ pick e (pick (eqb (suc k) 0) 0 (number_from t (suc k - 1) 0)) (number_from t (suc k) (pick (eqb (suc k) 0) (grown 0 b) 0))
  first_at true zero = refl
  first_at true (suc k) = rw (eqb-suc-zero k, eqb-suc-zero (suc k), less_one k, less_one (suc k)) (ih k)
  first_at false k = rw (eqb-suc-zero k) (ih k)

value_first : (line : List ℕ) (k : ℕ) → number_of (from_value line k) 0 ≡ number_of line (suc k)
unfolding from_value number_from
value_first [] k = refl
value_first (b ∷ t) k = first_at b t (value_first t) (eqb b 32) k

-- and goes on with the next
module _ (t : List ℕ) (ih : (k : ℕ) → from_value (from_value t k) 0 ≡ from_value t (suc k)) where
  next_at : (e : Bool) (k : ℕ) → from_value (pick e (pick (eqb k 0) t (from_value t (k - 1))) (from_value t k)) 0
      ≡ pick e (pick (eqb (suc k) 0) t (from_value t (suc k - 1))) (from_value t (suc k))
  next_at true zero = refl
  next_at true (suc k) = rw (eqb-suc-zero k, eqb-suc-zero (suc k), less_one k, less_one (suc k)) (ih k)
  next_at false k = ih k

value_after : (line : List ℕ) (k : ℕ) → from_value (from_value line k) 0 ≡ from_value line (suc k)
unfolding from_value
value_after [] k = refl
value_after (b ∷ t) k = next_at t (value_after t) (eqb b 32) k

pub value_next : (line rest : List ℕ) (k : ℕ) → rest ≡ from_value line k → from_value rest 0 ≡ from_value line (k + 1)
value_next line rest k is = ap (λ (r : List ℕ). from_value r 0) is ∙ value_after line k ∙ ap (from_value line) (sym (add-one k))

-- no room is left: nothing more is put
pub sets_out : (vs s : List ℕ) (at : ℕ) → length s ≤ at → sets s at vs ≡ s
sets_out [] s at h = refl
sets_out (v ∷ vs) s at h = ap (λ (t : List ℕ). sets t (suc at) vs) (set_out s at v h) ∙ sets_out vs s (suc at) (omega arith)

-- values put one after the other
module _ (line s : List ℕ) (n k at : ℕ) where
  pub lay_end : n ≤ k → sets s at (bytes_from (n - k) line k) ≡ s
  unfolding bytes_from
  lay_end h = let e : n - k ≡ 0 = omega arith in rw e refl

  pub lay_on : k < n → sets (set s at (number_of line (k + 1) % 256)) (at + 1) (bytes_from (n - (k + 1)) line (k + 1)) ≡ sets s at (bytes_from (n - k) line k)
  unfolding bytes_from
  lay_on h = let e : n - k ≡ suc (n - (k + 1)) = omega arith in rw (e, add-one at, add-one k) refl

  pub lay_turn : (rest : List ℕ) → rest ≡ from_value line k → k < n → sets (set s at (number_of rest 0 % 256)) (at + 1) (bytes_from (n - (k + 1)) line (k + 1)) ≡ sets s at (bytes_from (n - k) line k)
  lay_turn rest is h =
      let e : number_of rest 0 ≡ number_of line (k + 1) = ap (λ (r : List ℕ). number_of r 0) is ∙ value_first line k ∙ ap (number_of line) (sym (add-one k)) in
      ap (λ v. sets (set s at (v % 256)) (at + 1) (bytes_from (n - (k + 1)) line (k + 1))) e ∙ lay_on h
