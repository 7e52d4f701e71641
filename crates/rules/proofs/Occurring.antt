-- The codes that occur in a log.
use Prim.Native.Nat.{ℕ, ◌≤◌, ◌<◌}
use native.Mathlib.Omega.{arith}
use lib.ListN.{length}
use Rattle.rules.specs.Words.{any, mem, from}
use Rattle.rules.specs.Mining.{Episode, Log, occurring}
use Rattle.rules.proofs.ListLaws.{Has, any_has, has_any, has_keep, keep_has, mem_has, has_mem, has_from, from_has, length_from}
use Rattle.rules.proofs.Distinct.{Distinct, distinct_keep, distinct_from, distinct_le}

-- the codes of a log are below m
abbrev pub Below : ℕ → Log → Type 0
Below m l = (t : Episode) → Has t l → (c : ℕ) → Has c t → c < m

module _ (m : ℕ) (l : Log) where
  pub code_at : (t : Episode) → Has t l → (c : ℕ) → Has c t → c < m → Has c (occurring m l)
  unfolding occurring
  code_at t i c j h = keep_has (λ x. any (mem x) l) c (from 0 m) (has_from m 0 c (omega arith) (omega arith)) (any_has (mem c) t l i (has_mem c t j))

  pub code_in : Below m l → (t : Episode) → Has t l → (c : ℕ) → Has c t → Has c (occurring m l)
  code_in s t i c j = code_at t i c j (s t i c j)

  pub code_of : (c : ℕ) → Has c (occurring m l) → (t : Episode) × Has t l × Has c t
  unfolding occurring
  code_of c i =
      let k = has_any (mem c) l (has_keep (λ x. any (mem x) l) c (from 0 m) i).1 in (k.0, k.1, mem_has c k.0 k.2)

  pub code_below : (c : ℕ) → Has c (occurring m l) → c < m
  unfolding occurring
  code_below c i = let h = (from_has m 0 c (has_keep (λ x. any (mem x) l) c (from 0 m) i).0).1 in omega arith

  pub occurring_distinct : Distinct (occurring m l)
  unfolding occurring
  occurring_distinct = distinct_keep (λ c. any (mem c) l) (from 0 m) (distinct_from m 0)

  pub occurring_few : length (occurring m l) ≤ m
  unfolding occurring
  occurring_few =
      let h = distinct_le (occurring m l) (from 0 m) occurring_distinct (λ c i. (has_keep (λ x. any (mem x) l) c (from 0 m) i).0) in
      let e = length_from m 0 in
      omega arith
