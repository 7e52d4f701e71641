-- Episodes without their heartbeats: what is left of their codes, and how many codes a log of such has.
use mathlib.Core.Path.{◌≡◌, refl, subst}
use mathlib.Core.Logic.{⊎_elim}
use mathlib.Core.List.{◌∷◌}
use mathlib.Core.Bool.{not, ◌&&◌}
use Prim.Native.Nat.{ℕ, ◌+◌, ◌≤◌, ◌<◌}
use native.Mathlib.Omega.{arith}
use lib.ListN.{length}
use lib.Dec.{eqb}
use borrow.Author.Tests.{eq-eqb, ne_eqb, eqb-false, not-true}
use Rattle.rules.specs.Words.{Has, each, mem, from}
use Rattle.rules.specs.Heartbeats.{heartbeat, without_heartbeats, EventCode}
use Rattle.rules.specs.Mining.{Episode, Log, occurring}
use Rattle.rules.proofs.BoolLaws.{bool_ext, and_both, and_cases}
use Rattle.rules.proofs.ListLaws.{has_keep, keep_has, length_keep, mem_has, has_mem, has_each, has_from, length_from}
use Rattle.rules.proofs.Distinct.{distinct_le}
use Rattle.rules.proofs.Occurring.{Below, code_of, code_below, occurring_distinct}

-- no episode has a heartbeat
abbrev pub Quiet : Log → Type 0
Quiet l = (t : Episode) → Has t l → Has heartbeat t → ⊥

module _ (e : Episode) (c : ℕ) where
  pub without_has : Has c (without_heartbeats e) → Has c e × (c ≡ heartbeat → ⊥)
  unfolding without_heartbeats
  without_has i = let k = has_keep (λ x. not (eqb x heartbeat)) c e i in (k.0, eqb-false c heartbeat (not-true _ k.1))

  pub has_without : Has c e → (c ≡ heartbeat → ⊥) → Has c (without_heartbeats e)
  unfolding without_heartbeats
  has_without i n = keep_has (λ x. not (eqb x heartbeat)) c e i (rw (ne_eqb c heartbeat n) refl)

pub without_short : (e : Episode) → length (without_heartbeats e) ≤ length e
unfolding without_heartbeats
without_short e = length_keep (λ c. not (eqb c heartbeat)) e

pub mem_without : (c : ℕ) (e : Episode) → mem c (without_heartbeats e) ≡ (mem c e && not (eqb c heartbeat))
mem_without c e =
    bool_ext (mem c (without_heartbeats e)) (mem c e && not (eqb c heartbeat))
    (λ h. let k = without_has e c (mem_has c (without_heartbeats e) h) in and_both (mem c e) (not (eqb c heartbeat)) (has_mem c e k.0) (rw (ne_eqb c heartbeat k.1) refl))
    (λ h. let k = and_cases (mem c e) (not (eqb c heartbeat)) h in has_mem c (without_heartbeats e) (has_without e c (mem_has c e k.0) (eqb-false c heartbeat (not-true _ k.1))))

-- one code more
module _ (c : ℕ) (e : Episode) where
  pub without_event : (c ≡ heartbeat → ⊥) → without_heartbeats (c ∷ e) ≡ c ∷ without_heartbeats e
  unfolding without_heartbeats
  without_event n = rw (ne_eqb c heartbeat n) refl

  pub without_beat : c ≡ heartbeat → without_heartbeats (c ∷ e) ≡ without_heartbeats e
  unfolding without_heartbeats
  without_beat h = rw (eq-eqb c heartbeat h) refl

pub events_quiet : (l : Log) → Quiet (each without_heartbeats l)
events_quiet l t i h = let k = has_each without_heartbeats t l i in (without_has k.0 heartbeat (subst (Has heartbeat) k.2 h)).1 refl

pub events_below : (m : ℕ) (l : Log) → Below m l → Below m (each without_heartbeats l)
events_below m l s t i c h = let k = has_each without_heartbeats t l i in s k.0 k.1 c (without_has k.0 c (subst (Has c) k.2 h)).0

module _ (m : ℕ) (l : Log) (q : Quiet l) where
  pub quiet_code : (c : ℕ) → Has c (occurring m l) → EventCode m c
  quiet_code c i = let k = code_of m l c i in (code_below m l c i, λ e. q k.0 k.1 (subst (λ (x : ℕ). Has x k.0) e k.2))

  -- one of the m codes is the heartbeat
  pub quiet_few : heartbeat < m → length (occurring m l) + 1 ≤ m
  quiet_few h =
      let all = distinct_le (heartbeat ∷ occurring m l) (from 0 m) ((λ i. (quiet_code heartbeat i).1 refl), occurring_distinct m l)
      (λ c i. has_from m 0 c (omega arith) (⊎_elim (λ (e : c ≡ heartbeat). omega arith) (λ j. omega (arith, code_below m l c j)) i)) in
      omega (arith, all, length_from m 0)
