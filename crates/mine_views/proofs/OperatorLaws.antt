-- The view of a part, by the operator of the cut.
use mathlib.Core.Path.{◌≡◌, refl, sym, ◌∙◌, ap}
use mathlib.Core.Bool.{Bool, not, ◌&&◌, ◌||◌}
use Prim.Native.Nat.{ℕ, ◌^◌, ◌<◌}
use Rattle.rules.specs.declared.Operator.{Operator}
use Rattle.rules.specs.declared.Operator.TheVariants.{Choice, Sequence, Parallel, Loop}
use Rattle.rules.specs.Words.{mem}
use Rattle.rules.specs.Trees.{loop}
use Rattle.rules.specs.Mining.{Log}
use Rattle.rules.specs.TreeBlock.{op_of}
use Rattle.rules.specs.Calls.{code_count}
use Rattle.code_sets.specs.Bits.{has, listed}
use Rattle.mine_views.specs.Sublogs.{Set, Sight, part_sight}
use Rattle.mine_views.proofs.SetLaws.{mem_listed}

module _ (part : ℕ) (small : part < 2 ^ code_count) (l : Log) (s : Sight) (bare : Bool) where
  kept_part : (c : ℕ) → has part c ≡ mem c (listed code_count part)
  kept_part c = sym (mem_listed code_count part c small)

  -- a loop's part is broken by the parent's other codes
  pub loop_sight : bare ≡ (part_sight loop (listed code_count part) l s).bare → (b : Set) → ((c : ℕ) → b c ≡ (s.breaks c || (s.kept c && not (has part c)))) →
      ◌≡◌ {A = Sight} (record { kept = has part; breaks = b; bare = bare }) (part_sight loop (listed code_count part) l s)
  loop_sight f b g = λ i.
      record {
        kept = λ c. kept_part c i;
        breaks = λ c. (g c ∙ ap (λ (t : Bool). s.breaks c || (s.kept c && not t)) (kept_part c)) i;
        bare = f i;
      }

  -- the same of an operator that is known to be a loop
  pub loop_known : (o : Operator) → o ≡ Loop → bare ≡ (part_sight (op_of o) (listed code_count part) l s).bare → (b : Set) → ((c : ℕ) → b c ≡ (s.breaks c || (s.kept c && not (has part c)))) →
      ◌≡◌ {A = Sight} (record { kept = has part; breaks = b; bare = bare }) (part_sight (op_of o) (listed code_count part) l s)
  loop_known o e = rw e loop_sight

  -- the other cuts break nothing more
  pub plain_sight : (o : Operator) → (o ≡ Loop → ⊥) → bare ≡ (part_sight (op_of o) (listed code_count part) l s).bare →
      ◌≡◌ {A = Sight} (record { kept = has part; breaks = s.breaks; bare = bare }) (part_sight (op_of o) (listed code_count part) l s)
  plain_sight Choice h f = λ i. record { kept = λ c. kept_part c i; breaks = s.breaks; bare = f i }
  plain_sight Sequence h f = λ i. record { kept = λ c. kept_part c i; breaks = s.breaks; bare = f i }
  plain_sight Parallel h f = λ i. record { kept = λ c. kept_part c i; breaks = s.breaks; bare = f i }
  plain_sight Loop h f = absurd (h refl)
