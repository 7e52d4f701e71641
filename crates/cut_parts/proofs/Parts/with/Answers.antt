use native.Mathlib.Omega.{arith}
use Prim.Native.Nat.{ℕ}
use mathlib.Core.Path.{refl, ap, ◌∙◌}
use native.Mathlib.Numerals.{add-one}
use lib.ListN.{take, set}
use lib.Seq.{take-suc-set}
use Rattle.cut_parts.specs.Sets.{sets_of}
use Rattle.graph_rows.proofs.TableLaws.{owned}
use Rattle.cut_parts.proofs.Parts.with.Goals as goal

pub returns : goal.returns
unfolding sets_of
returns c = let p = c.args.self in
    (refl, ap (λ (k : ℕ). take k (set p.sets p.n c.args.part)) (add-one p.n) ∙ take-suc-set p.sets p.n c.args.part (omega (arith, (owned p.sets _ c.well_formed.0.1.1.1.0).size)))
