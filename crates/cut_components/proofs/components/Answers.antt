use native.Mathlib.Omega.{arith}
use Prim.Native.Nat.{ℕ, ◌-◌}
use mathlib.Core.Path.{◌≡◌, sym, ap, ◌∙◌}
use lib.ListN.{take}
use Rattle.rules.specs.Words.{keep, each, from}
use Rattle.rules.specs.Mining as mining
use Rattle.rules.specs.Calls.{code_count}
use Rattle.code_sets.specs.Bits.{has, listed}
use Rattle.graph_rows.specs.Edges.{edge_of}
use Rattle.cut_parts.specs.Sets.{sets_of, lists_of}
use Rattle.cut_components.proofs.JoinLaws.{turn_code, turn_other}
use borrow.Author.Rules.{rules}
use Rattle.cut_components.proofs.components.Invariants.{related}
use Rattle.cut_components.proofs.components.Goals as goal

pub loop-c-init : goal.loop-c-init
unfolding lists_of sets_of mining.components
loop-c-init c = (omega arith, ap (λ (n : ℕ). each (listed code_count) (take n c.new-parts.result.sets)) c.new-parts.ensures)

pub loop-c-preserved-then-has_first : goal.loop-c-preserved-then-has_first
unfolding lists_of edge_of
loop-c-preserved-then-has_first c = let l = c.loop-c in
    let a = c.args in (
      omega (arith, c.joined-parts.ensures.0),
      ap (each (listed code_count)) c.joined-parts.ensures.1
          ∙ turn_code code_count (related a.bond a.rows a.cols) a.within.bits l.c (l.c - 1) (omega arith) (omega arith) c.bonds.result (search rules) c.bonds.ensures
          (sets_of l.parts) (sym c.has_first.ensures ∙ c.if-has_first.true) l.invariant.1,
    )

pub loop-c-preserved : goal.loop-c-preserved
loop-c-preserved c = let l = c.loop-c in
    let a = c.args in (
      omega arith,
      turn_other code_count (related a.bond a.rows a.cols) a.within.bits l.c (l.c - 1) (omega arith) (omega arith) (lists_of l.parts) (sym c.has_first.ensures ∙ c.if-has_first.false) l.invariant.1,
    )

pub returns : goal.returns
unfolding listed
returns c = let l = c.loop-c in
    let a = c.args in
    let z : l.c ≡ 0 = omega arith in
    record {
      few = omega arith;
      parts = l.invariant.1 ∙ ap (λ (k : ℕ). mining.components (related a.bond a.rows a.cols) (keep (has a.within.bits) (from k (code_count - k)))) z;
    }
