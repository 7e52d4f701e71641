use native.Mathlib.Omega.{arith}
use Prim.Native.Nat.{ℕ, ◌≤◌, ◌<◌}
use mathlib.Core.Path.{◌≡◌, ap, ap₂, fun_ext, ◌∙◌}
use mathlib.Core.Bool.{Bool, not, ◌&&◌, ◌||◌}
use lib.ListN.{length, take}
use borrow.Author.Rules.{rules}
use borrow.Author.Tests.{lt-ltb}
use Rattle.std.proofs.Common.{tests}
use Rattle.rules.specs.Words.{each}
use Rattle.rules.specs.Mining.{redo_parts}
use Rattle.rules.specs.Calls.{code_count}
use Rattle.code_sets.specs.Bits.{has, listed}
use Rattle.graph_rows.specs.Edges.{edge_of, meant}
use Rattle.cut_parts.specs.Sets.{sets_of, lists_of, meets}
use Rattle.cut_parts.proofs.SetLaws.{number}
use Rattle.cut_components.proofs.BondLaws.{components_are}
use Rattle.cut_redos.specs.Facing.{may_redo}
use Rattle.cut_loop.proofs.LoopLaws.{redos_are, loop_is, roomed_on, roomed_off}
use Rattle.cut_loop.proofs.loop_parts.Goals as goal
use Rattle.cut_loop.proofs.loop_parts.Goals.{After-retain}

-- what is left of the components are the redo parts
redos : (c : After-retain) → lists_of c.retain.new.self ≡ redo_parts (meant c.args.g c.args.keep.bits)
unfolding meant lists_of meets
redos c =
    let a = c.args in
    let g = a.g in
    let border = c.meet-border.result.bits in
    let unfit = c.unfit_codes-unfit in
    let on_border : (x : ℕ) → has border x ≡ (has a.keep.bits x && (has g.starts.bits x || has g.ends.bits x)) =
    λ x. c.meet-border.ensures x ∙ ap (λ (t : Bool). has a.keep.bits x && t) (c.union.ensures x) in
    let on_unfit : (x : ℕ) → x < code_count → has unfit.result x ≡ not (may_redo (edge_of g.rows x) (λ y. edge_of g.rows y x) (meant g border)) =
    λ x l. unfit.ensures x ∙ ap₂ (λ (t : Bool) (into : ℕ → Bool). t && not (may_redo (edge_of g.rows x) into (meant g border))) (lt-ltb x code_count l) (fun_ext (λ (y : ℕ). c.requires x y)) in
    ap (each (listed code_count)) (c.retain.ensures.kept (λ p. not (meets unfit.result p)) (λ x b k. search (rules, tests)))
    ∙ redos_are code_count a.keep.bits (edge_of g.rows) g.starts.bits g.ends.bits border c.minus-rest.result.bits on_border c.minus-rest.ensures unfit.result (search rules) on_unfit
    (sets_of c.components-redos.result) (components_are c.components-redos.ensures c.requires)

-- and how many they are
many : (c : After-retain) → (c.retain.new.self.n ≤ code_count) × (length (redo_parts (meant c.args.g c.args.keep.bits)) ≡ c.retain.new.self.n)
many c =
    let r = c.retain.new.self in
    let few : r.n ≤ code_count = omega (arith, c.retain.ensures.few, c.components-redos.ensures.few) in
    (few, number r (redo_parts (meant c.args.g c.args.keep.bits)) c.retain.ensures.size few (redos c))

pub returns-then-redos-lt-CODE_COUNT : goal.returns-then-redos-lt-CODE_COUNT
unfolding meant lists_of
returns-then-redos-lt-CODE_COUNT c =
    let a = c.args in
    let g = a.g in
    let r = (goal.at.returns-then-redos-lt-CODE_COUNT c).After-retain in
    let size = many r in (
      omega (arith, c.inserted.ensures.0),
      roomed_on (meant g a.keep.bits) _ (omega (arith, size.1))
          (loop_is code_count a.keep.bits (edge_of g.rows) g.starts.bits g.ends.bits (sets_of c.retain.new.self) (redos r) c.remaining.result c.remaining.ensures (sets_of c.inserted.result) c.inserted.ensures.1),
    )

pub returns : goal.returns
unfolding meant lists_of sets_of
returns c =
    let size = many (goal.at.returns c).After-retain in
    (omega (arith, c.new.ensures), ap (λ (n : ℕ). each (listed code_count) (take n c.new.result.sets)) c.new.ensures ∙ roomed_off (meant c.args.g c.args.keep.bits) (omega (arith, size.1)))
