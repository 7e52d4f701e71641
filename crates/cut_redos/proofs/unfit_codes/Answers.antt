use native.Mathlib.Omega.{arith}
use Prim.Native.Nat.{ℕ}
use mathlib.Core.Path.{◌≡◌, sym, ap, ◌∙◌}
use mathlib.Core.Bool.{Bool, not, ◌&&◌}
use lib.Dec.{ltb}
use Rattle.rules.specs.Calls.{code_count}
use Rattle.code_sets.specs.Bits.{has, listed}
use Rattle.graph_rows.specs.Edges.{edge_of, meant}
use Rattle.graph_rows.proofs.TableLaws.{places_none, places_more, places_skip}
use Rattle.cut_redos.specs.Facing.{faces, may_redo}
use Rattle.cut_redos.proofs.unfit_codes.Goals as goal
use Rattle.cut_redos.proofs.unfit_codes.Goals.{then-not-fit, else-not-fit}

pub loop-c-init : goal.loop-c-init
loop-c-init c = places_none _

pub loop-c-preserved : goal.loop-c-preserved
unfolding edge_of
loop-c-preserved c =
    let l = c.loop-c in
    let a = c.args in
    let unfit : ℕ → Bool = λ x. not (faces (edge_of a.g.rows x) (has a.g.starts.bits) (listed code_count a.border) && faces (edge_of a.cols x) (has a.g.ends.bits) (listed code_count a.border)) in
    elim c.if-not-fit.branch [
      | then-not-fit w ↦ rw w.set-is (places_more code_count unfit l.set l.c (omega arith) (ap not (sym c.fit.ensures ∙ w.if-not-fit.true)) l.invariant)
      | else-not-fit w ↦ rw w.set-is (places_skip unfit l.set l.c (ap not (sym c.fit.ensures ∙ w.if-not-fit.false)) l.invariant)
    ]

pub returns : goal.returns
unfolding may_redo meant
returns c x =
    let l = c.loop-c in
    let a = c.args in
    let e : l.c ≡ code_count = omega arith in
    l.invariant x ∙ ap (λ (k : ℕ). ltb x k && not (may_redo (edge_of a.g.rows x) (edge_of a.cols x) (meant a.g a.border))) e
