use native.Mathlib.Omega.{arith}
use Prim.Native.Nat.{ℕ}
use mathlib.Core.Path.{◌≡◌, sym, ap, ◌∙◌}
use mathlib.Core.List.{[], ◌∷◌, ◌++◌, append-nil}
use lib.ListN.{length, take, get_or, length-append}
use lib.Seq.{length-take-le}
use Rattle.std.specs.Iterator.Adapters.{rev_source}
use Rattle.std.specs.Slice.Iter.{iter_rest}
use Rattle.rules.specs.Words.{each}
use Rattle.rules.specs.Calls.{code_count}
use Rattle.code_sets.specs.Bits.{listed}
use Rattle.graph_rows.specs.Edges.{edge_of}
use Rattle.cut_parts.specs.Sets.{sets_of, lists_of}
use Rattle.graph_rows.proofs.TableLaws.{owned}
use Rattle.cut_sequence.proofs.OrderLaws.{order_turn, order_end}
use Rattle.cut_sequence.proofs.in_order.Goals as goal

pub loop-part-init : goal.loop-part-init
unfolding sets_of
loop-part-init c =
    let s = c.args.parts in
    let size = (owned s.sets _ c.well_formed.0.1.1.1.0).size in
    let all : iter_rest (rev_source c.into_iter-part-iterator.result) ≡ take s.n s.sets = cc in
    let many = length-take-le s.n s.sets (omega arith) in
    rw all (omega (arith, c.new-out.ensures), record { later = []; whole = sym (append-nil (take s.n s.sets)); order = ap (λ (n : ℕ). each (listed code_count) (take n c.new-out.result.sets)) c.new-out.ensures })

pub loop-part-preserved : goal.loop-part-preserved
unfolding edge_of
loop-part-preserved c =
    let a = c.args in
    let l = c.loop-part in
    let p = c.in-Some.field-0.now in
    let left = iter_rest (rev_source l.part-iterator) in
    let left' = iter_rest (rev_source c.next.new.self) in
    let e : left ≡ left' ++ (p ∷ []) = cc (c.in-Some.ensures.steps) in (
      omega (arith, c.inserted-out.ensures.0, ap length e, length-append left' (p ∷ []), l.invariant.0),
      order_turn code_count (get_or a.to c.first-c.result 0) p (edge_of a.to) (take a.parts.n a.parts.sets) left left' (sets_of l.out) (sets_of c.inserted-out.result) l.invariant.1 e
          (λ x. ap (λ (k : ℕ). edge_of a.to k x) c.first-c.ensures.1) (c.inserted-out.ensures.1 ∙ sym (c.first_reached-at.ensures.1 p)),
    )

pub returns : goal.returns
unfolding lists_of sets_of
returns c =
    let s = c.args.parts in
    let l = c.loop-part in
    let none = c.in-None.ensures.steps.0 in
    (omega (arith, l.invariant.0, none), order_end code_count (edge_of c.args.to) (take s.n s.sets) _ (sets_of l.out) l.invariant.1 none)
