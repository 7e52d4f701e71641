use native.Mathlib.Omega.{arith}
use Prim.Native.Nat.{ℕ}
use mathlib.Core.Path.{◌≡◌, ◌∙◌, ap, ap₂}
use mathlib.Core.Bool.{Bool, not, ◌&&◌}
use lib.Dec.{ltb}
use lib.ListN.{length, take, get_or, length-take}
use Rattle.rules.specs.Calls.{code_count}
use Rattle.graph_rows.proofs.TableLaws.{places_none, places_more, places_skip}
use Rattle.cut_parts.specs.Sets.{sets_of, meets}
use Rattle.cut_parts.proofs.SetLaws.{meets_on, meets_off}
use Rattle.cut_pairs.proofs.PlaceLaws.{places_are}
use Rattle.cut_pairs.proofs.places_with.Goals as goal
use Rattle.cut_pairs.proofs.places_with.Goals.{then-part-codes-ne0+then-part-others-eq0, else-part-codes-ne0, else-part-codes-ne0-via-then-part-codes-ne0+else-part-others-eq0, else-part-codes-ne0-via-else-part-codes-ne0}

pub loop-k-init : goal.loop-k-init
loop-k-init c = places_none _

pub loop-k-preserved : goal.loop-k-preserved
loop-k-preserved c =
    let a = c.args in
    let l = c.loop-k in
    let sets = take a.parts.n a.parts.sets in
    let few = length-take a.parts.n a.parts.sets in
    let p = get_or sets l.k 0 in
    let t : ℕ → Bool = λ x. meets a.codes (get_or sets x 0) && not (meets a.others (get_or sets x 0)) in
    elim c.if-part-codes-ne0.branch [
      | then-part-codes-ne0+then-part-others-eq0 w ↦
          rw w.places-is (places_more code_count t l.places l.k (omega arith) (ap₂ (λ (x y : Bool). x && not y) (meets_on a.codes p w.if-part-codes-ne0.true) (meets_off a.others p (omega (arith, w.if-part-others-eq0.true)))) l.invariant)
      | else-part-codes-ne0 w ↦ rw w.places-is
          (elim w.else-part-codes-ne0.branch [
            | else-part-codes-ne0-via-then-part-codes-ne0+else-part-others-eq0 v ↦
                places_skip t l.places l.k (ap₂ (λ (x y : Bool). x && not y) (meets_on a.codes p v.if-part-codes-ne0.true) (meets_on a.others p (λ e. v.if-part-others-eq0.false (omega (arith, e))))) l.invariant
            | else-part-codes-ne0-via-else-part-codes-ne0 v ↦ places_skip t l.places l.k (ap (λ (x : Bool). x && not (meets a.others p)) (meets_off a.codes p v.if-part-codes-ne0.false)) l.invariant
          ])
    ]

pub returns : goal.returns
unfolding sets_of
returns c =
    let a = c.args in
    let l = c.loop-k in
    let sets = take a.parts.n a.parts.sets in
    let few = length-take a.parts.n a.parts.sets in
    let f : ℕ → Bool = λ x. meets a.codes x && not (meets a.others x) in
    let all : l.k ≡ length sets = omega arith in
    places_are code_count l.places f sets (omega arith) (λ x. l.invariant x ∙ ap (λ (k : ℕ). ltb x k && f (get_or sets x 0)) all)
