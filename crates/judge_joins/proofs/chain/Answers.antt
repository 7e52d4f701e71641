use borrow.Author.Rules.{rules}
use Prim.Native.Nat.{ℕ, ◌-◌, ◌^◌, ◌<◌}
use mathlib.Core.List.{List}
use mathlib.Core.Path.{◌≡◌, sym, ap, ◌∙◌}
use mathlib.Core.Bool.{Bool, ◌&&◌, ◌||◌, not}
use native.Mathlib.Omega.{arith}
use lib.Bits.{bit_or, bit_and, and_le_r}
use lib.Count.{count_trailing_zeros, trailing_le}
use lib.Dec.{eqb}
use lib.ListN.{get_or}
use Rattle.rules.proofs.BoolLaws.{or_off, or_assoc, and_assoc, and_comm}
use Rattle.code_sets.specs.Bits.{has, any_below}
use Rattle.code_sets.proofs.BitLaws.{has_zero, has_or}
use Rattle.code_sets.proofs.AnyLaws.{any_none}
use Rattle.code_sets.proofs.LowestLaws.{lowest_is, has_lowest, any_apart}
use Rattle.judge_rows.specs.Rows.{after}
use Rattle.judge_joins.proofs.chain.Invariants.{reached}
use Rattle.judge_joins.proofs.chain.Goals as goal

-- a turn takes the lowest place k of x, its row, and drops it
turn : (x r j : ℕ) (table : List ℕ) → 0 < x → x < 2 ^ 64
    → (has (bit_or r (get_or table (count_trailing_zeros 64 x) 0)) j || any_below 64 (reached (bit_and x (x - 1)) table j)) ≡ (has r j || any_below 64 (reached x table j))
turn x r j table p h =
    let k = count_trailing_zeros 64 x in
    let low = lowest_is 64 x p h in
    let q = reached (bit_and x (x - 1)) table j in
    ap (λ (b : Bool). b || any_below 64 q) (has_or r (get_or table k 0) j) ∙ or_assoc (has r j) (has (get_or table k 0) j) (any_below 64 q)
    ∙ ap (λ (b : Bool). has r j || b) (sym (any_apart 64 k (reached x table j) q low.0
    (λ m. ap (λ (b : Bool). b && has (get_or table m 0) j) (has_lowest 64 x m p h)
    ∙ and_assoc (has x m) (not (eqb m k)) (has (get_or table m 0) j) ∙ ap (λ (b : Bool). has x m && b) (and_comm (not (eqb m k)) (has (get_or table m 0) j)) ∙ sym (and_assoc (has x m) (has (get_or table m 0) j) (not (eqb m k))))
    ∙ ap (λ (b : Bool). (b && has (get_or table k 0) j) || any_below 64 q) low.1))

pub loop-x-init : goal.loop-x-init
loop-x-init c = (search rules, λ j. ap (λ (b : Bool). b || any_below 64 (reached c.args.left c.args.table.now j)) (has_zero j))

pub overflow_cast-k : goal.overflow_cast-k
overflow_cast-k c = omega (arith, trailing_le 64 c.loop-x.x)

pub offset_bounds-table-k : goal.offset_bounds-table-k
offset_bounds-table-k c = omega (arith, trailing_le 64 c.loop-x.x)

pub bounds-table-k : goal.bounds-table-k
bounds-table-k c = let x = c.loop-x.x in
    let p : 0 < x = omega arith in
    omega (arith, (lowest_is 64 x p c.loop-x.invariant.0).0)

pub overflow_sub-x : goal.overflow_sub-x
overflow_sub-x c = omega arith

pub loop-x-smaller : goal.loop-x-smaller
loop-x-smaller c = let x = c.loop-x.x in omega (arith, and_le_r x (x - 1))

pub loop-x-preserved : goal.loop-x-preserved
loop-x-preserved c = let x = c.loop-x.x in
    let l = c.loop-x in
    let p : 0 < x = omega arith in
    (omega (arith, and_le_r x (x - 1)), λ j. turn x l.r j c.args.table.now p l.invariant.0 ∙ l.invariant.1 j)

pub returns : goal.returns
unfolding after
returns c j = let l = c.loop-x in
    let t = c.args.table.now in
    let e : l.x ≡ 0 = omega arith in
    sym (or_off (has l.r j)) ∙ ap (λ (b : Bool). has l.r j || b) (sym (ap (λ (y : ℕ). any_below 64 (reached y t j)) e ∙ any_none 64 (reached 0 t j) (λ m. ap (λ (b : Bool). b && has (get_or t m 0) j) (has_zero m))))
    ∙ l.invariant.1 j
