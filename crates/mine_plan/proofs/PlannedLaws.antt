-- The plan of a view, by the tests that lead to it.
use mathlib.Core.Path.{◌≡◌, sym, ◌∙◌, ap, subst}
use mathlib.Core.List.{List}
use mathlib.Core.Bool.{Bool, true, false}
use Prim.Native.Nat.{ℕ, ◌/◌, ◌%◌, ◌^◌, ◌≤◌, ◌<◌}
use native.Mathlib.Nat.{pos_of_ne-zero}
use native.Mathlib.Omega.{arith}
use lib.Dec.{eqb}
use Rattle.std.specs.Prelude.{Option, None, Some, IfSome}
use lib.ListN.{length, take}
use lib.Count.{count_trailing_zeros}
use Rattle.rules.specs.Words.{pick, each, from}
use Rattle.rules.specs.Mining as mining
use Rattle.rules.specs.Mining.{Log, Rel, single, flower, graph, shape, head_of, cut_or, occurring}
use Rattle.rules.specs.Calls.{code_count}
use Rattle.rules.proofs.ListLaws.{Has, has_keep}
use Rattle.rules.proofs.GraphLaws.{edge_in}
use Rattle.code_sets.specs.Bits.{has, listed}
use Rattle.code_sets.proofs.BitLaws.{has_zero}
use Rattle.code_sets.proofs.LowestLaws.{lowest_is}
use Rattle.graph_rows.specs.declared.Graph.{Graph}
use Rattle.graph_rows.specs.Edges.{edge_of, meant}
use Rattle.cut_parts.specs.Sets.{sets_of, lists_of}
use Rattle.cut_first.specs.declared.Cut.{Cut}
use Rattle.cut_first.specs.Cuts.{Inside, cut_else, cut_shape, CutOf}
use Rattle.mine_views.specs.declared.View.{View}
use Rattle.mine_views.specs.Sublogs.{sight, sublog, Tight, drawn}
use Rattle.mine_views.proofs.TightLaws.{tight_graph}
use Rattle.mine_plan.specs.Plans.{lone, base_shape, made_shape, CutPlan, Planned}
use Rattle.mine_plan.specs.declared.Base.{Base}
use Rattle.mine_plan.specs.declared.Base.TheVariants.{Silent, Leaf, Flower}
use Rattle.mine_plan.specs.declared.Made.TheVariants.{Uncut}
use Rattle.mine_plan.specs.declared.Plan.{Plan}
use Rattle.mine_plan.proofs.PlanLaws.{plan_silent, plan_flower, plan_rest}

-- a set that is not empty has a code
some_code : (x : ℕ) → x < 2 ^ code_count → (x ≡ 0 → ⊥) → (c : ℕ) × (has x c ≡ true)
some_code x h z = (count_trailing_zeros code_count x, (lowest_is code_count x (pos_of_ne-zero z) h).1)

module _ (l : Log) (v : View) where
  abbrev codes_of : List ℕ
  codes_of = listed code_count v.keep.bits

  based : (r : Plan) (b : Base) → (r.made ≡ Uncut b) × (r.n ≡ 0) → (Tight code_count (sight v) l → shape code_count (sublog v l) ≡ base_shape b codes_of) → Planned l v r
  based r b u f =
      record {
        few = omega (arith, u.1);
        room = omega (arith, u.1);
        told = rw u.0 tt;
        makes = λ t. rw u.0 (f t);
      }

  pub planned_silent : (r : Plan) → (r.made ≡ Uncut Silent) × (r.n ≡ 0) → v.keep.bits ≡ 0 → Planned l v r
  planned_silent r u z = based r Silent u (λ k. plan_silent code_count (sight v) l k (λ c. ap (λ (x : ℕ). has x c) z ∙ has_zero c))

  pub planned_flower : (r : Plan) → (r.made ≡ Uncut Flower) × (r.n ≡ 0) → v.keep.bits < 2 ^ code_count → (v.keep.bits ≡ 0 → ⊥) → v.bare ≡ true → Planned l v r
  planned_flower r u small some e =
      based r Flower u
      (λ k. let c = some_code v.keep.bits small some in unfold listed in plan_flower code_count (sight v) l k c.0 c.1 e)

  module _ (small : v.keep.bits < 2 ^ code_count) (some : v.keep.bits ≡ 0 → ⊥) (full : v.bare ≡ false) (g : Graph)
      (drew : meant g v.keep.bits ≡ drawn codes_of (sublog v l)) (t : Bool) (call : t ≡ lone (edge_of g.rows) codes_of) where
    graph_is : Tight code_count (sight v) l → meant g v.keep.bits ≡ graph code_count (sublog v l)
    unfolding listed
    graph_is k = drew ∙ tight_graph code_count (sight v) l k

    edge_is : Tight code_count (sight v) l → (λ a b. edge_of g.rows a b) ≡ (graph code_count (sublog v l)).edge
    unfolding meant
    edge_is k = ap (λ (x : mining.Graph). x.edge) (graph_is k)

    rest : Tight code_count (sight v) l → shape code_count (sublog v l) ≡ pick t (single (head_of codes_of)) (cut_or (meant g v.keep.bits) (flower codes_of))
    unfolding listed
    rest k =
        let c = some_code v.keep.bits small some in
        plan_rest code_count (sight v) l k c.0 c.1 full
        ∙ (λ i. pick ((ap (λ (e : Rel). lone e codes_of) (sym (edge_is k)) ∙ sym call) i) (single (head_of codes_of)) (cut_or (sym (graph_is k) i) (flower codes_of)))

    pub planned_leaf : t ≡ true → (r : Plan) → (r.made ≡ Uncut Leaf) × (r.n ≡ 0) → Planned l v r
    planned_leaf e r u =
        based r Leaf u (λ k. rest k ∙ ap (λ (b : Bool). pick b (single (head_of codes_of)) (cut_or (meant g v.keep.bits) (flower codes_of))) e)

    inside : Tight code_count (sight v) l → Inside g v.keep.bits
    inside k a b e =
        let h : (graph code_count (sublog v l)).edge a b ≡ true = sym (λ i. edge_is k i a b) ∙ e in
        let q = edge_in code_count (sublog v l) a b h in
        let kept : (c : ℕ) → Has c (occurring code_count (sublog v l)) → has v.keep.bits c ≡ true = λ c i. (has_keep (has v.keep.bits) c (from 0 code_count) (subst (Has c) k.occurs i)).1 in
        (kept a q.0, kept b q.1)

    module _ (off : t ≡ false) (r : Option Cut) (c : CutOf g v.keep.bits r) where
      found : Tight code_count (sight v) l → shape code_count (sublog v l) ≡ cut_shape r codes_of
      found k = rest k ∙ ap (λ (b : Bool). pick b (single (head_of codes_of)) (cut_or (meant g v.keep.bits) (flower codes_of))) off ∙ sym (c.shape (inside k))

      pub planned_none : r ≡ None → (p : Plan) → (p.made ≡ Uncut Flower) × (p.n ≡ 0) → Planned l v p
      unfolding cut_shape
      planned_none e p u = based p Flower u (λ k. found k ∙ ap (λ (o : Option Cut). cut_else o (flower codes_of)) e)

      pub planned_cut : (q : Cut) → r ≡ Some q → length q.parts.sets ≡ code_count → (p : Plan) → CutPlan l v q.operator q.parts p → Planned l v p
      unfolding cut_shape lists_of sets_of
      planned_cut q e long p plan =
          let few : q.parts.n ≤ code_count = subst (λ (o : Option Cut). IfSome o (λ c. c.parts.n ≤ code_count)) e c.few in
          let count = plan.count in
          record {
            few = omega arith;
            room = omega (arith, ap length plan.same);
            told = rw plan.is plan.told;
            makes = λ k.
                found k ∙ ap (λ (o : Option Cut). cut_else o (flower codes_of)) e
                ∙ sym (λ i. made_shape (plan.is i) codes_of (each (listed code_count) (take (count i) (plan.same i))));
          }

-- the bit of a part, as code asks for it
pub missed_bit : (missed k : ℕ) (b : Bool) → has missed k ≡ b → eqb (missed / 2 ^ k % 2) 1 ≡ b
unfolding has
missed_bit missed k b e = e
