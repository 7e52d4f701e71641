use native.Mathlib.Omega.{arith}
use Prim.Native.Nat.{ℕ}
use mathlib.Core.Path.{ap, subst}
use mathlib.Core.List.{List}
use Rattle.rules.specs.Words.{Has, each}
use Rattle.rules.specs.Calls.{code_count}
use Rattle.code_sets.specs.Bits.{listed}
use Rattle.graph_rows.specs.Edges.{edge_of, meant}
use Rattle.cut_parts.specs.Sets.{sets_of, lists_of}
use Rattle.cut_components.proofs.BondLaws.{components_are}
use Rattle.cut_parallel.proofs.MakingLaws.{made_inside, parallel_right}
use borrow.Author.Rules.{rules}
use Rattle.cut_parallel.proofs.parallel_parts.Goals as goal

pub with_rest-requires : goal.with_rest-requires
unfolding lists_of
with_rest-requires c = let st = c.before in
    let g = st.args.g in
    let gs = c.components-components in
    let made = c.made_parts-made in (
      omega (arith, gs.ensures.few, made.ensures.0),
      λ p i. made_inside code_count st.args.keep.bits (edge_of g.rows) g.starts.bits g.ends.bits (search (rules, st.well_formed.0.1.1.1)) (search (rules, st.well_formed.0.1.1.1)) (sets_of gs.result)
          (components_are gs.ensures st.requires) p
          (subst (λ (sets : List ℕ). Has p (each (listed code_count) sets)) made.ensures.1 i),
    )

pub returns : goal.returns
unfolding meant lists_of
returns c = let st = c.before in
    let g = st.args.g in
    let gs = c.components-components in
    let made = c.made_parts-made in
    let rest = c.with_rest in (
      omega (arith, gs.ensures.few, made.ensures.0, rest.ensures.0),
      parallel_right code_count st.args.keep.bits (edge_of g.rows) g.starts.bits g.ends.bits (search (rules, st.well_formed.0.1.1.1)) (search (rules, st.well_formed.0.1.1.1)) (sets_of gs.result)
          (components_are gs.ensures st.requires)
          (lists_of made.result) (lists_of rest.result) (ap (each (listed code_count)) made.ensures.1) rest.ensures.1,
    )
