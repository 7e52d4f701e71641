use mathlib.Core.Path.{◌∙◌}
use Rattle.rules.specs.Mining.{choice_parts, sequence_parts, parallel_parts}
use Rattle.graph_rows.specs.Edges.{meant}
use Rattle.graph_rows.proofs.TableLaws.{owned}
use Rattle.cut_first.specs.Cuts.{Inside}
use Rattle.cut_first.proofs.CutLaws.{Looked, looked, ordered_parts, first_choice, first_sequence, first_parallel, none_of_three}
use Rattle.cut_first.proofs.cut_without_loop.Goals as goal
use Rattle.cut_first.proofs.cut_without_loop.Goals.{After-choice_parts-choice, After-sequence_parts-sequence, After-parallel_parts-parallel}

choices : (c : After-choice_parts-choice) → Looked c.choice_parts-choice.result (choice_parts (meant c.args.g c.args.keep.bits))
choices c = let ch = c.choice_parts-choice in looked ch.result _ (owned ch.result.sets _ ch.type_inv.1.1.1.0) ch.ensures

sequences : (c : After-sequence_parts-sequence) → Inside c.args.g c.args.keep.bits → Looked c.sequence_parts-sequence.result (sequence_parts (meant c.args.g c.args.keep.bits))
sequences c i =
    let se = c.sequence_parts-sequence in
    let g = c.args.g in
    looked se.result _ (owned se.result.sets _ se.type_inv.1.1.1.0) (se.ensures.0, se.ensures.1 ∙ ordered_parts g c.args.keep.bits (owned g.rows _ c.well_formed.0.1.1.0) i)

parallels : (c : After-parallel_parts-parallel) → Looked c.parallel_parts-parallel.result (parallel_parts (meant c.args.g c.args.keep.bits))
parallels c = let pa = c.parallel_parts-parallel in looked pa.result _ (owned pa.result.sets _ pa.type_inv.1.1.1.0) pa.ensures

pub returns-then-choice-ge2 : goal.returns-then-choice-ge2
returns-then-choice-ge2 c = let at = goal.at.returns-then-choice-ge2 c in first_choice _ _ _ (choices at.After-choice_parts-choice) c.if-choice-ge2.true

pub returns-then-sequence-ge2 : goal.returns-then-sequence-ge2
returns-then-sequence-ge2 c =
    let at = goal.at.returns-then-sequence-ge2 c in
    first_sequence _ _ _ (choices at.After-choice_parts-choice) c.if-choice-ge2.false _ (sequences at.After-sequence_parts-sequence) c.sequence_parts-sequence.ensures.0 c.if-sequence-ge2.true

pub returns-then-parallel-ge2 : goal.returns-then-parallel-ge2
returns-then-parallel-ge2 c =
    let at = goal.at.returns-then-parallel-ge2 c in
    first_parallel _ _ _ (choices at.After-choice_parts-choice) c.if-choice-ge2.false _ (sequences at.After-sequence_parts-sequence) c.sequence_parts-sequence.ensures.0 c.if-sequence-ge2.false
    _ (parallels at.After-parallel_parts-parallel) c.if-parallel-ge2.true

pub returns : goal.returns
returns c =
    let at = goal.at.returns c in
    none_of_three _ _ _ (choices at.After-choice_parts-choice) c.if-choice-ge2.false _ (sequences at.After-sequence_parts-sequence) c.sequence_parts-sequence.ensures.0 c.if-sequence-ge2.false
    _ (parallels at.After-parallel_parts-parallel) c.if-parallel-ge2.false
