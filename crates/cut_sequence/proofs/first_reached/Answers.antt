use native.Mathlib.Omega.{arith}
use mathlib.Core.Path.{◌≡◌, ap, ◌∙◌}
use lib.ListN.{take}
use Rattle.std.specs.Prelude.{position, unwrap_or, Option}
use Rattle.std.proofs.Common.{ℕ, rules, tests}
use Rattle.std.proofs.lemmas.Iterator.{YieldsList-from_slice}
use Rattle.std.proofs.lemmas.Iterator.Search.{position_from_yields_List}
use Rattle.rules.specs.Calls.{code_count}
use Rattle.cut_parts.specs.Sets.{sets_of}
use Rattle.graph_rows.proofs.TableLaws.{owned}
use Rattle.cut_sequence.proofs.OrderLaws.{reached_at, placed_first}
use Rattle.cut_sequence.proofs.first_reached.Goals as goal

pub returns : goal.returns
unfolding sets_of
returns c =
    let s = c.args.parts in
    let size = (owned s.sets _ c.well_formed.0.1.1.1.0).size in
    let found : c.position.result ≡ position (reached_at code_count c.args.row) (take s.n s.sets) =
    position_from_yields_List (reached_at code_count c.args.row) _ _ c.position.result c.position.ensures.ran (YieldsList-from_slice (take s.n s.sets) (cc)) (λ x b q k. search (rules, tests)) in
    placed_first code_count c.args.row s.n s.sets c.unwrap_or.result (omega arith) (c.unwrap_or.ensures ∙ ap (λ (o : Option ℕ). unwrap_or o s.n) found)
