use native.Mathlib.Omega.{arith}
use mathlib.Core.Path.{refl}
use Rattle.rules.specs.Calls.{code_count}
use Rattle.graph_rows.proofs.TableLaws.{owned}
use Rattle.cut_parts.specs.Sets.{sets_of, lists_of}
use Rattle.cut_parallel.proofs.MakingLaws.{rest_joined}
use Rattle.cut_parallel.proofs.with_rest.Goals as goal

pub returns : goal.returns
unfolding lists_of sets_of
returns c =
    let p = c.args.parts in
    let room = (owned p.sets _ c.well_formed.0.1.1.1.0).size in
    (refl, rest_joined code_count c.args.codes p.n c.remaining-rest.result p.sets (omega (arith, room, c.requires.0)) c.requires.1 c.remaining-rest.ensures)
