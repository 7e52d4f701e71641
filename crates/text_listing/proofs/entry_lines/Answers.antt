use mathlib.Core.Path.{◌≡◌}
use native.Mathlib.Omega.{arith}
use Rattle.text_listing.proofs.Lines.{no_lines, line_more}
use Rattle.text_listing.proofs.entry_lines.Goals as goal

pub loop-v-init : goal.loop-v-init
loop-v-init c = no_lines c.args.out.now c.args.at c.args.tree.now

pub loop-v-preserved : goal.loop-v-preserved
loop-v-preserved c = line_more _ _ (omega arith) c.loop-v.invariant c.entry_line-next.ensures

pub returns : goal.returns
returns c = let l = c.loop-v in
    let e : l.v ≡ c.args.nodes = omega arith in
    rw e at l.invariant
