use mathlib.Core.Path.{sym, ◌∙◌}
use native.Mathlib.Omega.{arith}
use Rattle.rules.specs.Calls.{code_count}
use Rattle.code_sets.specs.Bits.{listed}
use Rattle.code_sets.proofs.ListedLaws.{listed_count}
use Rattle.mine_bases.proofs.WritingLaws.{flower_wrote}
use Rattle.mine_bases.proofs.flower.Goals as goal

pub byte-requires : goal.byte-requires
byte-requires c = omega (arith, listed_count code_count c.args.set.bits, c.count-n.ensures, c.requires.1)

pub byte-requires-2 : goal.byte-requires-2
byte-requires-2 c = omega (arith, listed_count code_count c.args.set.bits, c.count-n.ensures, c.requires.1)

pub returns : goal.returns
returns c = let a = c.args in
    let n = c.count-n in
    let first = c.put in
    let second = c.put-2 in
    let last = c.leaves in
    flower_wrote (listed code_count a.set.bits) n.result (n.ensures ∙ sym (listed_count code_count a.set.bits)) a.at a.tree.now first.new.tree second.new.tree last.new.tree
    last.result c.requires.0 c.requires.1 _ _ c.byte.ensures c.byte-2.ensures first.ensures second.ensures last.ensures
