use mathlib.Core.Path.{◌≡◌}
use Prim.Native.Nat.{◌+◌, ◌*◌}
use lib.ListN.{length}
use Rattle.rules.specs.Mining.{leaves}
use Rattle.rules.specs.TreeBlock.{entries_all}
use Rattle.rules.specs.Calls.{code_count}
use Rattle.code_sets.specs.Bits.{listed}
use Rattle.mine_bases.specs.Writing.{laid}
use Rattle.mine_bases.proofs.leaves.Given as goal

abbrev pub invariant-loop-c : goal.invariant-loop-c
invariant-loop-c l = (laid (l.at * 4) (entries_all (leaves (listed code_count l.fn.set.bits))) l.initial.tree ≡ laid (l.next * 4) (entries_all (leaves (listed code_count l.c-iterator.left))) l.tree)
    × (l.at + length (listed code_count l.fn.set.bits) ≡ l.next + length (listed code_count l.c-iterator.left))
    × (length l.tree ≡ 512)
