use mathlib.Core.Path.{◌≡◌}
use lib.Bits.{bit_or}
use Rattle.std.specs.Iterator.Adapters.{zip_first, zip_second}
use Rattle.rules.specs.Calls.{code_count}
use Rattle.code_sets.specs.Bits.{listed}
use Rattle.cut_pairs.specs.Pairs.{pair_all}
use Rattle.cut_pairs.proofs.join_pairs.Given as goal

abbrev pub invariant-loop-i : goal.invariant-loop-i
invariant-loop-i l =
    let places = listed code_count (zip_first l.i-iterator).left in
    let others = listed code_count (zip_second l.i-iterator).left in
    pair_all 0 bit_or (listed code_count l.places) (listed code_count l.others) l.initial.sets ≡ pair_all 0 bit_or places others l.sets
