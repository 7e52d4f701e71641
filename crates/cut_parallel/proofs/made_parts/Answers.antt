use Prim.Native.Nat.{ℕ}
use mathlib.Core.Bool.{Bool, ◌&&◌}
use borrow.Author.Rules.{rules}
use Rattle.std.proofs.Common.{tests}
use Rattle.rules.specs.Calls.{code_count}
use Rattle.cut_parts.specs.Sets.{sets_of, meets}
use Rattle.cut_parallel.proofs.MakingLaws.{made_of}
use Rattle.cut_parallel.proofs.made_parts.Goals as goal

pub returns : goal.returns
unfolding sets_of meets
returns c =
    let a = c.args in
    let both : ℕ → Bool = λ p. meets a.starts p && meets a.ends p in (
      c.retain.ensures.few,
      made_of code_count a.starts a.ends a.parts.n a.parts.sets c.places_with-only_starts.result c.places_with-only_ends.result c.join_pairs.new.sets _
          c.places_with-only_starts.ensures c.places_with-only_ends.ensures c.join_pairs.ensures (c.retain.ensures.kept both (λ x b k. search (rules, tests))),
    )
