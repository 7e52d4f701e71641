use mathlib.Core.Path.{◌≡◌}
use mathlib.Core.List.{◌∷◌, ◌++◌}
use lib.ListN.{length, take, drop}
use Rattle.cut_parts.proofs.inserted.Given as goal

abbrev pub invariant-loop-i : goal.invariant-loop-i
invariant-loop-i l = (l.parts.n ≡ l.initial.parts.n) × (length l.parts.sets ≡ length l.initial.parts.sets)
    × (take l.at (take l.parts.n l.initial.parts.sets) ++ (l.part ∷ drop l.at (take l.parts.n l.initial.parts.sets)) ≡ take l.i (take l.parts.n l.parts.sets) ++ (l.hand ∷ drop l.i (take l.parts.n l.parts.sets)))
