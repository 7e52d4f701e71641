-- The sub-episodes of a log that is passed over.
use mathlib.Core.Path.{◌≡◌, sym, ◌∙◌, ap}
use mathlib.Core.List.{List, [], ◌∷◌, ◌++◌, append-nil}
use mathlib.Core.Bool.{Bool, true, false}
use Prim.Native.Nat.{ℕ}
use Rattle.rules.specs.Words.{any, each, flat}
use Rattle.rules.specs.Mining.{Episode, Log, project}
use Rattle.rules.proofs.ListLaws.{each_append, flat_append}
use Rattle.mine_views.specs.Sublogs.{Sight, empty_if, pieces, pieces_of, shown, lacks, bare_of}

pub pieces_append : (s : Sight) (l m : Log) → pieces_of s l ++ pieces_of s m ≡ pieces_of s (l ++ m)
pieces_append s l m =
    sym (flat_append (each (pieces s.kept s.breaks) l) (each (pieces s.kept s.breaks) m))
    ∙ ap flat (sym (each_append (pieces s.kept s.breaks) l m))

pub pieces_one : (s : Sight) (t : Episode) → pieces s.kept s.breaks t ≡ pieces_of s (t ∷ [])
pieces_one s t = sym (append-nil (pieces s.kept s.breaks t))

-- the empty episode has none of the part's codes
pub bare_empty : (s : Sight) (p : List ℕ) (l : Log) → s.bare ≡ true → true ≡ bare_of p l s
unfolding shown project
bare_empty s p l e = ap (λ (b : Bool). any (lacks p) (empty_if b ++ pieces_of s l)) (sym e)

pub bare_full : (s : Sight) (p : List ℕ) (l : Log) → s.bare ≡ false → any (lacks p) (pieces_of s l) ≡ bare_of p l s
unfolding shown
bare_full s p l e = ap (λ (b : Bool). any (lacks p) (empty_if b ++ pieces_of s l)) (sym e)
