-- What each turn of a loop over one record's codes keeps of the graph.
use mathlib.Core.Path.{◌≡◌, sym, ◌∙◌, ap}
use mathlib.Core.List.{List, [], ◌∷◌}
use Prim.Native.Nat.{ℕ}
use Rattle.std.specs.Prelude.{None}
use Rattle.rules.specs.Mining as mining
use Rattle.code_sets.specs.Bits.{has}
use Rattle.graph_rows.specs.declared.Graph.{Graph}
use Rattle.graph_rows.specs.Edges.{meant}
use Rattle.mine_views.specs.Sublogs.{Sight, Walk, walk, done}
use Rattle.mine_views.proofs.PieceLaws.{pieces_one}
use Rattle.mine_trails.specs.Growing.{Trail, joined, with_pieces, resumed, trailed}
use Rattle.mine_trails.proofs.TrailLaws.{Turn, joined_nil}

-- before the first code
pub trail_start : (s : Sight) (g : mining.Graph) (codes : List ℕ) → with_pieces s g (codes ∷ []) ≡ resumed None (walk s.kept s.breaks codes) g
unfolding resumed
trail_start s g codes = ap (joined g) (sym (pieces_one s codes))

-- the graph `all` of the whole record, as it is where some codes are left
module _ (left : List ℕ) (k b kept : ℕ) (t : Trail) (all : mining.Graph) (inv : all ≡ trailed t kept (walk (has k) (has b) left)) where
  pub trail_next : (x : ℕ) (rest : List ℕ) → left ≡ x ∷ rest → (r : Trail) → Turn t k b x r → all ≡ trailed r kept (walk (has k) (has b) rest)
  trail_next x rest h r e = inv ∙ ap (λ (l : List ℕ). trailed t kept (walk (has k) (has b) l)) h ∙ sym (e kept (walk (has k) (has b) rest))

  pub trail_end : left ≡ [] → (r : Graph) → ((n : ℕ) (v : Walk) → joined (meant r n) (done v) ≡ trailed t n ([], done v)) → meant r kept ≡ all
  trail_end h r e = sym (joined_nil (meant r kept)) ∙ e kept ([], []) ∙ sym (inv ∙ ap (λ (l : List ℕ). trailed t kept (walk (has k) (has b) l)) h)
