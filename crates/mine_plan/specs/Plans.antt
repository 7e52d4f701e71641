-- What is made of a view's sublog: a base case, a flower or a cut.
use Rattle.std.specs.Prelude.{◌≡◌, List, [], ◌∷◌, Bool, false, not, ℕ, ◌≤◌, ◌<◌, length, take, get_or}
use Rattle.rules.specs.declared.Operator.{Operator}
use Rattle.rules.specs.Words.{each}
use Rattle.rules.specs.Trees.{Tree, silent, leaf}
use Rattle.rules.specs.Mining.{Log, Rel, Shape, nothing, single, flower, cut, shape, head_of, flower_of}
use Rattle.rules.specs.TreeBlock.{op_of}
use Rattle.rules.specs.Calls.{code_count}
use Rattle.code_sets.specs.Bits.{has, listed}
use Rattle.cut_parts.specs.declared.Parts.{Parts}
use Rattle.mine_views.specs.declared.View.{View}
use Rattle.mine_views.specs.Sublogs.{sight, sublog, Tight, part_sight}
use Rattle.mine_plan.specs.declared.Base.{Base}
use Rattle.mine_plan.specs.declared.Base.TheVariants.{Silent, Leaf, Flower}
use Rattle.mine_plan.specs.declared.Made.{Made}
use Rattle.mine_plan.specs.declared.Made.TheVariants.{Uncut, Cut}
use Rattle.mine_plan.specs.declared.Plan.{Plan}

-- one code, and it never follows itself
abbrev pub lone : Rel → List ℕ → Bool
lone e [] = false
lone e (a ∷ []) = not (e a a)
lone e (a ∷ b ∷ cs) = false

-- what has no cut, on its codes
abbrev pub base_shape : Base → List ℕ → Shape
base_shape Silent cs = nothing
base_shape Leaf cs = single (head_of cs)
base_shape Flower cs = flower cs

abbrev pub base_tree : Base → List ℕ → Tree
base_tree Silent cs = silent
base_tree Leaf cs = leaf (head_of cs)
base_tree Flower cs = flower_of cs

-- what is made of these codes, where the parts of a cut are ps
abbrev pub made_shape : Made → List ℕ → List (List ℕ) → Shape
made_shape (Uncut b) cs ps = base_shape b cs
made_shape (Cut o) cs ps = cut (op_of o) ps

-- the parts of a cut whose views have the empty episode are told by number
abbrev pub Told : Log → View → Plan → Made → Type 0
Told l v r (Uncut b) = Unit {0}
Told l v r (Cut o) = (k : ℕ) → k < r.n → has r.missed k ≡ (part_sight (op_of o) (listed code_count (get_or r.sets k 0)) l (sight v)).bare

-- a cut's plan
pub record CutPlan (l : Log) (v : View) (o : Operator) (parts : Parts) (r : Plan) : Type 0 where
  pub is : r.made ≡ Cut o
  pub count : r.n ≡ parts.n
  pub same : r.sets ≡ parts.sets
  pub told : Told l v r (Cut o)

-- a tight view's plan is the shape of its sublog
pub record Planned (l : Log) (v : View) (r : Plan) : Type 0 where
  pub few : r.n ≤ code_count
  pub room : r.n ≤ length r.sets
  pub told : Told l v r r.made
  pub makes : Tight code_count (sight v) l → shape code_count (sublog v l) ≡ made_shape r.made (listed code_count v.keep.bits) (each (listed code_count) (take r.n r.sets))
