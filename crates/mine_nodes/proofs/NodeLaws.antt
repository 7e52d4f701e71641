-- Writing a node: its parts one after another, and its own entry before them.
use mathlib.Core.Path.{◌≡◌, refl, sym, ◌∙◌, ap, subst}
use mathlib.Core.Logic.{inl, inr}
use mathlib.Core.List.{List, [], ◌∷◌, ◌++◌}
use Prim.Native.Nat.{ℕ, zero, suc, ◌+◌, ◌-◌, ◌*◌, ◌/◌, ◌%◌, ◌^◌, ◌≤◌, ◌<◌}
use native.Mathlib.Numerals.{add-one}
use native.Mathlib.Omega.{arith}
use lib.Dec.{eqb}
use lib.ListN.{length, get_or, take, drop, drop_of_length-le}
use lib.Seq.{drop-cons, get_or-take, length-take-le}
use Rattle.rules.specs.declared.Operator.{Operator}
use Rattle.rules.specs.Words.{each}
use Rattle.rules.specs.Trees.{Op, Tree, Forest, node, size, sizes, children}
use Rattle.rules.specs.Mining.{Log, cut, graph, shape, split, grow, mined, occurring, parts_of}
use Rattle.rules.specs.TreeBlock.{op_of, kind_of, entry, entries, entries_all}
use Rattle.rules.specs.Calls.{code_count, entry_count}
use Rattle.rules.proofs.ListLaws.{Has, each_has}
use Rattle.rules.proofs.Entries.{entries_length, entries_all_length}
use Rattle.rules.proofs.Splits.{split_occurring}
use Rattle.rules.proofs.SameEpisodes.{occurring_same}
use Rattle.rules.proofs.Shapes.{Taken, cut_taken, smaller}
use Rattle.code_sets.specs.Bits.{listed}
use Rattle.tree_writing.specs.Writing.{with_entry}
use Rattle.mine_views.specs.declared.View.{View}
use Rattle.mine_views.specs.Sublogs.{Sight, shown, sight, sublog, Tight, part_sight}
use Rattle.mine_views.proofs.TightLaws.{tight_below, part_shows, part_tight, part_tree}
use Rattle.mine_bases.specs.Writing.{laid, WroteTree}
use Rattle.mine_plan.specs.declared.Base.{Base}
use Rattle.mine_plan.specs.declared.Made.{Made}
use Rattle.mine_plan.specs.declared.Made.TheVariants.{Uncut, Cut}
use Rattle.mine_plan.specs.declared.Plan.{Plan}
use Rattle.mine_plan.specs.Plans.{base_tree, made_shape, Told, Planned}
use Rattle.mine_nodes.specs.Ready.{Ready}
use Rattle.mine_bases.proofs.WritingLaws.{laid_nil, laid_before, wrote_length, wrote_next}
use Rattle.mine_plan.proofs.PlanLaws.{tree_base, tree_cut}
use Rattle.mine_plan.proofs.PlannedLaws.{missed_bit}

-- the first n of some sets, from the i-th on, as the rules have them
abbrev pub rest_of : ℕ → List ℕ → ℕ → List (List ℕ)
rest_of n sets i = each (listed code_count) (drop i (take n sets))

-- the trees of some parts of a view's sublog
abbrev pub trees_of : Log → View → Op → List (List ℕ) → Forest
trees_of l v o ps = grow (λ p. mined code_count (split o p (sublog v l))) ps

module _ (n : ℕ) (sets : List ℕ) (room : n ≤ length sets) (i : ℕ) where
  rest_next : i < n → rest_of n sets i ≡ listed code_count (get_or sets i 0) ∷ rest_of n sets (i + 1)
  rest_next h =
      let inside : i < length (take n sets) = omega (arith, length-take-le n sets room) in
      ap (each (listed code_count)) (drop-cons (take n sets) i 0 inside)
      ∙ (λ j. listed code_count (get_or-take n sets i 0 h j) ∷ each (listed code_count) (drop (sym (add-one i) j) (take n sets)))

  rest_end : n ≤ i → rest_of n sets i ≡ []
  rest_end h = ap (each (listed code_count)) (drop_of_length-le (take n sets) {i = i} (omega (arith, length-take-le n sets room)))

  rest_has : i < n → Has (listed code_count (get_or sets i 0)) (rest_of n sets 0)
  rest_has h = each_has (listed code_count) (get_or sets i 0) (take n sets) (in_take (take n sets) i (omega (arith, length-take-le n sets room)) (get_or-take n sets i 0 h))
    where
      in_take : (xs : List ℕ) (k : ℕ) → k < length xs → {y : ℕ} → get_or xs k 0 ≡ y → Has y xs
      in_take [] k b e = absurd (omega arith)
      in_take (x ∷ xs) zero b e = inl (sym e)
      in_take (x ∷ xs) (suc k) b e = inr (in_take xs k (omega arith) e)

grow_children : (f : List ℕ → Tree) (ps : List (List ℕ)) → children (grow f ps) ≡ length ps
grow_children f [] = refl
grow_children f (p ∷ ps) = ap suc (grow_children f ps)

each_length : {A B : Type 0} (f : A → B) (xs : List A) → length (each f xs) ≡ length xs
each_length f [] = refl
each_length f (x ∷ xs) = ap suc (each_length f xs)

-- where the parts from the i-th on are still to be written, from the entry next on
pub record Growing (l : Log) (v : View) (o : Op) (n : ℕ) (sets : List ℕ) (at : ℕ) (old : List ℕ) (next : ℕ) (tree : List ℕ) (i : ℕ) : Type 0 where
  pub bytes : laid ((at + 1) * 4) (entries_all (trees_of l v o (rest_of n sets 0))) old ≡ laid (next * 4) (entries_all (trees_of l v o (rest_of n sets i))) tree
  pub count : at + 1 + sizes (trees_of l v o (rest_of n sets 0)) ≡ next + sizes (trees_of l v o (rest_of n sets i))

-- a tree that has no cut
pub node_base : (l : Log) (v : View) → Tight code_count (sight v) l → (plan : Plan) → Planned l v plan → (b : Base) → plan.made ≡ Uncut b →
    base_tree b (listed code_count v.keep.bits) ≡ mined code_count (sublog v l)
node_base l v k plan plans b e =
    let codes = listed code_count v.keep.bits in
    sym (tree_base code_count (sublog v l) (tight_below code_count (sight v) l k) b codes (plans.makes k ∙ ap (λ (m : Made). made_shape m codes (rest_of plan.n plan.sets 0)) e))

-- a view's own codes are those that occur
pub tight_listed : (l : Log) (v : View) → Tight code_count (sight v) l → listed code_count v.keep.bits ≡ occurring code_count (sublog v l)
unfolding listed
tight_listed l v k = sym k.occurs

-- a view that may be mined, whose plan is a cut
pub record CutNode (l : Log) (v : View) (old : List ℕ) (at : ℕ) (plan : Plan) (operator : Operator) : Type 0 where
  pub ready : Ready l v old at
  pub plans : Planned l v plan
  pub is : plan.made ≡ Cut operator

module _ {l : Log} {v : View} {old : List ℕ} {at : ℕ} {plan : Plan} {operator : Operator} (here : CutNode l v old at plan operator) where
  abbrev o : Op
  o = op_of operator

  abbrev n : ℕ
  n = plan.n

  abbrev sets : List ℕ
  sets = plan.sets

  room : n ≤ length sets
  room = here.plans.room

  tight : Tight code_count (sight v) l
  tight = here.ready.tight

  cuts : shape code_count (sublog v l) ≡ cut o (rest_of n sets 0)
  cuts = here.plans.makes tight ∙ ap (λ (m : Made). made_shape m (listed code_count v.keep.bits) (rest_of n sets 0)) here.is

  node_is : mined code_count (sublog v l) ≡ node o (trees_of l v o (rest_of n sets 0))
  node_is = tree_cut code_count (sublog v l) (tight_below code_count (sight v) l tight) o (rest_of n sets 0) cuts

  pub node_room : at + 1 + sizes (trees_of l v o (rest_of n sets 0)) ≤ entry_count
  node_room = let e = ap size node_is in let r = here.ready.room in omega arith

  taken : Taken code_count (sublog v l) o
  taken = (cut_taken code_count (sublog v l) (tight_below code_count (sight v) l tight) o (rest_of n sets 0) cuts).1

  -- the i-th part, where w is its view
  module _ (i : ℕ) (h : i < n) (w : View)
      (call : eqb (plan.missed / 2 ^ i % 2) 1 ≡ (part_sight o (listed code_count (get_or sets i 0)) l (sight v)).bare → sight w ≡ part_sight o (listed code_count (get_or sets i 0)) l (sight v)) where
    sees : sight w ≡ part_sight o (listed code_count (get_or sets i 0)) l (sight v)
    sees =
        let told = subst (Told l v plan) here.is here.plans.told in
        call (missed_bit plan.missed i (part_sight o (listed code_count (get_or sets i 0)) l (sight v)).bare (told i h))

    in_cut : Has (listed code_count (get_or sets i 0)) (parts_of o (graph code_count (sublog v l)))
    in_cut = subst (Has (listed code_count (get_or sets i 0))) (cut_taken code_count (sublog v l) (tight_below code_count (sight v) l tight) o (rest_of n sets 0) cuts).0 (rest_has n sets room i h)

    pub child_tight : Tight code_count (sight w) l
    child_tight = subst (λ (s : Sight). Tight code_count s l) (sym sees) (part_tight code_count (sight v) l tight o taken (listed code_count (get_or sets i 0)) in_cut)

    pub child_tree : mined code_count (sublog w l) ≡ mined code_count (split o (listed code_count (get_or sets i 0)) (sublog v l))
    child_tree = ap (λ (s : Sight). mined code_count (shown s l)) sees ∙ part_tree code_count (sight v) l tight o taken (listed code_count (get_or sets i 0)) in_cut

    -- it has fewer codes
    pub child_fewer : length (listed code_count w.keep.bits) < length (listed code_count v.keep.bits)
    child_fewer =
        let q = listed code_count (get_or sets i 0) in
        let a : listed code_count w.keep.bits ≡ q =
        tight_listed l w child_tight ∙ ap (λ (s : Sight). occurring code_count (shown s l)) sees
        ∙ sym (occurring_same code_count (split o q (sublog v l)) (shown (part_sight o q l (sight v)) l) (part_shows code_count (sight v) l tight o taken q in_cut))
        ∙ split_occurring code_count (sublog v l) (tight_below code_count (sight v) l tight) o taken.parting q in_cut in
        let b = smaller code_count (sublog v l) o taken q in_cut in
        omega (arith, ap length a, ap length (tight_listed l v tight))

    module _ (next : ℕ) (tree : List ℕ) (g : Growing l v o n sets at old next tree i) (long : length tree ≡ 512) where
      grown : trees_of l v o (rest_of n sets i) ≡ trees_of l v o (listed code_count (get_or sets i 0) ∷ rest_of n sets (i + 1))
      grown = ap (trees_of l v o) (rest_next n sets room i h)

      child_size : next + (size (mined code_count (sublog w l)) + sizes (trees_of l v o (rest_of n sets (i + 1)))) ≡ at + 1 + sizes (trees_of l v o (rest_of n sets 0))
      child_size = omega (arith, ap size child_tree, ap sizes grown, g.count)

      pub child_ready : Ready l w tree next
      child_ready = record { tight = child_tight; long = long; room = omega (arith, child_size, node_room) }

      module _ (r : ℕ) (new : List ℕ) (wrote : WroteTree (mined code_count (sublog w l)) next tree r new) where
        sized : length (entries (mined code_count (sublog w l))) ≡ 4 * size (mined code_count (sublog w l))
        sized = entries_length (mined code_count (sublog w l))

        fits : next * 4 + 4 * size (mined code_count (sublog w l)) ≤ length tree
        fits = omega (arith, child_size, node_room)

        pub child_long : length new ≡ 512
        child_long = wrote_length wrote sized fits ∙ long

        pub child_next : Growing l v o n sets at old r new (i + 1)
        unfolding entries_all
        child_next =
            record {
              bytes =
                  g.bytes ∙ ap (λ (f : Forest). laid (next * 4) (entries_all f) tree) grown
                  ∙ ap (λ (t : Tree). laid (next * 4) (entries t ++ entries_all (trees_of l v o (rest_of n sets (i + 1)))) tree) (sym child_tree)
                  ∙ wrote_next wrote sized fits (entries_all (trees_of l v o (rest_of n sets (i + 1))));
              count = omega (arith, child_size, wrote.next);
            }

  -- every part is written: the node's own entry is put before them
  module _ (next : ℕ) (tree : List ℕ) (i : ℕ) (g : Growing l v o n sets at old next tree i) (h : n ≤ i) where
    pub node_next : next ≡ at + 1 + sizes (trees_of l v o (rest_of n sets 0))
    node_next = omega (arith, g.count, ap (λ (ps : List (List ℕ)). sizes (trees_of l v o ps)) (rest_end n sets room i h))

    parts_written : tree ≡ laid ((at + 1) * 4) (entries_all (trees_of l v o (rest_of n sets 0))) old
    unfolding entries_all
    parts_written = sym (g.bytes ∙ ap (λ (ps : List (List ℕ)). laid (next * 4) (entries_all (trees_of l v o ps)) tree) (rest_end n sets room i h) ∙ laid_nil (next * 4) tree)

    pub node_wrote : (new : List ℕ) (kind x y : ℕ) → kind ≡ kind_of o → x ≡ n → y ≡ next - at → new ≡ with_entry tree at kind x y → WroteTree (mined code_count (sublog v l)) at old next new
    unfolding entries
    node_wrote new kind x y ek ex ey e =
        let f = trees_of l v o (rest_of n sets 0) in
        let kids : x ≡ children f = ex ∙ sym (grow_children _ (rest_of n sets 0) ∙ each_length (listed code_count) (take n sets) ∙ length-take-le n sets room) in
        let nodes : y ≡ suc (sizes f) = omega (arith, node_next) in
        let four : (at + 1) * 4 ≡ at * 4 + 4 = omega arith in
        let size' = entries_all_length f in
        let long = here.ready.long in
        subst (λ (t : Tree). WroteTree t at old next new) (sym node_is)
        (record {
          next = omega (arith, node_next);
          block =
              e ∙ ap (λ (b : List ℕ). with_entry b at kind x y) parts_written
              ∙ laid_before (at * 4) ((at + 1) * 4) (entry kind x y) (entries_all f) old four (omega (arith, node_room))
              ∙ (λ j. laid (at * 4) (entry (ek j) (kids j) (nodes j) ++ entries_all f) old);
        })
