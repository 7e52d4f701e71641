-- A block passes the rules for a tree exactly where it holds a well-formed tree with nothing after it.
use mathlib.Core.Path.{◌≡◌, refl, sym, ap, subst, ◌∙◌}
use mathlib.Core.List.{List, []}
use Prim.Native.Nat.{ℕ, suc, ◌-◌, ◌*◌, ◌≤◌}
use native.Mathlib.Nat.{zero-add}
use native.Mathlib.Omega.{arith}
use lib.Dec.{leb}
use borrow.Author.Tests.{leb-true, le-leb}
use Rattle.rules.specs.Words.{part}
use Rattle.rules.specs.Trees.{Tree, size, labels}
use Rattle.rules.specs.WellFormed.{WellFormed}
use Rattle.rules.specs.LogBlock.{first_set}
use Rattle.rules.specs.TreeBlock.{Sound, upto, broken, root_of, tree_block}
use Rattle.rules.specs.Holds.{Holds}
use Rattle.rules.specs.Calls.{code_count, entry_count, formed_by, formed}
use Rattle.rules.proofs.AnswerLaws.{demand_given, gives_same, refused_gives}
use Rattle.rules.proofs.Fresh.{onto, fresh_distinct, distinct_fresh}
use Rattle.rules.proofs.NodeLaws.{TreeHeld, node_holds, node_passes}
use Rattle.rules.proofs.TreeBlockLaws.{held_one}
use Rattle.std.specs.Prelude.{Ok}
use Rattle.rules.specs.declared.Reason.TheVariants.{BadTree}

-- no byte is set after n entries up to byte 508
abbrev pub EmptyAfter : List ℕ → ℕ → Type 0
EmptyAfter b n = 508 - n * 4 ≤ first_set (part b (n * 4) (508 - n * 4))

-- the block holds the well-formed tree t of n nodes, and nothing after it
pub record FormedTree (b : List ℕ) (n : ℕ) (t : Tree) : Type 0 where
  pub well_formed : WellFormed code_count t
  pub fits : size t ≤ entry_count
  pub held : Holds t b 0
  pub empty : EmptyAfter b (size t)
  pub count : size t ≡ n

upto_same : (n k : ℕ) (l : List ℕ) (b : List ℕ) → formed_by (upto k l) b ≡ Ok n → (k ≡ n) × EmptyAfter b k
upto_same n k l b e =
    let g = demand_given (leb (508 - k * 4) (first_set (part b (k * 4) (508 - k * 4)))) BadTree 0 (Ok k) n e in
    (gives_same k n g.1, leb-true (508 - k * 4) (first_set (part b (k * 4) (508 - k * 4))) g.0)

formed_by_lem : (b : List ℕ) (n : ℕ) (x : Sound) → root_of entry_count code_count b ≡ x → formed_by x b ≡ Ok n → (t : Tree) × FormedTree b n t
formed_by_lem b n broken r e = refused_gives (record { reason = BadTree; place = 0 }) n e
formed_by_lem b n (upto k l) r e =
    let s = upto_same n k l b e in
    let found = node_holds entry_count code_count b (suc (2 * entry_count)) 0 k [] l r in
    let t : Tree = found.0 in
    let h : TreeHeld entry_count code_count b 0 [] k l t = found.1 in
    let ends : k ≡ size t = h.ends ∙ zero-add (size t) in (
      t,
      record {
        well_formed = record { wide = h.wide; coded = h.coded; distinct = fresh_distinct (labels t) [] h.fresh };
        fits = let f = h.fits in omega arith;
        held = h.held;
        empty = subst (EmptyAfter b) ends s.1;
        count = sym ends ∙ s.0;
      },
    )

-- THEOREM: a block that passes the rules holds a well-formed tree
pub formed_tree : (b : List ℕ) (n : ℕ) → formed b ≡ Ok n → (t : Tree) × FormedTree b n t
unfolding formed
formed_tree b n e = formed_by_lem b n (root_of entry_count code_count b) refl e

-- THEOREM: a block that holds a well-formed tree passes the rules
pub tree_formed : (b : List ℕ) (n : ℕ) (t : Tree) → FormedTree b n t → formed b ≡ Ok n
unfolding formed
tree_formed b n t h =
    let w = h.well_formed in
    let root : root_of entry_count code_count b ≡ upto (size t) (onto (labels t) []) =
    node_passes entry_count code_count b t (suc (2 * entry_count)) 0 [] h.held w.wide w.coded (distinct_fresh (labels t) [] w.distinct (λ c _. refl))
    (let f = h.fits in omega arith) (let f = h.fits in omega arith)
    ∙ ap (λ (k : ℕ). upto k (onto (labels t) [])) (zero-add (size t)) in
    ap (λ (x : Sound). formed_by x b) root ∙ simp (le-leb _ _ h.empty) (ap Ok h.count)

-- THEOREM: the tree whose block passes the rules is the one that it holds
pub formed_one : (b : List ℕ) (n : ℕ) (t : Tree) → formed b ≡ Ok n → tree_block t ≡ b → FormedTree b n t
formed_one b n t e block =
    let found = formed_tree b n e in
    subst (FormedTree b n) (held_one found.0 t b found.1.held found.1.fits block) found.1
