-- What judging says, from what an accepted call knows and from what the rows tell.
use Prim.Native.Nat.{ℕ, ◌≤◌}
use native.Mathlib.Nat.{zero-add}
use native.Mathlib.Omega.{arith}
use mathlib.Core.List.{List}
use mathlib.Core.Path.{◌≡◌, sym, ap, ◌∙◌, subst}
use mathlib.Core.Bool.{Bool, true, false, false≢true}
use lib.ListN.{length}
use Rattle.rules.specs.Heartbeats.{without_heartbeats}
use Rattle.rules.specs.Trees.{Tree, size, In}
use Rattle.rules.specs.TreeBlock.{size_at, tree_block}
use Rattle.rules.specs.Calls.{after, cleared, judging, VerdictOf, JudgeSays}
use Rattle.rules.specs.declared.Verdict.{Verdict}
use Rattle.rules.specs.declared.Verdict.TheVariants.{Fits, Misfit}
use Rattle.rules.proofs.FormedLaws.{FormedTree, formed_tree, formed_one}
use Rattle.rules.proofs.HeartbeatLaws.{without_short}
use Rattle.judge_rows.specs.Rows.{Says}
use Rattle.judge_subtrees.specs.Entries.{Subtree}
use Rattle.judge_fits.specs.Fits.{Nodes}
use Rattle.judge_fits.specs.Fits.{FitSays}
use Rattle.judge_subtrees.proofs.EntryLaws.{holds_size, size_some, every_entry}
use Rattle.judge_call.proofs.AcceptLaws.{Accepted, judging_given}
use Rattle.std.specs.Prelude.{Ok}
use Rattle.rules.specs.Refusals.{Answer}

module _ (b e work : List ℕ) where
  module _ (m : ℕ) (call : Ok m ≡ judging b e work) where
    given : Accepted b e work
    given = judging_given b e work m (sym call)

    pub judge_long : length b ≡ 512
    judge_long = given.long

    pub judge_short : length e ≤ 63
    judge_short = given.short

    module _ (n : ℕ) (len : n ≡ size_at b 0) where
      -- every entry holds a tree
      pub judge_nodes : Nodes b (without_heartbeats e) work n
      judge_nodes =
          let g = given in
          let found = formed_tree b g.nodes g.formed in
          let t : Tree = found.0 in
          let f : FormedTree b g.nodes t = found.1 in
          let fits = f.fits in
          let q : size t ≡ n = sym (len ∙ holds_size t b 0 f.held) in
          record {
            sized = record { block = g.long; short = omega (arith, g.short, without_short e); room = g.room };
            each = λ v l. subst (Subtree b v) (zero-add (size t) ∙ q) (every_entry t b 0 v f.held f.well_formed (omega arith) (omega arith));
            some = omega (arith, size_some t);
            few = omega arith;
          }

      -- what the test says of the tree whose block this is
      tree_says : (r : Bool) → FitSays b n (without_heartbeats e) r → (t : Tree) → tree_block t ≡ b → Says r (In t (without_heartbeats e))
      unfolding FitSays
      tree_says r says t block =
          let g = given in
          let f = formed_one b g.nodes t g.formed block in
          says t f.held (sym (len ∙ holds_size t b 0 f.held)) f.well_formed

      module _ (r : Bool) (work' : List ℕ) (says : FitSays b n (without_heartbeats e) r) (wiped : work' ≡ cleared 8128 work) where
        given_says : (v : Verdict) → VerdictOf (Ok m) b e (Ok v) → JudgeSays b e work (Ok v) work'
        given_says v s = record {
          verdict = subst (λ (x : Answer). VerdictOf x b e (Ok v)) call s;
          memory = wiped ∙ ap (λ (x : Answer). after x (cleared 8128 work) work) call;
        }

        pub judge_fits : r ≡ true → JudgeSays b e work (Ok Fits) work'
        judge_fits y = given_says Fits (λ t block. (tree_says r says t block).0 y)

        pub judge_misfit : r ≡ false → JudgeSays b e work (Ok Misfit) work'
        judge_misfit y = given_says Misfit (λ t block i. false≢true (sym y ∙ (tree_says r says t block).1 i))
