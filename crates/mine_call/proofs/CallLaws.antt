-- The call: its refusals in their order, and what an accepted one leaves.
use mathlib.Core.Path.{◌≡◌, sym, ◌∙◌, ap, subst}
use mathlib.Core.List.{List, ◌++◌}
use mathlib.Core.Bool.{Bool, true, false, ◌&&◌}
use Prim.Native.Nat.{ℕ, zero, suc, ◌-◌, ◌≤◌, ◌<◌}
use native.Mathlib.Nat.{zero-add}
use native.Mathlib.Omega.{arith}
use lib.ListN.{length, drop, replicate}
use borrow.Author.Tests.{lt-leb, le-leb}
use lib.Dec.{ltb}
use Rattle.rules.specs.Words.{Has, each, mem, zeros}
use Rattle.rules.specs.Heartbeats.{without_heartbeats}
use Rattle.rules.specs.Trees.{Tree, size}
use Rattle.rules.specs.Mining.{Log, is_empty, mined}
use Rattle.rules.specs.LogBlock.{sealed, log_sized, log_events}
use Rattle.rules.specs.TreeBlock.{entries, tree_block}
use Rattle.rules.specs.Calls.{told, after, cleared, log_sound, mining, tree_of, MineSays, code_count}
use Rattle.rules.proofs.ListLaws.{has_each}
use Rattle.rules.proofs.SameEpisodes.{Same, any_same, mined_same}
use Rattle.rules.proofs.Occurring.{Below}
use Rattle.rules.proofs.HeartbeatLaws.{events_below}
use Rattle.mine_places.specs.Places.{places_in, episode_of, episodes_of, Recorded, Listed}
use Rattle.mine_places.proofs.ListLaws.{all_has}
use Rattle.mine_gather.specs.Gathering.{listed_by, Lists}
use Rattle.rules.proofs.MinedTree.{mined_fits}
use Rattle.mine_views.specs.declared.View.{View}
use Rattle.mine_views.specs.Sublogs.{Sight, shown, sight, sublog, Tight, root_sight}
use Rattle.mine_views.proofs.HeartbeatLaws.{quiet_tight, quiet_tree}
use Rattle.mine_bases.specs.Writing.{laid}
use Rattle.mine_nodes.specs.Ready.{Ready}
use Rattle.std.specs.Prelude.{Ok, Err}
use Rattle.rules.specs.Refusals.{Answer, refused}
use Rattle.rules.specs.declared.Refusal.{Refusal}
use Rattle.rules.specs.declared.Reason.TheVariants.{LogLength, OutLength, WorkLength}

-- ---- the refusals, by the tests that lead to each

module _ (log out work : List ℕ) where
  module _ (t : Bool) (call : t ≡ log_sized log) where
    pub mining_length : t ≡ false → mining 1 log out work ≡ refused LogLength 0
    unfolding mining
    mining_length h = simp (sym call ∙ h)

    module _ (whole : t ≡ true) where
      pub mining_out : length out < 512 → mining 1 log out work ≡ refused OutLength 0
      unfolding mining
      mining_out h = simp (sym call ∙ whole, lt-leb _ _ h)

      module _ (o : 512 ≤ length out) where
        pub mining_work : length work < 16384 → mining 1 log out work ≡ refused WorkLength 0
        unfolding mining
        mining_work h = simp (sym call ∙ whole, le-leb _ _ o, lt-leb _ _ h)

        pub mining_log : 16384 ≤ length work → mining 1 log out work ≡ log_sound 1 log
        unfolding mining
        mining_log h = simp (sym call ∙ whole, le-leb _ _ o, le-leb _ _ h)

  -- a refusal writes nothing
  pub refused_says : (refusal : Refusal) → mining 1 log out work ≡ Err refusal → MineSays 1 log out work (Err refusal) out work
  refused_says refusal e =
      record {
        answer = sym (ap (λ (a : Answer). told a (size (tree_of 1 log))) e);
        block = sym (ap (λ (a : Answer). after a (tree_block (tree_of 1 log) ++ drop 512 out) out) e);
        memory = sym (ap (λ (a : Answer). after a (cleared 16384 work) work) e);
      }

  pub gives_says : (end : ℕ) → mining 1 log out work ≡ Ok end → (n : ℕ) → n ≡ size (tree_of 1 log) → (out' work' : List ℕ) → out' ≡ tree_block (tree_of 1 log) ++ drop 512 out → work' ≡ cleared 16384 work →
      MineSays 1 log out work (Ok n) out' work'
  gives_says end e n f out' work' g h =
      record {
        answer = ap Ok f ∙ sym (ap (λ (a : Answer). told a (size (tree_of 1 log))) e);
        block = g ∙ sym (ap (λ (a : Answer). after a (tree_block (tree_of 1 log) ++ drop 512 out) out) e);
        memory = h ∙ sym (ap (λ (a : Answer). after a (cleared 16384 work) work) e);
      }

-- ---- the listed episodes

-- their codes are codes
pub listed_below : (w : ℕ) (log places : List ℕ) → Listed w log places → Below code_count (episodes_of w log places)
listed_below w log places l t m c k =
    let h = has_each (episode_of w log) t (places_in places) m in
    let r = all_has (Recorded w log) (places_in places) l.all h.0 h.1 in
    all_has (λ x. x < code_count) (episode_of w log h.0) r.events.codes c (subst (Has c) h.2 k)

-- they have the tree of the log
pub same_tree : (w : ℕ) (log : List ℕ) (n : ℕ) (work : List ℕ) → Lists w log n work → mined code_count (each without_heartbeats (listed_by w log n work)) ≡ tree_of w log
same_tree w log n work s = mined_same code_count (each without_heartbeats (listed_by w log n work)) (log_events w log) s.same

-- every list of them has the root's view of the log
root_same : (l k : Log) → Same l k → root_sight code_count l ≡ root_sight code_count k
root_same l k s = λ i. record { kept = λ c. ltb c code_count && any_same code_count l k s (mem c) i; breaks = λ _. false; bare = any_same code_count l k s is_empty i }

pub root_again : (w : ℕ) (log : List ℕ) (n k : ℕ) (work work' : List ℕ) (met : Sight) → Lists w log n work → Lists w log k work' →
    met ≡ root_sight code_count (each without_heartbeats (listed_by w log n work)) → met ≡ root_sight code_count (each without_heartbeats (listed_by w log k work'))
root_again w log n k work work' met a b e =
    e ∙ root_same (each without_heartbeats (listed_by w log n work)) (log_events w log) a.same ∙ sym (root_same (each without_heartbeats (listed_by w log k work')) (log_events w log) b.same)

-- ---- the root

module _ (l : Log) (small : Below code_count l) (v : View) (sees : sight v ≡ root_sight code_count (each without_heartbeats l)) where
  pub root_mined : mined code_count (sublog v l) ≡ mined code_count (each without_heartbeats l)
  root_mined = ap (λ (s : Sight). mined code_count (shown s l)) sees ∙ quiet_tree code_count l small

  pub root_ready : (tree : List ℕ) → length tree ≡ 512 → Ready l v tree 0
  root_ready tree long =
      record {
        tight = subst (λ (s : Sight). Tight code_count s l) (sym sees) (quiet_tight code_count l small);
        long = long;
        room = omega (arith, ap size root_mined, mined_fits code_count (each without_heartbeats l) (events_below code_count l small) (omega arith));
      }

-- ---- the block

pub filled : (n m : ℕ) (new : List ℕ) → new ≡ replicate n 0 → n ≡ m → new ≡ zeros m
unfolding zeros
filled n m new e f = e ∙ ap (λ (k : ℕ). replicate k 0) f

drop_zeros : (k n : ℕ) → drop k (zeros n) ≡ zeros (n - k)
unfolding zeros
drop_zeros zero n = let e : n ≡ n - 0 = omega arith in ap zeros e
drop_zeros (suc k) zero = let e : zero ≡ zero - suc k = omega arith in ap zeros e
drop_zeros (suc k) (suc n) = let e : n - k ≡ suc n - suc k = omega arith in drop_zeros k n ∙ ap zeros e

-- a tree written into zeros and sealed is the tree's block
pub block_is : (t u : Tree) (z b new : List ℕ) → t ≡ u → z ≡ zeros 512 → b ≡ laid 0 (entries t) z → new ≡ sealed b → new ≡ tree_block u
unfolding tree_block
block_is t u z b new e f g h =
    h ∙ ap sealed (g ∙ ap (λ (x : List ℕ). laid 0 (entries t) x) f
    ∙ ap (λ (x : List ℕ). entries t ++ x) (ap (λ (k : ℕ). drop k (zeros 512)) (zero-add (length (entries t))) ∙ drop_zeros (length (entries t)) 512))
    ∙ ap (λ (x : Tree). sealed (entries x ++ zeros (512 - length (entries x)))) e
