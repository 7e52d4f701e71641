-- What is true of the very bytes that mining writes, where it accepts.
use mathlib.Core.Path.{◌≡◌, refl, sym, ◌∙◌, ap, subst}
use mathlib.Core.List.{List, ◌++◌}
use Prim.Native.Nat.{ℕ, ◌+◌, ◌-◌, ◌*◌, ◌≤◌}
use native.Mathlib.Omega.{arith}
use lib.ListN.{length, take, drop}
use lib.Seq.{take_at, drop_at}
use lib.Dec.{leb}
use Rattle.rules.specs.Words.{Has}
use Rattle.rules.specs.Heartbeats.{heartbeat, without_heartbeats}
use Rattle.rules.specs.Trees.{Tree, In, labels, size}
use Rattle.rules.specs.Mining.{Episode, occurring}
use Rattle.rules.specs.LogBlock.{log_episodes, log_events, log_sized}
use Rattle.rules.specs.TreeBlock.{tree_block}
use Rattle.rules.specs.Calls.{code_count, entry_count, told, after, cleared, log_sound, mining, tree_of, checking, MineSays}
use Rattle.rules.proofs.AnswerLaws.{demand_given, gives_same, refused_gives}
use Rattle.rules.proofs.Distinct.{count_of}
use Rattle.rules.proofs.ListLaws.{each_has}
use Rattle.rules.proofs.Occurring.{Below}
use Rattle.rules.proofs.HeartbeatLaws.{Quiet, events_quiet, events_below, quiet_code}
use Rattle.rules.proofs.Size.{mined_size}
use Rattle.rules.proofs.MinedTree as bound
use Rattle.rules.proofs.Fitness.{mined_fits}
use Rattle.rules.proofs.Leaves.{one_leaf, no_leaf}
use Rattle.rules.proofs.TreeBlockLaws.{tree_block_length, block_one}
use Rattle.log_episodes.proofs.EpisodeLaws.{log_codes}
use Rattle.tree_check.proofs.Accepted.{mined_accepted}
use Rattle.std.specs.Prelude.{Ok, Err}
use Rattle.rules.specs.Refusals.{Answer}
use Rattle.rules.specs.declared.Reason.TheVariants.{LogLength, OutLength, WorkLength}

told_given : (a : Answer) (m n : ℕ) → Ok n ≡ told a m → ((end : ℕ) × (a ≡ Ok end)) × (n ≡ m)
told_given (Ok end) m n e = ((end, refl), gives_same n m e)
told_given (Err refusal) m n e = refused_gives refusal n (sym e)

module _ (log out work : List ℕ) (n : ℕ) (out' work' : List ℕ) (says : MineSays 1 log out work (Ok n) out' work') where
  accepted : ((end : ℕ) × (mining 1 log out work ≡ Ok end)) × (n ≡ size (tree_of 1 log))
  accepted = told_given (mining 1 log out work) (size (tree_of 1 log)) n says.answer

  -- the log is sound
  sound : (end : ℕ) × (log_sound 1 log ≡ Ok end)
  unfolding mining
  sound =
      let end = accepted.0.0 in
      let a = demand_given (log_sized log) LogLength 0 _ end accepted.0.1 in
      let b = demand_given (leb 512 (length out)) OutLength 0 _ end a.1 in
      (end, (demand_given (leb 16384 (length work)) WorkLength 0 (log_sound 1 log) end b.1).1)

  pub codes_below : Below code_count (log_events 1 log)
  codes_below = events_below code_count (log_episodes 1 log) (log_codes 1 log sound.0 (omega arith) sound.1)

  no_heartbeat : Quiet (log_events 1 log)
  no_heartbeat = events_quiet (log_episodes 1 log)

  whole_block_lem : out' ≡ tree_block (tree_of 1 log) ++ drop 512 out
  whole_block_lem = says.block ∙ ap (λ (a : Answer). after a (tree_block (tree_of 1 log) ++ drop 512 out) out) accepted.0.1

  -- THEOREM: the first 512 bytes are the block of the log's tree
  pub block_written : take 512 out' ≡ tree_block (tree_of 1 log)
  block_written = ap (take 512) whole_block_lem ∙ take_at (tree_block (tree_of 1 log)) (drop 512 out) 512 (tree_block_length (tree_of 1 log))

  -- THEOREM: nothing beyond them is written
  pub beyond_kept : drop 512 out' ≡ drop 512 out
  beyond_kept = ap (drop 512) whole_block_lem ∙ drop_at (tree_block (tree_of 1 log)) (drop 512 out) 512 (tree_block_length (tree_of 1 log))

  -- THEOREM: the first 16,384 bytes of the work are zero, the rest as found
  pub work_cleared : work' ≡ cleared 16384 work
  work_cleared = says.memory ∙ ap (λ (a : Answer). after a (cleared 16384 work) work) accepted.0.1

  -- THEOREM: checking accepts them, and counts the nodes that mining answered
  pub block_checked : checking (take 512 out') ≡ Ok n
  block_checked = ap checking block_written ∙ mined_accepted (log_events 1 log) codes_below no_heartbeat ∙ ap Ok (sym accepted.1)

  fits : size (tree_of 1 log) ≤ entry_count
  fits = omega (arith, bound.mined_fits code_count (log_events 1 log) codes_below (omega arith))

  -- THEOREM: at most 4 * 31 - 1 nodes, one of the codes being the heartbeat
  pub nodes_few : n + 1 ≤ 4 * (code_count - 1)
  nodes_few = omega (arith, accepted.1, bound.quiet_fits code_count (log_events 1 log) codes_below no_heartbeat (omega arith))

  -- THEOREM: at most 4 m - 1 for m codes that occur
  pub nodes_bound : 1 ≤ length (occurring code_count (log_events 1 log)) → n + 1 ≤ 4 * length (occurring code_count (log_events 1 log))
  nodes_bound h = omega (arith, accepted.1, mined_size code_count (log_events 1 log) codes_below h)

  -- whatever tree the bytes are the block of
  module _ (u : Tree) (e : tree_block u ≡ take 512 out') where
    one_tree : tree_of 1 log ≡ u
    one_tree = block_one (tree_of 1 log) u fits (sym (e ∙ block_written))

    -- THEOREM: every record of the log, its heartbeats left out, is in its language
    pub episodes_fit : (t : Episode) → Has t (log_episodes 1 log) → In u (without_heartbeats t)
    episodes_fit t i =
        subst (λ (x : Tree). In x (without_heartbeats t)) one_tree (mined_fits code_count (log_events 1 log) codes_below (without_heartbeats t) (each_has without_heartbeats t (log_episodes 1 log) i))

    -- THEOREM: each code that occurs among the events is on exactly one leaf, and no other code on any
    pub code_once : (c : ℕ) → Has c (occurring code_count (log_events 1 log)) → count_of c (labels u) ≡ 1
    code_once c i = subst (λ (x : Tree). count_of c (labels x) ≡ 1) one_tree (one_leaf code_count (log_events 1 log) codes_below c i)

    pub code_never : (c : ℕ) → (Has c (occurring code_count (log_events 1 log)) → ⊥) → count_of c (labels u) ≡ 0
    code_never c h = subst (λ (x : Tree). count_of c (labels x) ≡ 0) one_tree (no_leaf code_count (log_events 1 log) codes_below c h)

    -- THEOREM: so the heartbeat is on none
    pub heartbeat_never : count_of heartbeat (labels u) ≡ 0
    heartbeat_never = code_never heartbeat (λ i. (quiet_code code_count (log_events 1 log) no_heartbeat heartbeat i).1 refl)
