-- What mining writes and answers, printed, is the text of the log.
use mathlib.Core.Path.{◌≡◌, refl, sym, ap, subst, ◌∙◌}
use mathlib.Core.List.{List, ◌++◌, append-nil}
use Prim.Native.Nat.{ℕ, ◌≤◌}
use native.Mathlib.Omega.{arith}
use lib.ListN.{length, drop}
use lib.Seq.{drop-length}
use borrow.Author.Tests.{le-leb}
use Rattle.rules.specs.Trees.{size}
use Rattle.rules.specs.LogBlock.{log_sized, log_episodes, log_events}
use Rattle.rules.specs.TreeBlock.{tree_block}
use Rattle.rules.specs.Calls.{code_count, told, after, log_sound, log_reading, mining, tree_of, MineSays, entry_count}
use Rattle.rules.specs.Printed.{mined_by, mined_text}
use Rattle.rules.proofs.AnswerLaws.{demand_given}
use Rattle.rules.proofs.HeartbeatLaws.{events_below}
use Rattle.rules.proofs.MinedTree.{mined_fits}
use Rattle.log_episodes.proofs.EpisodeLaws.{log_codes}
use Rattle.text_writing.specs.Writing.{Wrote}
use Rattle.text_mined.specs.Mined.{Listable, answer_text}
use Rattle.std.specs.Prelude.{Ok, Err}
use Rattle.rules.specs.Refusals.{Answer}
use Rattle.rules.specs.declared.Reason.TheVariants.{LogLength}

-- ---- a call of mining with enough of both memories

module _ (log out work : List ℕ) (r : Answer) (out' work' : List ℕ) (says : MineSays 1 log out work r out' work')
    (block : length out ≡ 512) (room : length work ≡ 16384) where
  -- it refuses exactly where the log is refused
  as_read : mining 1 log out work ≡ log_reading 1 log
  unfolding mining log_reading
  as_read = simp (le-leb 512 (length out) (omega arith), le-leb 16384 (length work) (omega arith))

  few : (n : ℕ) → log_reading 1 log ≡ Ok n → size (tree_of 1 log) ≤ entry_count
  unfolding log_reading
  few n e =
      let sound = (demand_given (log_sized log) LogLength 0 (log_sound 1 log) n e).1 in
      omega (arith, mined_fits code_count (log_events 1 log) (events_below code_count (log_episodes 1 log) (log_codes 1 log n (omega arith) sound)) (omega arith))

  pub mined_listable : Listable r
  mined_listable = go (mining 1 log out work) refl says.answer
    where
      go : (a : Answer) → mining 1 log out work ≡ a → r ≡ told a (size (tree_of 1 log)) → Listable r
      go (Ok n) e q = subst Listable (sym q) (few n (sym as_read ∙ e))
      go (Err refusal) e q = subst Listable (sym q) tt

  pub mined_said : answer_text r out' ≡ mined_text log
  unfolding mined_text
  mined_said = go (mining 1 log out work) refl says.answer says.block ∙ ap (λ (a : Answer). mined_by a log) as_read
    where
      whole : tree_block (tree_of 1 log) ++ drop 512 out ≡ tree_block (tree_of 1 log)
      whole =
          ap (λ (s : List ℕ). tree_block (tree_of 1 log) ++ s) (ap (λ (n : ℕ). drop n out) (sym block) ∙ drop-length out)
          ∙ append-nil (tree_block (tree_of 1 log))

      go : (a : Answer) → mining 1 log out work ≡ a → r ≡ told a (size (tree_of 1 log)) → out' ≡ after a (tree_block (tree_of 1 log) ++ drop 512 out) out
          → answer_text r out' ≡ mined_by (mining 1 log out work) log
      go (Ok n) e q b = (λ i. answer_text (q i) ((b ∙ whole) i)) ∙ ap (λ (a : Answer). mined_by a log) (sym e)
      go (Err refusal) e q b = (λ i. answer_text (q i) out') ∙ ap (λ (a : Answer). mined_by a log) (sym e)

  pub mined_text_lem : {old new : List ℕ} {k : ℕ} → Wrote 2169 old 0 (answer_text r out') new k → Wrote 2169 old 0 (mined_text log) new k
  mined_text_lem {old} {new} {k} w = subst (λ (s : List ℕ). Wrote 2169 old 0 s new k) mined_said w
