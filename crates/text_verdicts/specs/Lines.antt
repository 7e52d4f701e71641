-- What has been printed so far of the verdicts on a log.
use Rattle.std.specs.Prelude.{◌≡◌, List, ◌++◌, Bool, true, false, Result, Ok, Err, ℕ, ◌+◌, ◌*◌, length}
use Rattle.rules.specs.Trees.{Tree}
use Rattle.rules.specs.TreeBlock.{tree_block}
use Rattle.rules.specs.LogBlock.{log_episodes}
use Rattle.rules.specs.Listing.{verdict_lines}
use Rattle.rules.specs.Printed.{Told}
use Rattle.rules.specs.declared.Refusal.{Refusal}
use Rattle.rules.specs.declared.Verdict.{Verdict}
use Rattle.rules.specs.declared.Verdict.TheVariants.{Fits, Misfit}
use Rattle.text_writing.specs.Writing.{Wrote}

-- what is printed of a verdict; an episode of a log that was read is not refused
abbrev pub fitting : Result Verdict Refusal → Bool
fitting (Ok Fits) = true
fitting (Ok Misfit) = false
fitting (Err refusal) = false

-- of the episodes `whole`, all but `rest` have their lines: those numbered from `first` up to n, written from a place on
pub record Lines (b : List ℕ) (whole rest : List (List ℕ)) (first n : ℕ) (old : List ℕ) (at : ℕ) (new : List ℕ) (r : ℕ) : Type 0 where
  pub said : List Bool
  pub count : n ≡ first + length said
  pub wrote : Wrote (13 * length said) old at (verdict_lines first said) new r
  pub right : (t : Tree) → tree_block t ≡ b → (fs : List Bool) → Told t rest fs → Told t whole (said ++ fs)

-- every episode of a log has its line
pub record LogLines (b log old new : List ℕ) (r : ℕ) : Type 0 where
  pub said : List Bool
  pub wrote : Wrote 53040 old 0 (verdict_lines 1 said) new r
  pub right : (t : Tree) → tree_block t ≡ b → Told t (log_episodes 1 log) said
