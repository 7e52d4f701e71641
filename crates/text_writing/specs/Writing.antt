-- What a function that writes text at a place promises.
use Rattle.std.specs.Prelude.{◌≡◌, List, ℕ, ◌+◌, ◌≤◌, length}
use Rattle.rules.specs.Words.{overlaid}

-- the text s, of at most n bytes, stands from a place on, r is the place after it, and all else is as it was
pub record Wrote (n : ℕ) (old : List ℕ) (at : ℕ) (s new : List ℕ) (r : ℕ) : Type 0 where
  pub next : r ≡ at + length s
  pub most : r ≤ at + n
  pub text : new ≡ overlaid old at s
  pub kept : length new ≡ length old
