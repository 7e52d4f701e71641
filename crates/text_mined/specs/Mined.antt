-- What is printed of the answer of mining.
use Rattle.std.specs.Prelude.{List, ℕ, ◌≤◌, Ok, Err}
use Rattle.rules.specs.Listing.{listing, refusal_line}
use Rattle.rules.specs.Calls.{entry_count}
use Rattle.rules.specs.Refusals.{number_of, Answer}

-- no more nodes than a tree block has entries
abbrev pub Listable : Answer → Type 0
Listable (Ok n) = n ≤ entry_count
Listable (Err refusal) = Unit {0}

-- the listing of a tree block of as many nodes as were given, or the line of a refusal
abbrev pub answer_text : Answer → List ℕ → List ℕ
answer_text (Ok n) b = listing b n
answer_text (Err refusal) b = refusal_line (number_of refusal.reason) refusal.place
