-- What the words of a line say: a line is words with one blank between two.
use Rattle.std.specs.Prelude.{List, [], ◌∷◌, ℕ, zero, suc, ◌+◌, ◌-◌, ◌*◌, ◌%◌, ltb, leb, eqb}
use Rattle.rules.specs.Words.{pick}

-- the kind whose name in a listing begins with a letter: tau, act, xor, seq, par, loop
abbrev pub kind_named : ℕ → ℕ
kind_named b = pick (eqb b 116) 1 (pick (eqb b 97) 2 (pick (eqb b 120) 3 (pick (eqb b 115) 4 (pick (eqb b 112) 5 (pick (eqb b 108) 6 0)))))

-- what a word says with one byte more: a digit of a number up to a million, or the first letter of a kind
unfoldable pub grown : ℕ → ℕ → ℕ
grown n b = pick (ltb b 48) n (pick (leb b 57) (pick (ltb 100000 n) n (n * 10 + (b - 48))) (pick (eqb n 0) (kind_named b) n))

-- what word k says, where n is what it says so far
unfoldable pub number_from : List ℕ → ℕ → ℕ → ℕ
number_from [] k n = n
number_from (b ∷ t) k n = pick (eqb b 32) (pick (eqb k 0) n (number_from t (k - 1) n)) (number_from t k (pick (eqb k 0) (grown n b) n))

abbrev pub number_of : List ℕ → ℕ → ℕ
number_of line k = number_from line k 0

-- the number of words after the first
unfoldable pub values_of : List ℕ → ℕ
values_of [] = zero
values_of (b ∷ t) = pick (eqb b 32) (suc (values_of t)) (values_of t)

-- a line from value k on, which is its word k + 1; nothing where it has fewer
unfoldable pub from_value : List ℕ → ℕ → List ℕ
from_value [] k = []
from_value (b ∷ t) k = pick (eqb b 32) (pick (eqb k 0) t (from_value t (k - 1))) (from_value t k)

-- n values after word k, as bytes
unfoldable pub bytes_from : ℕ → List ℕ → ℕ → List ℕ
bytes_from zero line k = []
bytes_from (suc n) line k = number_of line (suc k) % 256 ∷ bytes_from n line (suc k)

-- all values of a line but the first ones, as bytes
abbrev pub listed : List ℕ → ℕ → List ℕ
listed line skip = bytes_from (values_of line - skip) line skip
