-- What the programs print, as ASCII bytes.
use Rattle.std.specs.Prelude.{List, [], ◌∷◌, ◌++◌, Bool, ℕ, zero, suc, ◌+◌, ◌/◌, ◌%◌, ltb, eqb}
use Rattle.rules.specs.Words.{pick}
use Rattle.rules.specs.Trees.{size}
use Rattle.rules.specs.TreeBlock.{kind_at, argument_at, size_at}

-- n in decimal, of at most d digits, without leading zeros
unfoldable pub decimal : ℕ → ℕ → List ℕ
decimal zero n = []
decimal (suc d) n = pick (ltb n 10) ((48 + n % 10) ∷ []) (decimal d (n / 10) ++ ((48 + n % 10) ∷ []))

-- " tau ", " act ", " xor ", " seq ", " par ", " loop "
abbrev pub kind_name : ℕ → List ℕ
kind_name kind =
    pick (eqb kind 1) (32 ∷ 116 ∷ 97 ∷ 117 ∷ 32 ∷ [])
    (pick (eqb kind 2) (32 ∷ 97 ∷ 99 ∷ 116 ∷ 32 ∷ [])
    (pick (eqb kind 3) (32 ∷ 120 ∷ 111 ∷ 114 ∷ 32 ∷ [])
    (pick (eqb kind 4) (32 ∷ 115 ∷ 101 ∷ 113 ∷ 32 ∷ [])
    (pick (eqb kind 5) (32 ∷ 112 ∷ 97 ∷ 114 ∷ 32 ∷ []) (32 ∷ 108 ∷ 111 ∷ 111 ∷ 112 ∷ 32 ∷ [])))))

-- argument and size
unfoldable pub entry_numbers : ℕ → ℕ → List ℕ
entry_numbers argument size = decimal 3 argument ++ (32 ∷ []) ++ decimal 3 size ++ (10 ∷ [])

-- entry, kind, argument, size
unfoldable pub entry_line : List ℕ → ℕ → List ℕ
entry_line b v = decimal 3 v ++ kind_name (kind_at b v) ++ entry_numbers (argument_at b v) (size_at b v)

-- n lines from entry v on
unfoldable pub entry_lines : ℕ → List ℕ → ℕ → List ℕ
entry_lines zero b v = []
entry_lines (suc n) b v = entry_line b v ++ entry_lines n b (v + 1)

-- "nodes ", the count, and a line an entry
unfoldable pub listing : List ℕ → ℕ → List ℕ
listing b n = (110 ∷ 111 ∷ 100 ∷ 101 ∷ 115 ∷ 32 ∷ []) ++ decimal 3 n ++ (10 ∷ []) ++ entry_lines n b 0

-- "refused N at P"
unfoldable pub refusal_line : ℕ → ℕ → List ℕ
refusal_line number place =
    (114 ∷ 101 ∷ 102 ∷ 117 ∷ 115 ∷ 101 ∷ 100 ∷ 32 ∷ []) ++ decimal 3 number ++ (32 ∷ 97 ∷ 116 ∷ 32 ∷ []) ++ decimal 5 place ++ (10 ∷ [])

-- " fits" or " misfit" after the episode's number
unfoldable pub verdict_line : ℕ → Bool → List ℕ
verdict_line n fits =
    decimal 5 n ++ pick fits (32 ∷ 102 ∷ 105 ∷ 116 ∷ 115 ∷ 10 ∷ []) (32 ∷ 109 ∷ 105 ∷ 115 ∷ 102 ∷ 105 ∷ 116 ∷ 10 ∷ [])

-- a line a verdict, counted from n
unfoldable pub verdict_lines : ℕ → List Bool → List ℕ
verdict_lines n [] = []
verdict_lines n (f ∷ fs) = verdict_line n f ++ verdict_lines (n + 1) fs
