-- A block whose check is right is what its own payload is sealed to.
use mathlib.Core.Path.{◌≡◌, refl, sym, ap, ap₂, ◌∙◌}
use mathlib.Core.List.{List, [], ◌∷◌, ◌++◌}
use Prim.Native.Nat.{ℕ, ◌+◌, ◌*◌, ◌/◌, ◌%◌, ◌<◌}
use native.Mathlib.Nat.{div-div-eq-div-mul, mod-eq_of_lt}
use native.Mathlib.Omega.{arith}
use lib.ListN.{length, get_or, take, drop, take-append-drop, length-drop}
use lib.Seq.{get_or-take, get_or-drop}
use borrow.Author.Tests.{eqb-true}
use mathlib.Core.Bool.{true}
use Rattle.rules.specs.LogBlock.{weighed, stored_check, check_right, four_bytes, sealed}
use Rattle.block_seal.proofs.CheckLaws.{weighed_same}

-- the check reads the first 508 bytes alone
pub sealed_same : (b b' : List ℕ) → take 508 b ≡ take 508 b' → sealed b ≡ sealed b'
unfolding sealed
sealed_same b b' e =
    let low : (j : ℕ) → j < 508 → get_or b j 0 ≡ get_or b' j 0 = λ j h. sym (get_or-take 508 b j 0 h) ∙ ap (λ (l : List ℕ). get_or l j 0) e ∙ get_or-take 508 b' j 0 h in
    ap₂ (λ (l : List ℕ) (w : ℕ). l ++ four_bytes w) e (weighed_same b' b 508 low)

low_digit : (a q : ℕ) → a < 256 → (a + 256 * q) % 256 ≡ a
low_digit a q h = omega arith

high_digits : (a q : ℕ) → a < 256 → (a + 256 * q) / 256 ≡ q
high_digits a q h = omega arith

-- four bytes are those of the number that they make
digits : (a b c d : ℕ) → a < 256 → b < 256 → c < 256 → d < 256 → four_bytes (a + 256 * b + 65536 * c + 16777216 * d) ≡ a ∷ b ∷ c ∷ d ∷ []
digits a b c d ha hb hc hd =
    let w : ℕ = a + 256 * (b + 256 * (c + 256 * d)) in
    let one : w / 256 ≡ b + 256 * (c + 256 * d) = high_digits a (b + 256 * (c + 256 * d)) ha in
    let two : w / 65536 ≡ c + 256 * d = sym (div-div-eq-div-mul w 256 256) ∙ ap (λ (x : ℕ). x / 256) one ∙ high_digits b (c + 256 * d) hb in
    let three : w / 16777216 ≡ d = sym (div-div-eq-div-mul w 65536 256) ∙ ap (λ (x : ℕ). x / 256) two ∙ high_digits c d hc in
    let first : w % 256 ≡ a = low_digit a (b + 256 * (c + 256 * d)) ha in
    let second : w / 256 % 256 ≡ b = ap (λ (x : ℕ). x % 256) one ∙ low_digit b (c + 256 * d) hb in
    let third : w / 65536 % 256 ≡ c = ap (λ (x : ℕ). x % 256) two ∙ low_digit c d hc in
    let fourth : w / 16777216 % 256 ≡ d = ap (λ (x : ℕ). x % 256) three ∙ mod-eq_of_lt hd in
    ap four_bytes (let z : a + 256 * b + 65536 * c + 16777216 * d ≡ w = omega arith in z)
    ∙ (λ i. first i ∷ second i ∷ third i ∷ fourth i ∷ [])

last_four : (l : List ℕ) → length l ≡ 4 → l ≡ get_or l 0 0 ∷ get_or l 1 0 ∷ get_or l 2 0 ∷ get_or l 3 0 ∷ []
last_four (x ∷ y ∷ z ∷ w ∷ []) h = refl
last_four (x ∷ y ∷ z ∷ w ∷ v ∷ l) h = absurd (omega arith)
last_four (x ∷ y ∷ z ∷ []) h = absurd (omega arith)
last_four (x ∷ y ∷ []) h = absurd (omega arith)
last_four (x ∷ []) h = absurd (omega arith)
last_four [] h = absurd (omega arith)

pub right_sealed : (b : List ℕ) → length b ≡ 512 → ((i : ℕ) → get_or b i 0 < 256) → check_right b ≡ true → sealed b ≡ b
unfolding sealed
right_sealed b l bytes e =
    let stored : stored_check b ≡ weighed b 508 = eqb-true (stored_check b) (weighed b 508) e in
    let end : drop 508 b ≡ get_or b 508 0 ∷ get_or b 509 0 ∷ get_or b 510 0 ∷ get_or b 511 0 ∷ [] =
    last_four (drop 508 b) (let k = length-drop 508 b in omega arith)
    ∙ (λ i. get_or-drop 508 b 0 0 i ∷ get_or-drop 508 b 1 0 i ∷ get_or-drop 508 b 2 0 i ∷ get_or-drop 508 b 3 0 i ∷ []) in
    ap (λ (w : ℕ). take 508 b ++ four_bytes w) (sym stored)
    ∙ ap (λ (x : List ℕ). take 508 b ++ x) (digits (get_or b 508 0) (get_or b 509 0) (get_or b 510 0) (get_or b 511 0) (bytes 508) (bytes 509) (bytes 510) (bytes 511) ∙ sym end)
    ∙ take-append-drop 508 b
