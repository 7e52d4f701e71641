-- The laws of `has`. Every one is over any_below number, so over any width; only `not`, `ext`, `ones` and `trailing` name the width.
use Prim.Native.Nat.{ℕ, zero, suc, ◌+◌, ◌-◌, ◌*◌, ◌/◌, ◌%◌, ◌^◌, ◌≤◌, ◌<◌}
use native.Mathlib.Nat.{mod-lt, zero-lt-suc, div-one, mod-eq_of_lt, one-mul, pow-suc, mul-mod_left, mul-div_cancel, zero-div, div-lt_iff_lt-mul, lt_of_lt_of_le, sub-zero}
use native.Mathlib.Numerals.{one-add}
use native.Mathlib.Omega.{arith}
use mathlib.Core.Path.{◌≡◌, refl, sym, ap, ap₂, ◌∙◌, subst, fun_ext}
use mathlib.Core.Logic.{◌⊎◌, inl, inr, ⊎_elim}
use mathlib.Core.Bool.{Bool, true, false, cond, ◌||◌, ◌&&◌, not, false≢true, beq}
use borrow.Author.Tests.{lt-ltb, le-ltb}
use lib.Dec.{eqb, ltb, eqb-suc-suc, eqb-zero-suc, eqb-suc-zero}
use lib.Bits.{bit_and, bit_or, bit_xor, and_shr, or_shr, xor_shr, and_mod, or_mod, xor_mod}
use lib.Pow.{shr-shr, pow_pos, pow-lt, pow_mono}
use lib.Count.{ones, ones_step, count_trailing_zeros, under}
use lib.Arith.{lt-one}
use Rattle.code_sets.specs.Bits.{has, count, least}

-- a digit is 0 or 1
digit : (n : ℕ) → n < 2 → (n ≡ 0) ⊎ (n ≡ 1)
digit zero h = inl refl
digit (suc zero) h = inr refl
digit (suc (suc n)) h = inl (omega arith)

pub digit_mod : (n : ℕ) → (n % 2 ≡ 0) ⊎ (n % 2 ≡ 1)
digit_mod n = digit (n % 2) (mod-lt n (zero-lt-suc 1))

-- ---- the operations, place by place
module _ (op : ℕ → ℕ → ℕ) (g : Bool → Bool → Bool)
    (shr : (a b k : ℕ) → op a b / 2 ^ k ≡ op (a / 2 ^ k) (b / 2 ^ k))
    (low : (a b k : ℕ) → op a b % 2 ^ k ≡ op (a % 2 ^ k) (b % 2 ^ k))
    (t00 : eqb (op 0 0) 1 ≡ g false false) (t01 : eqb (op 0 1) 1 ≡ g false true)
    (t10 : eqb (op 1 0) 1 ≡ g true false) (t11 : eqb (op 1 1) 1 ≡ g true true) where
  digits : (p q : ℕ) → (p ≡ 0) ⊎ (p ≡ 1) → (q ≡ 0) ⊎ (q ≡ 1) → eqb (op p q) 1 ≡ g (eqb p 1) (eqb q 1)
  digits p q (inl e) (inl f) = rw (e, f) t00
  digits p q (inl e) (inr f) = rw (e, f) t01
  digits p q (inr e) (inl f) = rw (e, f) t10
  digits p q (inr e) (inr f) = rw (e, f) t11

  has_op : (a b i : ℕ) → has (op a b) i ≡ g (has a i) (has b i)
  unfolding has
  has_op a b i =
      ap (λ (x : ℕ). eqb (x % 2) 1) (shr a b i) ∙ ap (λ (x : ℕ). eqb x 1) (low (a / 2 ^ i) (b / 2 ^ i) 1)
      ∙ digits (a / 2 ^ i % 2) (b / 2 ^ i % 2) (digit_mod (a / 2 ^ i)) (digit_mod (b / 2 ^ i))

pub has_or : (a b i : ℕ) → has (bit_or a b) i ≡ (has a i || has b i)
has_or = has_op bit_or ◌||◌ or_shr or_mod refl refl refl refl

pub has_and : (a b i : ℕ) → has (bit_and a b) i ≡ (has a i && has b i)
has_and = has_op bit_and ◌&&◌ and_shr and_mod refl refl refl refl

pub has_xor : (a b i : ℕ) → has (bit_xor a b) i ≡ not (beq (has a i) (has b i))
has_xor = has_op bit_xor (λ a b. not (beq a b)) xor_shr xor_mod refl refl refl refl

-- ---- the lowest place, and the others
pub has_low : (x : ℕ) → has x 0 ≡ eqb (x % 2) 1
unfolding has
has_low x = ap (λ (y : ℕ). eqb (y % 2) 1) (div-one x)

pub has_step : (x i : ℕ) → has x (suc i) ≡ has (x / 2) i
unfolding has
has_step x i = ap (λ (y : ℕ). eqb (y % 2) 1) (ap (λ (k : ℕ). x / 2 ^ k) (sym (one-add i)) ∙ sym (shr-shr x 1 i))

pub has_zero : (i : ℕ) → has 0 i ≡ false
unfolding has
has_zero i = ap (λ (y : ℕ). eqb (y % 2) 1) (zero-div (2 ^ i))

-- one place
pub has_pow : (k i : ℕ) → has (2 ^ k) i ≡ eqb i k
has_pow zero zero = has_low 1
has_pow zero (suc i) = has_step 1 i ∙ has_zero i ∙ sym (eqb-suc-zero i)
has_pow (suc k) zero = has_low (2 ^ suc k) ∙ ap (λ (y : ℕ). eqb (y % 2) 1) (pow-suc 2 k) ∙ ap (λ (y : ℕ). eqb y 1) (mul-mod_left (2 ^ k) 2) ∙ sym (eqb-zero-suc k)
has_pow (suc k) (suc i) = has_step (2 ^ suc k) i ∙ ap (λ (y : ℕ). has y i) (ap (λ (y : ℕ). y / 2) (pow-suc 2 k) ∙ mul-div_cancel (2 ^ k) (zero-lt-suc 1)) ∙ has_pow k i ∙ sym (eqb-suc-suc i k)

-- `1 << k` at a width
pub one_shl : (w k : ℕ) → k < w → (1 * 2 ^ k) % 2 ^ w ≡ 2 ^ k
one_shl w k h = ap (λ (y : ℕ). y % 2 ^ w) (one-mul (2 ^ k)) ∙ mod-eq_of_lt (pow-lt h)

-- a place past the width
pub has_high : (w x i : ℕ) → x < 2 ^ w → w ≤ i → has x i ≡ false
unfolding has
has_high w x i h l = ap (λ (y : ℕ). eqb (y % 2) 1) (lt-one ((div-lt_iff_lt-mul (pow_pos i)).1 (subst (λ (y : ℕ). x < y) (sym (one-mul (2 ^ i))) (lt_of_lt_of_le h (pow_mono l)))))

-- `!x`
flip : (p q : ℕ) → p + q ≡ 1 → eqb q 1 ≡ not (eqb p 1)
flip zero q e = ap (λ (y : ℕ). eqb y 1) (let f : q ≡ 1 = omega arith in f)
flip (suc zero) q e = ap (λ (y : ℕ). eqb y 1) (let f : q ≡ 0 = omega arith in f)
flip (suc (suc p)) q e = absurd (omega arith)

pub has_not : (w x i : ℕ) → x < 2 ^ w → i < w → has ((2 ^ w - 1) - x) i ≡ not (has x i)
has_not zero x i h l = absurd (omega arith)
has_not (suc w) x zero h l =
    let g : x < 2 ^ w * 2 = rw (← pow-suc 2 w) h in
    has_low ((2 ^ suc w - 1) - x) ∙ ap (λ (y : ℕ). eqb (((y - 1) - x) % 2) 1) (pow-suc 2 w)
    ∙ flip (x % 2) (((2 ^ w * 2 - 1) - x) % 2) (omega arith) ∙ ap not (sym (has_low x))
has_not (suc w) x (suc i) h l =
    let g : x < 2 ^ w * 2 = rw (← pow-suc 2 w) h in
    has_step ((2 ^ suc w - 1) - x) i ∙ ap (λ (y : ℕ). has (((y - 1) - x) / 2) i) (pow-suc 2 w)
    ∙ ap (λ (y : ℕ). has y i) (let e : ((2 ^ w * 2 - 1) - x) / 2 ≡ (2 ^ w - 1) - x / 2 = omega arith in e)
    ∙ has_not w (x / 2) i (omega arith) (omega arith) ∙ ap not (sym (has_step x i))

-- two numbers of w places that have the same places are equal
same_digit : (p q : ℕ) → (p ≡ 0) ⊎ (p ≡ 1) → (q ≡ 0) ⊎ (q ≡ 1) → eqb p 1 ≡ eqb q 1 → p ≡ q
same_digit p q (inl e) (inl f) h = cc
same_digit p q (inl e) (inr f) h = absurd (false≢true (rw (e, f) at h))
same_digit p q (inr e) (inl f) h = absurd (false≢true (sym (rw (e, f) at h)))
same_digit p q (inr e) (inr f) h = cc

pub ext : (w x y : ℕ) → x < 2 ^ w → y < 2 ^ w → ((i : ℕ) → i < w → has x i ≡ has y i) → x ≡ y
ext zero x y hx hy h = lt-one hx ∙ sym (lt-one hy)
ext (suc w) x y hx hy h =
    let gx : x < 2 ^ w * 2 = rw (← pow-suc 2 w) hx in
    let gy : y < 2 ^ w * 2 = rw (← pow-suc 2 w) hy in
    let low : x % 2 ≡ y % 2 = same_digit (x % 2) (y % 2) (digit_mod x) (digit_mod y) (sym (has_low x) ∙ h 0 (omega arith) ∙ has_low y) in
    let high : x / 2 ≡ y / 2 = ext w (x / 2) (y / 2) (omega arith) (omega arith) (λ i l. sym (has_step x i) ∙ h (suc i) (omega arith) ∙ has_step y i) in
    omega arith

-- ---- how many, and which is least
low_digit : (p : ℕ) → (p ≡ 0) ⊎ (p ≡ 1) → p ≡ cond (eqb p 1) 1 0
low_digit p (inl e) = rw e
low_digit p (inr e) = rw e

pub ones_count : (w x : ℕ) → x < 2 ^ w → ones x ≡ count w (has x)
unfolding ones count
ones_count zero x h = ap ones (lt-one h)
ones_count (suc w) x h =
    let g : x < 2 ^ w * 2 = rw (← pow-suc 2 w) h in
    ones_step x
    ∙ ap₂ (λ (a b : ℕ). a + b) (low_digit (x % 2) (digit_mod x) ∙ ap (λ (b : Bool). cond b 1 0) (sym (has_low x)))
    (ones_count w (x / 2) (omega arith) ∙ ap (count w) (fun_ext (λ (i : ℕ). sym (has_step x i))))

low_under : (p t : ℕ) → (p ≡ 0) ⊎ (p ≡ 1) → under p t ≡ cond (eqb p 1) 0 (suc t)
low_under p t (inl e) = rw e
low_under p t (inr e) = rw e

pub trailing_least : (w x : ℕ) → count_trailing_zeros w x ≡ least w (has x)
unfolding count_trailing_zeros least
trailing_least zero x = refl
trailing_least (suc w) x =
    low_under (x % 2) (count_trailing_zeros w (x / 2)) (digit_mod x)
    ∙ ap₂ (λ (b : Bool) (t : ℕ). cond b 0 (suc t)) (sym (has_low x))
    (trailing_least w (x / 2) ∙ ap (least w) (fun_ext (λ (i : ℕ). sym (has_step x i))))

-- `a & !b`
pub lt_or_le : (a b : ℕ) → (a < b) ⊎ (b ≤ a)
lt_or_le a zero = inr (omega arith)
lt_or_le zero (suc b) = inl (omega arith)
lt_or_le (suc a) (suc b) = ⊎_elim (λ p. inl (omega arith)) (λ q. inr (omega arith)) (lt_or_le a b)

pub has_minus : (w a b i : ℕ) → a < 2 ^ w → b < 2 ^ w → has (bit_and a ((2 ^ w - 1) - b)) i ≡ (has a i && not (has b i))
has_minus w a b i ha hb = has_and a ((2 ^ w - 1) - b) i ∙ ⊎_elim
    (λ (l : i < w). ap (λ (t : Bool). has a i && t) (has_not w b i hb l))
    (λ (l : w ≤ i). let e : has a i ≡ false = has_high w a i ha l in ap (λ (t : Bool). t && has ((2 ^ w - 1) - b) i) e ∙ sym (ap (λ (t : Bool). t && not (has b i)) e))
    (lt_or_le i w)

-- the full word
pub has_full : (w i : ℕ) → i < w → has (2 ^ w - 1) i ≡ true
has_full w i l = ap (λ (y : ℕ). has y i) (sym (sub-zero (2 ^ w - 1))) ∙ has_not w 0 i (pow_pos w) l ∙ ap not (has_zero i)

-- `a | 1 << c`
pub has_with : (w a c i : ℕ) → c < w → has (bit_or a ((1 * 2 ^ c) % 2 ^ w)) i ≡ (has a i || eqb i c)
has_with w a c i l = has_or a ((1 * 2 ^ c) % 2 ^ w) i ∙ ap (λ (t : Bool). has a i || t) (ap (λ (y : ℕ). has y i) (one_shl w c l) ∙ has_pow c i)

-- the full word has the places below the width, and no other
pub has_every : (w i : ℕ) → has (2 ^ w - 1) i ≡ ltb i w
has_every w i = ⊎_elim
    (λ (l : i < w). has_full w i l ∙ sym (lt-ltb i w l))
    (λ (l : w ≤ i). has_high w (2 ^ w - 1) i (omega (arith, pow_pos w)) l ∙ sym (le-ltb i w l))
    (lt_or_le i w)
