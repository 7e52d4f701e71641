-- The lines of the texts, from the writes of their pieces.
use mathlib.Core.Path.{◌≡◌, sym, ap, ◌∙◌, subst}
use mathlib.Core.List.{List, [], ◌∷◌, ◌++◌, append_assoc, append-nil}
use Prim.Native.Nat.{ℕ, zero, suc, ◌+◌, ◌*◌, ◌≤◌}
use native.Mathlib.Numerals.{add-one}
use native.Mathlib.Omega.{arith}
use lib.ListN.{length}
use Rattle.rules.specs.TreeBlock.{kind_at, argument_at, size_at}
use Rattle.rules.specs.Listing.{decimal, kind_name, entry_numbers, entry_line, entry_lines, listing}
use Rattle.rules.specs.Calls.{entry_count}
use Rattle.text_writing.specs.Writing.{Wrote}
use Rattle.text_writing.proofs.WroteLaws.{wrote_nothing, wrote_then, wrote_most}

module _ {old new : List ℕ} {at r : ℕ} where
  pub entry_numbers_lem : (argument size : ℕ) {o1 o2 o3 : List ℕ} {p1 p2 p3 : ℕ} → at + 8 ≤ length old →
      Wrote 3 old at (decimal 3 argument) o1 p1 → Wrote 1 o1 p1 (32 ∷ []) o2 p2 → Wrote 3 o2 p2 (decimal 3 size) o3 p3 → Wrote 1 o3 p3 (10 ∷ []) new r →
      Wrote 8 old at (entry_numbers argument size) new r
  unfolding entry_numbers
  entry_numbers_lem argument size room a b c d = wrote_then (wrote_then (wrote_then a (omega arith) b) (omega arith) c) (omega arith) d

  pub entry_line_lem : (b : List ℕ) (v : ℕ) {o1 o2 : List ℕ} {p1 p2 : ℕ} → at + 17 ≤ length old →
      Wrote 3 old at (decimal 3 v) o1 p1 → Wrote 6 o1 p1 (kind_name (kind_at b v)) o2 p2 → Wrote 8 o2 p2 (entry_numbers (argument_at b v) (size_at b v)) new r →
      Wrote 17 old at (entry_line b v) new r
  unfolding entry_line
  entry_line_lem b v room a k c = wrote_then (wrote_then a (omega arith) k) (omega arith) c

  pub listing_text : (b : List ℕ) (n : ℕ) {o1 o2 o3 : List ℕ} {p1 p2 p3 : ℕ} → n ≤ entry_count → at + 2169 ≤ length old →
      Wrote 6 old at (110 ∷ 111 ∷ 100 ∷ 101 ∷ 115 ∷ 32 ∷ []) o1 p1 → Wrote 3 o1 p1 (decimal 3 n) o2 p2 → Wrote 1 o2 p2 (10 ∷ []) o3 p3 →
      Wrote (17 * n) o3 p3 (entry_lines n b 0) new r → Wrote 2169 old at (listing b n) new r
  unfolding listing
  listing_text b n few room a c d e =
      wrote_most (wrote_then (wrote_then (wrote_then a (omega arith) c) (omega arith) d) (omega arith) e) (omega arith) 2169 (omega arith)

-- a name
pub named_text : {old new : List ℕ} {at r : ℕ} (kind : ℕ) (s : List ℕ) → s ≡ kind_name kind → length s ≤ 6 → at + 6 ≤ length old → Wrote (length s) old at s new r → Wrote 6 old at (kind_name kind) new r
named_text {old} {new} {at} {r} kind s is short room w = subst (λ (t : List ℕ). Wrote 6 old at t new r) is (wrote_most w (omega arith) 6 short)

-- one line more
lines_snoc : (n : ℕ) (b : List ℕ) (v : ℕ) → entry_lines (suc n) b v ≡ entry_lines n b v ++ entry_line b (v + n)
unfolding entry_lines
lines_snoc zero b v = append-nil (entry_line b v) ∙ ap (entry_line b) (let e : v ≡ v + 0 = omega arith in e)
lines_snoc (suc n) b v =
    ap (λ (s : List ℕ). entry_line b v ++ s) (lines_snoc n b (v + 1))
    ∙ sym (append_assoc (entry_line b v) (entry_lines n b (v + 1)) (entry_line b (v + 1 + n)))
    ∙ ap (λ (k : ℕ). entry_line b v ++ entry_lines n b (v + 1) ++ entry_line b k) (let e : v + 1 + n ≡ v + suc n = omega arith in e)

pub no_lines : (old : List ℕ) (at : ℕ) (b : List ℕ) → Wrote (17 * 0) old at (entry_lines 0 b 0) old at
unfolding entry_lines
no_lines old at b = wrote_nothing old at

pub line_more : {old mid new : List ℕ} {at k r : ℕ} (b : List ℕ) (v : ℕ) → at + 17 * (v + 1) ≤ length old →
    Wrote (17 * v) old at (entry_lines v b 0) mid k → Wrote 17 mid k (entry_line b v) new r → Wrote (17 * (v + 1)) old at (entry_lines (v + 1) b 0) new r
line_more {old} {mid} {new} {at} {k} {r} b v room a c =
    let c' = subst (λ (n : ℕ). Wrote 17 mid k (entry_line b n) new r) (let e : v ≡ 0 + v = omega arith in e) c in
    let w = wrote_most (wrote_then a (omega arith) c') (omega arith) (17 * (v + 1)) (omega arith) in
    subst (λ (s : List ℕ). Wrote (17 * (v + 1)) old at s new r) (sym (ap (λ (n : ℕ). entry_lines n b 0) (add-one v) ∙ lines_snoc v b 0)) w
