-- How writes of text follow one another.
use mathlib.Core.Path.{◌≡◌, refl, sym, ap, ◌∙◌}
use mathlib.Core.List.{List, [], ◌∷◌, ◌++◌}
use Prim.Native.Nat.{ℕ, ◌+◌, ◌-◌, ◌≤◌, ◌<◌}
use native.Mathlib.Nat.{add-zero}
use native.Mathlib.Omega.{arith}
use lib.ListN.{length, take, drop, set, length-append, length-drop, length-set}
use lib.Seq.{take-length, take_all, drop-length}
use Rattle.rules.specs.Words.{overlaid}
use Rattle.rules.proofs.Overlay.{overlaid_nothing, overlaid_then, overlaid_tail, overlaid_part, length_overlaid, set_overlaid}
use Rattle.text_writing.specs.Writing.{Wrote}

pub wrote_nothing : (old : List ℕ) (at : ℕ) → Wrote 0 old at [] old at
wrote_nothing old at = record { next = sym (add-zero at); most = omega arith; text = sym (overlaid_nothing old at); kept = refl }

pub wrote_byte : (old : List ℕ) (at b : ℕ) → at < length old → Wrote 1 old at (b ∷ []) (set old at b) (at + 1)
wrote_byte old at b h = record { next = refl; most = omega arith; text = set_overlaid old at b h; kept = length-set old at b }

module _ {n : ℕ} {old s mid : List ℕ} {at k : ℕ} (w : Wrote n old at s mid k) (room : at + n ≤ length old) where
  fits : at + length s ≤ length old
  fits = let p = w.next in let q = w.most in omega arith

  -- one write after another
  pub wrote_then : {m r : ℕ} {t new : List ℕ} → Wrote m mid k t new r → Wrote (n + m) old at (s ++ t) new r
  wrote_then {m} {r} {t} {new} v =
      let p = w.next in
      let q = v.next in
      let a = w.most in
      let b = v.most in
      let l = length-append s t in
      record {
        next = omega arith;
        most = omega arith;
        text = v.text ∙ (λ i. overlaid (w.text i) (p i) t) ∙ overlaid_then old at s fits t;
        kept = v.kept ∙ w.kept;
      }

  -- a larger bound
  pub wrote_most : (m : ℕ) → n ≤ m → Wrote m old at s mid k
  wrote_most m h = let p = w.next in let a = w.most in record { next = w.next; most = omega arith; text = w.text; kept = w.kept }

-- the tail of b from a place was lent, and s was copied to its front
pub copied : (b s d : List ℕ) (at r : ℕ) → at + length s ≤ length b → r ≡ length s → d ≡ take (length s) s ++ drop (length s) (take (length b - at) (drop at b)) →
    Wrote (length s) b at s (take at b ++ (d ++ drop (length b - at) (drop at b))) (at + r)
copied b s d at r room e f =
    let l = length-drop at b in
    let whole : take (length b - at) (drop at b) ≡ drop at b = take_all (length b - at) (drop at b) (omega arith) in
    let rest : drop (length b - at) (drop at b) ≡ [] = ap (λ (n : ℕ). drop n (drop at b)) (sym l) ∙ drop-length (drop at b) in
    let is : take at b ++ (d ++ drop (length b - at) (drop at b)) ≡ overlaid b at s =
    (λ i. take at b ++ ((f ∙ (λ j. take-length s j ++ drop (length s) (whole j))) i ++ rest i)) ∙ overlaid_tail b at s room in
    record {
      next = ap (λ (n : ℕ). at + n) e;
      most = omega arith;
      text = is;
      kept = ap length is ∙ length_overlaid b at s room;
    }

-- the part of b from a place on, as long as s, was lent, and s was copied over it
pub copied_over : (b s d : List ℕ) (at n : ℕ) → at + length s ≤ length b → n ≡ length s → d ≡ s →
    Wrote (length s) b at s (take at b ++ (d ++ drop n (drop at b))) (at + length s)
copied_over b s d at n room e f =
    let is : take at b ++ (d ++ drop n (drop at b)) ≡ overlaid b at s =
    ap (λ (t : List ℕ). take at b ++ (t ++ drop n (drop at b))) f ∙ overlaid_part b at n s (sym e) in
    record { next = refl; most = omega arith; text = is; kept = ap length is ∙ length_overlaid b at s room }
