-- Writing over a list: its length, one write after another, one element, nothing.
use mathlib.Core.Path.{◌≡◌, sym, ap, ◌∙◌}
use mathlib.Core.List.{List, [], ◌∷◌, ◌++◌, append_assoc, append-nil}
use Prim.Native.Nat.{ℕ, suc, ◌+◌, ◌≤◌, ◌<◌}
use native.Mathlib.Nat.{add-zero}
use native.Mathlib.Numerals.{add-one}
use native.Mathlib.Omega.{arith}
use lib.ListN.{length, take, drop, set, length-append, length-drop, take-append-drop}
use lib.Seq.{take_at, drop_at, drop-drop, length-take-le, set_split, append_snoc}
use Rattle.rules.specs.Words.{part, overlaid}

module _ (b : List ℕ) (at : ℕ) where
  pub overlaid_nothing : overlaid b at [] ≡ b
  unfolding overlaid
  overlaid_nothing = rw (append-nil, add-zero) (take-append-drop at b)

  pub set_overlaid : (x : ℕ) → at < length b → set b at x ≡ overlaid b at (x ∷ [])
  unfolding overlaid
  set_overlaid x h = set_split b at x h ∙ sym (append_snoc (take at b) x (drop (suc at) b)) ∙ ap (λ (n : ℕ). take at b ++ (x ∷ []) ++ drop n b) (sym (add-one at))

  module _ (s : List ℕ) (room : at + length s ≤ length b) where
    head_length : length (take at b ++ s) ≡ at + length s
    head_length = length-append (take at b) s ∙ ap (λ (n : ℕ). n + length s) (length-take-le at b (omega arith))

    pub length_overlaid : length (overlaid b at s) ≡ length b
    unfolding overlaid
    length_overlaid =
        length-append (take at b ++ s) (drop (at + length s) b)
        ∙ (let h = head_length in let d = length-drop (at + length s) b in
        let e : length (take at b ++ s) + length (drop (at + length s) b) ≡ length b = omega arith in e)

    pub take_overlaid : take (at + length s) (overlaid b at s) ≡ take at b ++ s
    unfolding overlaid
    take_overlaid = take_at (take at b ++ s) (drop (at + length s) b) (at + length s) head_length

    pub drop_overlaid : drop (at + length s) (overlaid b at s) ≡ drop (at + length s) b
    unfolding overlaid
    drop_overlaid = drop_at (take at b ++ s) (drop (at + length s) b) (at + length s) head_length

    far : (k : ℕ) → drop (at + length s + k) (overlaid b at s) ≡ drop (at + length s + k) b
    far k = sym (drop-drop k (at + length s) (overlaid b at s)) ∙ ap (drop k) drop_overlaid ∙ drop-drop k (at + length s) b

    -- one write after another is one write
    pub overlaid_then : (t : List ℕ) → overlaid (overlaid b at s) (at + length s) t ≡ overlaid b at (s ++ t)
    unfolding overlaid
    overlaid_then t =
        let end : at + length s + length t ≡ at + length (s ++ t) = ap (λ (n : ℕ). n) (let e = length-append s t in omega arith) in
        (λ i. take_overlaid i ++ t ++ far (length t) i) ∙ (λ i. append_assoc (take at b) s t i ++ drop (end i) b)

-- the tail from a place lent, s put at its front: s is written over the whole there
pub overlaid_tail : (b : List ℕ) (at : ℕ) (s : List ℕ) → at + length s ≤ length b →
    take at b ++ ((s ++ drop (length s) (drop at b)) ++ []) ≡ overlaid b at s
unfolding overlaid
overlaid_tail b at s room =
    ap (λ (t : List ℕ). take at b ++ t) (append-nil (s ++ drop (length s) (drop at b)))
    ∙ sym (append_assoc (take at b) s (drop (length s) (drop at b)))
    ∙ ap (λ (t : List ℕ). take at b ++ s ++ t) (drop-drop (length s) at b)

-- n elements from a place lent, s in their stead
pub overlaid_part : (b : List ℕ) (at n : ℕ) (s : List ℕ) → length s ≡ n → take at b ++ (s ++ drop n (drop at b)) ≡ overlaid b at s
unfolding overlaid
overlaid_part b at n s e =
    sym (append_assoc (take at b) s (drop n (drop at b)))
    ∙ ap (λ (t : List ℕ). take at b ++ s ++ t) (drop-drop n at b ∙ ap (λ (k : ℕ). drop (at + k) b) (sym e))

-- what stands there written again
pub overlaid_same : (b : List ℕ) (at n : ℕ) → at + n ≤ length b → overlaid b at (part b at n) ≡ b
overlaid_same b at n h =
    let l : length (take n (drop at b)) ≡ n = length-take-le n (drop at b) (let d = length-drop at b in omega arith) in
    sym (overlaid_part b at n (part b at n) l) ∙ ap (λ (t : List ℕ). take at b ++ t) (take-append-drop n (drop at b)) ∙ take-append-drop at b
