-- The codes of a tree's leaves, off its entries.
use Prim.Native.Nat.{ℕ, zero, suc, ◌+◌}
use native.Mathlib.Nat.{add-zero, add_assoc, add-suc}
use native.Mathlib.Numerals.{one-add}
use native.Mathlib.Omega.{arith}
use mathlib.Core.List.{List}
use mathlib.Core.Path.{◌≡◌, refl, sym, ap, ap₂, ◌∙◌, fun_ext}
use mathlib.Core.Logic.{inl}
use mathlib.Core.Bool.{Bool, false, ◌||◌, ◌&&◌}
use lib.Dec.{eqb, ltb}
use borrow.Author.Tests.{eq-eqb, ne_eqb, lt-ltb}
use Rattle.rules.specs.Words.{mem, Has}
use Rattle.rules.specs.Heartbeats.{EventCode}
use Rattle.rules.specs.Trees.{Tree, silent, leaf, node, Forest, none, more, size, sizes, labels, labels_all}
use Rattle.rules.specs.TreeBlock.{kind_of, kind_at, argument_at}
use Rattle.rules.specs.Holds.{Holds, HoldsAll}
use Rattle.rules.specs.Calls.{code_count}
use Rattle.rules.proofs.BoolLaws.{or_off, or_assoc}
use Rattle.rules.proofs.Entries.{kind_low}
use Rattle.rules.proofs.ListLaws.{has_append_left, has_append_right}
use Rattle.code_sets.specs.Bits.{any_below}
use Rattle.judge_meanings.proofs.LanguageLaws.{mem_append}
use Rattle.judge_subtrees.specs.Entries.{labelled}

any_append : (n m : ℕ) (p : ℕ → Bool) → any_below (n + m) p ≡ (any_below n p || any_below m (λ k. p (n + k)))
unfolding any_below
any_append n zero p = ap (λ (k : ℕ). any_below k p) (add-zero n) ∙ sym (or_off (any_below n p))
any_append n (suc m) p =
    ap (λ (k : ℕ). any_below k p) (add-suc n m) ∙ ap (λ (b : Bool). b || p (n + m)) (any_append n m p)
    ∙ or_assoc (any_below n p) (any_below m (λ k. p (n + k))) (p (n + m))

module _ (b : List ℕ) where
  -- entry v is a leaf c
  abbrev pub leaf_at : ℕ → ℕ → Bool
  leaf_at c v = eqb (kind_at b v) 2 && (ltb (argument_at b v) code_count && eqb c (argument_at b v))

  labelled_append : (v n m c : ℕ) → labelled b v (n + m) c ≡ (labelled b v n c || labelled b (v + n) m c)
  unfolding labelled
  labelled_append v n m c =
      any_append n m (λ k. leaf_at c (v + k))
      ∙ ap (λ (p : ℕ → Bool). any_below n (λ k. leaf_at c (v + k)) || any_below m p) (fun_ext (λ (k : ℕ). ap (leaf_at c) (sym (add_assoc v n k))))

  labelled_one : (v c : ℕ) → labelled b v 1 c ≡ leaf_at c v
  unfolding labelled any_below
  labelled_one v c = ap (leaf_at c) (add-zero v)

  no_leaf : (v k c : ℕ) → kind_at b v ≡ k → (k ≡ 2 → ⊥) → leaf_at c v ≡ false
  no_leaf v k c e h = ap (λ (t : Bool). t && (ltb (argument_at b v) code_count && eqb c (argument_at b v))) (ne_eqb (kind_at b v) 2 (λ q. h (sym e ∙ q)))

  -- an entry that is no leaf, and what follows it
  labelled_over : (v n k c : ℕ) → kind_at b v ≡ k → (k ≡ 2 → ⊥) → labelled b v (suc n) c ≡ labelled b (v + 1) n c
  labelled_over v n k c e h =
      ap (λ (m : ℕ). labelled b v m c) (sym (one-add n)) ∙ labelled_append v 1 n c
      ∙ ap (λ (t : Bool). t || labelled b (v + 1) n c) (labelled_one v c ∙ no_leaf v k c e h)

mutual
  unfolding labelled any_below

  pub labelled_codes : (t : Tree) (b : List ℕ) (v c : ℕ) → Holds t b v → ((x : ℕ) → Has x (labels t) → EventCode code_count x) → labelled b v (size t) c ≡ mem c (labels t)
  labelled_codes silent b v c h k = labelled_one b v c ∙ no_leaf b v 1 c h.kind (λ q. omega (arith, q))
  labelled_codes (leaf a) b v c h k =
      labelled_one b v c ∙ ap₂ (λ (t : Bool) (x : ℕ). t && (ltb x code_count && eqb c x)) (eq-eqb (kind_at b v) 2 h.kind) h.argument
      ∙ ap (λ (t : Bool). t && eqb c a) (lt-ltb a code_count (k a (inl refl)).0) ∙ sym (or_off (eqb c a))
  labelled_codes (node o f) b v c h k = labelled_over b v (sizes f) (kind_of o) c h.0.kind (λ q. omega (arith, q, kind_low o)) ∙ labelled_all f b (v + 1) c h.1 k

  pub labelled_all : (f : Forest) (b : List ℕ) (v c : ℕ) → HoldsAll f b v → ((x : ℕ) → Has x (labels_all f) → EventCode code_count x) → labelled b v (sizes f) c ≡ mem c (labels_all f)
  labelled_all none b v c h k = refl
  labelled_all (more t f) b v c h k =
      labelled_append b v (size t) (sizes f) c
      ∙ ap₂ ◌||◌ (labelled_codes t b v c h.0 (λ x m. k x (has_append_left x (labels t) (labels_all f) m)))
      (labelled_all f b (v + size t) c h.1 (λ x m. k x (has_append_right x (labels t) (labels_all f) m)))
      ∙ sym (mem_append c (labels t) (labels_all f))
