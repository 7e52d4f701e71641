-- What a block holds and the entries that stand in it: each follows from the other.
use mathlib.Core.Path.{◌≡◌, refl, sym, ap, ◌∙◌}
use mathlib.Core.List.{List, [], ◌∷◌, ◌++◌, append_assoc}
use Prim.Native.Nat.{ℕ, suc, ◌+◌, ◌*◌, ◌≤◌}
use native.Mathlib.Omega.{arith}
use lib.ListN.{length, get_or, drop, length-drop}
use lib.Seq.{get_or-drop, drop-drop, drop_at}
use Rattle.rules.specs.Trees.{Tree, silent, leaf, node, Forest, none, more, size, sizes, children}
use Rattle.rules.specs.TreeBlock.{kind_of, entry, entries, entries_all}
use Rattle.rules.specs.Holds.{EntryIs, Holds, HoldsAll}
use Rattle.rules.proofs.Entries.{entries_length}

-- the bytes of an entry that stand in the block
pub entry_is : (b rest : List ℕ) (v kind argument size : ℕ) → drop (v * 4) b ≡ entry kind argument size ++ rest → EntryIs b v kind argument size
entry_is b rest v kind argument size e =
    record {
      kind = ap (λ (k : ℕ). get_or b k 0) (let z : v * 4 ≡ v * 4 + 0 = omega arith in z) ∙ sym (get_or-drop (v * 4) b 0 0) ∙ ap (λ (l : List ℕ). get_or l 0 0) e;
      argument = sym (get_or-drop (v * 4) b 1 0) ∙ ap (λ (l : List ℕ). get_or l 1 0) e;
      size = sym (get_or-drop (v * 4) b 2 0) ∙ ap (λ (l : List ℕ). get_or l 2 0) e;
      zero = sym (get_or-drop (v * 4) b 3 0) ∙ ap (λ (l : List ℕ). get_or l 3 0) e;
    }

-- what stands after n entries
after_entries : (b front rest : List ℕ) (v n : ℕ) → drop (v * 4) b ≡ front ++ rest → length front ≡ 4 * n → drop ((v + n) * 4) b ≡ rest
after_entries b front rest v n e h =
    ap (λ (k : ℕ). drop k b) (let z : (v + n) * 4 ≡ v * 4 + 4 * n = omega arith in z) ∙ sym (drop-drop (4 * n) (v * 4) b) ∙ ap (drop (4 * n)) e ∙ drop_at front rest (4 * n) h

mutual
  unfolding entries entries_all

  pub holds : (t : Tree) (b rest : List ℕ) (v : ℕ) → drop (v * 4) b ≡ entries t ++ rest → Holds t b v
  holds silent b rest v e = entry_is b rest v 1 0 1 e
  holds (leaf a) b rest v e = entry_is b rest v 2 a 1 e
  holds (node o f) b rest v e = (
    entry_is b (entries_all f ++ rest) v (kind_of o) (children f) (suc (sizes f)) e,
    holds_all f b rest (v + 1) (after_entries b (entry (kind_of o) (children f) (suc (sizes f))) (entries_all f ++ rest) v 1 e refl),
  )

  pub holds_all : (f : Forest) (b rest : List ℕ) (v : ℕ) → drop (v * 4) b ≡ entries_all f ++ rest → HoldsAll f b v
  holds_all none b rest v e = tt
  holds_all (more t f) b rest v e =
      let g : drop (v * 4) b ≡ entries t ++ (entries_all f ++ rest) = e ∙ append_assoc (entries t) (entries_all f) rest in (
        holds t b (entries_all f ++ rest) v g,
        holds_all f b rest (v + size t) (after_entries b (entries t) (entries_all f ++ rest) v (size t) g (entries_length t)),
      )

-- ---- from what is held to the entries

four : (l : List ℕ) → 4 ≤ length l → l ≡ get_or l 0 0 ∷ get_or l 1 0 ∷ get_or l 2 0 ∷ get_or l 3 0 ∷ drop 4 l
four (k ∷ a ∷ s ∷ z ∷ l) h = refl
four (k ∷ a ∷ s ∷ []) h = absurd (omega arith)
four (k ∷ a ∷ []) h = absurd (omega arith)
four (k ∷ []) h = absurd (omega arith)
four [] h = absurd (omega arith)

entry_there : (b : List ℕ) (v k a s : ℕ) → EntryIs b v k a s → (v + 1) * 4 ≤ length b → drop (v * 4) b ≡ entry k a s ++ drop ((v + 1) * 4) b
entry_there b v k a s e h =
    let kind : get_or (drop (v * 4) b) 0 0 ≡ k = get_or-drop (v * 4) b 0 0 ∙ ap (λ (i : ℕ). get_or b i 0) (let z : v * 4 + 0 ≡ v * 4 = omega arith in z) ∙ e.kind in
    let argument : get_or (drop (v * 4) b) 1 0 ≡ a = get_or-drop (v * 4) b 1 0 ∙ e.argument in
    let size : get_or (drop (v * 4) b) 2 0 ≡ s = get_or-drop (v * 4) b 2 0 ∙ e.size in
    let zero : get_or (drop (v * 4) b) 3 0 ≡ 0 = get_or-drop (v * 4) b 3 0 ∙ e.zero in
    let rest : drop 4 (drop (v * 4) b) ≡ drop ((v + 1) * 4) b = drop-drop 4 (v * 4) b ∙ ap (λ (i : ℕ). drop i b) (let z : v * 4 + 4 ≡ (v + 1) * 4 = omega arith in z) in
    four (drop (v * 4) b) (let l = length-drop (v * 4) b in omega arith) ∙ (λ i. kind i ∷ argument i ∷ size i ∷ zero i ∷ rest i)

mutual
  unfolding entries entries_all

  pub held_entries : (t : Tree) (b : List ℕ) (v : ℕ) → Holds t b v → (v + size t) * 4 ≤ length b → drop (v * 4) b ≡ entries t ++ drop ((v + size t) * 4) b
  held_entries silent b v h fits = entry_there b v 1 0 1 h fits
  held_entries (leaf a) b v h fits = entry_there b v 2 a 1 h fits
  held_entries (node o f) b v h fits =
      entry_there b v (kind_of o) (children f) (suc (sizes f)) h.0 (omega arith)
      ∙ ap (λ (l : List ℕ). entry (kind_of o) (children f) (suc (sizes f)) ++ l)
      (held_all_entries f b (v + 1) h.1 (omega arith) ∙ ap (λ (i : ℕ). entries_all f ++ drop i b) (let z : (v + 1 + sizes f) * 4 ≡ (v + suc (sizes f)) * 4 = omega arith in z))

  pub held_all_entries : (f : Forest) (b : List ℕ) (v : ℕ) → HoldsAll f b v → (v + sizes f) * 4 ≤ length b → drop (v * 4) b ≡ entries_all f ++ drop ((v + sizes f) * 4) b
  held_all_entries none b v h fits = ap (λ (i : ℕ). drop i b) (let z : v * 4 ≡ (v + 0) * 4 = omega arith in z)
  held_all_entries (more t f) b v h fits =
      held_entries t b v h.0 (omega arith)
      ∙ ap (λ (l : List ℕ). entries t ++ l)
      (held_all_entries f b (v + size t) h.1 (omega arith)
      ∙ ap (λ (i : ℕ). entries_all f ++ drop i b) (let z : (v + size t + sizes f) * 4 ≡ (v + (size t + sizes f)) * 4 = omega arith in z))
      ∙ sym (append_assoc (entries t) (entries_all f) (drop ((v + (size t + sizes f)) * 4) b))
