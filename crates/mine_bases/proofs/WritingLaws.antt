-- Laws of what is written: one piece after another, and a piece before another.
use mathlib.Core.Path.{◌≡◌, refl, sym, ◌∙◌, ap}
use mathlib.Core.List.{List, [], ◌∷◌, ◌++◌, append_assoc, append-nil}
use Prim.Native.Nat.{ℕ, suc, ◌+◌, ◌*◌, ◌≤◌, ◌<◌}
use native.Mathlib.Nat.{add-zero}
use native.Mathlib.Omega.{arith}
use lib.ListN.{length, take, drop, length-append, length-drop, take-append-drop}
use lib.Seq.{take_at, drop_at, drop-drop, take-take, take-append-le, length-take-le}
use Rattle.rules.specs.Trees.{sizes, children}
use Rattle.rules.specs.Mining.{leaves, flower_of}
use Rattle.rules.specs.TreeBlock.{entry, entries, entries_all}
use Rattle.rules.specs.Calls.{entry_count}
use Rattle.tree_writing.specs.Writing.{with_entry}
use Rattle.mine_bases.specs.Writing.{laid, Wrote, WroteTree, WroteAll}

-- nothing written
pub laid_nil : (at : ℕ) (b : List ℕ) → laid at [] b ≡ b
laid_nil at b =
    ap (λ (k : ℕ). (take at b ++ []) ++ drop k b) (add-zero at) ∙ ap (λ (z : List ℕ). z ++ drop at b) (append-nil (take at b)) ∙ take-append-drop at b

module _ (at : ℕ) (xs b : List ℕ) (h : at + length xs ≤ length b) where
  head_length : length (take at b ++ xs) ≡ at + length xs
  head_length = length-append (take at b) xs ∙ ap (λ (k : ℕ). k + length xs) (length-take-le at b (omega arith))

  pub laid_length : length (laid at xs b) ≡ length b
  laid_length = omega (arith, length-append (take at b ++ xs) (drop (at + length xs) b), head_length, length-drop (at + length xs) b)

  front : take (at + length xs) (laid at xs b) ≡ take at b ++ xs
  front = take_at (take at b ++ xs) (drop (at + length xs) b) (at + length xs) head_length

  back : drop (at + length xs) (laid at xs b) ≡ drop (at + length xs) b
  back = drop_at (take at b ++ xs) (drop (at + length xs) b) (at + length xs) head_length

  -- a piece, and then the next
  pub laid_next : (ys : List ℕ) → laid (at + length xs) ys (laid at xs b) ≡ laid at (xs ++ ys) b
  laid_next ys =
      let n = at + length xs in
      let e : n + length ys ≡ at + length (xs ++ ys) = omega (arith, length-append xs ys) in
      let further : drop (n + length ys) (laid at xs b) ≡ drop (n + length ys) b =
      sym (drop-drop (length ys) n (laid at xs b)) ∙ ap (drop (length ys)) back ∙ drop-drop (length ys) n b in
      (λ i. (front i ++ ys) ++ further i) ∙ ap (λ (z : List ℕ). z ++ drop (n + length ys) b) (append_assoc (take at b) xs ys)
      ∙ ap (λ (k : ℕ). (take at b ++ (xs ++ ys)) ++ drop k b) e

-- a piece put in before another that stands already
pub laid_before : (at k : ℕ) (xs ys b : List ℕ) → k ≡ at + length xs → at + length xs + length ys ≤ length b → laid at xs (laid k ys b) ≡ laid at (xs ++ ys) b
laid_before at k xs ys b e h =
    let n = at + length xs in
    let m : ℕ = n + length ys in
    let len : length (take n b ++ ys) ≡ m = length-append (take n b) ys ∙ ap (λ (z : ℕ). z + length ys) (length-take-le n b (omega arith)) in
    let f : m ≡ at + length (xs ++ ys) = omega (arith, length-append xs ys) in
    let ahead : take at (laid n ys b) ≡ take at b =
    ap (take at) (append_assoc (take n b) ys (drop m b)) ∙ take-append-le at (take n b) (ys ++ drop m b) (omega (arith, length-take-le n b (omega arith))) ∙ take-take at n b (omega arith) in
    let rest : drop n (laid n ys b) ≡ ys ++ drop m b = ap (drop n) (append_assoc (take n b) ys (drop m b)) ∙ drop_at (take n b) (ys ++ drop m b) n (length-take-le n b (omega arith)) in
    ap (λ (z : ℕ). laid at xs (laid z ys b)) e ∙ (λ i. (ahead i ++ xs) ++ rest i) ∙ sym (append_assoc (take at b ++ xs) ys (drop m b))
    ∙ ap (λ (z : List ℕ). z ++ drop m b) (append_assoc (take at b) xs ys) ∙ ap (λ (z : ℕ). (take at b ++ (xs ++ ys)) ++ drop z b) f

-- ---- entries

-- an entry put
pub put_wrote : (b : List ℕ) (at kind argument size : ℕ) (new : List ℕ) → new ≡ with_entry b at kind argument size → Wrote 1 (entry kind argument size) at b (at + 1) new
put_wrote b at kind argument size new e = record { next = refl; block = e }

module _ {n : ℕ} {bytes : List ℕ} {at : ℕ} {old : List ℕ} {r : ℕ} {new : List ℕ} (w : Wrote n bytes at old r new) (sized : length bytes ≡ 4 * n) (room : at * 4 + 4 * n ≤ length old) where
  pub wrote_length : length new ≡ length old
  wrote_length = ap length w.block ∙ laid_length (at * 4) bytes old (omega arith)

  -- what is written after it
  pub wrote_next : (ys : List ℕ) → laid (at * 4) (bytes ++ ys) old ≡ laid (r * 4) ys new
  wrote_next ys =
      let k : at * 4 + length bytes ≡ r * 4 = omega (arith, w.next) in
      sym (laid_next (at * 4) bytes old (omega arith) ys) ∙ ap (λ (z : ℕ). laid z ys (laid (at * 4) bytes old)) k ∙ ap (laid (r * 4) ys) (sym w.block)

-- ---- the leaves of a set

pub leaves_sizes : (cs : List ℕ) → sizes (leaves cs) ≡ length cs
leaves_sizes [] = refl
leaves_sizes (c ∷ cs) = let h = leaves_sizes cs in omega arith

pub leaves_children : (cs : List ℕ) → children (leaves cs) ≡ length cs
leaves_children [] = refl
leaves_children (c ∷ cs) = ap suc (leaves_children cs)

leaves_first : (c : ℕ) (cs : List ℕ) → entries_all (leaves (c ∷ cs)) ≡ entry 2 c 1 ++ entries_all (leaves cs)
unfolding entries entries_all
leaves_first c cs = refl

-- a turn, where the leaves of some codes are left to be written
module _ (all : List ℕ) (goal next : ℕ) (left tree : List ℕ) (inv : all ≡ laid (next * 4) (entries_all (leaves left)) tree) (count : goal ≡ next + length left) (long : length tree ≡ 512) (fits : goal ≤ entry_count) where
  module _ (c : ℕ) (rest : List ℕ) (is : left ≡ c ∷ rest) where
    pub leaf_room : next < entry_count
    leaf_room = omega (arith, ap length is)

    pub leaf_count : goal ≡ next + 1 + length rest
    leaf_count = omega (arith, ap length is)

    module _ (new : List ℕ) (put : new ≡ with_entry tree next 2 c 1) where
      room : next * 4 + 4 * 1 ≤ length tree
      room = let h = leaf_room in omega arith

      pub leaf_next : all ≡ laid ((next + 1) * 4) (entries_all (leaves rest)) new
      leaf_next =
          inv ∙ ap (λ (cs : List ℕ). laid (next * 4) (entries_all (leaves cs)) tree) is
          ∙ ap (λ (xs : List ℕ). laid (next * 4) xs tree) (leaves_first c rest)
          ∙ wrote_next (put_wrote tree next 2 c 1 new put) refl room (entries_all (leaves rest))

      pub leaf_long : length new ≡ 512
      leaf_long = wrote_length (put_wrote tree next 2 c 1 new put) refl room ∙ long

  pub leaves_end : left ≡ [] → all ≡ tree
  unfolding entries_all
  leaves_end e = inv ∙ ap (λ (cs : List ℕ). laid (next * 4) (entries_all (leaves cs)) tree) e ∙ laid_nil (next * 4) tree

  pub leaves_last : left ≡ [] → next ≡ goal
  leaves_last e = omega (arith, ap length e)

-- ---- a flower: the loop's entry, silent, the leaves

module _ (cs : List ℕ) (n : ℕ) (size : n ≡ length cs) (at : ℕ) (old b₁ b₂ new : List ℕ) (r : ℕ) (long : length old ≡ 512) (fits : at + length cs + 2 ≤ entry_count) where
  pub flower_wrote : (x y : ℕ) → x ≡ n + 1 → y ≡ n + 2 → b₁ ≡ with_entry old at 6 x y → b₂ ≡ with_entry b₁ (at + 1) 1 0 1 → WroteAll (leaves cs) (at + 2) b₂ r new → WroteTree (flower_of cs) at old r new
  unfolding entries
  flower_wrote x y ex ey e f w =
      let first = put_wrote old at 6 x y b₁ e in
      let second = put_wrote b₁ (at + 1) 1 0 1 b₂ f in
      let len : length b₁ ≡ length old = wrote_length first refl (omega arith) in
      let two : at + 2 ≡ at + 1 + 1 = omega arith in
      let ls : List ℕ = entries_all (leaves cs) in
      let kids : x ≡ suc (children (leaves cs)) = omega (arith, leaves_children cs) in
      let nodes : y ≡ suc (1 + sizes (leaves cs)) = omega (arith, leaves_sizes cs) in
      record {
        next = omega (arith, w.next);
        block =
            w.block ∙ ap (λ (k : ℕ). laid (k * 4) ls b₂) two ∙ sym (wrote_next second refl (omega arith) ls)
            ∙ sym (wrote_next first refl (omega arith) (entry 1 0 1 ++ ls))
            ∙ (λ i. laid (at * 4) (entry 6 (kids i) (nodes i) ++ (entry 1 0 1 ++ ls)) old);
      }
