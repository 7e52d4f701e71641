-- A walk over a list of children: the rows so far mean the children so far.
use Prim.Native.Nat.{ℕ, ◌+◌, ◌≤◌, ◌<◌}
use native.Mathlib.Omega.{arith}
use mathlib.Core.List.{List, ◌++◌}
use mathlib.Core.Path.{◌≡◌, refl, sym, ap, ◌∙◌, subst, fun_ext}
use mathlib.Core.Logic.{◌⊎◌, inl, ⊎_elim}
use mathlib.Core.Bool.{Bool, true, false, ◌&&◌, ◌||◌, not}
use lib.ListN.{length}
use Rattle.rules.specs.Words.{mem, Has}
use Rattle.rules.specs.Trees.{Op, choice, sequence, parallel, loop, Tree, Forest, none, more, size, sizes, labels, labels_all, In, InOne, InRow, InMix}
use Rattle.rules.specs.WellFormed.{WellFormed}
use Rattle.rules.specs.TreeBlock.{size_at}
use Rattle.rules.specs.Holds.{Holds, HoldsAll}
use Rattle.rules.specs.Calls.{code_count}
use Rattle.rules.proofs.ListLaws.{mem_has, has_mem, has_append_left, has_append_right}
use Rattle.judge_rows.specs.Rows.{between, clear, less, after, joined_by, kept, Loops, Says, Upper}
use Rattle.judge_meanings.specs.Means.{Means}
use Rattle.judge_meanings.proofs.MeansLaws.{means_rows, means_lang, means_set, means_upper, seen_means, either_means, after_means, mixed_means}
use Rattle.judge_meanings.proofs.LoopMeans.{loop_means}
use Rattle.judge_meanings.proofs.LanguageLaws.{own, own_mix, snoc, append, append_snoc, append_none, labels_append, row_first, first_row, mix_first, first_mix, mem_snoc, one_snoc, snoc_one, row_snoc, snoc_row, mix_snoc, snoc_mix}
use Rattle.judge_subtrees.specs.Entries.{WellFormedAll, labelled}
use Rattle.judge_nodes.specs.Children.{Listed, scope, Scoped, Ready, ListMeans, LoopMeans}
use Rattle.judge_subtrees.proofs.LabelLaws.{labelled_codes}
use Rattle.judge_subtrees.proofs.EntryLaws.{holds_size, size_some, first_formed, others_formed, back_formed, child_apart}

-- ---- one child

and_not : (t : Bool) → (t && not t) ≡ false
and_not true = refl
and_not false = refl

-- the rows of the tree t at entry v, as a list of children of a parent o reads them
module _ (b e work : List ℕ) (S : ℕ → Bool) (v n : ℕ) (R : ℕ → ℕ → Bool)
    (hR : (i j : ℕ) → R i j ≡ (kept work v i j && between (clear (less S (labelled b v n))) e i j))
    (t : Tree) (held : Holds t b v) (formed : WellFormed code_count t) (len : n ≡ size t) (mine : Means (λ c. mem c (labels t)) (λ w. In t w) e (kept work v)) where
  abbrev T : ℕ → Bool
  T c = mem c (labels t)

  own_labels : labelled b v n ≡ T
  own_labels = fun_ext (λ (c : ℕ). ap (λ (m : ℕ). labelled b v m c) len ∙ labelled_codes t b v c held formed.coded)

  seen_by : (U : ℕ → Bool) → ((c : ℕ) → less S T c ≡ less U T c) → ((c : ℕ) → T c ≡ true → U c ≡ true) → Means U (λ w. In t w) e R
  seen_by U same sub = means_rows U (λ w. In t w) e (λ i j. kept work v i j && between (clear (less U T)) e i j) R
      (λ i j. hR i j ∙ ap (λ (D : ℕ → Bool). kept work v i j && between (clear (less S D)) e i j) own_labels
      ∙ ap (λ (D : ℕ → Bool). kept work v i j && between (clear D) e i j) (fun_ext same))
      (seen_means U T sub (λ w. In t w) e (kept work v) (λ w i c m. has_mem c (labels t) (own t w i c m)) mine)

  -- against all codes of the parent
  pub child_whole : ((c : ℕ) → Has c (labels t) → S c ≡ true) → Means S (λ w. In t w) e R
  child_whole sub = seen_by S (λ c. refl) (λ c h. sub c (mem_has c (labels t) h))

  -- against its own alone
  pub child_own : ((c : ℕ) → S c ≡ false) → Means (λ c. mem c (labels t)) (λ w. In t w) e R
  child_own empty = seen_by T (λ c. ap (λ (s : Bool). s && not (T c)) (empty c) ∙ sym (and_not (T c))) (λ c h. h)

  pub child_means : (o : Op) (f : Forest) → Scoped o S f → ((c : ℕ) → Has c (labels t) → Has c (labels_all f)) → Means (scope o S (labels t)) (λ w. In t w) e R
  child_means choice f s m = child_whole (λ c h. s c (m c h))
  child_means sequence f s m = child_whole (λ c h. s c (m c h))
  child_means parallel f s m = child_own s
  child_means loop f s m = child_whole (λ c h. s c (m c h))

-- ---- the first child, and one more

pub first_means : (o : Op) (S : ℕ → Bool) (t : Tree) (e : List ℕ) (R : ℕ → ℕ → Bool) → Means (scope o S (labels t)) (λ w. In t w) e R
    → Means (scope o S (labels_all (more t none))) (λ w. Listed o (more t none) w) e R
first_means choice S t e R h = means_lang S (λ w. In t w) (λ w. InOne (more t none) w) e R (λ w i. inl i) (λ w i. ⊎_elim (λ k. k) (λ k. absurd k) i) h
first_means sequence S t e R h = means_lang S (λ w. In t w) (λ w. InRow (more t none) w) e R (row_first t) (first_row t) h
first_means parallel S t e R h =
    means_set (λ c. mem c (labels t)) (λ c. mem c (labels_all (more t none))) (λ w. InMix (more t none) w) e R (λ c. sym (mem_snoc c none t))
    (means_lang (λ c. mem c (labels t)) (λ w. In t w) (λ w. InMix (more t none) w) e R (mix_first t) (first_mix t) h)
first_means loop S t e R h = means_lang S (λ w. In t w) (λ w. InOne (more t none) w) e R (λ w i. inl i) (λ w i. ⊎_elim (λ k. k) (λ k. absurd k) i) h

module _ (S : ℕ → Bool) (d : Forest) (t : Tree) (e : List ℕ) (short : length e ≤ 63)
    (apart : (c : ℕ) → mem c (labels_all d) ≡ true → mem c (labels t) ≡ false) (A B : ℕ → ℕ → Bool) where
  either : Means S (λ w. InOne d w) e A → Means S (λ w. In t w) e B → Means S (λ w. InOne (snoc d t) w) e (λ i j. A i j || B i j)
  either hA hB = means_lang S (λ w. InOne d w ⊎ In t w) (λ w. InOne (snoc d t) w) e (λ i j. A i j || B i j) (snoc_one d t) (one_snoc d t)
      (either_means S (λ w. InOne d w) (λ w. In t w) e A B hA hB)

  pub more_means : (o : Op) → Means (scope o S (labels_all d)) (λ w. Listed o d w) e A → Means (scope o S (labels t)) (λ w. In t w) e B
      → Means (scope o S (labels_all (snoc d t))) (λ w. Listed o (snoc d t) w) e (λ i j. joined_by o (A i) B i j)
  more_means choice hA hB = either hA hB
  more_means sequence hA hB = means_lang S _ (λ w. InRow (snoc d t) w) e (λ i j. after (A i) B j) (snoc_row d t) (row_snoc d t) (after_means S (λ w. InRow d w) (λ w. In t w) e A B short hA hB)
  more_means parallel hA hB =
      means_set (λ c. mem c (labels_all d) || mem c (labels t)) (λ c. mem c (labels_all (snoc d t))) (λ w. InMix (snoc d t) w) e (λ i j. A i j && B i j) (λ c. sym (mem_snoc c d t))
      (means_lang (λ c. mem c (labels_all d) || mem c (labels t)) _ (λ w. InMix (snoc d t) w) e (λ i j. A i j && B i j) (snoc_mix d t) (mix_snoc d t)
      (mixed_means (λ c. mem c (labels_all d)) (λ c. mem c (labels t)) apart (λ w. InMix d w) (λ w. In t w)
      (λ w i c m. has_mem c (labels_all d) (own_mix d w i c m)) (λ w i c m. has_mem c (labels t) (own t w i c m)) e A B hA hB))
  more_means loop hA hB = either hA hB

-- ---- the walk

-- of the list f some children are done, and the rows mean those; the rest stands from `at` on
pub record Walked (o : Op) (S : ℕ → Bool) (b e : List ℕ) (f : Forest) (at end : ℕ) (R : ℕ → ℕ → Bool) : Type 0 where
  pub done : Forest
  pub rest : Forest
  pub whole : append done rest ≡ f
  pub held : HoldsAll rest b at
  pub ends : at + sizes rest ≡ end
  pub means : Means (scope o S (labels_all done)) (λ w. Listed o done w) e R

-- at whatever list the entries hold
abbrev pub Walks : List ℕ → List ℕ → List ℕ → Op → (ℕ → Bool) → ℕ → ℕ → ℕ → (ℕ → ℕ → Bool) → Type 0
Walks b e work o S from end at R =
    (f : Forest) → HoldsAll f b from → from + sizes f ≡ end → WellFormedAll code_count f → Scoped o S f → Ready b e work from end
    → Walked o S b e f at end R

labels_in : (d : Forest) (t : Tree) (r f : Forest) → append d (more t r) ≡ f → (c : ℕ) → Has c (labels t) → Has c (labels_all f)
labels_in d t r f q c m =
    subst (λ (g : Forest). Has c (labels_all g)) q
    (subst (Has c) (sym (labels_append d (more t r))) (has_append_right c (labels_all d) (labels t ++ labels_all r) (has_append_left c (labels t) (labels_all r) m)))

module _ (b e work : List ℕ) (o : Op) (S : ℕ → Bool) (from end n : ℕ) (B : ℕ → ℕ → Bool) (before : from < end) (len : n ≡ size_at b from)
    (hB : (i j : ℕ) → B i j ≡ (kept work from i j && between (clear (less S (labelled b from n))) e i j)) where
  pub walk_first : Walks b e work o S from end (from + n) B
  unfolding Ready
  walk_first none held ends w s r = absurd (omega arith)
  walk_first (more t rest) held ends w s r =
      let size_is : n ≡ size t = len ∙ holds_size t b from held.0 in
      let wt : WellFormed code_count t = first_formed code_count t rest w in
      record {
        done = more t none;
        rest = rest;
        whole = refl;
        held = subst (λ (x : ℕ). HoldsAll rest b (from + x)) (sym size_is) held.1;
        ends = omega arith;
        means = first_means o S t e B
            (child_means b e work S from n B hB t held.0 wt size_is (r t from (omega arith) before held.0 wt) o (more t rest) s (labels_in none t rest (more t rest) refl));
      }

module _ (b e work : List ℕ) (o : Op) (S : ℕ → Bool) (from end at n : ℕ) (R B Q : ℕ → ℕ → Bool) (short : length e ≤ 63)
    (past : from ≤ at) (before : at < end) (len : n ≡ size_at b at)
    (hB : (i j : ℕ) → B i j ≡ (kept work at i j && between (clear (less S (labelled b at n))) e i j))
    (hQ : (i j : ℕ) → Q i j ≡ joined_by o (R i) B i j) where
  turn : (f : Forest) → WellFormedAll code_count f → Scoped o S f → Ready b e work from end
      → (d r : Forest) → append d r ≡ f → HoldsAll r b at → at + sizes r ≡ end → Means (scope o S (labels_all d)) (λ w. Listed o d w) e R
      → Walked o S b e f (at + n) end Q
  unfolding Ready
  turn f w s r d none q h g m = absurd (omega arith)
  turn f w s r d (more t rest) q h g m =
      let size_is : n ≡ size t = len ∙ holds_size t b at h.0 in
      let wd : WellFormedAll code_count (append d (more t rest)) = subst (λ (x : Forest). WellFormedAll code_count x) (sym q) w in
      let wt : WellFormed code_count t = first_formed code_count t rest (back_formed code_count d (more t rest) wd) in
      let mine = child_means b e work S at n B hB t h.0 wt size_is (r t at past before h.0 wt) o f s (labels_in d t rest f q) in
      record {
        done = snoc d t;
        rest = rest;
        whole = append_snoc d t rest ∙ q;
        held = subst (λ (x : ℕ). HoldsAll rest b (at + x)) (sym size_is) h.1;
        ends = omega arith;
        means = means_rows (scope o S (labels_all (snoc d t))) (λ x. Listed o (snoc d t) x) e (λ i j. joined_by o (R i) B i j) Q hQ
            (more_means S d t e short (child_apart code_count d t rest wd) R B o m mine);
      }

  pub walk_step : Walks b e work o S from end at R → Walks b e work o S from end (at + n) Q
  walk_step walks f held ends w s r =
      let x = walks f held ends w s r in
      turn f w s r x.done x.rest x.whole x.held x.ends x.means

pub walk_end : (b e work : List ℕ) (o : Op) (S : ℕ → Bool) (from end at : ℕ) (R : ℕ → ℕ → Bool) → end ≤ at → Walks b e work o S from end at R → ListMeans b e work o S from end R
unfolding ListMeans
walk_end b e work o S from end at R l walks f held ends w s r =
    let x = walks f held ends w s r in
    subst (λ (g : Forest). Means (scope o S (labels_all g)) (λ w. Listed o g w) e R) (all x.done x.rest x.whole x.held x.ends) x.means
  where
    all : (d g : Forest) → append d g ≡ f → HoldsAll g b at → at + sizes g ≡ end → d ≡ f
    all d none q h m = sym (append_none d) ∙ q
    all d (more t g) q h m = absurd (omega (arith, size_some t))

-- ---- a loop: its body, and the redos

pub loop_children : (b e work : List ℕ) (S : ℕ → Bool) (from n end : ℕ) (A B Q : ℕ → ℕ → Bool) → length e ≤ 63 → from < end → n ≡ size_at b from
    → ((i j : ℕ) → A i j ≡ (kept work from i j && between (clear (less S (labelled b from n))) e i j))
    → ListMeans b e work loop S (from + n) end B
    → (Upper A → Upper B → (i j : ℕ) → Says (Q i j) (Loops A B i j))
    → LoopMeans b e work S from end Q
unfolding LoopMeans ListMeans Ready
loop_children b e work S from n end A B Q short before len hA hB hQ t f held ends w s r =
    let size_is : n ≡ size t = len ∙ holds_size t b from held.0 in
    let wt = first_formed code_count t f w in
    let body : Means S (λ x. In t x) e A = child_whole b e work S from n A hA t held.0 wt size_is (r t from (omega arith) before held.0 wt)
    (λ c m. s c (has_append_left c (labels t) (labels_all f) m)) in
    let redo : Means S (λ x. InOne f x) e B = hB f (subst (λ (x : ℕ). HoldsAll f b (from + x)) (sym size_is) held.1) (omega arith) (others_formed code_count t f w)
    (λ c m. s c (has_append_right c (labels t) (labels_all f) m)) (λ u v g k. r u v (omega arith) k) in
    loop_means S (λ x. In t x) (λ x. InOne f x) e A B body redo Q
    (hQ (means_upper S (λ x. In t x) e A short body) (means_upper S (λ x. InOne f x) e B short redo))
