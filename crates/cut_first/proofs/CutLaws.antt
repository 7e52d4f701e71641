-- When there is a cut, and how many parts and codes it takes. Over any number of codes m.
use mathlib.Core.Path.{◌≡◌, refl, sym, ◌∙◌, ap}
use mathlib.Core.Logic.{inl, inr, ⊎_elim}
use mathlib.Core.List.{List, [], ◌∷◌}
use mathlib.Core.Bool.{Bool, true, false, not}
use Prim.Native.Nat.{ℕ, ◌≤◌, ◌<◌}
use native.Mathlib.Omega.{arith}
use lib.ListN.{length}
use borrow.Author.Tests.{lt-ltb}
use Rattle.std.specs.Prelude.{Option, Some, None, is_some}
use Rattle.rules.specs.declared.Operator.TheVariants.{Choice, Sequence, Parallel, Loop}
use Rattle.rules.specs.Words.{pick, any, keep, from}
use Rattle.rules.specs.Trees.{Op, choice, sequence, parallel, loop}
use Rattle.rules.specs.Mining as mining
use Rattle.rules.specs.Mining.{Rel, Shape, nothing, flower, cut, or_else, cut_or, reach, components, join, either, together, not_both, has_start, on_border, is_redo, choice_parts, sequence_parts, parallel_parts, redo_parts, loop_parts}
use Rattle.rules.specs.Calls.{code_count}
use Rattle.rules.proofs.BoolLaws.{bool_cases, clash}
use Rattle.rules.proofs.ListLaws.{Has, has_any, false_any, keep_all, length_from, length_push, length_keep}
use Rattle.rules.proofs.Order.{length_ordered}
use Rattle.rules.proofs.ParallelParts.{parallel_number}
use Rattle.code_sets.specs.Bits.{has, listed}
use Rattle.graph_rows.specs.declared.Graph.{Graph}
use Rattle.graph_rows.specs.Edges.{meant}
use Rattle.graph_rows.proofs.TableLaws.{Table}
use Rattle.cut_sequence.specs.Order.{in_sequence}
use Rattle.cut_sequence.proofs.SequenceLaws.{sequence_is}
use Rattle.cut_parts.specs.declared.Parts.{Parts}
use Rattle.cut_parts.specs.Sets.{lists_of}
use Rattle.cut_parts.proofs.SetLaws.{number}
use Rattle.cut_loop.specs.Roomed.{roomed}
use Rattle.cut_first.specs.declared.Cut.{Cut}
use Rattle.cut_first.specs.Cuts.{Inside, cut_else, cut_shape, WithoutLoop, CutOf}

-- ---- how many

length_dropped : {A : Type 0} (p : A → Bool) (x : A) (xs : List A) → Has x xs → p x ≡ false → length (keep p xs) < length xs
length_dropped p x [] m h = absurd m
length_dropped p x (y ∷ ys) (inl e) h = rw (ap p (sym e) ∙ h) (omega (arith, length_keep p ys))
length_dropped p x (y ∷ ys) (inr m) h = omega (arith, length_dropped p x ys m h, length_push (p y) y (keep p ys))

-- there are no more components than codes
pub length_components : (r : Rel) (cs : List ℕ) → length (components r cs) ≤ length cs
unfolding components join
length_components r [] = omega arith
length_components r (x ∷ xs) = omega (arith, length_components r xs, length_keep (λ g. not (any (r x) g)) (components r xs))

pub length_listed : (m x : ℕ) → length (listed m x) ≤ m
unfolding listed
length_listed m x = omega (arith, length_keep (has x) (from 0 m), length_from m 0)

-- the components without starts and ends are fewer than the codes: the border has a code, or there is no choice
fewer : (m : ℕ) (g : mining.Graph) → length g.codes ≤ m → 2 ≤ m → length (choice_parts g) < 2 → length (components (either g.edge) (keep (λ a. not (on_border g a)) g.codes)) < m
unfolding choice_parts
fewer m g l two h =
    ⊎_elim
    (λ (y : any (on_border g) g.codes ≡ true). let k = has_any (on_border g) g.codes y in
    omega (arith, length_components (either g.edge) (keep (λ a. not (on_border g a)) g.codes), length_dropped (λ a. not (on_border g a)) k.0 g.codes k.1 (ap not k.2)))
    (λ (y : any (on_border g) g.codes ≡ false).
    let e : keep (λ a. not (on_border g a)) g.codes ≡ g.codes = keep_all (λ a. not (on_border g a)) g.codes (λ a i. ap not (false_any (on_border g) a g.codes y i)) in
    rw e (omega arith))
    (bool_cases (any (on_border g) g.codes))

-- THEOREM: where there is no choice, the redo parts leave room for the body
pub room : (g : mining.Graph) → length g.codes ≤ code_count → length (choice_parts g) < 2 → roomed g ≡ loop_parts g
unfolding roomed redo_parts
room g l h =
    let parts : List (List ℕ) = components (either g.edge) (keep (λ a. not (on_border g a)) g.codes) in
    ap (λ (b : Bool). pick b (loop_parts g) []) (lt-ltb (length (redo_parts g)) code_count (omega (arith, fewer code_count g l (omega arith) h, length_keep (is_redo g (keep (on_border g) g.codes)) parts)))

-- the groups in the order of reach are the parts of the sequence, where every edge is between codes of the set
pub ordered_parts : (g : Graph) (kept : ℕ) → Table code_count g.rows → Inside g kept → in_sequence g.rows kept ≡ sequence_parts (meant g kept)
unfolding meant
ordered_parts g kept t inside = sequence_is g.rows kept t inside g.starts.bits g.ends.bits

-- ---- a cut needs two parts or more

module _ (o : Op) (s : Shape) where
  pub cut_here : (ps : List (List ℕ)) → 2 ≤ length ps → cut o ps ≡ or_else o ps s
  unfolding or_else
  cut_here [] h = absurd (omega arith)
  cut_here (p ∷ []) h = absurd (omega arith)
  cut_here (p ∷ q ∷ ps) h = refl

  pub cut_later : (ps : List (List ℕ)) → length ps < 2 → s ≡ or_else o ps s
  unfolding or_else
  cut_later [] h = refl
  cut_later (p ∷ []) h = refl
  cut_later (p ∷ q ∷ ps) h = absurd (omega arith)

uncut : (o : Op) (s : Shape) (ps : List (List ℕ)) → nothing ≡ or_else o ps s → length ps < 2
unfolding or_else
uncut o s [] h = omega arith
uncut o s (p ∷ []) h = omega arith
uncut o s (p ∷ q ∷ ps) h = clash (cc)

-- parts that were looked for are those of the rule
pub record Looked (p : Parts) (ps : List (List ℕ)) : Type 0 where
  pub size : length p.sets ≡ code_count
  pub few : p.n ≤ code_count
  pub is : lists_of p ≡ ps

pub looked : (p : Parts) (ps : List (List ℕ)) → Table code_count p.sets → (p.n ≤ code_count) × (lists_of p ≡ ps) → Looked p ps
looked p ps t e = record { size = t.size; few = e.0; is = e.1 }

module _ (o : Op) (s : Shape) {p : Parts} {ps : List (List ℕ)} (k : Looked p ps) where
  cut_found : 2 ≤ p.n → cut o (lists_of p) ≡ or_else o ps s
  cut_found h = ap (cut o) k.is ∙ cut_here o s ps (omega (arith, number p ps k.size k.few k.is))

  cut_missed : p.n < 2 → s ≡ or_else o ps s
  cut_missed h = cut_later o s ps (omega (arith, number p ps k.size k.few k.is))

-- ---- the first of choice, sequence and parallel: the parts of each, as they are looked for

-- what is left to try after choice
abbrev after_choice : mining.Graph → Shape → Shape
after_choice g s = or_else sequence (sequence_parts g) (or_else parallel (parallel_parts g) s)

module _ (g : Graph) (kept : ℕ) (ch : Parts) (choices : Looked ch (choice_parts (meant g kept))) where
  pub first_choice : 2 ≤ ch.n → WithoutLoop g kept (Some (record { operator = Choice; parts = ch }))
  first_choice h =
      record {
        few = choices.few;
        two = h;
        shape = λ i s. cut_found choice (after_choice (meant g kept) s) choices h;
      }

  module _ (none : ch.n < 2) (se : Parts) (sequences : Inside g kept → Looked se (sequence_parts (meant g kept))) (few : se.n ≤ code_count) where
    no_choice : (s : Shape) → after_choice (meant g kept) s ≡ or_else choice (choice_parts (meant g kept)) (after_choice (meant g kept) s)
    no_choice s = cut_missed choice (after_choice (meant g kept) s) choices none

    pub first_sequence : 2 ≤ se.n → WithoutLoop g kept (Some (record { operator = Sequence; parts = se }))
    first_sequence h =
        record {
          few = few;
          two = h;
          shape = λ i s. cut_found sequence (or_else parallel (parallel_parts (meant g kept)) s) (sequences i) h ∙ no_choice s;
        }

    module _ (later : se.n < 2) (pa : Parts) (parallels : Looked pa (parallel_parts (meant g kept))) where
      no_sequence : Inside g kept → (s : Shape) → or_else parallel (parallel_parts (meant g kept)) s ≡ or_else choice (choice_parts (meant g kept)) (after_choice (meant g kept) s)
      no_sequence i s = cut_missed sequence (or_else parallel (parallel_parts (meant g kept)) s) (sequences i) later ∙ no_choice s

      pub first_parallel : 2 ≤ pa.n → WithoutLoop g kept (Some (record { operator = Parallel; parts = pa }))
      first_parallel h =
          record {
            few = parallels.few;
            two = h;
            shape = λ i s. cut_found parallel s parallels h ∙ no_sequence i s;
          }

      pub none_of_three : pa.n < 2 → WithoutLoop g kept None
      none_of_three h =
          record {
            few = tt;
            two = tt;
            shape = λ i s. cut_missed parallel s parallels h ∙ no_sequence i s;
          }

-- ---- one code alone has no choice, sequence or parallel cut

-- no cut of the first three
abbrev pub Later : mining.Graph → Type 0
Later g = (s : Shape) → s ≡ or_else choice (choice_parts g) (or_else sequence (sequence_parts g) (or_else parallel (parallel_parts g) s))

pub later_alone : (g : mining.Graph) → length g.codes < 2 → Later g
unfolding choice_parts sequence_parts
later_alone g l s =
    let few : (r : Rel) → length (components r g.codes) < 2 = λ r. omega (arith, length_components r g.codes) in
    let a = few (either g.edge) in
    let b = few (together (reach g)) in
    let d = few (not_both g.edge) in
    cut_later parallel s (parallel_parts g) (omega (arith, parallel_number g, length_keep (has_start g) (components (not_both g.edge) g.codes)))
    ∙ cut_later sequence (or_else parallel (parallel_parts g) s) (sequence_parts g) (omega (arith, length_ordered (reach g) (components (together (reach g)) g.codes)))
    ∙ cut_later choice (or_else sequence (sequence_parts g) (or_else parallel (parallel_parts g) s)) (choice_parts g) a

later_choice : (g : mining.Graph) → Later g → length (choice_parts g) < 2
later_choice g h = uncut choice (or_else sequence (sequence_parts g) (or_else parallel (parallel_parts g) nothing)) (choice_parts g) (h nothing)

-- the loop, where there is none of the first three
module _ (g : Graph) (kept : ℕ) (later : Inside g kept → Later (meant g kept)) (lo : Parts) (k : Looked lo (roomed (meant g kept))) where
  loops : Inside g kept → Looked lo (loop_parts (meant g kept))
  unfolding meant
  loops i = record { size = k.size; few = k.few; is = k.is ∙ room (meant g kept) (length_listed code_count kept) (later_choice (meant g kept) (later i)) }

  pub first_loop : 2 ≤ lo.n → CutOf g kept (Some (record { operator = Loop; parts = lo }))
  unfolding cut_shape cut_or
  first_loop h =
      let none = flower (listed code_count kept) in
      record { few = k.few; two = h; shape = λ i. cut_found loop none (loops i) h ∙ later i (or_else loop (loop_parts (meant g kept)) none) }

  pub none_of_four : lo.n < 2 → CutOf g kept None
  unfolding cut_shape cut_or
  none_of_four h =
      let none = flower (listed code_count kept) in
      record { few = tt; two = tt; shape = λ i. cut_missed loop none (loops i) h ∙ later i (or_else loop (loop_parts (meant g kept)) none) }

-- ---- what a cut says

pub cut_none : (r : Option Cut) → is_some r ≡ false → (s : Shape) → cut_else r s ≡ s
cut_none None e s = refl
cut_none (Some c) e s = cc

pub cut_some : (r : Option Cut) → is_some r ≡ true → (g : Graph) (kept : ℕ) → WithoutLoop g kept r → CutOf g kept r
unfolding cut_shape cut_or
cut_some None e g kept w = cc
cut_some (Some c) e g kept w = record { few = w.few; two = w.two; shape = λ i. w.shape i (or_else loop (loop_parts (meant g kept)) (flower (listed code_count kept))) }
