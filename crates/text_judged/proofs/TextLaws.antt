-- The whole texts: a refusal's line as the only line, or the lines of all verdicts; and that no other text is meant.
use mathlib.Core.Path.{◌≡◌, refl, sym, ap, subst, ◌∙◌}
use mathlib.Core.List.{List, [], ◌∷◌}
use mathlib.Core.Bool.{Bool, true, false, false≢true}
use Prim.Native.Nat.{ℕ, zero, suc, ◌+◌, ◌≤◌, ◌<◌}
use native.Mathlib.Omega.{arith}
use lib.ListN.{length, get_or, take, drop}
use lib.Dec.{ltb, eqb}
use borrow.Author.Tests.{ltb-false}
use Rattle.rules.specs.Words.{pick}
use Rattle.rules.specs.Trees.{Tree, In}
use Rattle.rules.specs.TreeBlock.{tree_block}
use Rattle.rules.specs.Refusals.{number_of, Given, Answer}
use Rattle.rules.specs.Heartbeats.{without_heartbeats}
use Rattle.rules.specs.LogBlock.{log_sized, log_episodes}
use Rattle.rules.specs.Calls.{log_sound, log_reading, checking}
use Rattle.rules.specs.Listing.{refusal_line, verdict_lines}
use Rattle.rules.specs.Printed.{judge_reading, Tells, Told, VerdictsOf, JudgedBy, JudgedText}
use Rattle.rules.proofs.AnswerLaws.{is_given, demand_given, then_given}
use Rattle.rules.proofs.Overlay.{take_overlaid, drop_overlaid}
use Rattle.tree_check.proofs.Accepted.{accepted_tree}
use Rattle.text_writing.specs.Writing.{Wrote}
use Rattle.text_verdicts.specs.Lines.{LogLines}
use Rattle.text_judged.specs.Texts.{JudgedInto}
use Rattle.std.specs.Prelude.{Ok, Err}
use Rattle.rules.specs.declared.Refusal.{Refusal}
use Rattle.rules.specs.declared.Reason.TheVariants.{LogLength}

-- ---- an input that is read: what its tree and its log are

module _ (input : List ℕ) (r : Answer) (n : ℕ) (call : r ≡ judge_reading input) (e : r ≡ Ok n) where
  read : (m : ℕ) × (checking (take 512 input) ≡ Ok m) × (log_reading 1 (drop 512 input) ≡ Ok n)
  unfolding judge_reading
  read = then_given (checking (take 512 input)) (λ _. log_reading 1 (drop 512 input)) n (sym call ∙ e)

  pub tree_given : (front : List ℕ) → front ≡ take 512 input → Given (checking front)
  tree_given front is = is_given (checking front) (Ok read.0) read.0 (sym (ap checking is ∙ read.1)) refl

  module _ (rest : List ℕ) (is : rest ≡ drop 512 input) where
    sized : (log_sized rest ≡ true) × (log_sound 1 rest ≡ Ok n)
    unfolding log_reading
    sized = demand_given (log_sized rest) LogLength 0 (log_sound 1 rest) n (ap (log_reading 1) is ∙ read.2)

    pub log_given : Given (log_sound 1 rest)
    log_given = is_given (log_sound 1 rest) (Ok n) n (sym sized.1) refl

    pub log_few : length rest ≤ 8192
    log_few = ltb-false 8192 (length rest) (second (eqb (length rest) 0) (ltb 8192 (length rest)) _ sized.0)
      where
        second : (t u v : Bool) → pick t false (pick u false v) ≡ true → u ≡ false
        second true u v q = absurd (false≢true q)
        second false true v q = absurd (false≢true q)
        second false false v q = refl

-- ---- the text as it stands in lent memory

into : {m k : ℕ} {old new : List ℕ} (input s : List ℕ) → m ≤ 53040 → 53040 ≤ length old → Wrote m old 0 s new k → JudgedText input s → JudgedInto input old new k
into {m} {k} {old} {new} input s few room w says =
    let at = w.next in
    let most = w.most in
    let fits : 0 + length s ≤ length old = omega arith in
    let shown : take k new ≡ s = (λ i. take (at i) (w.text i)) ∙ take_overlaid old 0 s fits in
    record {
      text = subst (JudgedText input) (sym shown) says;
      rest = (λ i. drop (at i) (w.text i)) ∙ drop_overlaid old 0 s fits ∙ ap (λ (n : ℕ). drop n old) (sym at);
      most = omega arith;
      kept = w.kept;
    }

module _ (input : List ℕ) (r : Answer) (call : r ≡ judge_reading input) where
  -- a refusal's line is the only line
  pub judged_refused : {old new : List ℕ} {k : ℕ} (refusal : Refusal) → r ≡ Err refusal → (number : ℕ) → number ≡ number_of refusal.reason → 53040 ≤ length old
      → Wrote 21 old 0 (refusal_line number refusal.place) new k → JudgedInto input old new k
  judged_refused refusal e number is room w =
      let line : List ℕ = refusal_line number refusal.place in
      into input line (omega arith) room w
      (record { said = subst (λ (a : Answer). JudgedBy a (take 512 input) (drop 512 input) line) (sym e ∙ call) (ap (λ (n : ℕ). refusal_line n refusal.place) is) })

  pub judged_lines : {front rest old new : List ℕ} {n k : ℕ} → r ≡ Ok n → front ≡ take 512 input → rest ≡ drop 512 input → 53040 ≤ length old
      → LogLines front rest old new k → JudgedInto input old new k
  judged_lines {front} {rest} {old} {new} {n} {k} e is_front is-rest room l =
      let text : List ℕ = verdict_lines 1 l.said in
      let verdicts : (t : Tree) → tree_block t ≡ take 512 input → VerdictsOf t (drop 512 input) text =
      λ t block.
      record {
        verdicts = l.said;
        told = subst (λ (log : List ℕ). Told t (log_episodes 1 log) l.said) is-rest (l.right t (block ∙ sym is_front));
        lines = refl;
      } in
      into input text (omega arith) room l.wrote
      (record { said = subst (λ (a : Answer). JudgedBy a (take 512 input) (drop 512 input) text) (sym e ∙ call) verdicts })

-- ---- no other text meets the contract

tells_one : (A : Type 0) (f g : Bool) → Tells f A → Tells g A → f ≡ g
tells_one A true true a c = refl
tells_one A true false a c = absurd (c a)
tells_one A false true a c = absurd (a c)
tells_one A false false a c = refl

told_one : (t : Tree) (es : List (List ℕ)) (fs gs : List Bool) → Told t es fs → Told t es gs → fs ≡ gs
told_one t [] [] [] a c = refl
told_one t [] [] (g ∷ gs) a c = absurd c
told_one t [] (f ∷ fs) gs a c = absurd a
told_one t (e ∷ es) [] gs a c = absurd a
told_one t (e ∷ es) (f ∷ fs) [] a c = absurd c
told_one t (e ∷ es) (f ∷ fs) (g ∷ gs) a c = λ i. tells_one (In t (without_heartbeats e)) f g a.0 c.0 i ∷ told_one t es fs gs a.1 c.1 i

-- THEOREM: the verdicts of a tree on a log make one text
pub verdicts_one : (t : Tree) (log s s' : List ℕ) → VerdictsOf t log s → VerdictsOf t log s' → s ≡ s'
verdicts_one t log s s' v w =
    v.lines ∙ ap (verdict_lines 1) (told_one t (log_episodes 1 log) v.verdicts w.verdicts v.told w.told) ∙ sym w.lines

front_bytes : (n : ℕ) (l : List ℕ) → ((i : ℕ) → get_or l i 0 < 256) → (i : ℕ) → get_or (take n l) i 0 < 256
front_bytes zero l h i = omega arith
front_bytes (suc n) [] h i = omega arith
front_bytes (suc n) (x ∷ l) h zero = h 0
front_bytes (suc n) (x ∷ l) h (suc i) = front_bytes n l (λ j. h (suc j)) i

-- THEOREM: an input of bytes has one text
pub judged_one : (input s s' : List ℕ) → ((i : ℕ) → get_or input i 0 < 256) → JudgedText input s → JudgedText input s' → s ≡ s'
judged_one input s s' bytes v w = go (judge_reading input) refl v.said w.said
  where
    go : (a : Answer) → judge_reading input ≡ a → JudgedBy a (take 512 input) (drop 512 input) s → JudgedBy a (take 512 input) (drop 512 input) s' → s ≡ s'
    go (Ok n) e p q =
        let m = read input (Ok n) n (sym e) refl in
        let found = accepted_tree (take 512 input) (front_bytes 512 input bytes) m.0 m.1 in
        verdicts_one found.0 (drop 512 input) s s' (p found.0 found.1.block) (q found.0 found.1.block)
    go (Err refusal) e p q = p ∙ sym q
