-- How lines of verdicts follow one another.
use mathlib.Core.Path.{◌≡◌, refl, sym, ap, subst, ◌∙◌}
use mathlib.Core.List.{List, [], ◌∷◌, ◌++◌, append_assoc, append-nil}
use mathlib.Core.Bool.{Bool}
use Prim.Native.Nat.{ℕ, suc, ◌+◌, ◌-◌, ◌*◌, ◌≤◌, ◌<◌}
use native.Mathlib.Omega.{arith}
use lib.ListN.{length, get_or, take, drop, length-append}
use lib.Seq.{take-append_seam, drop-append_seam, drop-drop}
use Rattle.rules.specs.Words.{part}
use Rattle.rules.specs.Heartbeats.{without_heartbeats}
use Rattle.rules.specs.Trees.{Tree, In}
use Rattle.rules.specs.TreeBlock.{tree_block}
use Rattle.rules.specs.Refusals.{Given, Answer}
use Rattle.rules.specs.LogBlock.{events_at, frame_at, episodes_at, block_episodes, episodes_from, log_episodes}
use Rattle.rules.specs.Calls.{lent, checking, judging, Judged, VerdictOf, JudgeSays}
use Rattle.rules.specs.Listing.{verdict_line, verdict_lines}
use Rattle.rules.specs.Printed.{Tells, Told}
use Rattle.rules.specs.declared.Verdict.{Verdict}
use Rattle.rules.specs.declared.Verdict.TheVariants.{Fits, Misfit}
use Rattle.rules.specs.declared.Refusal.{Refusal}
use Rattle.rules.proofs.AnswerLaws.{given_is}
use Rattle.log_episodes.proofs.EpisodeLaws.{episodes_end, episodes_next, events_codes, blocks_episodes_end, blocks_episodes_next}
use Rattle.text_writing.specs.Writing.{Wrote}
use Rattle.text_writing.proofs.WroteLaws.{wrote_nothing, wrote_then, wrote_most}
use Rattle.text_verdicts.specs.Lines.{fitting, Lines, LogLines}
use Rattle.text_verdicts.proofs.GivenLaws.{judging_given}
use Rattle.std.specs.Prelude.{Result, Ok, Err}

-- the lines of more tests come after
verdicts_append : (n : ℕ) (fs gs : List Bool) → verdict_lines n (fs ++ gs) ≡ verdict_lines n fs ++ verdict_lines (n + length fs) gs
unfolding verdict_lines
verdicts_append n [] gs = ap (λ (k : ℕ). verdict_lines k gs) (let e : n ≡ n + 0 = omega arith in e)
verdicts_append n (f ∷ fs) gs =
    ap (λ (s : List ℕ). verdict_line n f ++ s) (verdicts_append (n + 1) fs gs)
    ∙ sym (append_assoc (verdict_line n f) (verdict_lines (n + 1) fs) (verdict_lines (n + 1 + length fs) gs))
    ∙ ap (λ (k : ℕ). (verdict_line n f ++ verdict_lines (n + 1) fs) ++ verdict_lines k gs) (let e : n + 1 + length fs ≡ n + suc (length fs) = omega arith in e)

told_append : (t : Tree) (es rest : List (List ℕ)) (fs gs : List Bool) → Told t es fs → Told t rest gs → Told t (es ++ rest) (fs ++ gs)
told_append t [] rest [] gs a c = c
told_append t [] rest (f ∷ fs) gs a c = absurd a
told_append t (e ∷ es) rest [] gs a c = absurd a
told_append t (e ∷ es) rest (f ∷ fs) gs a c = (a.0, told_append t es rest fs gs a.1 c)

-- no line yet
pub lines_none : (b : List ℕ) (whole rest : List (List ℕ)) (first : ℕ) (old : List ℕ) (at : ℕ) → whole ≡ rest → Lines b whole rest first first old at old at
unfolding verdict_lines
lines_none b whole rest first old at e =
    record { said = []; count = omega arith; wrote = wrote_nothing old at; right = λ t block fs h. subst (λ (es : List (List ℕ)). Told t es fs) (sym e) h }

-- the lines of the episodes that come next
pub lines_then : {b old mid new : List ℕ} {whole es rest : List (List ℕ)} {first n m at k r : ℕ} → at + 13 * m ≤ length old + 13 * first
    → Lines b whole (es ++ rest) first n old at mid k → Lines b es [] n m mid k new r → Lines b whole rest first m old at new r
lines_then {b} {old} {mid} {new} {whole} {es} {rest} {first} {n} {m} {at} {k} {r} room v w =
    let a = v.said in
    let c = w.said in
    let p = v.count in
    let q = w.count in
    let l = length-append a c in
    let text : verdict_lines first a ++ verdict_lines n c ≡ verdict_lines first (a ++ c) =
    ap (λ (i : ℕ). verdict_lines first a ++ verdict_lines i c) p ∙ sym (verdicts_append first a c) in
    record {
      said = a ++ c;
      count = omega arith;
      wrote =
          subst
          (λ (s : List ℕ). Wrote (13 * length (a ++ c)) old at s new r)
          text
          (wrote_most (wrote_then v.wrote (omega arith) w.wrote) (omega arith) (13 * length (a ++ c)) (omega arith));
      right = λ t block fs h.
          subst
          (λ (gs : List Bool). Told t whole gs)
          (sym (append_assoc a c fs))
          (v.right t block (c ++ fs) (told_append t es rest c fs (subst (λ (gs : List Bool). Told t es gs) (append-nil c) (w.right t block [] tt)) h));
    }

-- ---- one verdict

tells : (t : Tree) (e : List ℕ) (v : Result Verdict Refusal) → Judged t e v → Tells (fitting v) (In t e)
tells t e (Ok Fits) j = j
tells t e (Ok Misfit) j = j
tells t e (Err refusal) j = absurd j

pub verdict_said : {b e work work' old new : List ℕ} {v : Result Verdict Refusal} {f : Bool} {n at r : ℕ} → Given (checking b) → Given (lent 1 e) → 8128 ≤ length work
    → JudgeSays b e work v work' → f ≡ fitting v → Wrote 13 old at (verdict_line n f) new r → Lines b (e ∷ []) [] n (n + 1) old at new r
unfolding verdict_lines
verdict_said {b} {e} {work} {work'} {old} {new} {v} {f} {n} {at} {r} g l room says is w =
    let j = given_is (judging b e work) (judging_given b e work g l room) in
    let judged : (t : Tree) → tree_block t ≡ b → Judged t (without_heartbeats e) v = subst (λ (x : Answer). VerdictOf x b e v) j.1 says.verdict in
    record {
      said = f ∷ [];
      count = refl;
      wrote = subst (λ (s : List ℕ). Wrote 13 old at s new r) (sym (append-nil (verdict_line n f))) w;
      right = λ t block fs h. (subst (λ (x : Bool). Tells x (In t (without_heartbeats e))) (sym is) (tells t (without_heartbeats e) v (judged t block)), h);
    }

-- ---- the turns of the walks

module _ (block : List ℕ) (place left : ℕ) {b old mid : List ℕ} {whole : List (List ℕ)} {first number at k : ℕ} where
  -- one record more
  pub record_lines : {new : List ℕ} {r : ℕ} (next : ℕ) → length block ≡ 512 → Ok next ≡ frame_at 1 block place → 0 < left
      → at + 13 * (number + 1) ≤ length old + 13 * first
      → Lines b whole (episodes_at 1 left block place) first number old at mid k → Lines b (events_at block place next ∷ []) [] number (number + 1) mid k new r
      → Lines b whole (episodes_at 1 (left - 1) block next) first (number + 1) old at new r
  record_lines next long call h room v w =
      let met : episodes_at 1 left block place ≡ events_at block place next ∷ episodes_at 1 (left - 1) block next =
      episodes_next 1 block place left next call h
      ∙ ap (λ (s : List ℕ). s ∷ episodes_at 1 (left - 1) block next) (events_codes block place next long call) in
      lines_then room (subst (λ (es : List (List ℕ)). Lines b whole es first number old at mid k) met v) w

  pub records_all : (n : ℕ) → left ≤ 0 → number ≡ n
      → Lines b whole (episodes_at 1 left block place) first number old at mid k → Lines b whole [] first n old at mid k
  records_all n h e v =
      let v' = subst (λ (es : List (List ℕ)). Lines b whole es first number old at mid k) (episodes_end 1 block place left h) v in
      subst (λ (m : ℕ). Lines b whole [] first m old at mid k) e v'

-- of a log the bytes from a place on are left
pub record BlocksLeft (log rest : List ℕ) (base : ℕ) : Type 0 where
  pub bytes : rest ≡ drop base log
  pub place : base + length rest ≡ length log

pub left_all : (log : List ℕ) → BlocksLeft log log 0
left_all log = record { bytes = refl; place = omega arith }

-- one block more
module _ (log rest block after : List ℕ) (base : ℕ) (l : BlocksLeft log rest base) (cut : rest ≡ block ++ after) (size : length block ≡ 512) where
  pub block_is : block ≡ part log base (base + 512 - base)
  block_is =
      let n : base + 512 - base ≡ length block = omega (arith, size) in
      sym (take-append_seam block after) ∙ ap (λ (s : List ℕ). take (length block) s) (sym cut ∙ l.bytes) ∙ ap (λ (m : ℕ). part log base m) (sym n)

  pub left_next : BlocksLeft log after (base + 512)
  left_next = record {
    bytes =
        sym (drop-append_seam block after) ∙ ap (λ (s : List ℕ). drop (length block) s) (sym cut ∙ l.bytes) ∙ drop-drop (length block) base log
        ∙ ap (λ (m : ℕ). drop m log) (let e : base + length block ≡ base + 512 = omega (arith, size) in e);
    place = omega (arith, l.place, ap length cut, length-append block after, size);
  }

module _ (log : List ℕ) (base left : ℕ) where
  -- one block more
  pub block_lines : {b old mid new : List ℕ} {whole : List (List ℕ)} {number k r : ℕ} (block : List ℕ) → block ≡ part log base (base + 512 - base) → 0 < left
      → 13 * (number + get_or block 0 0) ≤ length old + 13
      → Lines b whole (episodes_from 1 left log base) 1 number old 0 mid k
      → Lines b (block_episodes 1 block) [] number (number + get_or block 0 0) mid k new r
      → Lines b whole (episodes_from 1 (left - 1) log (base + 512)) 1 (number + get_or block 0 0) old 0 new r
  block_lines {b} {old} {mid} {new} {whole} {number} {k} {r} block is h room v w =
      let met = blocks_episodes_next 1 log base left h ∙ ap (λ (s : List ℕ). block_episodes 1 s ++ episodes_from 1 (left - 1) log (base + 512)) (sym is) in
      lines_then (omega arith) (subst (λ (es : List (List ℕ)). Lines b whole es 1 number old 0 mid k) met v) w

  -- every block has its lines
  pub log_lines : {b old new : List ℕ} {number r : ℕ} → left ≤ 0 → number ≤ 4081 → 53040 ≤ length old
      → Lines b (log_episodes 1 log) (episodes_from 1 left log base) 1 number old 0 new r → LogLines b log old new r
  log_lines {b} {old} {new} {number} {r} h few room v =
      let s = v.said in
      let c = v.count in
      let end = blocks_episodes_end 1 log base left h in
      record {
        said = s;
        wrote = wrote_most v.wrote (omega arith) 53040 (omega arith);
        right = λ t block.
            subst
            (λ (gs : List Bool). Told t (log_episodes 1 log) gs)
            (append-nil s)
            (v.right t block [] (subst (λ (es : List (List ℕ)). Told t es []) (sym end) tt));
      }
