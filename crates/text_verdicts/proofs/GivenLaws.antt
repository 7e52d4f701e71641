-- Answers that are no refusal: of the tree, and of each episode met in a log.
use mathlib.Core.Path.{◌≡◌, refl, ap, subst, ◌∙◌}
use mathlib.Core.List.{List}
use mathlib.Core.Bool.{true}
use Prim.Native.Nat.{ℕ, ◌/◌, ◌≤◌, ◌<◌}
use native.Mathlib.Nat.{mul-one}
use native.Mathlib.Omega.{arith}
use lib.ListN.{length, get_or}
use lib.Dec.{eqb}
use borrow.Author.Tests.{eqb-true, eq-eqb, le-leb}
use Rattle.rules.specs.Refusals.{Given}
use Rattle.rules.specs.LogBlock.{check_right, first_above, events_at, frame_at, records_at}
use Rattle.rules.specs.Calls.{top_code, lent, formed, checking, judging}
use Rattle.rules.proofs.AnswerLaws.{given_is, demand_given}
use Rattle.log_records.proofs.RecordLaws.{frame_given, frame_events, record_given}
use Rattle.log_events.proofs.LentLaws.{lent_here}
use Rattle.log_episodes.proofs.EpisodeLaws.{met_record}
use Rattle.std.specs.Prelude.{Ok}
use Rattle.rules.specs.declared.Reason.TheVariants.{TreeBlock}

-- ---- the tree

-- what a checked tree says
pub record Checked (b : List ℕ) : Type 0 where
  pub long : length b ≡ 512
  pub right : check_right b ≡ true
  pub nodes : ℕ
  pub formed : formed b ≡ Ok nodes

checked : (b : List ℕ) → Given (checking b) → Checked b
unfolding checking
checked b g =
    let is = given_is (checking b) g in
    let sized = demand_given (eqb (length b) 512) TreeBlock 0 _ is.0 is.1 in
    let right = demand_given (check_right b) TreeBlock 0 (formed b) is.0 sized.1 in
    record { long = eqb-true (length b) 512 sized.0; right = right.0; nodes = is.0; formed = right.1 }

-- judging by a checked tree refuses no episode that may be lent
pub judging_given : (b e work : List ℕ) → Given (checking b) → Given (lent 1 e) → 8128 ≤ length work → Given (judging b e work)
unfolding judging
judging_given b e work g l room =
    let k = checked b g in
    simp (eq-eqb (length b) 512 k.long, le-leb 8128 (length work) room, k.right, k.formed) l

-- ---- the record that a walk over a sound block meets: its events may be lent

pub met_lent : (b : List ℕ) (at left : ℕ) → Given (records_at 1 top_code left b at) → 0 < left → (next : ℕ) → Ok next ≡ frame_at 1 b at → length b ≡ 512 → Given (lent 1 (events_at b at next))
met_lent b at left sound h next call long =
    let s : List ℕ = events_at b at next in
    let n : ℕ = get_or b at 0 in
    let r = record_given 1 top_code b at next (met_record 1 top_code b at left sound h next call) in
    let f = frame_given 1 b at next r.0 in
    let short = f.short in
    let size = f.size in
    let len : length s ≡ n = frame_events 1 b at next n (frame_at 1 b at) long refl r.0 refl ∙ mul-one n in
    let count : n ≡ length s / 1 = omega arith in
    let clean = r.1 in
    subst Given
    (lent_here 1 s (omega arith) (omega arith) (first_above n 1 top_code s) (ap (λ (k : ℕ). first_above k 1 top_code s) count) (omega arith))
    tt
