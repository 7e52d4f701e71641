-- A record of a sound block is a record of the log, at the block's base and its own place.
use mathlib.Core.Path.{◌≡◌, refl, sym, ap, subst, ◌∙◌}
use mathlib.Core.List.{List, [], ◌∷◌, ◌++◌}
use Prim.Native.Nat.{ℕ, suc, ◌+◌, ◌-◌, ◌*◌, ◌≤◌, ◌<◌}
use native.Mathlib.Nat.{add-sub_cancel_left}
use native.Mathlib.Omega.{arith}
use lib.ListN.{length, get_or}
use Rattle.rules.specs.Words.{part}
use Rattle.rules.specs.Mining.{Episode}
use Rattle.rules.specs.Refusals.{Given}
use Rattle.rules.specs.LogBlock.{frame_at, codes_by, events_at, record_at, records_at, blocks_at, episodes_at, block_episodes, episodes_from}
use Rattle.rules.specs.Calls.{top_code, code_count}
use Rattle.rules.proofs.AnswerLaws.{given_is, gives_same}
use Rattle.block_seal.proofs.PartLaws.{length_part, get_d_part, part_is}
use Rattle.log_records.proofs.RecordLaws.{size_le, Framed, frame_given, frame_events, record_given}
use Rattle.log_episodes.proofs.EpisodeLaws.{records_given, record_fine, records_fine, episodes_next, block_sound, blocks_episodes_next}
use Rattle.mine_places.specs.Places.{codes_of, events_of, episode_of, All, Recorded}
use Rattle.mine_places.proofs.ListLaws.{has_all, codes_counted}
use Rattle.std.specs.Prelude.{Ok}

-- the block that a walk over the log has come to
pub block_here : (w : ℕ) (log : List ℕ) (base left : ℕ) → Given (blocks_at w top_code left log base) → 0 < left → Given (records_at w top_code (get_or (part log base 512) 0 0) (part log base 512) 1)
block_here w log base left sound h =
    subst (λ (n : ℕ). Given (records_at w top_code (get_or (part log base n) 0 0) (part log base n) 1)) (add-sub_cancel_left base 512) (block_sound w top_code log base left sound h)

pub blocks_here : (w : ℕ) (log : List ℕ) (base left : ℕ) → 0 < left → episodes_from w left log base ≡ block_episodes w (part log base 512) ++ episodes_from w (left - 1) log (base + 512)
blocks_here w log base left h =
    blocks_episodes_next w log base left h ∙ ap (λ (n : ℕ). block_episodes w (part log base n) ++ episodes_from w (left - 1) log (base + 512)) (add-sub_cancel_left base 512)

-- as many episodes as records
pub episodes_left : (w : ℕ) (b : List ℕ) (at left : ℕ) → 1 ≤ w → Given (records_at w top_code left b at) → length (episodes_at w left b at) ≡ left
episodes_left w b at left some sound = let is = given_is (records_at w top_code left b at) sound in (records_fine w top_code left b at is.0 some is.1).0

module _ (w : ℕ) (some : 1 ≤ w) (few : w ≤ 3) (log : List ℕ) (base : ℕ) (room : base + 512 ≤ length log) (at left : ℕ) (sound : Given (records_at w top_code left (part log base 512) at)) (h : 0 < left) where
  abbrev b : List ℕ
  b = part log base 512

  abbrev n : ℕ
  n = get_or b at 0

  met : (next : ℕ) × (record_at w top_code b at ≡ Ok next)
  met =
      let is = given_is (records_at w top_code left b at) sound in
      let q : left ≡ suc (left - 1) = omega arith in
      let s = records_given w top_code (left - 1) b at is.0 (ap (λ (k : ℕ). records_at w top_code k b at) (sym q) ∙ is.1) in
      (s.0, s.1)

  abbrev end : ℕ
  end = met.0

  framed : frame_at w b at ≡ Ok end
  framed = (record_given w top_code b at end met.1).0

  frame : Framed w b at end
  frame = frame_given w b at end framed

  pub block_place : at ≤ 507
  block_place = let f = frame in omega (arith, f.size, f.within)

  byte : n ≡ get_or log (base + at) 0
  byte = let f = frame in get_d_part log base 512 at (omega (arith, f.size, f.within))

  size : length (events_at b at end) ≡ n * w
  size = frame_events w b at end n (Ok end) (length_part log base 512 room) (sym framed) refl refl

  -- the events of the record in the log are those of the record in the block
  events : events_of w log (base + at) ≡ events_at b at end
  events =
      let f = frame in
      let e : end - (at + 1) ≡ n * w = omega (arith, f.size) in
      ap (λ (k : ℕ). part log (base + at + 1) (k * w)) (sym byte) ∙ ap (part log (base + at + 1)) (sym size)
      ∙ part_is log (events_at b at end) (base + at + 1) (omega (arith, size, f.size, f.within))
      (λ j k.
      let i : base + at + 1 + j ≡ base + (at + 1 + j) = omega arith in
      let inside : j < n * w = subst (λ (m : ℕ). j < m) size k in
      ap (λ (m : ℕ). get_or log m 0) i ∙ sym (get_d_part b (at + 1) (end - (at + 1)) j (omega (arith, e, inside)) ∙ get_d_part log base 512 (at + 1 + j) (omega (arith, inside, f.size, f.within))))

  counted : codes_by n w (events_at b at end) ≡ episode_of w log (base + at)
  counted = codes_counted w some n (events_at b at end) size ∙ ap (codes_of w) (sym events)

  pub block_recorded : Recorded w log (base + at)
  block_recorded =
      let f = frame in
      let short : get_or log (base + at) 0 ≤ 63 = subst (λ (k : ℕ). k ≤ 63) byte f.short in
      record {
        short = short;
        inside = subst (λ (k : ℕ). base + at + 1 + k * w ≤ length log) byte (omega (arith, f.size, f.within));
        events = record {
          some = some;
          few = few;
          short = subst (λ (s : List ℕ). length s ≤ 189) (sym events) (omega (arith, size, size_le n w f.short few));
          codes = subst (All (λ c. c < code_count)) counted (has_all (λ c. c < code_count) (codes_by n w (events_at b at end)) (λ c m. let g = (record_fine w top_code b at end some met.1).codes c m in omega arith));
        };
      }

  pub block_next : (next : ℕ) → Ok next ≡ frame_at w b at → episodes_at w left b at ≡ (episode_of w log (base + at) ∷ []) ++ episodes_at w (left - 1) b next
  block_next next call =
      let e : end ≡ next = gives_same end next (sym framed ∙ sym call) in
      episodes_next w b at left next call h
      ∙ ap (λ (k : ℕ). codes_by n w (events_at b at k) ∷ episodes_at w (left - 1) b next) (sym e)
      ∙ ap (λ (t : Episode). t ∷ episodes_at w (left - 1) b next) counted
