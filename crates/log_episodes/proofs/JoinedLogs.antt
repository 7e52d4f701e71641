-- Two logs joined: the blocks of one and then those of the other.
use mathlib.Core.Path.{◌≡◌, refl, sym, ap, subst, ◌∙◌}
use mathlib.Core.List.{List, ◌++◌}
use mathlib.Core.Bool.{Bool, true, false}
use Prim.Native.Nat.{ℕ, zero, suc, ◌+◌, ◌-◌, ◌*◌, ◌/◌, ◌≤◌, ◌<◌}
use native.Mathlib.Omega.{arith}
use lib.ListN.{length, drop, take, length-append, length-drop}
use lib.Seq.{take-append-le, drop-append-le, drop-append-add}
use lib.Dec.{ltb}
use borrow.Author.Tests.{lt-ltb, ltb-true, ltb-false}
use Rattle.rules.specs.Words.{each}
use Rattle.rules.specs.Heartbeats.{without_heartbeats}
use Rattle.rules.specs.Mining.{graph}
use Rattle.rules.specs.Union.{union}
use Rattle.rules.specs.Refusals.{Given}
use Rattle.rules.specs.LogBlock.{blocks_at, block_episodes, episodes_from, log_episodes, log_events, log_sized}
use Rattle.rules.specs.Calls.{code_count, top_code, log_sound, log_reading}
use Rattle.rules.specs.Filling.{block_at}
use Rattle.rules.proofs.AnswerLaws.{given_is, demand_given}
use Rattle.rules.proofs.ListLaws.{each_append}
use Rattle.rules.proofs.LogSize.{Blocks, sized_blocks, blocks_sized}
use Rattle.rules.proofs.Unions.{graph_joined}
use Rattle.log_episodes.proofs.EpisodeLaws.{log_given, log_some}
use Rattle.log_episodes.proofs.BlockWise.{Sound, episodes_step, split, same_front, blocks_sound, sound_blocks, sound_answer}
use Rattle.std.specs.Prelude.{Ok}
use Rattle.rules.specs.declared.Reason.TheVariants.{LogLength}

-- ---- its blocks; a log of p blocks comes first

module _ (a b : List ℕ) (p : ℕ) (whole : length a ≡ p * 512) where
  front_block : (j : ℕ) → j < p → block_at (a ++ b) j ≡ block_at a j
  front_block j h =
      let room : 512 ≤ length (drop (j * 512) a) = simp length-drop (omega arith) in
      ap (take 512) (drop-append-le (j * 512) a b (omega arith)) ∙ take-append-le 512 (drop (j * 512) a) b room

  back_block : (j : ℕ) → block_at (a ++ b) (p + j) ≡ block_at b j
  back_block j =
      let at : (p + j) * 512 ≡ length a + j * 512 = omega arith in
      ap (λ (k : ℕ). take 512 (drop k (a ++ b))) at ∙ ap (take 512) (drop-append-add a b (j * 512))

  module _ (w : ℕ) where
    back_episodes : (n i : ℕ) → episodes_from w n (a ++ b) ((p + i) * 512) ≡ episodes_from w n b (i * 512)
    unfolding episodes_from
    back_episodes zero i = refl
    back_episodes (suc n) i =
        let s : suc (p + i) ≡ p + suc i = omega arith in
        episodes_step w (a ++ b) n (p + i)
        ∙ ap (λ (k : ℕ). block_episodes w (block_at (a ++ b) (p + i)) ++ episodes_from w n (a ++ b) (k * 512)) s
        ∙ (λ j. block_episodes w (back_block i j) ++ back_episodes n (suc i) j)
        ∙ sym (episodes_step w b n i)

    -- THEOREM: its episodes are those of one and then those of the other
    pub joined_episodes : (q : ℕ) → length b ≡ q * 512 → log_episodes w (a ++ b) ≡ log_episodes w a ++ log_episodes w b
    unfolding log_episodes
    joined_episodes q whole' =
        let long = length-append a b in
        let n : length (a ++ b) / 512 ≡ q + p = omega arith in
        let x : p ≡ length a / 512 = omega arith in
        let y : q ≡ length b / 512 = omega arith in
        let z : 0 + p ≡ p + 0 = omega arith in
        ap (λ (k : ℕ). episodes_from w k (a ++ b) 0) n ∙ split w (a ++ b) p q 0
        ∙ (λ j. same_front w a (a ++ b) p front_block j ++ (ap (λ (k : ℕ). episodes_from w q (a ++ b) (k * 512)) z ∙ back_episodes q 0) j)
        ∙ (λ j. episodes_from w (x j) a 0 ++ episodes_from w (y j) b 0)

    -- each of its blocks is sound where each of theirs is
    joined_blocks : (q : ℕ) → ((j : ℕ) → j < p → Sound w (block_at a j)) → ((j : ℕ) → j < q → Sound w (block_at b j)) → (j : ℕ) → j < p + q → Sound w (block_at (a ++ b) j)
    joined_blocks q x y j h = by (ltb j p) refl
      where
        by : (t : Bool) → ltb j p ≡ t → Sound w (block_at (a ++ b) j)
        by true e = let k = ltb-true j p e in subst (Sound w) (sym (front_block j k)) (x j k)
        by false e =
            let k = ltb-false j p e in
            let s : p + (j - p) ≡ j = omega arith in
            subst (λ (i : ℕ). Sound w (block_at (a ++ b) i)) s (subst (Sound w) (sym (back_block (j - p))) (y (j - p) (omega arith)))

-- ---- an accepted log: its length, its soundness, block by block too

module _ (w : ℕ) (log : List ℕ) (accepted : Given (log_reading w log)) where
  apart : (end : ℕ) × (log_sized log ≡ true) × (log_sound w log ≡ Ok end)
  unfolding log_reading
  apart =
      let is = given_is (log_reading w log) accepted in
      let d = demand_given (log_sized log) LogLength 0 (log_sound w log) is.0 is.1 in
      (is.0, d.0, d.1)

  blocks : Blocks log
  blocks = sized_blocks log apart.1

  each_sound : (j : ℕ) → j < blocks.count → Sound w (block_at log j)
  each_sound =
      let n : length log / 512 ≡ blocks.count = omega (arith, blocks.whole) in
      let end : ℕ = apart.0 in
      sound_blocks w log blocks.count end (subst (λ (i : ℕ). blocks_at w top_code i log 0 ≡ Ok end) n (log_given w log end apart.2).0)

-- ---- two accepted logs

module _ (w : ℕ) (a b : List ℕ) (accepted-a : Given (log_reading w a)) (accepted-b : Given (log_reading w b)) where
  -- THEOREM: joined, they have the episodes of one and then those of the other
  pub accepted_episodes : log_episodes w (a ++ b) ≡ log_episodes w a ++ log_episodes w b
  accepted_episodes =
      let x = blocks w a accepted-a in
      let y = blocks w b accepted-b in
      joined_episodes a b x.count x.whole w y.count y.whole

  -- THEOREM: so with the events of each
  pub accepted_events : log_events w (a ++ b) ≡ log_events w a ++ log_events w b
  accepted_events = ap (each without_heartbeats) accepted_episodes ∙ each_append without_heartbeats (log_episodes w a) (log_episodes w b)

  -- THEOREM: joined, their graph is the union of their graphs
  pub accepted_graph : graph code_count (log_events w (a ++ b)) ≡ union code_count (graph code_count (log_events w a)) (graph code_count (log_events w b))
  accepted_graph = ap (graph code_count) accepted_events ∙ graph_joined code_count (log_events w a) (log_events w b)

  -- THEOREM: where they make at most 16 blocks they are an accepted log
  pub joined_accepted : 1 ≤ w → length a + length b ≤ 8192 → log_reading w (a ++ b) ≡ Ok (length (a ++ b))
  unfolding log_reading
  joined_accepted g fits =
      let x = blocks w a accepted-a in
      let y = blocks w b accepted-b in
      let p = x.count in
      let q = y.count in
      let la = x.whole in
      let lb = y.whole in
      let some = x.some in
      let long = length-append a b in
      let whole : length (a ++ b) ≡ (p + q) * 512 = omega arith in
      let n : length (a ++ b) / 512 ≡ p + q = omega arith in
      let each = joined_blocks a b p la w q (each_sound w a accepted-a) (each_sound w b accepted-b) in
      let all = subst (λ (i : ℕ). blocks_at w top_code i (a ++ b) 0 ≡ Ok ((p + q) * 512)) (sym n) (blocks_sound w (a ++ b) (p + q) each) in
      let met = length-append (log_episodes w a) (log_episodes w b) in
      let one = log_some w a (apart w a accepted-a).0 g (apart w a accepted-a).2 in
      let episodes : 0 < length (log_episodes w (a ++ b)) = omega (arith, ap length accepted_episodes) in
      simp (blocks_sized (a ++ b) (record { count = p + q; whole = whole; some = omega arith; few = omega arith }))
      (sound_answer w (a ++ b) ((p + q) * 512) g all ∙ simp (lt-ltb 0 (length (log_episodes w (a ++ b))) episodes) (ap Ok (sym whole)))
