-- A copy that grows by an event, or passes over a heartbeat.
use mathlib.Core.Path.{◌≡◌, refl, sym, ap, ◌∙◌}
use mathlib.Core.List.{List, [], ◌∷◌, ◌++◌, append_assoc, append-nil}
use Prim.Native.Nat.{ℕ, ◌+◌, ◌≤◌, ◌<◌}
use native.Mathlib.Numerals.{add-one}
use native.Mathlib.Omega.{arith}
use lib.ListN.{length, get_or, set, take, drop, length-set, take-append-drop, drop_of_length-le}
use lib.Seq.{drop-cons, drop-drop, drop-set-lt, take_at, take-suc-set, length-take-le}
use Rattle.rules.specs.Heartbeats.{heartbeat, without_heartbeats}
use Rattle.rules.proofs.HeartbeatLaws.{without_event, without_beat}
use Rattle.judge_events.specs.Copies.{Copies}

-- n events are copied, and those from code i on are not
pub record Copied (e old : List ℕ) (n i : ℕ) (out : List ℕ) : Type 0 where
  pub few : n ≤ i
  pub size : length out ≡ length old
  pub front : without_heartbeats e ≡ take n out ++ without_heartbeats (drop i e)
  pub behind : drop n out ≡ drop n old

-- the front of a copy
pub copy_front : (e old : List ℕ) (r : ℕ) (new : List ℕ) → Copies e old r new → take r new ≡ without_heartbeats e
copy_front e old r new k = ap (take r) k.bytes ∙ take_at (without_heartbeats e) (drop r old) r (sym k.count)

module _ (e old : List ℕ) (room : length e ≤ length old) where
  module _ (n i : ℕ) (out : List ℕ) (k : Copied e old n i out) where
    pub copied_all : length e ≤ i → n ≤ length e → Copies e old n out
    copied_all h few =
        let rest : without_heartbeats (drop i e) ≡ [] = ap without_heartbeats (drop_of_length-le e h) ∙ unfold without_heartbeats in refl in
        let all : without_heartbeats e ≡ take n out = k.front ∙ ap (λ (l : List ℕ). take n out ++ l) rest ∙ append-nil (take n out) in
        let size = k.size in
        record {
          size = size;
          count = sym (ap length all ∙ length-take-le n out (omega arith));
          bytes = sym (ap (λ (l : List ℕ). l ++ drop n old) all ∙ ap (λ (l : List ℕ). take n out ++ l) (sym k.behind) ∙ take-append-drop n out);
        }

    module _ (h : i < length e) where
      here : without_heartbeats (drop i e) ≡ without_heartbeats (get_or e i 0 ∷ drop (i + 1) e)
      here = ap without_heartbeats (drop-cons e i 0 h ∙ ap (λ (j : ℕ). get_or e i 0 ∷ drop j e) (sym (add-one i)))

      -- a heartbeat is passed over
      pub copied_beat : get_or e i 0 ≡ heartbeat → Copied e old n (i + 1) out
      copied_beat b =
          let few = k.few in
          record { few = omega arith; size = k.size; front = k.front ∙ ap (λ (l : List ℕ). take n out ++ l) (here ∙ without_beat (get_or e i 0) (drop (i + 1) e) b); behind = k.behind }

      -- an event is copied
      pub copied_event : (get_or e i 0 ≡ heartbeat → ⊥) → Copied e old (n + 1) (i + 1) (set out n (get_or e i 0))
      copied_event b =
          let few = k.few in
          let size = k.size in
          let c : ℕ = get_or e i 0 in
          let more : take (n + 1) (set out n c) ≡ take n out ++ (c ∷ []) = ap (λ (j : ℕ). take j (set out n c)) (add-one n) ∙ take-suc-set out n c (omega arith) in
          record {
            few = omega arith;
            size = length-set out n c ∙ size;
            front =
                k.front ∙ ap (λ (l : List ℕ). take n out ++ l) (here ∙ without_event c (drop (i + 1) e) b)
                ∙ sym (append_assoc (take n out) (c ∷ []) (without_heartbeats (drop (i + 1) e)))
                ∙ ap (λ (l : List ℕ). l ++ without_heartbeats (drop (i + 1) e)) (sym more);
            behind = drop-set-lt (n + 1) out n c (omega arith) ∙ sym (drop-drop 1 n out) ∙ ap (drop 1) k.behind ∙ drop-drop 1 n old;
          }
