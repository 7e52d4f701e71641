-- A view that neither keeps the heartbeat nor breaks at it sees the same in episodes with their heartbeats and without.
use mathlib.Core.Path.{◌≡◌, refl, sym, ◌∙◌, ap, ap₂, subst}
use mathlib.Core.List.{[], ◌∷◌, ◌++◌}
use mathlib.Core.Bool.{Bool, true, false, ◌&&◌}
use Prim.Native.Nat.{ℕ}
use lib.Dec.{eqb, ltb}
use borrow.Author.Tests.{eqb-true, eqb-false}
use Rattle.rules.specs.Words.{any, keep, each, flat, mem, from}
use Rattle.rules.specs.Heartbeats.{heartbeat, without_heartbeats}
use Rattle.rules.specs.Mining.{Episode, Log, occurring, mined}
use Rattle.rules.proofs.ListLaws.{any_false, mem_not}
use Rattle.rules.proofs.Occurring.{Below}
use Rattle.rules.proofs.HeartbeatLaws.{without_event, without_beat, events_quiet, events_below}
use Rattle.mine_views.specs.Sublogs.{Set, step_by, walk, done, pieces, empty_if, Sight, shown, Tight, root_sight}
use Rattle.mine_views.proofs.TightLaws.{root_tight, root_tree}

module _ (kept breaks : Set) (k : kept heartbeat ≡ false) (b : breaks heartbeat ≡ false) where
  walk_without : (e : Episode) → walk kept breaks (without_heartbeats e) ≡ walk kept breaks e
  walk_without [] = unfold without_heartbeats in refl
  walk_without (c ∷ e) = by (walk_without e) (eqb c heartbeat) refl
    where
      by : walk kept breaks (without_heartbeats e) ≡ walk kept breaks e → (t : Bool) → eqb c heartbeat ≡ t → walk kept breaks (without_heartbeats (c ∷ e)) ≡ walk kept breaks (c ∷ e)
      by rest true q =
          let h = eqb-true c heartbeat q in
          ap (walk kept breaks) (without_beat c e h) ∙ rest
          ∙ sym (ap₂ (λ (x y : Bool). step_by x y c (walk kept breaks e)) (ap kept h ∙ k) (ap breaks h ∙ b))
      by rest false q = ap (walk kept breaks) (without_event c e (eqb-false c heartbeat q)) ∙ ap (step_by (kept c) (breaks c) c) rest

  pieces_without : (l : Log) → flat (each (pieces kept breaks) (each without_heartbeats l)) ≡ flat (each (pieces kept breaks) l)
  pieces_without [] = refl
  pieces_without (e ∷ l) = ap₂ ◌++◌ (ap done (walk_without e)) (pieces_without l)

pub shown_without : (s : Sight) (l : Log) → s.kept heartbeat ≡ false → s.breaks heartbeat ≡ false → shown s (each without_heartbeats l) ≡ shown s l
unfolding shown
shown_without s l k b = ap (λ (x : Log). empty_if s.bare ++ x) (pieces_without s.kept s.breaks k b l)

-- ---- the root's view of a log without its heartbeats, on the log as it is stored

module _ (m : ℕ) (l : Log) (small : Below m l) where
  abbrev events : Log
  events = each without_heartbeats l

  root_shown : shown (root_sight m events) events ≡ shown (root_sight m events) l
  root_shown = shown_without (root_sight m events) l (unkept (ltb heartbeat m)) refl
    where
      unkept : (t : Bool) → (t && any (mem heartbeat) events) ≡ false
      unkept false = refl
      unkept true = any_false (mem heartbeat) events (λ e i. mem_not heartbeat e (events_quiet l e i))

  -- THEOREM: it is tight
  pub quiet_tight : Tight m (root_sight m events) l
  quiet_tight =
      let t = root_tight m events (events_below m l small) in
      record { below = t.below; occurs = subst (λ (k : Log). occurring m k ≡ keep (root_sight m events).kept (from 0 m)) root_shown t.occurs; apart = t.apart }

  -- THEOREM: and its tree is that of the log without heartbeats
  pub quiet_tree : mined m (shown (root_sight m events) l) ≡ mined m events
  quiet_tree = ap (mined m) (sym root_shown) ∙ root_tree m events (events_below m l small)
