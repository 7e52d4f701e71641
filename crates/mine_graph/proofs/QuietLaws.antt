-- The test whether a record adds nothing to a graph: what each turn of its loop keeps.
use mathlib.Core.Path.{◌≡◌, refl, sym, subst, ◌∙◌}
use mathlib.Core.List.{List, [], ◌∷◌}
use mathlib.Core.Bool.{Bool, true, false, not, ◌&&◌, ◌||◌}
use Prim.Native.Nat.{ℕ, ◌<◌}
use lib.Dec.{eqb}
use lib.ListN.{get_or}
use Rattle.std.specs.Prelude.{Option, None, Some}
use borrow.Author.Tests.{not-false, eq-eqb}
use Rattle.rules.specs.Calls.{code_count}
use Rattle.rules.proofs.BoolLaws.{and_cases, or_right}
use Rattle.code_sets.specs.Bits.{has}
use Rattle.code_sets.specs.declared.CodeSet.{CodeSet}
use Rattle.code_sets.proofs.BitLaws.{has_zero}
use Rattle.graph_rows.specs.declared.Graph.{Graph}
use Rattle.graph_rows.specs.Edges.{meant}
use Rattle.mine_places.specs.Places.{All}
use Rattle.mine_views.specs.Sublogs.{walk}
use Rattle.mine_trails.specs.Growing.{with_pieces, trail, trailed, graph_of}
use Rattle.mine_trails.proofs.TrailLaws.{Turn, There, NotedEnd, noted_event, noted_break, turn_pass, end_again}
use Rattle.mine_trails.proofs.TurnLaws.{trail_start, trail_next, trail_end}

-- `found` has what two sets share
abbrev Meet : ℕ → ℕ → ℕ → Type 0
Meet a b found = (x : ℕ) → has found x ≡ (has a x && has b x)

-- the known codes are events that are there already
abbrev Known : Graph → Option ℕ → ℕ → ℕ → Type 0
Known g last keep known = (x : ℕ) → has known x ≡ true → (has keep x ≡ true) × There g last x

-- the open set has the last code of the open sub-episode
abbrev Opened : ℕ → Option ℕ → Type 0
Opened wait None = Unit {0}
Opened wait (Some last) = (last < code_count) × (has wait last ≡ true)

-- whatever the starts and the breaks are that the sets of the loop were made of
abbrev Each : ℕ → ℕ → ℕ → (CodeSet → ℕ → Type 0) → Type 0
Each keep watched first P = (starts : CodeSet) → Meet starts.bits keep first → (b : ℕ) → ((x : ℕ) → has watched x ≡ (has keep x || has b x)) → P starts b

-- what the loop keeps, where some of a record's codes are left: the last code is one of the open set, or none is open, and so far the record adds nothing
pub record Quiet (codes rows : List ℕ) (ends : CodeSet) (keep watched first known wait : ℕ) (left : List ℕ) : Type 0 where
  pub coded : All (λ c. c < code_count) left
  pub last : Option ℕ
  pub opened : Opened wait last
  pub told : Each keep watched first (λ starts b. Known (graph_of rows starts ends) last keep known)
  pub same :
      Each keep watched first (λ starts b.
      trailed (trail (graph_of rows starts ends) None) keep (walk (has keep) (has b) codes) ≡ trailed (trail (graph_of rows starts ends) last) keep (walk (has keep) (has b) left))

-- at the start of a sub-episode the starts are known
known_first : (rows : List ℕ) (ends : CodeSet) (keep watched first : ℕ) → Each keep watched first (λ starts b. Known (graph_of rows starts ends) None keep first)
known_first rows ends keep watched first starts f b h x on = let p = and_cases (has starts.bits x) (has keep x) (sym (f x) ∙ on) in (p.1, p.0)

module _ {codes rows : List ℕ} {ends : CodeSet} {keep watched first known wait : ℕ} {rest : List ℕ} (q : Quiet codes rows ends keep watched first known wait rest) where
  -- nothing is left of the open set without the ends: the last code is an end
  noted : (left : ℕ) → ((x : ℕ) → has left x ≡ (has wait x && not (has ends.bits x))) → left ≡ 0 → (starts : CodeSet) → NotedEnd (graph_of rows starts ends) q.last
  noted left e none starts = by q.last q.opened
    where
      by : (z : Option ℕ) → Opened wait z → NotedEnd (graph_of rows starts ends) z
      by None o = tt
      by (Some last) o = (o.0, not-false _ (sym (rw (none, o.1, has_zero) at (e last))))

  -- after the last code
  pub quiet_end : rest ≡ [] → (left : ℕ) → ((x : ℕ) → has left x ≡ (has wait x && not (has ends.bits x))) → left ≡ 0 → (bare : Bool) →
      Each keep watched first (λ starts b.
      with_pieces (record { kept = has keep; breaks = has b; bare = bare }) (meant (graph_of rows starts ends) keep) (codes ∷ []) ≡ meant (graph_of rows starts ends) keep)
  quiet_end all left e none bare starts f b h =
      let g = graph_of rows starts ends in
      trail_start (record { kept = has keep; breaks = has b; bare = bare }) (meant g keep) codes
      ∙ sym (trail_end rest keep b keep (trail g q.last) _ (q.same starts f b h) all g (end_again g q.last (noted left e none starts)))

  module _ (c : ℕ) (later : List ℕ) (next-c : rest ≡ c ∷ later) where
    coded : All (λ x. x < code_count) (c ∷ later)
    coded = subst (All (λ x. x < code_count)) next-c q.coded

    -- one more code, whatever it is
    turn : (next now : ℕ) (last : Option ℕ) → Opened now last → Each keep watched first (λ starts b. Known (graph_of rows starts ends) last keep next) →
        Each keep watched first (λ starts b. Turn (trail (graph_of rows starts ends) q.last) keep b c (trail (graph_of rows starts ends) last)) → Quiet codes rows ends keep watched first next now later
    turn next now last o k t =
        record {
          coded = coded.1;
          last = last;
          opened = o;
          told = k;
          same = λ starts f b h. let g = graph_of rows starts ends in trail_next rest keep b keep (trail g q.last) _ (q.same starts f b h) c later next-c (trail g last) (t starts f b h);
        }

    -- a known code: after it the codes of its row are known
    pub quiet_event : {t : Bool} → t ≡ has known c → t ≡ true → {next : ℕ} → Meet (get_or rows c 0) keep next → (none : ℕ) {now : ℕ} → ((x : ℕ) → has now x ≡ (has none x || eqb x c)) →
        Quiet codes rows ends keep watched first next now later
    quiet_event call on {next} e none {now} o =
        let below = coded.0 in
        turn next now (Some c) (below, o c ∙ or_right (has none c) (eqb c c) (eq-eqb c c refl))
        (λ starts f b h x y. let p = and_cases (has (get_or rows c 0) x) (has keep x) (sym (e x) ∙ y) in (p.1, (below, p.0)))
        (λ starts f b h. let k = q.told starts f b h c (sym call ∙ on) in noted_event (graph_of rows starts ends) keep b c below q.last k.0 k.1)

    module _ {v : Bool} (seen : v ≡ has watched c) where
      -- a break, where the end that it makes is noted
      pub quiet_break : v ≡ true → {t : Bool} → t ≡ has keep c → t ≡ false →
          (left : ℕ) → ((x : ℕ) → has left x ≡ (has wait x && not (has ends.bits x))) → left ≡ 0 → {now : ℕ} → Quiet codes rows ends keep watched first first now later
      quiet_break on call off left e none {now} =
          let no : has keep c ≡ false = sym call ∙ off in
          turn first now None tt (known_first rows ends keep watched first)
          (λ starts f b h. noted_break (graph_of rows starts ends) q.last keep b c no (rw no at (sym (h c) ∙ sym seen ∙ on)) (noted left e none starts))

      -- a code that is passed over
      pub quiet_pass : v ≡ false → Quiet codes rows ends keep watched first known wait later
      quiet_pass off = turn known wait q.last q.opened q.told (λ starts f b h. turn_pass (graph_of rows starts ends) q.last keep b c v (seen ∙ h c) off)
