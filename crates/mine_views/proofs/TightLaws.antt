-- Tight views: the log of a part is what the part's view shows, that view is tight again, and so the trees are the same. m is the number of codes.
use mathlib.Core.Path.{◌≡◌, refl, sym, ◌∙◌, ap, subst}
use mathlib.Core.Logic.{◌⊎◌, inl, inr, ⊎_elim}
use mathlib.Core.List.{List, [], ◌∷◌, ◌++◌}
use mathlib.Core.Bool.{Bool, true, false, not, ◌&&◌, ◌||◌}
use Prim.Native.Nat.{ℕ}
use native.Mathlib.Omega.{arith}
use lib.Dec.{ltb}
use borrow.Author.Tests.{ltb-true, lt-ltb}
use Rattle.rules.specs.Words.{any, keep, each, flat, mem, from}
use Rattle.rules.specs.Trees.{Op, choice, sequence, parallel, loop}
use Rattle.rules.specs.Mining.{Episode, Log, is_empty, occurring, graph, starts_with, ends_with, parts_of, split, project, mined}
use Rattle.rules.proofs.BoolLaws.{bool_cases, and_both, and_cases, bool_ext, not_both_lem}
use Rattle.rules.proofs.ListLaws.{Has, any_has, has_any, has_keep, keep_has, has_append_cases, has_flat, has_each, has_mem, mem_has, flat_has, from_has, keep_ext, keep_all, keep_none, all_has, false_any}
use Rattle.rules.proofs.Occurring.{Below, code_below}
use Rattle.rules.proofs.GraphLaws.{edge_is}
use Rattle.rules.proofs.SameEpisodes.{Same, occurring_same, mined_same}
use Rattle.rules.proofs.Cuts.{choice_whole}
use Rattle.rules.proofs.Splits.{split_occurring}
use Rattle.rules.proofs.Shapes.{Taken}
use Rattle.mine_views.specs.Sublogs.{Set, close, pieces, pieces_of, empty_if, Sight, shown, Tight, part_sight, root_sight, drawn}
use Rattle.mine_views.proofs.WalkLaws.{filled, pieces_full, pieces_kept, pieces_whole}
use Rattle.mine_views.proofs.PartLaws.{Good, loop_view, row_view, choice_view, bared_within, within_bared}

-- ---- what a view shows

-- every code of the sublog is kept
pub shown_kept : (s : Sight) (l : Log) (t : Episode) → Has t (shown s l) → (c : ℕ) → Has c t → s.kept c ≡ true
unfolding shown
shown_kept s l t i c j = ⊎_elim (λ k. absurd (none s.bare k)) piece (has_append_cases t (empty_if s.bare) (pieces_of s l) i)
  where
    none : (b : Bool) → Has t (empty_if b) → ⊥
    none true (inl e) = subst (Has c) e j
    none true (inr k) = k
    none false k = k

    piece : Has t (pieces_of s l) → s.kept c ≡ true
    piece k =
        let q = has_flat t (each (pieces s.kept s.breaks) l) k in
        let u = has_each (pieces s.kept s.breaks) q.0 l q.1 in
        pieces_kept s.kept s.breaks u.0 t (subst (Has t) u.2 q.2) c j

-- the empty episode is in it where the view says so, and only there
pub shown_bare : (s : Sight) (l : Log) → s.bare ≡ true → Has [] (shown s l)
unfolding shown
shown_bare s l e = rw e (inl refl)

pub shown_full : (s : Sight) (l : Log) → s.bare ≡ false → (t : Episode) → Has t (shown s l) → is_empty t ≡ false
unfolding shown
shown_full s l e t i =
    let m : Has t (pieces_of s l) = subst (λ (b : Bool). Has t (empty_if b ++ pieces_of s l)) e i in
    let q = has_flat t (each (pieces s.kept s.breaks) l) m in
    let u = has_each (pieces s.kept s.breaks) q.0 l q.1 in
    pieces_full s.kept s.breaks u.0 t (subst (Has t) u.2 q.2)

module _ (m : ℕ) (s : Sight) (l : Log) (k : Tight m s l) where
  pub tight_below : Below m (shown s l)
  tight_below t i c j = k.below c (shown_kept s l t i c j)

  -- its graph, as a pass draws it
  pub tight_graph : drawn (keep s.kept (from 0 m)) (shown s l) ≡ graph m (shown s l)
  unfolding drawn graph
  tight_graph = λ i.
      record {
        codes = sym k.occurs i;
        edge = λ a b. sym (unfold graph in edge_is m (shown s l) tight_below a b) i;
        start = λ a. any (starts_with a) (shown s l);
        end = λ a. any (ends_with a) (shown s l);
      }

  kept_of : (c : ℕ) → Has c (occurring m (shown s l)) → s.kept c ≡ true
  kept_of c i = (has_keep s.kept c (from 0 m) (subst (Has c) k.occurs i)).1

  -- ---- the part of a cut
  module _ (o : Op) (cut : Taken m (shown s l) o) (p : List ℕ) (i : Has p (parts_of o (graph m (shown s l)))) where
    in_log : (c : ℕ) → Has c p → Has c (occurring m (shown s l))
    in_log c j = cut.parting.inside c (flat_has c p (parts_of o (graph m (shown s l))) i j)

    not_bare : s.bare ≡ false
    not_bare = ⊎_elim (λ e. not_both_lem (is_empty []) refl (cut.full [] (shown_bare s l e))) (λ e. e) (bool_cases s.bare)

    good : Good s p
    good = record { inside = λ c e. kept_of c (in_log c (mem_has c p e)); off = k.apart; full = not_bare }

    -- an episode lies in a choice's part, or has no code of it
    whole : o ≡ choice → (t : Episode) → Has t (shown s l) → (project p t ≡ t) ⊎ (project p t ≡ [])
    unfolding project
    whole e t j =
        ⊎_elim
        (λ (h : any (λ c. mem c p) t ≡ true).
        let q = has_any (λ c. mem c p) t h in
        let inside = choice_whole m (shown s l) tight_below p (subst (λ (x : Op). Has p (parts_of x (graph m (shown s l)))) e i) t j q.0 q.1 (mem_has q.0 p q.2) in
        inl (keep_all (λ c. mem c p) t (λ c n. all_has (λ x. mem x p) c t inside n)))
        (λ (h : any (λ c. mem c p) t ≡ false). inr (keep_none (λ c. mem c p) t (λ c n. false_any (λ x. mem x p) c t h n)))
        (bool_cases (any (λ c. mem c p) t))

    -- THEOREM: the log of a part is what the part's view shows
    pub part_shows : Same (split o p (shown s l)) (shown (part_sight o p l s) l)
    part_shows = by o refl
      where
        by : (q : Op) → o ≡ q → Same (split q p (shown s l)) (shown (part_sight q p l s) l)
        by choice e = choice_view s p good l cut.full (whole e)
        by sequence e = unfold split in row_view s p good l
        by parallel e = unfold split in row_view s p good l
        by loop e = subst (Same (split loop p (shown s l))) (loop_view s p good l) ((λ t j. j), λ t j. j)

    kept_part : (q : Op) → (part_sight q p l s).kept ≡ (λ c. mem c p)
    kept_part choice = refl
    kept_part sequence = refl
    kept_part parallel = refl
    kept_part loop = refl

    apart_part : (q : Op) (x : ℕ) → (part_sight q p l s).kept x ≡ true → (part_sight q p l s).breaks x ≡ false
    apart_part choice x e = good.off x (good.inside x e)
    apart_part sequence x e = good.off x (good.inside x e)
    apart_part parallel x e = good.off x (good.inside x e)
    apart_part loop x e = (λ j. good.off x (good.inside x e) j || (s.kept x && not (e j))) ∙ off (s.kept x)
      where
        off : (t : Bool) → (t && false) ≡ false
        off true = refl
        off false = refl

    -- the part, as it is picked from all codes
    part_listed : p ≡ keep (λ c. mem c p) (from 0 m)
    part_listed =
        let e = split_occurring m (shown s l) tight_below o cut.parting p i in
        let f : ℕ → Bool = λ c. any (mem c) (split o p (shown s l)) in
        let q : p ≡ keep f (from 0 m) = sym e ∙ unfold occurring in refl in
        q ∙ keep_ext f (λ c. mem c p) (from 0 m)
        (λ c n. bool_ext (f c) (mem c p) (λ h. has_mem c p (subst (Has c) (sym q) (keep_has f c (from 0 m) n h))) (λ h. (has_keep f c (from 0 m) (subst (Has c) q (mem_has c p h))).1))

    -- THEOREM: the part's view is tight again
    pub part_tight : Tight m (part_sight o p l s) l
    part_tight =
        record {
          below = λ x e. code_below m (shown s l) x (in_log x (mem_has x p (subst (λ (f : Set). f x ≡ true) (kept_part o) e)));
          occurs =
              sym (occurring_same m (split o p (shown s l)) (shown (part_sight o p l s) l) part_shows)
              ∙ split_occurring m (shown s l) tight_below o cut.parting p i ∙ part_listed ∙ ap (λ (f : Set). keep f (from 0 m)) (sym (kept_part o));
          apart = apart_part o;
        }

    -- THEOREM: so the tree of the part's view is the tree of the part's log
    pub part_tree : mined m (shown (part_sight o p l s) l) ≡ mined m (split o p (shown s l))
    part_tree = sym (mined_same m (split o p (shown s l)) (shown (part_sight o p l s) l) part_shows)

-- ---- the whole log
module _ (m : ℕ) (l : Log) (small : Below m l) where
  abbrev every_code : Set
  every_code c = ltb c m && any (mem c) l

  kept_all : (t : Episode) → Has t l → (c : ℕ) → Has c t → every_code c ≡ true
  kept_all t i c j = and_both (ltb c m) (any (mem c) l) (lt-ltb c m (small t i c j)) (any_has (mem c) t l i (has_mem c t j))

  whole_pieces : (k : Log) → ((t : Episode) → Has t k → (c : ℕ) → Has c t → every_code c ≡ true) → flat (each (pieces every_code (λ _. false)) k) ≡ filled k
  whole_pieces [] h = refl
  whole_pieces (t ∷ k) h = pieces_whole every_code (λ _. false) t (h t (inl refl)) (flat (each (pieces every_code (λ _. false)) k)) ∙ ap (close t) (whole_pieces k (λ u i. h u (inr i)))

  -- THEOREM: the root's view shows the log
  pub root_shows : Same (shown (root_sight m l) l) l
  unfolding shown
  root_shows =
      subst (λ (k : Log). Same (empty_if (any is_empty l) ++ k) l) (sym (whole_pieces l kept_all))
      (within_bared l (any is_empty l) refl, bared_within l (any is_empty l) refl)

  -- THEOREM: and is tight
  pub root_tight : Tight m (root_sight m l) l
  root_tight =
      record {
        below = λ x e. ltb-true x m (and_cases (ltb x m) (any (mem x) l) e).0;
        occurs =
            occurring_same m (shown (root_sight m l) l) l root_shows
            ∙ unfold occurring in keep_ext (λ c. any (mem c) l) every_code (from 0 m) (λ c i. ap (λ (t : Bool). t && any (mem c) l) (sym (lt-ltb c m (let b = (from_has m 0 c i).1 in omega arith))));
        apart = λ x e. refl;
      }

  -- THEOREM: so the tree of the root's view is the tree of the log
  pub root_tree : mined m (shown (root_sight m l) l) ≡ mined m l
  root_tree = mined_same m (shown (root_sight m l) l) l root_shows
