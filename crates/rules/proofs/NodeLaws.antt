-- The rules for a node and a list, both ways: what they pass holds a tree, and a tree that is held passes them.
-- `limit` is the number of entries, m the number of codes.
use mathlib.Core.Path.{◌≡◌, refl, sym, ap, subst, ◌∙◌}
use mathlib.Core.Logic.{inl, ⊎_elim}
use mathlib.Core.List.{List, ◌∷◌}
use mathlib.Core.Bool.{false}
use Prim.Native.Nat.{ℕ, zero, suc, ◌+◌, ◌*◌, ◌≤◌, ◌<◌}
use native.Mathlib.Omega.{arith}
use lib.Dec.{ltb, eqb}
use borrow.Author.Tests.{lt-ltb, le-ltb, eq-eqb, ne_eqb, ltb-true, ltb-false, eqb-true, eqb-false}
use Rattle.rules.specs.Words.{Has, pick, mem}
use Rattle.rules.specs.Heartbeats.{heartbeat, EventCode}
use Rattle.rules.specs.Trees.{Tree, silent, leaf, node, Forest, none, more, size, sizes, children, labels, labels_all}
use Rattle.rules.specs.WellFormed.{Wide, WideAll}
use Rattle.rules.specs.TreeBlock.{operator_of, Sound, upto, broken, kind_of, kind_at, argument_at, size_at, zero_at, silent_rule, leaf_rule, sized_rule, followed_by, entry_rule, node_at, list_at}
use Rattle.rules.specs.Holds.{EntryIs, Holds, HoldsAll}
use Rattle.rules.proofs.AnswerLaws.{pick_case}
use Rattle.rules.proofs.ListLaws.{has_append_left, has_append_right, has_append_cases}
use Rattle.rules.proofs.TreeLaws.{tree_some, children_sizes, two_children, children_two}
use Rattle.rules.proofs.Entries.{kind_operator, kind_low, kind_high}
use Rattle.rules.proofs.Fresh.{onto, Fresh, onto_append, fresh_append, fresh_front, fresh_rest}

module _ (limit m : ℕ) (b : List ℕ) where
  -- ---- what the rules pass

  -- the entries from a place up to `next` hold the tree, its codes those of events and none of them seen before
  pub record TreeHeld (at : ℕ) (seen : List ℕ) (next : ℕ) (grown : List ℕ) (t : Tree) : Type 0 where
    pub held : Holds t b at
    pub wide : Wide t
    pub coded : (c : ℕ) → Has c (labels t) → EventCode m c
    pub fresh : Fresh (labels t) seen
    pub grows : grown ≡ onto (labels t) seen
    pub ends : next ≡ at + size t
    pub fits : next ≤ limit

  pub record ForestHeld (at n : ℕ) (seen : List ℕ) (next : ℕ) (grown : List ℕ) (f : Forest) : Type 0 where
    pub count : children f ≡ n
    pub held : HoldsAll f b at
    pub wide : WideAll f
    pub coded : (c : ℕ) → Has c (labels_all f) → EventCode m c
    pub fresh : Fresh (labels_all f) seen
    pub grows : grown ≡ onto (labels_all f) seen
    pub ends : next ≡ at + sizes f
    pub fits : at ≤ limit → next ≤ limit

  abbrev NodeFound : ℕ → List ℕ → Sound → Type 0
  NodeFound at seen (upto next grown) = (t : Tree) × TreeHeld at seen next grown t
  NodeFound at seen broken = Unit {0}

  abbrev ListFound : ℕ → ℕ → List ℕ → Sound → Type 0
  ListFound at n seen (upto next grown) = (f : Forest) × ForestHeld at n seen next grown f
  ListFound at n seen broken = Unit {0}

  module _ (at : ℕ) (seen : List ℕ) (h : at < limit) (z : zero_at b at ≡ 0) where
    silent_found : kind_at b at ≡ 1 → NodeFound at seen (silent_rule at (argument_at b at) (size_at b at) seen)
    silent_found k =
        pick_case (NodeFound at seen) (eqb (argument_at b at) 0) (λ a.
        pick_case (NodeFound at seen) (eqb (size_at b at) 1) (λ s. (
          silent,
          record {
            held = record { kind = k; argument = eqb-true _ _ a; size = eqb-true _ _ s; zero = z };
            wide = tt;
            coded = λ c n. absurd n;
            fresh = tt;
            grows = refl;
            ends = refl;
            fits = omega arith;
          },
        )) (λ _. tt)) (λ _. tt)

    leaf_found : kind_at b at ≡ 2 → NodeFound at seen (leaf_rule m at (argument_at b at) (size_at b at) seen)
    leaf_found k =
        pick_case (NodeFound at seen) (ltb (argument_at b at) m) (λ a.
        pick_case (NodeFound at seen) (eqb (argument_at b at) heartbeat) (λ _. tt) (λ beat.
        pick_case (NodeFound at seen) (eqb (size_at b at) 1) (λ s.
        pick_case (NodeFound at seen) (mem (argument_at b at) seen) (λ _. tt) (λ new. (
          leaf (argument_at b at),
          record {
            held = record { kind = k; argument = refl; size = eqb-true _ _ s; zero = z };
            wide = tt;
            coded = λ c n. ⊎_elim (λ e. rw e (ltb-true _ _ a, eqb-false _ _ beat)) (λ e. absurd e) n;
            fresh = (new, tt);
            grows = refl;
            ends = refl;
            fits = omega arith;
          },
        ))) (λ _. tt))) (λ _. tt)

    sized_found : 3 ≤ kind_at b at → kind_at b at ≤ 6 → 2 ≤ argument_at b at → (x : Sound) → ListFound (at + 1) (argument_at b at) seen x → NodeFound at seen (sized_rule at (size_at b at) x)
    sized_found low high two (upto next grown) (f, below) =
        pick_case (NodeFound at seen) (eqb next (at + size_at b at)) (λ s. (
          node (operator_of (kind_at b at)) f,
          record {
            held = (
              record {
                kind = sym (kind_operator (kind_at b at) low high);
                argument = sym below.count;
                size = let e = eqb-true next (at + size_at b at) s in let g = below.ends in omega arith;
                zero = z;
              },
              below.held,
            );
            wide = (children_two f (let g = below.count in omega arith), below.wide);
            coded = below.coded;
            fresh = below.fresh;
            grows = below.grows;
            ends = let g = below.ends in omega arith;
            fits = below.fits (omega arith);
          },
        )) (λ _. tt)
    sized_found low high two broken below = tt

  entry_found : (at : ℕ) (seen : List ℕ) → at < limit → (below : ℕ → Sound) → ((n : ℕ) → ListFound (at + 1) n seen (below n)) → NodeFound at seen (entry_rule m b at seen below)
  entry_found at seen h below list =
      pick_case (NodeFound at seen) (eqb (zero_at b at) 0) (λ e.
      let z = eqb-true (zero_at b at) 0 e in
      pick_case (NodeFound at seen) (eqb (kind_at b at) 1) (λ k. silent_found at seen h z (eqb-true _ _ k)) (λ _.
      pick_case (NodeFound at seen) (eqb (kind_at b at) 2) (λ k. leaf_found at seen h z (eqb-true _ _ k)) (λ _.
      pick_case (NodeFound at seen) (ltb (kind_at b at) 3) (λ _. tt) (λ low.
      pick_case (NodeFound at seen) (ltb 6 (kind_at b at)) (λ _. tt) (λ high.
      pick_case (NodeFound at seen) (ltb (argument_at b at) 2) (λ _. tt) (λ two.
      sized_found at seen h z (ltb-false _ _ low) (ltb-false _ _ high) (ltb-false _ _ two) (below (argument_at b at)) (list (argument_at b at)))))))) (λ _. tt)

  followed_found : (at n : ℕ) (seen : List ℕ) (x : Sound) (go : ℕ → List ℕ → Sound) → NodeFound at seen x →
      ((next : ℕ) (grown : List ℕ) → ListFound next n grown (go next grown)) → ListFound at (suc n) seen (followed_by x go)
  followed_found at n seen broken go first rest = tt
  followed_found at n seen (upto next grown) go (t, first) rest = joined (go next grown) (rest next grown)
    where
      joined : (y : Sound) → ListFound next n grown y → ListFound at (suc n) seen y
      joined broken found = tt
      joined (upto last all) (f, found) = (
        more t f,
        record {
          count = ap suc found.count;
          held = (first.held, subst (HoldsAll f b) first.ends found.held);
          wide = (first.wide, found.wide);
          coded = λ c h. ⊎_elim (first.coded c) (found.coded c) (has_append_cases c (labels t) (labels_all f) h);
          fresh = fresh_append (labels t) (labels_all f) seen first.fresh (subst (Fresh (labels_all f)) first.grows found.fresh);
          grows = found.grows ∙ ap (onto (labels_all f)) first.grows ∙ sym (onto_append (labels t) (labels_all f) seen);
          ends = let e = first.ends in let g = found.ends in omega arith;
          fits = λ _. found.fits first.fits;
        },
      )

  mutual
    unfolding node_at list_at

    pub node_found : (f at : ℕ) (seen : List ℕ) → NodeFound at seen (node_at limit m f b at seen)
    node_found zero at seen = tt
    node_found (suc f) at seen =
        pick_case (NodeFound at seen) (ltb at limit) (λ h.
        entry_found at seen (ltb-true at limit h) (λ n. list_at limit m f b (at + 1) n seen) (λ n. list_found f (at + 1) n seen)) (λ _. tt)

    pub list_found : (f at n : ℕ) (seen : List ℕ) → ListFound at n seen (list_at limit m f b at n seen)
    list_found zero at n seen = tt
    list_found (suc f) at zero seen = (
      none,
      record {
        count = refl;
        held = tt;
        wide = tt;
        coded = λ c h. absurd h;
        fresh = tt;
        grows = refl;
        ends = omega arith;
        fits = λ h. h;
      },
    )
    list_found (suc f) at (suc n) seen =
        followed_found at n seen (node_at limit m f b at seen) (λ next grown. list_at limit m f b next n grown) (node_found f at seen)
        (λ next grown. list_found f next n grown)

  -- THEOREM: what the rule for a node passes, at any depth, is a tree that the block holds
  pub node_holds : (f at next : ℕ) (seen grown : List ℕ) → node_at limit m f b at seen ≡ upto next grown → (t : Tree) × TreeHeld at seen next grown t
  node_holds f at next seen grown e = subst (NodeFound at seen) e (node_found f at seen)

  -- and what the rule for a list passes takes an entry for each of its nodes
  pub list_entries : (f at n next : ℕ) (seen grown : List ℕ) → list_at limit m f b at n seen ≡ upto next grown → at + n ≤ next
  list_entries f at n next seen grown e =
      let found = subst (ListFound at n seen) e (list_found f at n seen) in
      let few = children_sizes found.0 in
      let count = found.1.count in
      let ends = found.1.ends in
      omega arith

  -- ---- what passes the rules

  module _ (at : ℕ) (seen : List ℕ) (h : at < limit) (below : ℕ → Sound) where
    rule_silent : EntryIs b at 1 0 1 → pick (ltb at limit) (entry_rule m b at seen below) broken ≡ upto (at + 1) seen
    rule_silent e = simp (lt-ltb _ _ h, e.zero, e.kind, e.argument, e.size)

    rule_leaf : (a : ℕ) → EntryIs b at 2 a 1 → EventCode m a → mem a seen ≡ false → pick (ltb at limit) (entry_rule m b at seen below) broken ≡ upto (at + 1) (a ∷ seen)
    rule_leaf a e k new = simp (lt-ltb _ _ h, e.zero, e.kind, e.argument, e.size, lt-ltb _ _ k.0, ne_eqb _ _ k.1, new)

    rule_operator : (k n s : ℕ) → EntryIs b at k n s → 3 ≤ k → k ≤ 6 → 2 ≤ n → pick (ltb at limit) (entry_rule m b at seen below) broken ≡ sized_rule at s (below n)
    rule_operator k n s e low high two =
        simp (
          lt-ltb _ _ h,
          e.zero,
          e.kind,
          e.argument,
          e.size,
          ne_eqb k 1 (λ g. omega arith),
          ne_eqb k 2 (λ g. omega arith),
          le-ltb _ _ low,
          le-ltb _ _ high,
          le-ltb _ _ two,
        )

  sized_right : (at s next : ℕ) (l : List ℕ) (x : Sound) → x ≡ upto next l → next ≡ at + s → sized_rule at s x ≡ upto next l
  sized_right at s next l x e g = simp (e, eq-eqb next (at + s) g)

  mutual
    unfolding node_at list_at

    -- THEOREM: a tree that the block holds, well formed and within the limit, passes the rule for a node, at every depth of twice its size or more
    pub node_passes : (t : Tree) (f at : ℕ) (seen : List ℕ) → Holds t b at → Wide t → ((c : ℕ) → Has c (labels t) → EventCode m c) → Fresh (labels t) seen →
        at + size t ≤ limit → 2 * size t ≤ f → node_at limit m f b at seen ≡ upto (at + size t) (onto (labels t) seen)
    node_passes silent zero at seen held wide coded fresh fits deep = absurd (omega arith)
    node_passes silent (suc f) at seen held wide coded fresh fits deep = rule_silent at seen (omega arith) (λ n. list_at limit m f b (at + 1) n seen) held
    node_passes (leaf a) zero at seen held wide coded fresh fits deep = absurd (omega arith)
    node_passes (leaf a) (suc f) at seen held wide coded fresh fits deep =
        rule_leaf at seen (omega arith) (λ n. list_at limit m f b (at + 1) n seen) a held (coded a (inl refl)) fresh.0
    node_passes (node o ts) zero at seen held wide coded fresh fits deep = absurd (omega arith)
    node_passes (node o ts) (suc f) at seen held wide coded fresh fits deep =
        rule_operator at seen (omega arith) (λ n. list_at limit m f b (at + 1) n seen) (kind_of o) (children ts) (suc (sizes ts)) held.0 (kind_low o) (kind_high o)
        (two_children ts wide.0)
        ∙ sized_right at (suc (sizes ts)) (at + suc (sizes ts)) (onto (labels_all ts) seen) (list_at limit m f b (at + 1) (children ts) seen)
        (list_passes ts f (at + 1) seen held.1 wide.1 coded fresh (omega arith) (omega arith)
        ∙ ap (λ (n : ℕ). upto n (onto (labels_all ts) seen)) (let g : at + 1 + sizes ts ≡ at + suc (sizes ts) = omega arith in g)) refl

    pub list_passes : (ts : Forest) (f at : ℕ) (seen : List ℕ) → HoldsAll ts b at → WideAll ts → ((c : ℕ) → Has c (labels_all ts) → EventCode m c) → Fresh (labels_all ts) seen →
        at + sizes ts ≤ limit → 2 * sizes ts + 1 ≤ f → list_at limit m f b at (children ts) seen ≡ upto (at + sizes ts) (onto (labels_all ts) seen)
    list_passes none zero at seen held wide coded fresh fits deep = absurd (omega arith)
    list_passes none (suc f) at seen held wide coded fresh fits deep = ap (λ (n : ℕ). upto n seen) (let g : at ≡ at + 0 = omega arith in g)
    list_passes (more t ts) zero at seen held wide coded fresh fits deep = absurd (omega arith)
    list_passes (more t ts) (suc f) at seen held wide coded fresh fits deep =
        let some = tree_some t in
        let first : node_at limit m f b at seen ≡ upto (at + size t) (onto (labels t) seen) =
        node_passes t f at seen held.0 wide.0 (λ c k. coded c (has_append_left c (labels t) (labels_all ts) k))
        (fresh_front (labels t) (labels_all ts) seen fresh) (omega arith) (omega arith) in
        let rest : list_at limit m f b (at + size t) (children ts) (onto (labels t) seen) ≡ upto (at + size t + sizes ts) (onto (labels_all ts) (onto (labels t) seen)) =
        list_passes ts f (at + size t) (onto (labels t) seen) held.1 wide.1 (λ c k. coded c (has_append_right c (labels t) (labels_all ts) k))
        (fresh_rest (labels t) (labels_all ts) seen fresh) (omega arith) (omega arith) in
        ap (λ (x : Sound). followed_by x (λ next grown. list_at limit m f b next (children ts) grown)) first
        ∙ rest
        ∙ ap (λ (n : ℕ). upto n (onto (labels_all ts) (onto (labels t) seen))) (let g : at + size t + sizes ts ≡ at + (size t + sizes ts) = omega arith in g)
        ∙ ap (upto (at + (size t + sizes ts))) (sym (onto_append (labels t) (labels_all ts) seen))
