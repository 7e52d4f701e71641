-- Laws of the rules for a node and a list, one for each way through the code.
use mathlib.Core.Path.{◌≡◌, refl, sym, ap, subst}
use mathlib.Core.List.{List}
use mathlib.Core.Bool.{Bool, true, false}
use Prim.Native.Nat.{ℕ, zero, suc, ◌+◌, ◌-◌, ◌*◌, ◌≤◌, ◌<◌}
use native.Mathlib.Omega.{arith}
use lib.Dec.{eqb}
use borrow.Author.Tests.{eq-eqb, ne_eqb, eqb-true}
use Rattle.rules.specs.Words.{pick}
use Rattle.rules.specs.TreeBlock.{Sound, upto, broken, sized_rule, followed_by, node_at, list_at}
use Rattle.rules.specs.Calls.{code_count, entry_count}
use Rattle.rules.proofs.AnswerLaws.{pick_case}
use Rattle.rules.proofs.NodeLaws.{list_entries}
use Rattle.code_sets.specs.declared.CodeSet.{CodeSet}
use Rattle.std.specs.Prelude.{Option, None, Some}
use Rattle.tree_entries.specs.declared.Met.{Met}
use Rattle.tree_entries.specs.declared.Entry.{Entry}
use Rattle.tree_entries.specs.declared.Entry.TheVariants.{Settled, Operator}
use Rattle.tree_entries.specs.Entries.{Same, Agrees, After, EntrySays}
use Rattle.tree_check.specs.Checks.{Between, Within, ended_of, NodeSays, ListSays}

-- ---- a node that its entry settles

agrees_within : (end : ℕ) (c : Option Met) (x : Sound) → Agrees c x → Within end c x
agrees_within end (Some met) x h = h
agrees_within end None (upto next l) h = absurd h
agrees_within end None broken h = tt

after_between : (at end : ℕ) (c : Option Met) → at < end → After at c → Between (at + 1) end c
after_between at end (Some met) h e = (omega arith, omega arith)
after_between at end None h e = tt

module _ (b : List ℕ) (at end : ℕ) (seen : CodeSet) where
  settled_is : (met : Met) → EntrySays b at seen (Some (Settled met)) →
      (l : List ℕ) → Same seen l → (f : ℕ) → 2 * (entry_count - at) < f → Within end (Some met) (node_at entry_count code_count f b at l)
  unfolding node_at
  settled_is met says l s zero h = absurd (omega arith)
  settled_is met says l s (suc f) h = agrees_within end (Some met) _ (says.is l s (λ n. list_at entry_count code_count f b (at + 1) n l))

  pub node_settled : (r : Entry) (met : Met) → at < end → r ≡ Settled met → EntrySays b at seen (Some r) → NodeSays b at end seen (Some met)
  node_settled r met h e says =
      let told : EntrySays b at seen (Some (Settled met)) = rw e at says in
      record { ends = after_between at end (Some met) h told.past; is = settled_is met told }

  broken_entry : EntrySays b at seen None →
      (l : List ℕ) → Same seen l → (f : ℕ) → 2 * (entry_count - at) < f → Within end None (node_at entry_count code_count f b at l)
  unfolding node_at
  broken_entry says l s zero h = absurd (omega arith)
  broken_entry says l s (suc f) h = agrees_within end None _ (says.is l s (λ n. list_at entry_count code_count f b (at + 1) n l))

  pub node_broken : EntrySays b at seen None → NodeSays b at end seen None
  node_broken says = record { ends = tt; is = broken_entry says }

-- ---- an operator

both_picked : (end : ℕ) (t : Bool) (met : Met) (l : List ℕ) → Same met.seen l → Within end (pick t (Some met) None) (pick t (upto met.next l) broken)
both_picked end true met l s = (refl, s)
both_picked end false met l s = tt

-- a list that misses the operator's end breaks the operator
missed : (at size end next : ℕ) (l : List ℕ) → (next ≡ at + size → ⊥) → Within end None (sized_rule at size (upto next l))
missed at size end next l h = simp (ne_eqb next (at + size) h) tt

ended_within : (at size end : ℕ) (q : Option Met) (x : Sound) → Within (at + size) q x → Within end (ended_of (at + size) q) (sized_rule at size x)
ended_within at size end (Some met) (upto stop l) (e, s) =
    subst (λ (n : ℕ). Within end (ended_of (at + size) (Some met)) (sized_rule at size (upto n l))) e (both_picked end (eqb met.next (at + size)) met l s)
ended_within at size end (Some met) broken h = absurd h
ended_within at size end None (upto next l) h = missed at size end next l (λ e. omega arith)
ended_within at size end None broken h = tt

ended_between : (at size end low : ℕ) (q : Option Met) → at + size ≤ end → at + 1 ≤ low → Between low (at + size) q → Between (at + 1) end (ended_of (at + size) q)
ended_between at size end low (Some met) h k (n, m) = pick_case (Between (at + 1) end) (eqb met.next (at + size)) (λ _. (omega arith, omega arith)) (λ _. tt)
ended_between at size end low None h k n = tt

beyond_within : (at size end : ℕ) (x : Sound) → end < at + size → Within end None (sized_rule at size x)
beyond_within at size end (upto next l) h =
    pick_case (Within end None) (eqb next (at + size)) (λ e. let same = eqb-true next (at + size) e in omega arith) (λ _. tt)
beyond_within at size end broken h = tt

crowded_within : (at n size end : ℕ) (x : Sound) → ((next : ℕ) (l : List ℕ) → x ≡ upto next l → at + 1 + n ≤ next) → size ≤ n → Within end None (sized_rule at size x)
crowded_within at n size end (upto next l) long h = let far = long next l refl in missed at size end next l (λ e. omega arith)
crowded_within at n size end broken long h = tt

module _ (b : List ℕ) (at n size end : ℕ) (seen : CodeSet) (r : Entry) (e : r ≡ Operator n size) (says : EntrySays b at seen (Some r)) where
  told : EntrySays b at seen (Some (Operator n size))
  told = rw e at says

  -- whatever is said of the operator by its children
  by_children : (q : Option Met) → ((l : List ℕ) → Same seen l → (f : ℕ) → 2 * (entry_count - at) < suc f → Within end q (sized_rule at size (list_at entry_count code_count f b (at + 1) n l))) →
      (l : List ℕ) → Same seen l → (f : ℕ) → 2 * (entry_count - at) < f → Within end q (node_at entry_count code_count f b at l)
  unfolding node_at
  by_children q below l s zero h = absurd (omega arith)
  by_children q below l s (suc f) h = subst (Within end q) (sym (told.is l s (λ k. list_at entry_count code_count f b (at + 1) k l))) (below l s f h)

  pub node_operator : (q : Option Met) → at + size ≤ end → ListSays b (at + 1) n (at + size) seen q → NodeSays b at end seen (ended_of (at + size) q)
  node_operator q h below =
      let p = told.past in
      record {
        ends = ended_between at size end (at + 1 + n) q h (omega arith) below.ends;
        is = by_children (ended_of (at + size) q) (λ l s f k. ended_within at size end q _ (below.is l s f (omega arith)));
      }

  pub node_ended : (met : Met) → at + size ≤ end → met.next ≡ at + size → ListSays b (at + 1) n (at + size) seen (Some met) → NodeSays b at end seen (Some met)
  node_ended met h k below = subst (NodeSays b at end seen) (ap (λ (t : Bool). pick t (Some met) None) (eq-eqb met.next (at + size) k)) (node_operator (Some met) h below)

  pub node_missed : (met : Met) → at + size ≤ end → (met.next ≡ at + size → ⊥) → ListSays b (at + 1) n (at + size) seen (Some met) → NodeSays b at end seen None
  node_missed met h k below = subst (NodeSays b at end seen) (ap (λ (t : Bool). pick t (Some met) None) (ne_eqb met.next (at + size) k)) (node_operator (Some met) h below)

  pub node_beyond : end < at + size → NodeSays b at end seen None
  node_beyond h = record { ends = tt; is = by_children None (λ l s f k. beyond_within at size end (list_at entry_count code_count f b (at + 1) n l) h) }

  pub node_crowded : size ≤ n → NodeSays b at end seen None
  node_crowded h =
      record {
        ends = tt;
        is = by_children None (λ l s f k. crowded_within at n size end _ (λ next l' g. list_entries entry_count code_count b f (at + 1) n next l l' g) h);
      }

-- ---- a list

none_is : (b : List ℕ) (at n : ℕ) (seen : CodeSet) → n ≡ 0 → (l : List ℕ) → Same seen l → (f : ℕ) → 2 * (entry_count - at) + 1 < f → Agrees (Some (record { next = at; seen = seen })) (list_at entry_count code_count f b at n l)
unfolding list_at
none_is b at n seen e l s zero h = absurd (omega arith)
none_is b at zero seen e l s (suc f) h = (refl, s)
none_is b at (suc n) seen e l s (suc f) h = absurd (omega arith)

pub list_none : (b : List ℕ) (at n end : ℕ) (seen : CodeSet) → n ≡ 0 → at + n ≤ end → ListSays b at n end seen (Some (record { next = at; seen = seen }))
list_none b at n end seen e h = record { ends = (omega arith, omega arith); is = none_is b at n seen e }

-- a first node that leaves no entry for one of the others
followed_broken : (end n : ℕ) (x : Sound) (go : ℕ → List ℕ → Sound) → ((next last : ℕ) (l l' : List ℕ) → go next l ≡ upto last l' → next + n ≤ last) →
    Within (end - n) None x → Within end None (followed_by x go)
followed_broken end n (upto next l) go long h = far (go next l) (λ last l' e. long next last l l' e)
  where
    far : (y : Sound) → ((last : ℕ) (l' : List ℕ) → y ≡ upto last l' → next + n ≤ last) → Within end None y
    far (upto last l') k = let ends = k last l' refl in omega arith
    far broken k = tt
followed_broken end n broken go long h = tt

followed_upto : (end : ℕ) (x : Sound) (go : ℕ → List ℕ → Sound) (met : Met) (q : Option Met) → Agrees (Some met) x →
    ((l : List ℕ) → Same met.seen l → Within end q (go met.next l)) → Within end q (followed_by x go)
followed_upto end (upto stop l) go met q (e, s) f = subst (λ (n : ℕ). Within end q (go n l)) e (f l s)
followed_upto end broken go met q h f = absurd h

-- the list from a node on, where `first` is what the node says
module _ (b : List ℕ) (at end : ℕ) (seen : CodeSet) where
  broken_is : (n : ℕ) → NodeSays b at (end - n) seen None →
      (l : List ℕ) → Same seen l → (f : ℕ) → 2 * (entry_count - at) + 1 < f → Within end None (list_at entry_count code_count f b at (suc n) l)
  unfolding list_at
  broken_is n first l s zero h = tt
  broken_is n first l s (suc f) h =
      followed_broken end n (node_at entry_count code_count f b at l) (λ next l'. list_at entry_count code_count f b next n l')
      (λ next last l' l'' e. list_entries entry_count code_count b f next n last l' l'' e) (first.is l s f (omega arith))

  pub list_broken : (n : ℕ) → 0 < n → NodeSays b at (end + 1 - n) seen None → ListSays b at n end seen None
  list_broken zero p first = absurd (omega arith)
  list_broken (suc n) p first =
      let e : end + 1 - suc n ≡ end - n = omega arith in
      record { ends = tt; is = broken_is n (subst (λ (k : ℕ). NodeSays b at k seen None) e first) }

  more_is : (n low : ℕ) (met : Met) (q : Option Met) → NodeSays b at low seen (Some met) → ListSays b met.next n end met.seen q →
      (l : List ℕ) → Same seen l → (f : ℕ) → 2 * (entry_count - at) + 1 < f → met.next ≤ entry_count → Within end q (list_at entry_count code_count f b at (suc n) l)
  unfolding list_at
  more_is n low met q first rest l s zero h k = absurd (omega arith)
  more_is n low met q first rest l s (suc f) h k =
      let a = first.ends in
      followed_upto end (node_at entry_count code_count f b at l) (λ stop l'. list_at entry_count code_count f b stop n l') met q (first.is l s f (omega arith))
      (λ l' s'. rest.is l' s' f (omega arith))

  -- the list that goes on from where its first node ends
  later : (n next : ℕ) (q : Option Met) → at + 1 ≤ next → Between (next + n) end q → Between (at + suc n) end q
  later n next (Some met) h (x, y) = (omega arith, y)
  later n next None h x = tt

  pub list_more : (n low : ℕ) (met : Met) (q : Option Met) → 0 < n → low ≤ entry_count → NodeSays b at low seen (Some met) →
      ListSays b met.next (n - 1) end met.seen q → ListSays b at n end seen q
  list_more zero low met q p k first rest = absurd (omega arith)
  list_more (suc n) low met q p k first rest =
      let e : suc n - 1 ≡ n = omega arith in
      let rest' : ListSays b met.next n end met.seen q = subst (λ (i : ℕ). ListSays b met.next i end met.seen q) e rest in
      let ends = first.ends in
      record { ends = later n met.next q ends.0 rest'.ends; is = λ l s f h. more_is n low met q first rest' l s f h (omega arith) }
