-- Laws of a graph that grows: what a log adds, and what each code of a walk adds.
use mathlib.Core.Path.{◌≡◌, refl, sym, ◌∙◌, ap, subst}
use mathlib.Core.Logic.{◌⊎◌, inl, inr}
use mathlib.Core.List.{List, [], ◌∷◌, ◌++◌}
use mathlib.Core.Bool.{Bool, true, false, ◌&&◌, ◌||◌}
use Prim.Native.Nat.{ℕ, ◌<◌}
use lib.Dec.{eqb, ltb}
use lib.ListN.{get_or}
use borrow.Author.Tests.{lt-ltb, eqb-true}
use Rattle.std.specs.Prelude.{Option, None, Some}
use Rattle.rules.specs.Words.{any}
use Rattle.rules.specs.Mining as mining
use Rattle.rules.specs.Mining.{Episode, Log, follows, starts_with, ends_with}
use Rattle.rules.specs.Calls.{code_count}
use Rattle.rules.proofs.BoolLaws.{or_off, or_assoc, or_none, and_cases, bool_cases}
use Rattle.rules.proofs.ListLaws.{any_append}
use Rattle.code_sets.specs.Bits.{has, listed}
use Rattle.graph_rows.specs.Edges.{edge_of, meant, Bare, Noted, Started, Ended}
use Rattle.graph_rows.specs.declared.Graph.{Graph}
use Rattle.mine_views.specs.Sublogs.{Walk, step_by, done, Sight, empty_if, pieces_of, shown, drawn}
use Rattle.mine_trails.specs.Growing.{Trail, Coded, joined, with_pieces, resumed, trail, trailed, adds_nothing, last_after}

-- ---- joining logs to a graph

pub joined_nil : (g : mining.Graph) → joined g [] ≡ g
unfolding joined
joined_nil g = λ i.
    record {
      codes = g.codes;
      edge = λ a b. or_off (g.edge a b) i;
      start = λ a. or_off (g.start a) i;
      end = λ a. or_off (g.end a) i;
    }

or_append : {A : Type 0} (t : Bool) (p : A → Bool) (xs ys : List A) → ((t || any p xs) || any p ys) ≡ (t || any p (xs ++ ys))
or_append t p xs ys = or_assoc t (any p xs) (any p ys) ∙ ap (◌||◌ t) (sym (any_append p xs ys))

pub joined_append : (g : mining.Graph) (l m : Log) → joined (joined g l) m ≡ joined g (l ++ m)
unfolding joined
joined_append g l m = λ i.
    record {
      codes = g.codes;
      edge = λ a b. or_append (g.edge a b) (follows a b) l m i;
      start = λ a. or_append (g.start a) (starts_with a) l m i;
      end = λ a. or_append (g.end a) (ends_with a) l m i;
    }

-- ---- from nothing on: the sublog's own graph

off_empty : (p : Episode → Bool) → p [] ≡ false → (b : Bool) (l : Log) → any p l ≡ any p (empty_if b ++ l)
off_empty p e true l = ap (λ (t : Bool). t || any p l) (sym e)
off_empty p e false l = refl

pub drawn_from : (g : Graph) (kept : ℕ) (s : Sight) (l : Log) → Bare g → with_pieces s (meant g kept) l ≡ drawn (listed code_count kept) (shown s l)
unfolding joined meant drawn shown
drawn_from g kept s l n =
    (λ i.
    record {
      codes = listed code_count kept;
      edge = λ a b. with_none (follows a b) refl (edge_of g.rows a b) (n.edges a b) i;
      start = λ a. with_none (starts_with a) refl (has g.starts.bits a) (n.starts a) i;
      end = λ a. with_none (ends_with a) refl (has g.ends.bits a) (n.ends a) i;
    })
  where
    with_none : (p : Episode → Bool) → p [] ≡ false → (t : Bool) → t ≡ false → (t || any p (pieces_of s l)) ≡ any p (empty_if s.bare ++ pieces_of s l)
    with_none p e t f =
        ap (λ (x : Bool). x || any p (pieces_of s l)) f ∙ off_empty p e s.bare (pieces_of s l)

-- ---- one code more

regroup : (g n f r : Bool) → ((g || n) || (f || r)) ≡ (g || ((n || f) || r))
regroup g n f r = or_assoc g n (f || r) ∙ ap (◌||◌ g) (sym (or_assoc n f r))

none_after : (t : Bool) → ((t && false) || false) ≡ false
none_after true = refl
none_after false = refl

module _ (g h : Graph) (c kept : ℕ) (w : Walk) where
  pub event_on : (last : ℕ) → last < code_count → c < code_count → Noted g last c h → resumed (Some c) w (meant h kept) ≡ resumed (Some last) (c ∷ w.0, w.1) (meant g kept)
  unfolding resumed meant
  event_on last l s n = λ i.
      record {
        codes = listed code_count kept;
        edge = λ a b. edges a b i;
        start = λ a. has (n.starts i).bits a || any (starts_with a) w.1;
        end = λ a. has (n.ends i).bits a || any (ends_with a) ((c ∷ w.0) ∷ w.1);
      }
    where
      edges : (a b : ℕ) → (edge_of h.rows a b || any (follows a b) ((c ∷ w.0) ∷ w.1)) ≡ (edge_of g.rows a b || any (follows a b) ((last ∷ c ∷ w.0) ∷ w.1))
      edges a b =
          ap (λ (t : Bool). t || any (follows a b) ((c ∷ w.0) ∷ w.1))
          (rw (lt-ltb last code_count l, lt-ltb c code_count s) at (n.edges a b))
          ∙ regroup (edge_of g.rows a b) (eqb a last && eqb b c) (follows a b (c ∷ w.0)) (any (follows a b) w.1)

  pub event_first : c < code_count → Started g c h → resumed (Some c) w (meant h kept) ≡ resumed None (c ∷ w.0, w.1) (meant g kept)
  unfolding resumed meant joined
  event_first s n = λ i.
      record {
        codes = listed code_count kept;
        edge = λ a b. edge_of (n.edges i) a b || any (follows a b) ((c ∷ w.0) ∷ w.1);
        start = λ a. starts a i;
        end = λ a. has (n.ends i).bits a || any (ends_with a) ((c ∷ w.0) ∷ w.1);
      }
    where
      starts : (a : ℕ) → (has h.starts.bits a || any (starts_with a) w.1) ≡ (has g.starts.bits a || any (starts_with a) ((c ∷ w.0) ∷ w.1))
      starts a =
          ap (λ (t : Bool). t || any (starts_with a) w.1) (rw (lt-ltb c code_count s) at (n.starts a))
          ∙ or_assoc (has g.starts.bits a) (eqb a c) (any (starts_with a) w.1)

module _ (g h : Graph) (kept : ℕ) (w : Walk) where
  pub stop_open : (last : ℕ) → last < code_count → Ended g last h → joined (meant h kept) (done w) ≡ resumed (Some last) ([], done w) (meant g kept)
  unfolding resumed meant joined
  stop_open last l n = λ i.
      record {
        codes = listed code_count kept;
        edge = λ a b. edge_of (n.edges i) a b || (sym (none_after (eqb a last)) i || any (follows a b) (done w));
        start = λ a. has (n.starts i).bits a || any (starts_with a) (done w);
        end = λ a. ends a i;
      }
    where
      ends : (a : ℕ) → (has h.ends.bits a || any (ends_with a) (done w)) ≡ (has g.ends.bits a || any (ends_with a) ((last ∷ []) ∷ done w))
      ends a =
          ap (λ (t : Bool). t || any (ends_with a) (done w)) (rw (lt-ltb last code_count l) at (n.ends a))
          ∙ or_assoc (has g.ends.bits a) (eqb a last) (any (ends_with a) (done w))

-- where no sub-episode is open there is no end to note
pub stop_closed : (g : Graph) (kept : ℕ) (w : Walk) → joined (meant g kept) (done w) ≡ resumed None ([], done w) (meant g kept)
unfolding resumed
stop_closed g kept w = refl

-- what one more code x gives: a trail that the rest of the walk finds as it finds the one before x
abbrev pub Turn : Trail → ℕ → ℕ → ℕ → Trail → Type 0
Turn s k b x r = (kept : ℕ) (w : Walk) → trailed r kept w ≡ trailed s kept (step_by (has k x) (has b x) x w)

-- what an event or a break x gives, whatever the breaks are: a graph r with the last code that follows
abbrev pub Grown : Graph → Option ℕ → ℕ → ℕ → Graph → Type 0
Grown g last k x r = (kept : ℕ) (w : Walk) → trailed (trail r (last_after (has k x) x)) kept w ≡ trailed (trail g last) kept (step_by (has k x) true x w)

module _ (g r : Graph) (k x : ℕ) (t : Bool) (call : t ≡ has k x) (last : Option ℕ) where
  pub grown_pair : t ≡ true → x < code_count → (before : ℕ) → last ≡ Some before → before < code_count → Noted g before x r → Grown g last k x r
  grown_pair on below before e l n kept w = rw (sym call ∙ on, e) (event_on g r x kept w before l below n)

  pub grown_start : t ≡ true → x < code_count → last ≡ None → Started g x r → Grown g last k x r
  grown_start on below e n kept w = rw (sym call ∙ on, e) (event_first g r x kept w below n)

  pub grown_end : t ≡ false → ((n : ℕ) (v : Walk) → joined (meant r n) (done v) ≡ trailed (trail g last) n ([], done v)) → Grown g last k x r
  unfolding resumed
  grown_end off e kept w = rw (sym call ∙ off) (e kept w)

-- the last code that follows is one of the codes
pub coded_after : (event : Bool) (c : ℕ) → c < code_count → (last : Option ℕ) → last ≡ last_after event c → Coded last
coded_after event c l last e = subst Coded (sym e) (by event)
  where
    by : (b : Bool) → Coded (last_after b c)
    by true = l
    by false = tt

-- a code that is no event and yet watched is a break
step_watched : (event stop : Bool) → (event || stop) ≡ true → (x : ℕ) (w : Walk) → step_by event true x w ≡ step_by event stop x w
step_watched true stop on x w = refl
step_watched false stop on x w = ap (λ (t : Bool). step_by false t x w) (sym on)

pub turn_grown : (s : Trail) (k b x : ℕ) (t : Bool) → t ≡ (has k x || has b x) → t ≡ true → (r : Graph) → Grown s.graph s.last k x r → Turn s k b x (trail r (last_after (has k x) x))
turn_grown s k b x t seen on r e kept w = e kept w ∙ ap (trailed s kept) (step_watched (has k x) (has b x) (sym seen ∙ on) x w)

-- ---- a code that adds nothing

-- what a graph has is there once noted again
again : (t p : Bool) → (p ≡ true → t ≡ true) → t ≡ (t || p)
again true p h = refl
again false true h = h refl
again false false h = refl

noted_again : (g : Graph) (a b : ℕ) → has (get_or g.rows a 0) b ≡ true → Noted g a b g
unfolding edge_of
noted_again g a b h =
    record {
      edges =
          λ i j. again (edge_of g.rows i j) (ltb a code_count && ltb b code_count && eqb i a && eqb j b) (λ e.
          let p = and_cases (ltb a code_count && ltb b code_count && eqb i a) (eqb j b) e in
          let q = and_cases (ltb a code_count && ltb b code_count) (eqb i a) p.0 in
          (λ k. edge_of g.rows (eqb-true i a q.1 k) (eqb-true j b p.1 k)) ∙ h);
      starts = refl;
      ends = refl;
    }

marked_again : (x a : ℕ) → has x a ≡ true → (i : ℕ) → has x i ≡ (has x i || (ltb a code_count && eqb i a))
marked_again x a h i =
    again (has x i) (ltb a code_count && eqb i a) (λ e. ap (has x) (eqb-true i a (and_cases (ltb a code_count) (eqb i a) e).1) ∙ h)

-- an end that is noted already, or none where no sub-episode is open
abbrev pub NotedEnd : Graph → Option ℕ → Type 0
NotedEnd g None = Unit {0}
NotedEnd g (Some last) = (last < code_count) × (has g.ends.bits last ≡ true)

pub end_again : (g : Graph) (last : Option ℕ) → NotedEnd g last → (kept : ℕ) (w : Walk) → joined (meant g kept) (done w) ≡ trailed (trail g last) kept ([], done w)
end_again g None noted kept w = stop_closed g kept w
end_again g (Some last) noted kept w = stop_open g g kept w last noted.0 (record { edges = refl; starts = refl; ends = marked_again g.ends.bits last noted.1 })

-- an event is there already: its pair, or its start where no sub-episode is open
abbrev pub There : Graph → Option ℕ → ℕ → Type 0
There g None x = has g.starts.bits x ≡ true
There g (Some last) x = (last < code_count) × (has (get_or g.rows last 0) x ≡ true)

-- the same trail by another way
pub turn_is : (s : Trail) (k b x : ℕ) (g h : Graph) (last after : Option ℕ) → h ≡ g → last ≡ after → Turn s k b x (trail g after) → Turn s k b x (trail h last)
turn_is s k b x g h last after e f t kept w = (λ i. trailed (trail (e i) (f i)) kept w) ∙ t kept w

module _ (g : Graph) (last : Option ℕ) (k b x : ℕ) where
  pub noted_break : has k x ≡ false → has b x ≡ true → NotedEnd g last → Turn (trail g last) k b x (trail g None)
  unfolding resumed
  noted_break off at noted kept w = rw (off, at) (end_again g last noted kept w)

  pub turn_pass : (t : Bool) → t ≡ (has k x || has b x) → t ≡ false → Turn (trail g last) k b x (trail g last)
  turn_pass t seen off kept w = let none = or_none (has k x) (has b x) (sym seen ∙ off) in rw (none.0, none.1)

module _ (g : Graph) (k b x : ℕ) (below : x < code_count) where
  pub noted_event : (last : Option ℕ) → has k x ≡ true → There g last x → Turn (trail g last) k b x (trail g (Some x))
  noted_event None on p kept w = rw on (event_first g g x kept w below (record { edges = refl; starts = marked_again g.starts.bits x p; ends = refl }))
  noted_event (Some last) on p kept w = rw on (event_on g g x kept w last p.0 below (noted_again g last x p.1))

  pub turn_noted : (last : Option ℕ) → Coded last → (t : Bool) → t ≡ (has k x || has b x) → t ≡ true →
      (u : Bool) → u ≡ adds_nothing g (has k x) last x → u ≡ true → Turn (trail g last) k b x (trail g (last_after (has k x) x))
  turn_noted last l t seen on u told nothing = by (bool_cases (has k x))
    where
      there : (z : Option ℕ) → Coded z → adds_nothing g true z x ≡ true → There g z x
      there None l e = e
      there (Some last) l e = (l, e)

      end : (z : Option ℕ) → Coded z → adds_nothing g false z x ≡ true → NotedEnd g z
      end None l e = tt
      end (Some last) l e = (l, e)

      by : (has k x ≡ true) ⊎ (has k x ≡ false) → Turn (trail g last) k b x (trail g (last_after (has k x) x))
      by (inl y) kept w = ap (λ (v : Bool). trailed (trail g (last_after v x)) kept w) y ∙ noted_event last y (there last l (rw y at (sym told ∙ nothing))) kept w
      by (inr n) kept w =
          ap (λ (v : Bool). trailed (trail g (last_after v x)) kept w) n
          ∙ noted_break g last k b x n (rw n at (sym seen ∙ on)) (end last l (rw n at (sym told ∙ nothing))) kept w
