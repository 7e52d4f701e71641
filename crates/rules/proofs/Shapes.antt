-- What is made of a log, by cases: one law from which fitness, size, depth and form follow.
use mathlib.Core.Path.{◌≡◌, refl, sym, ◌∙◌, ap, subst}
use mathlib.Core.Logic.{◌⊎◌, inl, inr, ⊎_elim}
use mathlib.Core.List.{List, [], ◌∷◌}
use mathlib.Core.Bool.{Bool, true, false, true≢false, false≢true}
use Prim.Native.Nat.{ℕ, ◌+◌, ◌≤◌, ◌<◌}
use native.Mathlib.Omega.{arith}
use lib.ListN.{length, length-append}
use Rattle.rules.specs.Words.{any, all, flat}
use Rattle.rules.specs.Trees.{Op, choice, sequence, parallel, loop}
use Rattle.rules.specs.Mining.{Episode, Log, occurring, graph, choice_parts, sequence_parts, parallel_parts, loop_parts, body_part, parts_of, or_else, cut_or, single_or, shape_of, shape, Shape, nothing, single, flower, cut, split, is_empty, one_event}
use Rattle.rules.proofs.BoolLaws.{not_both_lem, clash}
use Rattle.rules.proofs.ListLaws.{Has, all_has, has_all, has_any, false_any, not_all, has_length}
use Rattle.rules.proofs.Distinct.{Distinct, distinct_flat, distinct_le}
use Rattle.rules.proofs.Occurring.{Below, code_in, code_of, occurring_distinct}
use Rattle.rules.proofs.Cuts.{Parting, parting_distinct, Two, choice_parting, sequence_parting, loop_parting, start_body}
use Rattle.rules.proofs.ParallelParts.{parallel_parting}
use Rattle.rules.proofs.Splits.{split_occurring}

-- a cut of fewer than two parts
abbrev pub Few : ℕ → Log → Op → Type 0
Few m l o = Two (parts_of o (graph m l)) → ⊥

-- the cuts before it, in the order choice, sequence, parallel, loop, have fewer than two parts
abbrev pub First : ℕ → Log → Op → Type 0
First m l choice = Unit {0}
First m l sequence = Few m l choice
First m l parallel = Few m l choice × Few m l sequence
First m l loop = Few m l choice × Few m l sequence × Few m l parallel

-- what is known where a cut is taken
pub record Taken (m : ℕ) (l : Log) (o : Op) : Type 0 where
  pub two : Two (parts_of o (graph m l))
  pub first : First m l o
  pub parting : Parting (occurring m l) (parts_of o (graph m l))
  pub full : (t : Episode) → Has t l → is_empty t ≡ false

or_else_cases : (F : Shape → Type 0) (o : Op) (ps : List (List ℕ)) (s : Shape) → (Two ps → F (cut o ps)) → ((Two ps → ⊥) → F s) → F (or_else o ps s)
unfolding or_else
or_else_cases F o [] s f g = g (λ t. t)
or_else_cases F o (p ∷ []) s f g = g (λ t. t)
or_else_cases F o (p ∷ q ∷ ps) s f g = f tt

pub empty_is : (t : Episode) → is_empty t ≡ true → t ≡ []
empty_is [] h = refl
empty_is (x ∷ t) h = absurd (false≢true h)

-- only the empty episode
abbrev pub OnlyEmpty : Log → Type 0
OnlyEmpty l = (t : Episode) → Has t l → t ≡ []

-- only the episode of one event a
abbrev pub OnlyOne : Log → ℕ → Type 0
OnlyOne l a = (t : Episode) → Has t l → t ≡ a ∷ []

-- the empty episode beside others
abbrev pub Beside : Log → Type 0
Beside l = Has [] l × ((t : Episode) × Has t l × (t ≡ [] → ⊥))

-- no cut has two parts
abbrev pub NoCut : ℕ → Log → Type 0
NoCut m l = (o : Op) → Few m l o

-- where a flower stands: no base case; and the empty episode is beside others, or there is no cut
pub record Blooms (m : ℕ) (l : Log) : Type 0 where
  pub not_empty : OnlyEmpty l → ⊥
  pub not_one : (a : ℕ) → OnlyOne l a → ⊥
  pub cause : Beside l ⊎ NoCut m l

-- only one code, and one event
only_one : (a : ℕ) (t : Episode) → one_event t ≡ true → ((c : ℕ) → Has c t → Has c (a ∷ [])) → t ≡ a ∷ []
only_one a [] h k = absurd (false≢true h)
only_one a (x ∷ []) h k = ⊎_elim (λ e. ap (λ (y : ℕ). y ∷ []) e) (λ n. absurd n) (k x (inl refl))
only_one a (x ∷ y ∷ t) h k = absurd (false≢true h)

some_code : (m : ℕ) (l : Log) → Below m l → (t : Episode) → Has t l → is_empty t ≡ false → (c : ℕ) × Has c (occurring m l)
some_code m l s [] i h = absurd (true≢false h)
some_code m l s (x ∷ t) i h = (x, code_in m l s (x ∷ t) i x (inl refl))

body_some : (m : ℕ) (l : Log) → Below m l → (t : Episode) → Has t l → is_empty t ≡ false → (c : ℕ) × Has c (body_part (graph m l))
body_some m l s [] i h = absurd (true≢false h)
body_some m l s (x ∷ t) i h = (x, start_body m l s x t i)

pub full_not : (t : Episode) → is_empty t ≡ false → t ≡ [] → ⊥
full_not t h e = true≢false (sym (ap is_empty e) ∙ h)

-- the code of a log of one event
pub one_code : (m : ℕ) (l : Log) (a : ℕ) → OnlyOne l a → (c : ℕ) → Has c (occurring m l) → c ≡ a
one_code m l a h c i = let k = code_of m l c i in ⊎_elim (λ e. e) (λ n. absurd n) (subst (Has c) (h k.0 k.1) k.2)

module _ (m : ℕ) (l : Log) (s : Below m l) (F : Shape → Type 0) where
  singles : (cs : List ℕ) (b : Bool) (z : Shape) → cs ≡ occurring m l → all one_event l ≡ b → (c : ℕ) → Has c cs →
      ((a : ℕ) → Has a (occurring m l) → OnlyOne l a → F (single a)) → (((a : ℕ) → OnlyOne l a → ⊥) → F z) → F (single_or cs b z)
  singles [] b z e eb c i f h = absurd i
  singles (a ∷ cs) false z e eb c i f h = h (λ x o. not_both_lem (all one_event l) (has_all one_event l (λ t j. ap one_event (o t j))) eb)
  singles (a ∷ []) true z e eb c i f h =
      f a (subst (Has a) e (inl refl)) (λ t j. only_one a t (all_has one_event t l eb j) (λ d k. subst (Has d) (sym e) (code_in m l s t j d k)))
  singles (a ∷ d ∷ cs) true z e eb c i f h =
      h (λ x o.
      let one = one_code m l x o in
      let distinct : Distinct (a ∷ d ∷ cs) = subst Distinct (sym e) (occurring_distinct m l) in
      distinct.0 (inl (one a (subst (Has a) e (inl refl)) ∙ sym (one d (subst (Has d) e (inr (inl refl)))))))

  cuts : ((t : Episode) → Has t l → is_empty t ≡ false) → (t : Episode) → Has t l → (NoCut m l → F (flower (occurring m l))) →
      ((o : Op) → Taken m l o → F (cut o (parts_of o (graph m l)))) → F (cut_or (graph m l) (flower (occurring m l)))
  unfolding cut_or
  cuts full t i fl c =
      let g = graph m l in
      let b = body_some m l s t i (full t i) in
      or_else_cases F choice (choice_parts g) _ (λ w. c choice (record { two = w; first = tt; parting = choice_parting m l; full = full }))
      (λ n1. or_else_cases F sequence (sequence_parts g) _ (λ w. c sequence (record { two = w; first = n1; parting = sequence_parting m l; full = full }))
      (λ n2. or_else_cases F parallel (parallel_parts g) _ (λ w. c parallel (record { two = w; first = (n1, n2); parting = parallel_parting m l w; full = full }))
      (λ n3. or_else_cases F loop (loop_parts g) _ (λ w. c loop (record { two = w; first = (n1, n2, n3); parting = loop_parting m l b.0 b.1; full = full }))
      (λ n4. fl (none n1 n2 n3 n4)))))
    where
      none : Few m l choice → Few m l sequence → Few m l parallel → Few m l loop → NoCut m l
      none n1 n2 n3 n4 choice w = n1 w
      none n1 n2 n3 n4 sequence w = n2 w
      none n1 n2 n3 n4 parallel w = n3 w
      none n1 n2 n3 n4 loop w = n4 w

  -- THEOREM: what is made of a log is one of these, each with what is then known
  pub shape_cases : (OnlyEmpty l → F nothing) → ((a : ℕ) → Has a (occurring m l) → OnlyOne l a → F (single a)) →
      ((c : ℕ) → Has c (occurring m l) → Blooms m l → F (flower (occurring m l))) → ((o : Op) → Taken m l o → F (cut o (parts_of o (graph m l)))) → F (shape m l)
  unfolding shape shape_of
  shape_cases n one fl c = by (all is_empty l) (any is_empty l) refl refl
    where
      by : (a b : Bool) → all is_empty l ≡ a → any is_empty l ≡ b → F (shape_of a b (occurring m l) (all one_event l) (graph m l))
      by true b ea eb = n (λ t i. empty_is t (all_has is_empty t l ea i))
      by false true ea eb =
          let t = not_all is_empty l ea in
          let x = some_code m l s t.0 t.1 t.2 in
          let k = has_any is_empty l eb in
          let bare : Has [] l = subst (λ (u : Episode). Has u l) (empty_is k.0 k.2) k.1 in
          fl x.0 x.1
          (record {
            not_empty = λ h. full_not t.0 t.2 (h t.0 t.1);
            not_one = λ a h. full_not (a ∷ []) refl (sym (h [] bare));
            cause = inl (bare, (t.0, t.1, full_not t.0 t.2));
          })
      by false false ea eb =
          let t = not_all is_empty l ea in
          let x = some_code m l s t.0 t.1 t.2 in
          singles (occurring m l) (all one_event l) (cut_or (graph m l) (flower (occurring m l))) refl refl x.0 x.1 one
          (λ not_one. cuts (λ u i. false_any is_empty u l eb i) t.0 t.1
          (λ none. fl x.0 x.1 (record { not_empty = λ h. full_not t.0 t.2 (h t.0 t.1); not_one = not_one; cause = inr none })) c)

abbrev CutFacts : ℕ → Log → Shape → Type 0
CutFacts m l z = (o : Op) (ps : List (List ℕ)) → z ≡ cut o ps → (ps ≡ parts_of o (graph m l)) × Taken m l o

-- THEOREM: a cut that is made of a log is the first with two parts or more, its parts share out the codes, and no episode is empty
pub cut_taken : (m : ℕ) (l : Log) → Below m l → (o : Op) (ps : List (List ℕ)) → shape m l ≡ cut o ps → (ps ≡ parts_of o (graph m l)) × Taken m l o
cut_taken m l s =
    shape_cases m l s (CutFacts m l) (λ h o ps e. clash (cc)) (λ a i h o ps e. clash (cc))
    (λ c i b o ps e. clash (cc))
    (λ o k q ps e. let same : o ≡ q = cc in let parts : parts_of o (graph m l) ≡ ps = cc in subst (λ (x : Op). (ps ≡ parts_of x (graph m l)) × Taken m l x) same (sym parts, k))

-- ---- each part has fewer codes

pub two_length : (ps : List (List ℕ)) → Two ps → 2 ≤ length ps
two_length [] t = absurd t
two_length (p ∷ []) t = absurd t
two_length (p ∷ q ∷ ps) t = omega arith

pub parts_some : (ps : List (List ℕ)) → ((p : List ℕ) → Has p ps → (c : ℕ) × Has c p) → length ps ≤ length (flat ps)
parts_some [] h = omega arith
parts_some (p ∷ ps) h =
    let c = h p (inl refl) in
    let a = has_length c.0 p c.1 in
    let b = parts_some ps (λ q i. h q (inr i)) in
    let e = length-append p (flat ps) in
    omega arith

one_of : (ps : List (List ℕ)) → ((p : List ℕ) → Has p ps → (c : ℕ) × Has c p) → (p : List ℕ) → Has p ps → length p + length ps ≤ length (flat ps) + 1
one_of [] h p i = absurd i
one_of (q ∷ ps) h p (inl e) =
    let b = parts_some ps (λ r i. h r (inr i)) in
    let k = length-append q (flat ps) in
    let z : length p ≡ length q = ap length e in
    omega arith
one_of (q ∷ ps) h p (inr i) =
    let c = h q (inl refl) in
    let a = has_length c.0 q c.1 in
    let b = one_of ps (λ r n. h r (inr n)) p i in
    let k = length-append q (flat ps) in
    omega arith

-- the parts have no more codes than the log
pub parts_length : (m : ℕ) (l : Log) (ps : List (List ℕ)) → Parting (occurring m l) ps → length (flat ps) ≤ length (occurring m l)
parts_length m l ps k =
    distinct_le (flat ps) (occurring m l) (distinct_flat ps k.apart (parting_distinct (occurring m l) ps (occurring_distinct m l) k)) k.inside

-- THEOREM: each part of a taken cut has fewer codes than the log
pub smaller : (m : ℕ) (l : Log) (o : Op) → Taken m l o → (p : List ℕ) → Has p (parts_of o (graph m l)) → length p < length (occurring m l)
smaller m l o k p i =
    let ps = parts_of o (graph m l) in
    let a = one_of ps k.parting.some p i in
    let b = two_length ps k.two in
    let d = parts_length m l ps k.parting in
    omega arith

-- so has its log
pub fewer : (m : ℕ) (l : Log) → Below m l → (o : Op) → Taken m l o → (p : List ℕ) → Has p (parts_of o (graph m l)) → length (occurring m (split o p l)) < length (occurring m l)
fewer m l s o k p i = rw (split_occurring m l s o k.parting p i) (smaller m l o k p i)
