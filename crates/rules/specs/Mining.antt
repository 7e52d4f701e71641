-- From log to tree, in the page's words and order. m is the number of codes: the codes are 0 to m - 1.
use Rattle.std.specs.Prelude.{List, [], ◌∷◌, ◌++◌, Bool, true, false, not, ◌&&◌, ◌||◌, ℕ, zero, suc, eqb, ltb}
use Rattle.std.specs.Bool.{beq}
use Rattle.rules.specs.Words.{any, all, keep, each, flat, mem, implies, from}
use Rattle.rules.specs.Trees.{Op, choice, sequence, parallel, loop, Tree, silent, leaf, node, Forest, none, more}

abbrev pub Episode : Type 0
Episode = List ℕ

abbrev pub Log : Type 0
Log = List Episode

abbrev pub Rel : Type 0
Rel = ℕ → ℕ → Bool

-- every code that occurs, in ascending order
unfoldable pub occurring : ℕ → Log → List ℕ
occurring m l = keep (λ c. any (mem c) l) (from 0 m)

-- ---- the graph

abbrev pub is_empty : Episode → Bool
is_empty [] = true
is_empty (x ∷ t) = false

abbrev pub starts_with : ℕ → Episode → Bool
starts_with c [] = false
starts_with c (x ∷ t) = eqb c x

abbrev pub last_of : ℕ → Episode → ℕ
last_of x [] = x
last_of x (y ∷ t) = last_of y t

abbrev pub ends_with : ℕ → Episode → Bool
ends_with c [] = false
ends_with c (x ∷ t) = eqb c (last_of x t)

-- b directly follows a somewhere
abbrev pub follows : ℕ → ℕ → Episode → Bool
follows a b [] = false
follows a b (x ∷ t) = (eqb a x && starts_with b t) || follows a b t

-- a relation on some codes, read from a table: the same, and false at other codes
abbrev pub look_in : List (ℕ × List ℕ) → Rel
look_in rows a b = any (λ r. eqb a r.0 && mem b r.1) rows

unfoldable pub table_of : List ℕ → Rel → List (ℕ × List ℕ)
table_of cs e = each (λ a. (a, keep (e a) cs)) cs

unfoldable pub tabled : List ℕ → Rel → Rel
tabled cs e = look_in (table_of cs e)

pub record Graph : Type 0 where
  pub codes : List ℕ
  pub edge : Rel
  pub start : ℕ → Bool
  pub end : ℕ → Bool

unfoldable pub graph : ℕ → Log → Graph
graph m l =
    record {
      codes = occurring m l;
      edge = tabled (occurring m l) (λ a b. any (follows a b) l);
      start = λ a. any (starts_with a) l;
      end = λ a. any (ends_with a) l;
    }

-- a reaches b by edges of e between the codes cs that pass only through the codes ks
unfoldable pub through : List ℕ → List ℕ → Rel → Rel
through cs [] e = e
through cs (k ∷ ks) e = tabled cs (λ a b. through cs ks e a b || (through cs ks e a k && through cs ks e k b))

-- a reaches b by one edge or more
unfoldable pub reach : Graph → Rel
reach g = through g.codes g.codes g.edge

-- ---- components

-- the code x put to the components of the codes xs: those that x is related to become one with it
unfoldable pub join : Rel → ℕ → List ℕ → List (List ℕ) → List (List ℕ)
join r x xs gs =
    let touched : List ℕ = flat (keep (any (r x)) gs) in
    (x ∷ keep (λ c. mem c touched) xs) ∷ keep (λ g. not (any (r x) g)) gs

-- the components of a symmetric relation on ascending codes, each ascending, by their smallest codes
unfoldable pub components : Rel → List ℕ → List (List ℕ)
components r [] = []
components r (x ∷ xs) = join r x xs (components r xs)

-- ---- the four cuts

-- directions ignored
abbrev pub either : Rel → Rel
either e a b = e a b || e b a

-- choice: the connected components, edge directions ignored
unfoldable pub choice_parts : Graph → List (List ℕ)
choice_parts g = components (either g.edge) g.codes

-- each reaches the other or neither does
abbrev pub together : Rel → Rel
together r a b = beq (r a b) (r b a)

abbrev pub head_of : List ℕ → ℕ
head_of [] = 0
head_of (x ∷ p) = x

abbrev pub place_by : Bool → List ℕ → List ℕ → List (List ℕ) → List (List ℕ) → List (List ℕ)
place_by true p q qs later = p ∷ q ∷ qs
place_by false p q qs later = q ∷ later

-- p put before the first part that it is in relation to
abbrev pub place : Rel → List ℕ → List (List ℕ) → List (List ℕ)
place r p [] = p ∷ []
place r p (q ∷ qs) = place_by (r (head_of p) (head_of q)) p q qs (place r p qs)

-- the parts in the order of a relation
abbrev pub ordered : Rel → List (List ℕ) → List (List ℕ)
ordered r [] = []
ordered r (p ∷ ps) = place r p (ordered r ps)

-- sequence: the groups of codes that belong together, and by chains of such, in the order of reach
unfoldable pub sequence_parts : Graph → List (List ℕ)
sequence_parts g = let r : Rel = reach g in ordered r (components (together r) g.codes)

-- the edges between them do not both exist
abbrev pub not_both : Rel → Rel
not_both e a b = not (e a b && e b a)

-- a start in the part; an end in it
abbrev pub has_start : Graph → List ℕ → Bool
has_start g p = any g.start p

abbrev pub has_end : Graph → List ℕ → Bool
has_end g p = any g.end p

-- two parts become one of the codes cs
abbrev pub as_one : List ℕ → List ℕ → List ℕ → List ℕ
as_one cs p q = keep (λ c. mem c p || mem c q) cs

-- the i-th of some pairs with the i-th of others
abbrev pub paired : List ℕ → List (List ℕ) → List (List ℕ) → List (List ℕ)
paired cs [] qs = []
paired cs (p ∷ ps) [] = []
paired cs (p ∷ ps) (q ∷ qs) = as_one cs p q ∷ paired cs ps qs

-- made of components: one with both a start and an end is a part of its own; the i-th with only starts pairs with the
-- i-th with only ends; by their smallest codes
unfoldable pub made_parts : Graph → List (List ℕ) → List (List ℕ)
made_parts g ps =
    ordered ltb
    (keep (λ p. has_start g p && has_end g p) ps
    ++ paired g.codes (keep (λ p. has_start g p && not (has_end g p)) ps) (keep (λ p. not (has_start g p) && has_end g p) ps))

-- all codes that remain join the part with the smallest code, the first
abbrev pub with_rest : List ℕ → List (List ℕ) → List (List ℕ)
with_rest cs [] = []
with_rest cs (p ∷ ps) = as_one cs p (keep (λ c. not (any (mem c) (p ∷ ps))) cs) ∷ ps

-- parallel: made of the components of two codes joined unless both edges exist
unfoldable pub parallel_parts : Graph → List (List ℕ)
parallel_parts g = with_rest g.codes (made_parts g (components (not_both g.edge) g.codes))

-- a start or an end
abbrev pub on_border : Graph → ℕ → Bool
on_border g a = g.start a || g.end a

-- a redo part, where border is the starts and ends: every edge into it from them leaves an end, every edge from it
-- to them reaches a start, a code with an edge to any has one to every start, one with an edge from any from every end
unfoldable pub is_redo : Graph → List ℕ → List ℕ → Bool
is_redo g border p =
    all (λ x.
    all (λ a. implies (g.edge a x) (g.end a) && implies (g.edge x a) (g.start a)) border
    && implies (any (g.edge x) border) (all (λ a. implies (g.start a) (g.edge x a)) border)
    && implies (any (λ a. g.edge a x) border) (all (λ a. implies (g.end a) (g.edge a x)) border)) p

-- of the components of what remains without the starts and ends, those that are redo parts
unfoldable pub redo_parts : Graph → List (List ℕ)
redo_parts g =
    keep (is_redo g (keep (on_border g) g.codes))
    (components (either g.edge) (keep (λ a. not (on_border g a)) g.codes))

-- the body: the starts and ends, and the other components
unfoldable pub body_part : Graph → List ℕ
body_part g = let redos : List (List ℕ) = redo_parts g in keep (λ a. not (any (mem a) redos)) g.codes

-- loop: the body, then the redo parts
unfoldable pub loop_parts : Graph → List (List ℕ)
loop_parts g = body_part g ∷ redo_parts g

abbrev pub parts_of : Op → Graph → List (List ℕ)
parts_of choice g = choice_parts g
parts_of sequence g = sequence_parts g
parts_of parallel g = parallel_parts g
parts_of loop g = loop_parts g

-- ---- splitting

-- the events of an episode that are in the part
unfoldable pub project : List ℕ → Episode → Episode
project p = keep (λ c. mem c p)

-- the event x, in the part or not, before runs of which the first starts with the next event or not
abbrev pub add_to : Bool → Bool → ℕ → List Episode → List Episode
add_to false joins x rs = rs
add_to true false x rs = (x ∷ []) ∷ rs
add_to true true x [] = (x ∷ []) ∷ []
add_to true true x (r ∷ rs) = (x ∷ r) ∷ rs

abbrev pub starts_in : List ℕ → Episode → Bool
starts_in p [] = false
starts_in p (x ∷ t) = mem x p

-- the longest unbroken runs in the part
abbrev pub runs : List ℕ → Episode → List Episode
runs p [] = []
runs p (x ∷ t) = add_to (mem x p) (starts_in p t) x (runs p t)

-- choice: whole episodes; sequence and parallel: every episode's projection, empty ones too; loop: the runs
unfoldable pub split : Op → List ℕ → Log → Log
split choice p l = keep (all (λ c. mem c p)) l
split sequence p l = each (project p) l
split parallel p l = each (project p) l
split loop p l = flat (each (runs p) l)

-- ---- what is made of a log

pub data Shape : Type 0 where
  nothing : Shape
  single : ℕ → Shape
  flower : List ℕ → Shape
  cut : Op → List (List ℕ) → Shape

-- a cut needs two parts or more
unfoldable pub or_else : Op → List (List ℕ) → Shape → Shape
or_else o [] s = s
or_else o (p ∷ []) s = s
or_else o (p ∷ q ∷ ps) s = cut o (p ∷ q ∷ ps)

-- the first cut found, in this order
unfoldable pub cut_or : Graph → Shape → Shape
cut_or g s =
    or_else choice (choice_parts g)
    (or_else sequence (sequence_parts g)
    (or_else parallel (parallel_parts g)
    (or_else loop (loop_parts g) s)))

abbrev pub one_event : Episode → Bool
one_event [] = false
one_event (x ∷ []) = true
one_event (x ∷ y ∷ t) = false

-- one code, and only episodes of one event
abbrev pub single_or : List ℕ → Bool → Shape → Shape
single_or [] b s = s
single_or (a ∷ cs) false s = s
single_or (a ∷ []) true s = single a
single_or (a ∷ b ∷ cs) true s = s

-- only the empty episode; the empty episode beside others; only the episode of one event; a cut; no cut
unfoldable pub shape_of : Bool → Bool → List ℕ → Bool → Graph → Shape
shape_of true someEmpty cs ones g = nothing
shape_of false true cs ones g = flower cs
shape_of false false cs ones g = single_or cs ones (cut_or g (flower cs))

unfoldable pub shape : ℕ → Log → Shape
shape m l = shape_of (all is_empty l) (any is_empty l) (occurring m l) (all one_event l) (graph m l)

-- ---- the tree

abbrev pub leaves : List ℕ → Forest
leaves [] = none
leaves (a ∷ cs) = more (leaf a) (leaves cs)

-- a loop whose children are silent and then every code in ascending order
abbrev pub flower_of : List ℕ → Tree
flower_of cs = node loop (more silent (leaves cs))

abbrev pub grow : (List ℕ → Tree) → List (List ℕ) → Forest
grow f [] = none
grow f (p ∷ ps) = more (f p) (grow f ps)

-- the tree of a log by what is made of it, where sub mines a part's log
unfoldable pub build : (Log → Tree) → Log → Shape → Tree
build sub l nothing = silent
build sub l (single a) = leaf a
build sub l (flower cs) = flower_of cs
build sub l (cut o ps) = node o (grow (λ p. sub (split o p l)) ps)

-- n cuts deep at most
unfoldable pub mine : ℕ → ℕ → Log → Tree
mine m zero l = flower_of (occurring m l)
mine m (suc n) l = build (mine m n) l (shape m l)

-- a part has fewer codes than its log, so m + 1 is deep enough
unfoldable pub mined : ℕ → Log → Tree
mined m l = mine m (suc m) l
