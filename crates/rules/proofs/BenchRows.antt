-- Rows M1 to M12 of the bench sheet, logs that tell each rule from its near misses, logs with heartbeats, and the two worked logs of 000.
use mathlib.Core.Path.{◌≡◌, refl}
use mathlib.Core.List.{List, [], ◌∷◌}
use Prim.Native.Nat.{ℕ}
use Rattle.rules.specs.Words.{each}
use Rattle.rules.specs.Heartbeats.{without_heartbeats}
use Rattle.rules.specs.Trees.{Op, choice, sequence, parallel, loop, Tree, silent, leaf, node, none, more}
use Rattle.rules.specs.Mining.{Log, mined, mine, build, shape, shape_of, cut_or, or_else, split, project, loop_parts, body_part, redo_parts, is_redo, parallel_parts, made_parts, sequence_parts, choice_parts, components, join, through, reach, graph, tabled, table_of, occurring, flower_of}
use Rattle.rules.specs.Calls.{code_count}

abbrev a : ℕ
a = 0

abbrev b : ℕ
b = 1

abbrev c : ℕ
c = 2

abbrev d : ℕ
d = 3

abbrev e : ℕ
e = 4

abbrev f : ℕ
f = 5

abbrev g : ℕ
g = 6

abbrev h : ℕ
h = 7

-- an operator with two children
abbrev two : Op → Tree → Tree → Tree
two o s t = node o (more s (more t none))

-- an operator with three
abbrev three : Op → Tree → Tree → Tree → Tree
three o s t u = node o (more s (more t (more u none)))

pub record Row : Type 0 where
  pub log : Log
  pub tree : Tree

-- M1 to M12
unfoldable pub rows : List Row
rows =
    record { log = [] ∷ []; tree = silent }
    ∷ record { log = (a ∷ []) ∷ (a ∷ []) ∷ []; tree = leaf a }
    ∷ record { log = (a ∷ []) ∷ [] ∷ []; tree = two loop silent (leaf a) }
    ∷ record { log = (a ∷ a ∷ []) ∷ []; tree = two loop silent (leaf a) }
    ∷ record { log = (a ∷ b ∷ []) ∷ []; tree = two sequence (leaf a) (leaf b) }
    ∷ record { log = (a ∷ []) ∷ (b ∷ []) ∷ []; tree = two choice (leaf a) (leaf b) }
    ∷ record { log = (a ∷ b ∷ []) ∷ (b ∷ a ∷ []) ∷ []; tree = two parallel (leaf a) (leaf b) }
    ∷ record { log = (a ∷ b ∷ c ∷ []) ∷ (a ∷ c ∷ b ∷ []) ∷ []; tree = two sequence (leaf a) (two parallel (leaf b) (leaf c)) }
    ∷ record { log = (a ∷ []) ∷ (a ∷ b ∷ a ∷ []) ∷ []; tree = two loop (leaf a) (leaf b) }
    ∷ record { log = (a ∷ b ∷ []) ∷ (a ∷ []) ∷ []; tree = two sequence (leaf a) (two loop silent (leaf b)) }
    ∷ record { log = (a ∷ b ∷ []) ∷ (a ∷ b ∷ c ∷ a ∷ b ∷ []) ∷ []; tree = two loop (two sequence (leaf a) (leaf b)) (leaf c) }
    ∷ record { log = (a ∷ b ∷ []) ∷ (b ∷ c ∷ []) ∷ (c ∷ a ∷ []) ∷ []; tree = node loop (more silent (more (leaf a) (more (leaf b) (more (leaf c) none)))) }
    ∷ []

-- THEOREM: every row of the bench sheet
pub rows_right : each (λ r. mined code_count r.log) rows ≡ each (λ r. r.tree) rows
unfolding mined mine build shape shape_of cut_or or_else split project loop_parts body_part redo_parts is_redo parallel_parts made_parts sequence_parts choice_parts components join through reach graph tabled table_of occurring rows
rows_right = refl

-- one log for each rule, on which leaving it out or turning it round gives another tree
unfoldable pub further : List Row
further =
    -- reach, and not an edge
    record { log = (a ∷ b ∷ c ∷ []) ∷ []; tree = three sequence (leaf a) (leaf b) (leaf c) }
    -- edge directions ignored in a choice; a sequence stands in the order of reach
    ∷ record { log = (b ∷ a ∷ []) ∷ []; tree = two sequence (leaf b) (leaf a) }
    -- the empty episode beside others, though there is a cut
    ∷ record { log = [] ∷ (a ∷ b ∷ []) ∷ []; tree = flower_of (a ∷ b ∷ []) }
    -- empty projections of a parallel split
    ∷ record { log = (a ∷ b ∷ []) ∷ (b ∷ a ∷ []) ∷ (a ∷ d ∷ []) ∷ []; tree = two sequence (two parallel (leaf a) (two loop silent (leaf b))) (two loop silent (leaf d)) }
    -- a component with neither beside one with both: one part, and so no parallel cut
    ∷ record { log = (a ∷ b ∷ a ∷ []) ∷ []; tree = two loop (leaf a) (leaf b) }
    -- one with a start but no end beside one with both: one part, and so no cut
    ∷ record { log = (a ∷ []) ∷ (b ∷ a ∷ b ∷ a ∷ []) ∷ []; tree = flower_of (a ∷ b ∷ []) }
    -- an edge into c from b, which is no end
    ∷ record { log = (a ∷ c ∷ a ∷ []) ∷ (b ∷ c ∷ b ∷ a ∷ []) ∷ []; tree = flower_of (a ∷ b ∷ c ∷ []) }
    -- an edge from c to b, which is no start
    ∷ record { log = (a ∷ c ∷ a ∷ []) ∷ (a ∷ b ∷ c ∷ b ∷ []) ∷ []; tree = flower_of (a ∷ b ∷ c ∷ []) }
    -- c has no edge to the start b
    ∷ record { log = (a ∷ b ∷ []) ∷ (b ∷ c ∷ a ∷ b ∷ []) ∷ []; tree = flower_of (a ∷ b ∷ c ∷ []) }
    -- c has no edge from the end a
    ∷ record { log = (a ∷ b ∷ []) ∷ (a ∷ b ∷ c ∷ a ∷ []) ∷ []; tree = flower_of (a ∷ b ∷ c ∷ []) }
    -- a redo part from every end to every start, and not to or from all of them
    ∷ record { log = (a ∷ c ∷ b ∷ d ∷ []) ∷ (b ∷ d ∷ c ∷ a ∷ []) ∷ []; tree = two loop (two choice (leaf a) (two sequence (leaf b) (leaf d))) (leaf c) }
    -- a part that is cut again by the same operator stays a child
    ∷ record { log = (a ∷ c ∷ []) ∷ (c ∷ b ∷ c ∷ a ∷ b ∷ []) ∷ []; tree = two parallel (two parallel (leaf a) (two loop silent (leaf b))) (two loop silent (leaf c)) }
    -- a component with only starts pairs with one with only ends
    ∷ record { log = (b ∷ c ∷ b ∷ a ∷ c ∷ []) ∷ (a ∷ b ∷ c ∷ a ∷ []) ∷ []; tree = two parallel (flower_of (a ∷ [])) (flower_of (b ∷ c ∷ [])) }
    -- two pairs that cross: the starts a and b, the ends c and d
    ∷ record { log = (a ∷ b ∷ a ∷ c ∷ b ∷ c ∷ a ∷ d ∷ b ∷ d ∷ c ∷ d ∷ []) ∷ (b ∷ d ∷ a ∷ c ∷ []) ∷ []; tree = two parallel (flower_of (a ∷ c ∷ [])) (flower_of (b ∷ d ∷ [])) }
    -- a component with neither, which joins the part with the smallest code and not the last one
    ∷ record { log = (a ∷ c ∷ b ∷ c ∷ a ∷ []) ∷ (b ∷ a ∷ b ∷ []) ∷ []; tree = two parallel (two loop (leaf a) (flower_of (c ∷ []))) (flower_of (b ∷ [])) }
    -- one that moves its part's smallest code
    ∷ record { log = (b ∷ a ∷ c ∷ a ∷ b ∷ []) ∷ (c ∷ b ∷ c ∷ []) ∷ []; tree = two parallel (two loop (leaf b) (flower_of (a ∷ []))) (flower_of (c ∷ [])) }
    -- more with only starts than with only ends: b is left without a partner
    ∷ record {
      log = (d ∷ a ∷ b ∷ a ∷ c ∷ a ∷ d ∷ b ∷ c ∷ b ∷ d ∷ c ∷ d ∷ []) ∷ (a ∷ c ∷ []) ∷ (b ∷ c ∷ []) ∷ [];
      tree = two parallel (flower_of (a ∷ b ∷ c ∷ [])) (flower_of (d ∷ []));
    }
    -- more with only ends than with only starts
    ∷ record {
      log = (d ∷ c ∷ d ∷ b ∷ c ∷ b ∷ d ∷ a ∷ c ∷ a ∷ b ∷ a ∷ d ∷ []) ∷ (c ∷ a ∷ []) ∷ (c ∷ b ∷ []) ∷ [];
      tree = two parallel (flower_of (a ∷ b ∷ c ∷ [])) (flower_of (d ∷ []));
    }
    -- a pair alone is one part, and so no cut
    ∷ record { log = (a ∷ b ∷ a ∷ b ∷ []) ∷ []; tree = flower_of (a ∷ b ∷ []) }
    -- J2
    ∷ record { log = (a ∷ b ∷ []) ∷ (a ∷ b ∷ c ∷ a ∷ b ∷ []) ∷ (a ∷ b ∷ c ∷ c ∷ a ∷ b ∷ []) ∷ []; tree = two loop (two sequence (leaf a) (leaf b)) (two loop silent (leaf c)) }
    ∷ []

-- THEOREM: every one of these
pub further_right : each (λ r. mined code_count r.log) further ≡ each (λ r. r.tree) further
unfolding mined mine build shape shape_of cut_or or_else split project loop_parts body_part redo_parts is_redo parallel_parts made_parts sequence_parts choice_parts components join through reach graph tabled table_of occurring further
further_right = refl

-- episodes as stored, with heartbeats in them
unfoldable pub beating : List Row
beating =
    -- at the start, between two events, which still makes their pair, and at the end
    record { log = (31 ∷ a ∷ b ∷ []) ∷ []; tree = two sequence (leaf a) (leaf b) }
    ∷ record { log = (a ∷ 31 ∷ b ∷ []) ∷ []; tree = two sequence (leaf a) (leaf b) }
    ∷ record { log = (a ∷ b ∷ 31 ∷ []) ∷ []; tree = two sequence (leaf a) (leaf b) }
    -- alone, an empty episode, and beside others
    ∷ record { log = (31 ∷ 31 ∷ []) ∷ []; tree = silent }
    ∷ record { log = (31 ∷ []) ∷ (a ∷ []) ∷ []; tree = flower_of (a ∷ []) }
    -- between the two events of a repetition, which is still one
    ∷ record { log = (a ∷ 31 ∷ a ∷ []) ∷ []; tree = flower_of (a ∷ []) }
    -- two records that differ in heartbeats alone
    ∷ record { log = (31 ∷ a ∷ []) ∷ (a ∷ 31 ∷ []) ∷ []; tree = leaf a }
    -- the code before it is an event like others
    ∷ record { log = (30 ∷ 31 ∷ []) ∷ []; tree = leaf 30 }
    ∷ []

-- THEOREM: their trees
pub beating_right : each (λ r. mined code_count (each without_heartbeats r.log)) beating ≡ each (λ r. r.tree) beating
unfolding mined mine build shape shape_of cut_or or_else split project loop_parts body_part redo_parts is_redo parallel_parts made_parts sequence_parts choice_parts components join through reach graph tabled table_of occurring without_heartbeats beating
beating_right = refl

-- the running example of section 6.3
unfoldable pub running : Row
running =
    record {
      log = (a ∷ b ∷ c ∷ []) ∷ (a ∷ c ∷ b ∷ []) ∷ (a ∷ d ∷ e ∷ []) ∷ (a ∷ d ∷ e ∷ f ∷ d ∷ e ∷ []) ∷ [];
      tree = two sequence (leaf a) (two choice (two parallel (leaf b) (leaf c)) (two loop (two sequence (leaf d) (leaf e)) (leaf f)));
    }

-- THEOREM: it gives the tree that the paper arrives at
pub running_right : mined code_count running.log ≡ running.tree
unfolding mined mine build shape shape_of cut_or or_else split project loop_parts body_part redo_parts is_redo parallel_parts made_parts sequence_parts choice_parts components join through reach graph tabled table_of occurring running
running_right = refl

-- the log of section 6.5
unfoldable pub illustrated : Row
illustrated =
    record {
      log =
          (a ∷ c ∷ d ∷ e ∷ h ∷ [])
          ∷ (a ∷ b ∷ d ∷ e ∷ g ∷ [])
          ∷ (a ∷ d ∷ c ∷ e ∷ h ∷ [])
          ∷ (a ∷ b ∷ d ∷ e ∷ h ∷ [])
          ∷ (a ∷ c ∷ d ∷ e ∷ g ∷ [])
          ∷ (a ∷ d ∷ c ∷ e ∷ g ∷ [])
          ∷ (a ∷ b ∷ d ∷ e ∷ h ∷ [])
          ∷ (a ∷ c ∷ d ∷ e ∷ f ∷ d ∷ b ∷ e ∷ h ∷ [])
          ∷ (a ∷ d ∷ b ∷ e ∷ g ∷ [])
          ∷ (a ∷ c ∷ d ∷ e ∷ f ∷ b ∷ d ∷ e ∷ h ∷ [])
          ∷ (a ∷ c ∷ d ∷ e ∷ f ∷ b ∷ d ∷ e ∷ g ∷ [])
          ∷ (a ∷ c ∷ d ∷ e ∷ f ∷ d ∷ b ∷ e ∷ g ∷ [])
          ∷ (a ∷ d ∷ c ∷ e ∷ f ∷ c ∷ d ∷ e ∷ h ∷ [])
          ∷ (a ∷ d ∷ c ∷ e ∷ f ∷ d ∷ b ∷ e ∷ h ∷ [])
          ∷ (a ∷ d ∷ c ∷ e ∷ f ∷ b ∷ d ∷ e ∷ g ∷ [])
          ∷ (a ∷ c ∷ d ∷ e ∷ f ∷ b ∷ d ∷ e ∷ f ∷ d ∷ b ∷ e ∷ g ∷ [])
          ∷ (a ∷ d ∷ c ∷ e ∷ f ∷ d ∷ b ∷ e ∷ g ∷ [])
          ∷ (a ∷ d ∷ c ∷ e ∷ f ∷ b ∷ d ∷ e ∷ f ∷ b ∷ d ∷ e ∷ g ∷ [])
          ∷ (a ∷ d ∷ c ∷ e ∷ f ∷ d ∷ b ∷ e ∷ f ∷ b ∷ d ∷ e ∷ h ∷ [])
          ∷ (a ∷ d ∷ b ∷ e ∷ f ∷ b ∷ d ∷ e ∷ f ∷ d ∷ b ∷ e ∷ g ∷ [])
          ∷ (a ∷ d ∷ c ∷ e ∷ f ∷ d ∷ b ∷ e ∷ f ∷ c ∷ d ∷ e ∷ f ∷ d ∷ b ∷ e ∷ g ∷ [])
          ∷ [];
      tree = three sequence (leaf a) (two loop (two sequence (two parallel (two choice (leaf b) (leaf c)) (leaf d)) (leaf e)) (leaf f)) (two choice (leaf g) (leaf h));
    }

-- THEOREM: it gives the paper's tree, with g before h, since a choice's parts stand by their smallest code
pub illustrated_right : mined code_count illustrated.log ≡ illustrated.tree
unfolding mined mine build shape shape_of cut_or or_else split project loop_parts body_part redo_parts is_redo parallel_parts made_parts sequence_parts choice_parts components join through reach graph tabled table_of occurring illustrated
illustrated_right = refl
