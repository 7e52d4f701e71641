-- The logs of two boxes joined before mining: their order does not matter, nor does a log that is joined to itself. For events of any width.
use mathlib.Core.Path.{◌≡◌, refl, sym, ap, ◌∙◌}
use mathlib.Core.List.{List, ◌++◌}
use mathlib.Core.Bool.{Bool, true, false}
use Prim.Native.Nat.{ℕ, ◌+◌, ◌≤◌}
use native.Mathlib.Omega.{arith}
use lib.ListN.{length, drop}
use lib.Dec.{leb}
use Rattle.rules.specs.Trees.{Tree, size}
use Rattle.rules.specs.Mining.{mined}
use Rattle.rules.specs.Refusals.{Given, demand, Answer}
use Rattle.rules.specs.LogBlock.{log_sized, log_events}
use Rattle.rules.specs.TreeBlock.{tree_block}
use Rattle.rules.specs.Calls.{code_count, told, after, cleared, log_sound, log_reading, mining, tree_of, MineSays}
use Rattle.rules.proofs.AnswerLaws.{given_is, demand_given}
use Rattle.rules.proofs.Unions.{mined_order, mined_twice}
use Rattle.log_episodes.proofs.JoinedLogs.{accepted_events, joined_accepted}
use Rattle.std.specs.Prelude.{Ok}
use Rattle.rules.specs.declared.Reason.TheVariants.{LogLength, OutLength, WorkLength}

-- ---- the trees

-- THEOREM: the tree of two accepted logs joined is the same for either order
pub tree_order : (w : ℕ) (a b : List ℕ) → Given (log_reading w a) → Given (log_reading w b) → tree_of w (a ++ b) ≡ tree_of w (b ++ a)
tree_order w a b ga gb =
    ap (mined code_count) (accepted_events w a b ga gb) ∙ mined_order code_count (log_events w a) (log_events w b)
    ∙ ap (mined code_count) (sym (accepted_events w b a gb ga))

-- THEOREM: and for a log joined to itself as for the log
pub tree_twice : (w : ℕ) (a : List ℕ) → Given (log_reading w a) → tree_of w (a ++ a) ≡ tree_of w a
tree_twice w a ga = ap (mined code_count) (accepted_events w a a ga ga) ∙ mined_twice code_count (log_events w a)

-- ---- the call

-- 2 and 3, for what is lent beside the log, and then the log's own answer
abbrev lent_then : List ℕ → List ℕ → Answer → Answer
lent_then out work rest = demand (leb 512 (length out)) OutLength 0 (demand (leb 16384 (length work)) WorkLength 0 rest)

module _ (w : ℕ) (out work : List ℕ) where
  accepted_mining : (log : List ℕ) (end : ℕ) → log_reading w log ≡ Ok end → mining w log out work ≡ lent_then out work (Ok end)
  unfolding log_reading mining
  accepted_mining log end e =
      let d = demand_given (log_sized log) LogLength 0 (log_sound w log) end e in
      ap (λ (t : Bool). demand t LogLength 0 (lent_then out work (log_sound w log))) d.0 ∙ ap (lent_then out work) d.1

  -- whatever number the log's answer gives, the call answers and writes the same
  module _ {A : Type 0} (f : Answer → A) (same : (i j : ℕ) → f (Ok i) ≡ f (Ok j)) where
    lent_same : (i j : ℕ) → f (lent_then out work (Ok i)) ≡ f (lent_then out work (Ok j))
    lent_same i j = by (leb 512 (length out)) (leb 16384 (length work))
      where
        by : (s t : Bool) → f (demand s OutLength 0 (demand t WorkLength 0 (Ok i))) ≡ f (demand s OutLength 0 (demand t WorkLength 0 (Ok j)))
        by true true = same i j
        by true false = refl
        by false t = refl

  module _ (x y : List ℕ) (i j : ℕ) (sound-x : log_reading w x ≡ Ok i) (sound-y : log_reading w y ≡ Ok j) (tree : tree_of w x ≡ tree_of w y) where
    said_same : {A : Type 0} (f : Answer → Tree → A) → ((t : Tree) (i j : ℕ) → f (Ok i) t ≡ f (Ok j) t) → f (mining w x out work) (tree_of w x) ≡ f (mining w y out work) (tree_of w y)
    said_same f same =
        ap (λ (a : Answer). f a (tree_of w x)) (accepted_mining x i sound-x) ∙ ap (f (lent_then out work (Ok i))) tree
        ∙ lent_same (λ a. f a (tree_of w y)) (same (tree_of w y)) i j ∙ ap (λ (a : Answer). f a (tree_of w y)) (sym (accepted_mining y j sound-y))

    -- two accepted logs of one tree, mined with the same memory lent: one answer, one block, one work
    pub call_same : (r s : Answer) (out₁ out₂ work₁ work₂ : List ℕ) → MineSays w x out work r out₁ work₁ → MineSays w y out work s out₂ work₂ →
        (r ≡ s) × (out₁ ≡ out₂) × (work₁ ≡ work₂)
    call_same r s out₁ out₂ work₁ work₂ p q = (
      p.answer ∙ said_same (λ a t. told a (size t)) (λ t i j. refl) ∙ sym q.answer,
      p.block ∙ said_same (λ a t. after a (tree_block t ++ drop 512 out) out) (λ t i j. refl) ∙ sym q.block,
      p.memory ∙ said_same (λ a t. after a (cleared 16384 work) work) (λ t i j. refl) ∙ sym q.memory,
    )

module _ (w : ℕ) (g : 1 ≤ w) (a out work : List ℕ) (r s : Answer) (out₁ out₂ work₁ work₂ : List ℕ) (ga : Given (log_reading w a)) where
  -- THEOREM: mining answers the same for either order, and leaves the same block and work
  pub mine_order : (b : List ℕ) → Given (log_reading w b) → length a + length b ≤ 8192 →
      MineSays w (a ++ b) out work r out₁ work₁ → MineSays w (b ++ a) out work s out₂ work₂ → (r ≡ s) × (out₁ ≡ out₂) × (work₁ ≡ work₂)
  mine_order b gb fits =
      call_same w out work (a ++ b) (b ++ a) _ _ (joined_accepted w a b ga gb g fits) (joined_accepted w b a gb ga g (omega arith)) (tree_order w a b ga gb)
      r s out₁ out₂ work₁ work₂

  -- THEOREM: and for a log joined to itself as for the log
  pub mine_twice : length a + length a ≤ 8192 →
      MineSays w (a ++ a) out work r out₁ work₁ → MineSays w a out work s out₂ work₂ → (r ≡ s) × (out₁ ≡ out₂) × (work₁ ≡ work₂)
  mine_twice fits =
      let is = given_is (log_reading w a) ga in
      call_same w out work (a ++ a) a _ is.0 (joined_accepted w a a ga ga g fits) is.1 (tree_twice w a ga) r s out₁ out₂ work₁ work₂
