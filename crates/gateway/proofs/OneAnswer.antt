-- No second answer meets a call's promise: the answer and every lent cell afterwards follow from the input alone, refusals too.
use mathlib.Core.Path.{◌≡◌, sym, ap, ◌∙◌}
use mathlib.Core.List.{List}
use Prim.Native.Nat.{ℕ, ◌<◌}
use lib.ListN.{get_or}
use Rattle.rules.specs.Calls.{reading, handed_on, checking, MineSays}
use Rattle.log_adding.proofs.AddLaws.{add_unique}
use Rattle.judge_call.proofs.OneAnswer.{judge_one}
use Rattle.gateway.specs.Packed.{packed, packed_verdict, AddPacked, MinePacked, JudgePacked}
use Rattle.rules.specs.Refusals.{Answer}

-- THEOREM: reading a record
pub read_one : (b : List ℕ) (at : ℕ) (r s : Answer) → r ≡ reading 1 b at → s ≡ reading 1 b at → r ≡ s
read_one b at r s p q = p ∙ sym q

-- THEOREM: the part handed on
pub part_one : (b : List ℕ) (at : ℕ) (r s : List ℕ) → r ≡ handed_on 1 b at → s ≡ handed_on 1 b at → r ≡ s
part_one b at r s p q = p ∙ sym q

-- THEOREM: checking a tree
pub check_one : (b : List ℕ) (r s : Answer) → r ≡ checking b → s ≡ checking b → r ≡ s
check_one b r s p q = p ∙ sym q

-- THEOREM: mining
pub mine_one : (log out work : List ℕ) (r s : Answer) (out₁ out₂ work₁ work₂ : List ℕ) → MineSays 1 log out work r out₁ work₁ → MineSays 1 log out work s out₂ work₂ →
    (r ≡ s) × (out₁ ≡ out₂) × (work₁ ≡ work₂)
mine_one log out work r s out₁ out₂ work₁ work₂ p q = (p.answer ∙ sym q.answer, p.block ∙ sym q.block, p.memory ∙ sym q.memory)

-- THEOREM: adding, as a caller in C has it
pub add_packed_one : (b e : List ℕ) (r s : ℕ) (new₁ new₂ : List ℕ) → AddPacked b e r new₁ → AddPacked b e s new₂ → (r ≡ s) × (new₁ ≡ new₂)
add_packed_one b e r s new₁ new₂ p q =
    let u = add_unique 1 b e p.answer q.answer new₁ new₂ p.says q.says in
    (p.told ∙ ap packed u.0 ∙ sym q.told, u.1)

-- THEOREM: mining, as a caller in C has it
pub mine_packed_one : (log out work : List ℕ) (r s : ℕ) (out₁ out₂ work₁ work₂ : List ℕ) → MinePacked log out work r out₁ work₁ → MinePacked log out work s out₂ work₂ →
    (r ≡ s) × (out₁ ≡ out₂) × (work₁ ≡ work₂)
mine_packed_one log out work r s out₁ out₂ work₁ work₂ p q =
    let u = mine_one log out work p.answer q.answer out₁ out₂ work₁ work₂ p.says q.says in
    (p.told ∙ ap packed u.0 ∙ sym q.told, u.1, u.2)

-- THEOREM: judging, as a caller in C has it; the tree's bytes are below 256
pub judge_packed_one : (b e work : List ℕ) → ((i : ℕ) → get_or b i 0 < 256) → (r s : ℕ) (work₁ work₂ : List ℕ) → JudgePacked b e work r work₁ → JudgePacked b e work s work₂ →
    (r ≡ s) × (work₁ ≡ work₂)
judge_packed_one b e work bytes r s work₁ work₂ p q =
    let u = judge_one b e work bytes p.verdict q.verdict work₁ work₂ p.says q.says in
    (p.told ∙ ap packed_verdict u.0 ∙ sym q.told, u.1)
