use mathlib.Core.Path.{sym, ap, ◌∙◌}
use mathlib.Core.List.{List, ◌++◌}
use Prim.Native.Nat.{ℕ}
use lib.ListN.{drop}
use lib.Seq.{length-take-le}
use Rattle.std.proofs.lemmas.Result.{err_from_is_err_and}
use Rattle.rules.proofs.AnswerLaws.{is_given}
use Rattle.log_whole.proofs.LogLaws.{sized_most}
use Rattle.mine_call.proofs.CallLaws.{mining_length, mining_out, mining_work, mining_log, refused_says, gives_says}
use Rattle.mine_call.proofs.mine.Goals as goal

pub returns-then-not-sized : goal.returns-then-not-sized
returns-then-not-sized c = let a = c.args in
    refused_says a.log.now a.out.now a.work.now _ (mining_length a.log.now a.out.now a.work.now _ c.sized.ensures c.if-not-sized.true)

pub returns-then-out-lt-TREE_SIZE : goal.returns-then-out-lt-TREE_SIZE
returns-then-out-lt-TREE_SIZE c = let a = c.args in
    refused_says a.log.now a.out.now a.work.now _ (mining_out a.log.now a.out.now a.work.now _ c.sized.ensures c.if-not-sized.false c.if-out-lt-TREE_SIZE.true)

pub returns-then-work-lt-MINE_WORK : goal.returns-then-work-lt-MINE_WORK
returns-then-work-lt-MINE_WORK c = let a = c.args in
    refused_says a.log.now a.out.now a.work.now _ (mining_work a.log.now a.out.now a.work.now _ c.sized.ensures c.if-not-sized.false c.if-out-lt-TREE_SIZE.false c.if-work-lt-MINE_WORK.true)

pub returns-in_err-sound_log : goal.returns-in_err-sound_log
returns-in_err-sound_log c = let a = c.args in
    let p = err_from_is_err_and c.from_residual.result c.from_residual.ensures.1 in
    rw (p.1, p.2) (refused_says a.log.now a.out.now a.work.now _ (mining_log a.log.now a.out.now a.work.now _ c.sized.ensures c.if-not-sized.false c.if-out-lt-TREE_SIZE.false c.if-work-lt-MINE_WORK.false ∙ sym c.sound_log.ensures ∙ c.in_err-sound_log.was))

pub mine_log-nodes-requires : goal.mine_log-nodes-requires
mine_log-nodes-requires c = let a = c.args in (
  length-take-le 512 a.out.now c.if-out-lt-TREE_SIZE.false,
  length-take-le 16384 a.work.now c.if-work-lt-MINE_WORK.false,
  sized_most a.log.now (sym c.sized.ensures ∙ c.if-not-sized.false),
  is_given _ _ _ c.sound_log.ensures c.in_ok-sound_log.was,
)

pub returns : goal.returns
returns c = let mined = c.mine_log-nodes in
    let a = c.args in
    let accepted = mining_log a.log.now a.out.now a.work.now _ c.sized.ensures c.if-not-sized.false c.if-out-lt-TREE_SIZE.false c.if-work-lt-MINE_WORK.false
    ∙ sym c.sound_log.ensures ∙ c.in_ok-sound_log.was in
    gives_says a.log.now a.out.now a.work.now _ accepted mined.result mined.ensures.0 _ _
    (ap (λ (b : List ℕ). b ++ drop 512 a.out.now) mined.ensures.1) (ap (λ (b : List ℕ). b ++ drop 16384 a.work.now) mined.ensures.2)
