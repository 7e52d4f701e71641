use mathlib.Core.Path.{◌≡◌, sym, ap, ◌∙◌}
use mathlib.Core.List.{[], ◌∷◌, append_assoc}
use Prim.Native.Nat.{ℕ, ◌+◌, ◌%◌, ◌/◌}
use native.Mathlib.Nat.{add-sub_cancel_left}
use native.Mathlib.Omega.{arith}
use lib.ListN.{take, drop}
use lib.Seq.{sets-eq, drop-drop}
use Rattle.mine_gather.specs.Gathering.{as_bytes}
use Rattle.mine_gather.proofs.put.Goals as goal

pub returns : goal.returns
returns c = let a = c.args in
    let front = take a.i a.work.now in
    let high : a.n / 256 % 256 ≡ a.n / 256 = omega arith in
    let bytes : c.copy_from_slice.new.self ≡ as_bytes a.n = c.copy_from_slice.ensures.after ∙ c.to_le_bytes.ensures ∙ ap (λ (h : ℕ). a.n % 256 ∷ h ∷ []) high in
    rw (bytes, add-sub_cancel_left a.i 2, drop-drop 2 a.i a.work.now)
    (sym (append_assoc front (as_bytes a.n) (drop (a.i + 2) a.work.now)) ∙ sym (sets-eq (as_bytes a.n) a.work.now a.i (omega arith)))
