use mathlib.Core.Path.{ap, ◌∙◌}
use Prim.Native.Nat.{ℕ, ◌-◌}
use native.Mathlib.Omega.{arith}
use lib.ListN.{length, drop, length-drop}
use Rattle.std.proofs.lemmas.List.{take_all, drop_min}
use Rattle.text_judged.proofs.rest.Goals as goal

pub returns : goal.returns
returns c =
    let s = c.args.input.now in
    let n = c.min.result in
    take_all (length s - n) (drop n s) (omega (arith, length-drop n s)) ∙ ap (λ (k : ℕ). drop k s) c.min.ensures ∙ drop_min 512 s
