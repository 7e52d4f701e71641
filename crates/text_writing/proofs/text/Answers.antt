use Rattle.std.proofs.Common.{arith}
use Rattle.text_writing.proofs.WroteLaws.{copied_over}
use Rattle.text_writing.proofs.text.Goals as goal

pub returns : goal.returns
returns c =
    let a = c.args in
    copied_over a.out.now a.s.now c.copy_from_slice.new.self a.at _ (omega arith) (omega arith) c.copy_from_slice.ensures.after
