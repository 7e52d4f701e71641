use borrow.Author.Rules.{rules}
use Rattle.text_writing.proofs.WroteLaws.{wrote_byte}
use Rattle.text_writing.proofs.byte.Goals as goal

pub returns : goal.returns
returns c = let a = c.args in wrote_byte a.out.now a.at a.b (search rules)
