use borrow.Author.Rules.{rules}
use Rattle.text_mined.proofs.MinedLaws.{mined_listable, mined_text_lem}
use Rattle.text_mined.proofs.mined_text.Goals as goal

pub answer_text-requires : goal.answer_text-requires
answer_text-requires c = (search rules, search mined_listable depth 9, search rules)

pub returns : goal.returns
returns c = search mined_text_lem depth 9
