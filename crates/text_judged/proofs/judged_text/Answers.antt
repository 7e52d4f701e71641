use borrow.Author.Rules.{rules}
use Rattle.text_judged.proofs.TextLaws.{tree_given, log_given, log_few, judged_refused, judged_lines}
use Rattle.text_judged.proofs.judged_text.Goals as goal

pub returns-in-Err : goal.returns-in-Err
returns-in-Err c = search judged_refused depth 9

pub log_lines-requires : goal.log_lines-requires
log_lines-requires c = (search tree_given depth 9, search log_given depth 9, search log_few depth 9, search rules, search rules)

pub returns-in-Ok : goal.returns-in-Ok
returns-in-Ok c = search judged_lines depth 12
