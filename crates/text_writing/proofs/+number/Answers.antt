use Rattle.text_writing.proofs.Decimal.{number_none, number_last, number_more}
use Rattle.text_writing.proofs.+number.Goals as goal

pub returns-then-digits-eq0 : goal.returns-then-digits-eq0
returns-then-digits-eq0 t c = number_none _ _ _ _ c.if-digits-eq0.true

pub returns-then-n-lt10 : goal.returns-then-n-lt10
returns-then-n-lt10 t c = number_last _ _ c.if-digits-eq0.false c.if-n-lt10.true c.requires c.byte.ensures

pub returns : goal.returns
returns t c = number_more _ _ c.if-digits-eq0.false c.if-n-lt10.false c.requires c.number-next.ensures c.byte-2.ensures
