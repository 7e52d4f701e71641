use Rattle.text_listing.proofs.Lines.{entry_numbers_lem}
use Rattle.text_listing.proofs.entry_numbers.Goals as goal

pub returns : goal.returns
returns c = search entry_numbers_lem depth 12
