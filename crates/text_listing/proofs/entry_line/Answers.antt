use Rattle.text_listing.proofs.Lines.{entry_line_lem}
use Rattle.text_listing.proofs.entry_line.Goals as goal

pub returns : goal.returns
returns c = search entry_line_lem depth 12
