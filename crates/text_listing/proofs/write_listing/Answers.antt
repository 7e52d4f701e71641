use Rattle.text_listing.proofs.Lines.{listing_text}
use Rattle.text_listing.proofs.write_listing.Goals as goal

pub returns : goal.returns
returns c = search listing_text depth 12
