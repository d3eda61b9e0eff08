use Rattle.td_picture.proofs.Again.{listing_read}
use Rattle.td_picture.proofs.laws.listings_are_read.Goals as goal

pub returns : goal.returns
returns c = listing_read c.lines_by_words.ensures.read_back
