use Rattle.report.proofs.Satisfied.{listing_sound}
use Rattle.report.proofs.laws.law_listing.Goals as goal

pub returns : goal.returns
returns c = listing_sound
