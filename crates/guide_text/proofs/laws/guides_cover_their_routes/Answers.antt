use Rattle.guide_text.proofs.Coverings.{guide_covers, guide_shares_no_tile}
use Rattle.guide_text.proofs.laws.guides_cover_their_routes.Goals as goal

pub returns-clause-covers : goal.returns-clause-covers
returns-clause-covers c = guide_covers

pub returns-clause-apart : goal.returns-clause-apart
returns-clause-apart c = guide_shares_no_tile
