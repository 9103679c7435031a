-- Sites in boxes.
use Rattle.std.proofs.Common.{ℕ, ◌≤◌, arith}
use Rattle.net_search.specs.Boxes.{IsIn, box_with}
use Rattle.net_search.specs.declared.frame.Frame.{Frame}
use Rattle.net_search.specs.declared.site.Site.{Site}

-- what was in a box is in a greater one
pub in_more : (box : Frame) (site : Site) (margin : ℕ) (other : Site) → IsIn box other → IsIn (box_with box site margin) other
in_more box site margin other (west, east, south, north) = (omega (arith, west), omega (arith, east), omega (arith, south), omega (arith, north))

-- and so is what it was made greater for
pub in_with : (box : Frame) (site : Site) (margin : ℕ) → site.col ≤ 4294967295 → site.row ≤ 4294967295 → IsIn (box_with box site margin) site
in_with box site margin col row = (omega arith, omega (arith, col), omega arith, omega (arith, row))
