-- The segments that were read so far, behind those that were there.
use Rattle.std.proofs.Common.{◌≡◌, ◌+◌, ◌≤◌, List, ◌++◌, length, ap, ◌∙◌}
use Rattle.std.specs.List.{All}
use Rattle.std.proofs.Math.Seq.{drop-append_seam}
use Rattle.text_scan.specs.Reading.{Reading, is_next, past_byte}
use Rattle.text_scan.proofs.Bounds.{AreParts}
use Rattle.route_text.specs.declared.segment.Segment.{Segment}
use Rattle.route_text.specs.Blocks.{segment_at}
use Rattle.route_text.specs.LentBlocks.{added}
use Rattle.route_text.specs.ReadLimits.{IsSegmentInRange}
use Rattle.route_text.proofs.Takes.{next_segment_takes}

-- these segments were read between the two places, and put behind those of old
pub record AreRead (first now : Reading) (old new more : List Segment) : Type 0 where
  pub text : now.text ≡ first.text
  pub kept : new ≡ old ++ more
  pub forward : first.place + length more ≤ now.place
  pub range : All IsSegmentInRange more
  pub read : AreParts (is_next 33) (past_byte 33) segment_at next_segment_takes first now more

-- what was put behind old
pub added_behind : {X : Type 0} (old new more : List X) → new ≡ old ++ more → added old new ≡ more
added_behind old new more kept = ap (added old) kept ∙ drop-append_seam old more
