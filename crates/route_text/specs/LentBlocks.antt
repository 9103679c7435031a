-- The block that some parts make, wherever they lie.
use Rattle.std.specs.Prelude.{List, drop, length}
use Rattle.route_text.specs.declared.block.Block.{Block}
use Rattle.route_text.specs.declared.block_heading.BlockHeading.{BlockHeading}
use Rattle.route_text.specs.declared.block_ref.BlockRef.{BlockRef}
use Rattle.route_text.specs.declared.segment.Segment.{Segment}

-- the block that is lent
abbrev pub lent_block : BlockRef → Block
lent_block block = record { name = block.name.now; id = block.id; segments = block.segments.now }

-- the block with this heading and these segments
abbrev pub headed_block : List Segment → BlockHeading → Block
headed_block segments heading = record { name = heading.name.now; id = heading.id; segments = segments }

-- what a list has behind what it had before
abbrev pub added : {X : Type 0} → List X → List X → List X
added old new = drop (length old) new
