-- What the judge asks of the blocks that it is given. Every text that is read has such blocks, if it isn't too long.
use Rattle.std.specs.Prelude.{ℕ, ◌^◌, ◌<◌, List, All, length}
use Rattle.route_text.specs.declared.block.Block.{Block}
use Rattle.route_text.specs.ReadLimits.{IsBlockInRange}

-- blocks and segments have numbers below it
abbrev pub number_limit : ℕ
number_limit = 2 ^ 32

-- the blocks and their segments can be numbered, and each number of a point is from -2^40 to 2^40
pub record AreBlocks (blocks : List Block) : Type 0 where
  pub few : length blocks < number_limit
  pub short : All (λ block. length block.segments < number_limit) blocks
  pub in_range : All IsBlockInRange blocks
