-- The blocks of a text that isn't too long.
use Rattle.std.proofs.Common.{ℕ, ◌+◌, ◌<◌, ◌≤◌, List, [], ◌∷◌, length, All, arith}
use Rattle.std.proofs.lemmas.List.Elements.{All-nil, All-cons}
use Rattle.std.proofs.lemmas.List.Sums.{sum_by-cons}
use Rattle.route_text.specs.declared.block.Block.{Block}
use Rattle.route_text.specs.ReadLimits.{IsBlockInRange, block_and_segment_count}
use Rattle.route_judge.specs.Limits.{number_limit, AreBlocks}

more_than_blocks : (blocks : List Block) → length blocks ≤ block_and_segment_count blocks
more_than_blocks [] = omega arith
more_than_blocks (block ∷ blocks) = omega (arith, sum_by-cons (λ (b : Block). 1 + length b.segments) block blocks, more_than_blocks blocks)

more_than_segments : (blocks : List Block) (limit : ℕ) → block_and_segment_count blocks < limit → All (λ (block : Block). length block.segments < limit) blocks
more_than_segments [] limit below = All-nil (λ (block : Block). length block.segments < limit)
more_than_segments (block ∷ blocks) limit below =
    let whole = sum_by-cons (λ (b : Block). 1 + length b.segments) block blocks in
    All-cons (λ (b : Block). length b.segments < limit) block blocks (omega (arith, whole, below)) (more_than_segments blocks limit (omega (arith, whole, below)))

pub short_text : (blocks : List Block) (bytes : ℕ) → All IsBlockInRange blocks → block_and_segment_count blocks ≤ bytes → bytes < number_limit → AreBlocks blocks
short_text blocks bytes in_range few short = record {
  few = omega (arith, more_than_blocks blocks, few, short);
  short = more_than_segments blocks number_limit (omega (arith, few, short));
  in_range = in_range;
}
