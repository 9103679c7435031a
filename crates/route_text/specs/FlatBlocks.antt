-- Blocks whose parts lie one behind the other: the bytes of all names in one list, and all segments in another.
use Rattle.std.specs.Prelude.{ℕ, zero, suc, ◌≡◌, ◌≤◌, List, [], ◌∷◌, slice_range}
use Rattle.route_text.specs.declared.block.Block.{Block}
use Rattle.route_text.specs.declared.block_head.BlockHead.{BlockHead}
use Rattle.route_text.specs.declared.segment.Segment.{Segment}

-- the blocks with these heads, where the parts of the first begin at these two places, and those of each other one where those
-- of the one before end
abbrev pub blocks_from : List ℕ → List Segment → ℕ → ℕ → List BlockHead → List Block
blocks_from names segments name segment [] = []
blocks_from names segments name segment (head ∷ heads) =
    record { name = slice_range names name head.name_end; id = head.id; segments = slice_range segments segment head.segments_end }
    ∷ blocks_from names segments head.name_end head.segments_end heads

-- no block ends before it begins, and the last ends where the two lists do
abbrev pub AreInOrder : ℕ → ℕ → ℕ → ℕ → List BlockHead → Type 0
AreInOrder names segments name segment [] = (name ≡ names) × (segment ≡ segments)
AreInOrder names segments name segment (head ∷ heads) =
    (name ≤ head.name_end) × (segment ≤ head.segments_end) × AreInOrder names segments head.name_end head.segments_end heads

-- where the parts of the block with this number begin
abbrev pub starts : ℕ → ℕ → List BlockHead → ℕ → ℕ × ℕ
starts name segment [] number = (name, segment)
starts name segment (head ∷ heads) zero = (name, segment)
starts name segment (head ∷ heads) (suc number) = starts head.name_end head.segments_end heads number
