-- Blocks whose parts lie one behind the other: what is read of them, and one more at their end.
use Rattle.std.proofs.Common.{◌≡◌, ℕ, zero, suc, ◌+◌, ◌-◌, ◌<◌, ◌≤◌, List, [], ◌∷◌, ◌++◌, length, take, drop, slice_range, Some, refl, ◌∙◌, ap, subst, arith}
use Rattle.std.proofs.lemmas.List.{drop-append-le, take-append-le, take_all, length-drop}
use Rattle.std.proofs.lemmas.Option.{same_Some}
use Rattle.std.proofs.Math.Seq.{drop-append_seam}
use Rattle.grid_base.specs.Lists.{At}
use Rattle.route_text.specs.declared.block.Block.{Block}
use Rattle.route_text.specs.declared.block_head.BlockHead.{BlockHead}
use Rattle.route_text.specs.declared.segment.Segment.{Segment}
use Rattle.route_text.specs.FlatBlocks.{blocks_from, starts, AreInOrder}

-- there is a block for each head
pub as_many_blocks : (names : List ℕ) (segments : List Segment) (n s : ℕ) (heads : List BlockHead) → length (blocks_from names segments n s heads) ≡ length heads
as_many_blocks names segments n s [] = refl
as_many_blocks names segments n s (head ∷ heads) = ap suc (as_many_blocks names segments head.name_end head.segments_end heads)

pub number_below : (names : List ℕ) (segments : List Segment) (heads : List BlockHead) (blocks : List Block) (k : ℕ) → blocks_from names segments 0 0 heads ≡ blocks → k < length blocks → k < length heads
number_below names segments heads blocks k is below = omega (arith, below, ap (length {A = Block}) is, as_many_blocks names segments 0 0 heads)

-- the parts of the first begin at the two places
pub at_first : (n s : ℕ) (heads : List BlockHead) → starts n s heads 0 ≡ (n, s)
at_first n s [] = refl
at_first n s (head ∷ heads) = refl

-- the parts of a block begin where those of the one before end
pub starts_behind : (n s : ℕ) (heads : List BlockHead) (k : ℕ) (before : BlockHead) → At heads k before → starts n s heads (suc k) ≡ (before.name_end, before.segments_end)
starts_behind n s [] k before at = cc at
starts_behind n s (head ∷ heads) zero before at = at_first head.name_end head.segments_end heads ∙ ap (λ (h : BlockHead). (h.name_end, h.segments_end)) (same_Some _ _ at)
starts_behind n s (head ∷ heads) (suc k) before at = starts_behind head.name_end head.segments_end heads k before at

-- the block with this head
abbrev pub block_between : (names : List ℕ) (segments : List Segment) → ℕ × ℕ → BlockHead → Block
block_between names segments begin head = record { name = slice_range names begin.0 head.name_end; id = head.id; segments = slice_range segments begin.1 head.segments_end }

pub block_at_number : (names : List ℕ) (segments : List Segment) (n s : ℕ) (heads : List BlockHead) (k : ℕ) (head : BlockHead)
    → At heads k head → At (blocks_from names segments n s heads) k (block_between names segments (starts n s heads k) head)
block_at_number names segments n s [] k head at = cc at
block_at_number names segments n s (first ∷ heads) zero head at = ap (λ (h : BlockHead). Some (block_between names segments (n, s) h)) (same_Some _ _ at)
block_at_number names segments n s (first ∷ heads) (suc k) head at = block_at_number names segments first.name_end first.segments_end heads k head at

-- the parts of a block lie inside the two lists
pub record LiesInside (names segments : ℕ) (begin : ℕ × ℕ) (head : BlockHead) : Type 0 where
  pub name : begin.0 ≤ head.name_end
  pub name_within : head.name_end ≤ names
  pub segments_in_order : begin.1 ≤ head.segments_end
  pub segments_within : head.segments_end ≤ segments

ends_within : (names segments n s : ℕ) (heads : List BlockHead) → AreInOrder names segments n s heads → (n ≤ names) × (s ≤ segments)
ends_within names segments n s [] ends = (omega (arith, ends.0), omega (arith, ends.1))
ends_within names segments n s (head ∷ heads) order =
    let rest = ends_within names segments head.name_end head.segments_end heads order.2 in
    (omega (arith, order.0, rest.0), omega (arith, order.1, rest.1))

pub lies_inside : (names segments n s : ℕ) (heads : List BlockHead) (k : ℕ) (head : BlockHead) → AreInOrder names segments n s heads → At heads k head → LiesInside names segments (starts n s heads k) head
lies_inside names segments n s [] k head order at = cc at
lies_inside names segments n s (first ∷ heads) zero head order at =
    let rest = ends_within names segments first.name_end first.segments_end heads order.2 in
    subst (LiesInside names segments (n, s)) (same_Some _ _ at) (record { name = order.0; name_within = rest.0; segments_in_order = order.1; segments_within = rest.1 })
lies_inside names segments n s (first ∷ heads) (suc k) head order at = lies_inside names segments first.name_end first.segments_end heads k head order.2 at

-- a part is the same where more lies behind the list, and what lies behind is a part
same_part : {X : Type 0} (xs more : List X) (a b : ℕ) → a ≤ b → b ≤ length xs → slice_range (xs ++ more) a b ≡ slice_range xs a b
same_part xs more a b order within =
    ap (take (b - a)) (drop-append-le a xs more (omega (arith, order, within)))
    ∙ take-append-le (b - a) (drop a xs) more (omega (arith, order, within, length-drop a xs))

last_part : {X : Type 0} (xs more : List X) (a b : ℕ) → a ≡ length xs → b ≡ length xs + length more → slice_range (xs ++ more) a b ≡ more
last_part xs more a b begin end =
    ap (λ k. take (b - a) (drop k (xs ++ more))) begin ∙ ap (take (b - a)) (drop-append_seam xs more) ∙ take_all (b - a) more (omega (arith, begin, end))

-- the head ends behind so many more
pub record EndsBehind (names segments more_names more_segments : ℕ) (head : BlockHead) : Type 0 where
  pub name : head.name_end ≡ names + more_names
  pub segments_end : head.segments_end ≡ segments + more_segments

-- with one more block at the end
pub one_more_block : (names more : List ℕ) (segments others : List Segment) (n s : ℕ) (heads : List BlockHead) (head : BlockHead)
    → AreInOrder (length names) (length segments) n s heads → EndsBehind (length names) (length segments) (length more) (length others) head
    → blocks_from (names ++ more) (segments ++ others) n s (heads ++ head ∷ []) ≡ blocks_from names segments n s heads ++ record { name = more; id = head.id; segments = others } ∷ []
one_more_block names more segments others n s [] head ends behind =
    rw (last_part names more n head.name_end ends.0 behind.name, last_part segments others s head.segments_end ends.1 behind.segments_end) refl
one_more_block names more segments others n s (first ∷ heads) head order behind =
    let within = ends_within (length names) (length segments) first.name_end first.segments_end heads order.2 in
    rw (
      same_part names more n first.name_end order.0 within.0,
      same_part segments others s first.segments_end order.1 within.1,
      one_more_block names more segments others first.name_end first.segments_end heads head order.2 behind,
    ) refl

pub one_more_in_order : (names segments more others n s : ℕ) (heads : List BlockHead) (head : BlockHead)
    → AreInOrder names segments n s heads → EndsBehind names segments more others head → AreInOrder (names + more) (segments + others) n s (heads ++ head ∷ [])
one_more_in_order names segments more others n s [] head ends behind =
    (omega (arith, ends.0, behind.name), omega (arith, ends.1, behind.segments_end), (behind.name, behind.segments_end))
one_more_in_order names segments more others n s (first ∷ heads) head order behind =
    (order.0, order.1, one_more_in_order names segments more others first.name_end first.segments_end heads head order.2 behind)
