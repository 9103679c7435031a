use Rattle.std.proofs.Common.{◌≡◌, length, sym, ◌∙◌, ap, subst}
use Rattle.grid_base.specs.Lists.{At}
use Rattle.route_text.specs.FlatBlocks.{starts}
use Rattle.route_text.proofs.FlatBlocks.{block_at_number, lies_inside, number_below, LiesInside}
use Rattle.route_text.proofs.block_list.RefBlockListBlocks.block.Goals as goal
use Rattle.route_text.proofs.block_list.RefBlockListBlocks.block.Goals.{After-starts-name}

pub head_of-head-requires : goal.head_of-head-requires
head_of-head-requires c =
    let of = c.blocks-2.inside in
    rw c.as_slice-heads.ensures.value (number_below of.names.items of.segments.items of.heads.items _ c.args.number c.blocks-2.view_is c.requires)

pub starts-name-requires : goal.starts-name-requires
starts-name-requires c =
    let of = c.blocks-2.inside in
    rw c.as_slice-heads.ensures.value (number_below of.names.items of.segments.items of.heads.items _ c.args.number c.blocks-2.view_is c.requires)

-- the head that was read is the one with this number, and its parts begin where they were looked for
begins : (c : After-starts-name) → c.starts-name.result ≡ starts 0 0 c.blocks-2.inside.heads.items c.args.number
begins c = c.starts-name.ensures ∙ ap (λ hs. starts 0 0 hs c.args.number) c.as_slice-heads.ensures.value

stands : (c : After-starts-name) → At c.blocks-2.inside.heads.items c.args.number c.head_of-head.result
stands c = subst (λ hs. At hs c.args.number c.head_of-head.result) c.as_slice-heads.ensures.value c.head_of-head.ensures

within : (c : After-starts-name) → LiesInside (length c.blocks-2.inside.names.items) (length c.blocks-2.inside.segments.items) c.starts-name.result c.head_of-head.result
within c =
    let of = c.blocks-2.inside in
    subst (λ begin. LiesInside (length of.names.items) (length of.segments.items) begin c.head_of-head.result) (sym (begins c))
    (lies_inside (length of.names.items) (length of.segments.items) 0 0 of.heads.items c.args.number c.head_of-head.result c.blocks-2.invariant (stands c))

pub part-requires-clause-order : goal.part-requires-clause-order
part-requires-clause-order c = (within (goal.at.part-requires-clause-order c).After-starts-name).name

pub part-requires-clause-within : goal.part-requires-clause-within
part-requires-clause-within c = rw c.as_slice.ensures.value (within (goal.at.part-requires-clause-within c).After-starts-name).name_within

pub part-requires-2-clause-order : goal.part-requires-2-clause-order
part-requires-2-clause-order c = (within (goal.at.part-requires-2-clause-order c).After-starts-name).segments_in_order

pub part-requires-2-clause-within : goal.part-requires-2-clause-within
part-requires-2-clause-within c = rw c.as_slice-2.ensures.value (within (goal.at.part-requires-2-clause-within c).After-starts-name).segments_within

pub returns : goal.returns
returns c =
    let of = c.blocks-2.inside in
    let at = (goal.at.returns c).After-starts-name in
    let found = block_at_number of.names.items of.segments.items 0 0 of.heads.items c.args.number c.head_of-head.result (stands at) in
    rw (c.part.ensures, c.part-2.ensures, c.as_slice.ensures.value, c.as_slice-2.ensures.value, begins at, ← c.blocks-2.view_is) found
