use Rattle.std.proofs.Common.{length, sym, ◌∙◌, ap}
use Rattle.route_text.specs.declared.block.Block.{Block}
use Rattle.route_text.proofs.FlatBlocks.{as_many_blocks}
use Rattle.route_text.proofs.block_list.RefBlockListBlocks.count.Goals as goal

pub returns : goal.returns
returns c =
    let of = c.blocks-2.inside in
    c.len.ensures ∙ of.heads.ok.0 ∙ sym (as_many_blocks of.names.items of.segments.items 0 0 of.heads.items) ∙ ap (length {A = Block}) c.blocks-2.view_is
