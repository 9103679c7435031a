use Rattle.std.proofs.Common.{refl, ◌∙◌, ap, map}
use Rattle.grid_graph.specs.Grids.{size_of}
use Rattle.guide_text.specs.Guides.{rect_of, tiles_on}
use Rattle.guide_text.proofs.Vertices.{terminals_are_vertices}
use Rattle.guide_text.proofs.WholeRects.{rects_are_whole}
use Rattle.guide_text.proofs.guides.guide_of.Goals as goal

pub tile_rects-requires-clause-pieces : goal.tile_rects-requires-clause-pieces
tile_rects-requires-clause-pieces c = rw c.size.ensures c.requires.pieces

pub tile_rects-requires-clause-terminals : goal.tile_rects-requires-clause-terminals
tile_rects-requires-clause-terminals c = rw (c.size.ensures, c.list.ensures.items) (terminals_are_vertices c.args.grid.now c.args.net.now c.requires.net)

pub rects_of-requires-clause-whole : goal.rects_of-requires-clause-whole
rects_of-requires-clause-whole c =
    let g = c.args.grid.now in
    rw c.as_slice.ensures.value (rects_are_whole (size_of g) (tiles_on g c.args.net.now c.args.tree.now) c.in_ok-tiles.tiles.items (rw (c.size.ensures, c.list.ensures.items) at c.in_ok-tiles.ensures))

pub returns : goal.returns
returns c = record {
  name = c.of.ensures ∙ c.in_ok-name.ensures.items ∙ c.list-2.ensures;
  id = refl;
  tile_rects = c.in_ok-tiles.tiles.items;
  longest = rw (c.size.ensures, c.list.ensures.items) at c.in_ok-tiles.ensures;
  rects = c.in_ok-rects.ensures ∙ ap (map (rect_of c.args.grid.now)) c.as_slice.ensures.value;
}
