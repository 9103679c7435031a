-- Sets of tile edges and sets of pieces, each below or above the other.
use Rattle.grid_base.specs.Walks.{InVertices}
use Rattle.grid_graph.specs.Flat.{tile_of}
use Rattle.grid_graph.specs.TilePieces.{tiles_of}
use Rattle.label_search.specs.Sets.{IsEither}
use Rattle.shortest_paths.proofs.TileSets.{joined_by_tiles, tiles_joined, least_by_tiles, tiles_least, tiles_of_vertices}
use Rattle.shortest_paths.proofs.TileSets.{tiles_of_two}
use Rattle.shortest_paths.proofs.laws.least_weights_are_those_of_tiles.Goals as goal

pub returns-clause-joined : goal.returns-clause-joined
returns-clause-joined c pieces across is only free between vertices =
    let flat = c.args.flat.now in
    let s = c.args.size.now in
    let ts = c.args.terminals.now in
    let are = tiles_of_vertices s ts vertices in (
      tiles_joined flat s pieces across (InVertices ts) (InVertices (tiles_of s ts)) is between are,
      joined_by_tiles flat s pieces across (InVertices ts) (InVertices (tiles_of s ts)) is only free between are,
    )

pub returns-clause-least : goal.returns-clause-least
returns-clause-least c pieces across least is only free between vertices =
    let flat = c.args.flat.now in
    let s = c.args.size.now in
    let ts = c.args.terminals.now in
    let are = tiles_of_vertices s ts vertices in (
      tiles_least flat s pieces across (InVertices ts) (InVertices (tiles_of s ts)) least is only free between are,
      least_by_tiles flat s pieces across (InVertices ts) (InVertices (tiles_of s ts)) least is only free between are,
    )

pub returns-clause-between : goal.returns-clause-between
returns-clause-between c pieces across a b least is only free between at_a at_b =
    let flat = c.args.flat.now in
    let s = c.args.size.now in
    let are = tiles_of_two s a b at_a at_b in (
      tiles_least flat s pieces across (IsEither a b) (IsEither (tile_of s a) (tile_of s b)) least is only free between are,
      least_by_tiles flat s pieces across (IsEither a b) (IsEither (tile_of s a) (tile_of s b)) least is only free between are,
    )
