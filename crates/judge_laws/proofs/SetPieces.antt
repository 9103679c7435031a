-- The sets of routes are made of pieces of the grid.
use Rattle.std.proofs.Common.{List, [], ◌∷◌, All}
use Rattle.std.specs.List.{AllZip}
use Rattle.std.proofs.lemmas.List.Elements.{All-nil, All-cons}
use Rattle.grid_base.specs.declared.piece.Piece.{Piece}
use Rattle.grid_graph.specs.declared.grid.Grid.{Grid}
use Rattle.grid_graph.specs.declared.net_spec.NetSpec.{NetSpec}
use Rattle.grid_graph.specs.Grids.{size_of}
use Rattle.route_judge.specs.NetSets.{IsSetOfNet}
use Rattle.route_judge.proofs.RunningSums.{set_pieces}
use Rattle.route_text.specs.declared.block.Block.{Block}
use Rattle.tree_set.specs.Routings.{ArePieces}

pub sets_are_pieces : (g : Grid) (blocks : List Block) (nets : List NetSpec) (trees : List (List Piece)) → AllZip (IsSetOfNet g blocks) nets trees → All (ArePieces (size_of g)) trees
sets_are_pieces g blocks [] [] sets = All-nil (ArePieces (size_of g))
sets_are_pieces g blocks [] (tree ∷ trees) sets = absurd sets
sets_are_pieces g blocks (n ∷ nets) [] sets = absurd sets
sets_are_pieces g blocks (n ∷ nets) (tree ∷ trees) sets =
    All-cons (ArePieces (size_of g)) tree trees (set_pieces g blocks n tree sets.0) (sets_are_pieces g blocks nets trees sets.1)
