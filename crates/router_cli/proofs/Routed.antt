-- The routes of a design that was routed.
use Rattle.std.proofs.Common.{List, [], ◌∷◌, All}
use Rattle.std.proofs.lemmas.List.Elements.{All-nil, All-cons}
use Rattle.grid_base.specs.declared.piece.Piece.{Piece}
use Rattle.grid_graph.specs.declared.grid.Grid.{Grid}
use Rattle.grid_graph.specs.declared.net_spec.NetSpec.{NetSpec}
use Rattle.grid_graph.specs.Grids.{size_of}
use Rattle.tree_set.specs.Routings.{IsRouting, ArePieces}
use Rattle.price_workers.proofs.TurnFacts.{route_pieces}

-- the routes of a routing have pieces alone
pub routes_are_pieces : (g : Grid) (nets : List NetSpec) (trees : List (List Piece)) → IsRouting g nets trees → All (ArePieces (size_of g)) trees
routes_are_pieces g [] [] routing = All-nil (ArePieces (size_of g))
routes_are_pieces g (n ∷ ns) (tree ∷ trees) routing = All-cons (ArePieces (size_of g)) tree trees (route_pieces g n tree routing.0) (routes_are_pieces g ns trees routing.1)
routes_are_pieces g [] (tree ∷ trees) routing = absurd routing
routes_are_pieces g (n ∷ ns) [] routing = absurd routing
