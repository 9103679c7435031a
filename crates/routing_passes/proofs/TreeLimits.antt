-- How much a set of pieces can put on one entry.
use Rattle.std.proofs.Common.{ℕ, ◌≤◌, Bool, true, false, cond, ◌==◌, length, List, arith}
use Rattle.std.proofs.Math.Nat.{max-le}
use Rattle.grid_base.specs.declared.piece.Piece.{Piece}
use Rattle.grid_base.specs.Numbers.{layer_of, edge_start}
use Rattle.grid_graph.specs.declared.grid.Grid.{Grid}
use Rattle.grid_graph.specs.Grids.{demand_on, edge_numbers, size_of, IsNetWidth}
use Rattle.grid_graph.specs.Limits.{max_demand}
use Rattle.tree_set.specs.Loads.{holds, max_tree_load, net_load, tree_load}
use Rattle.tree_set.specs.Order.{IsRising}
use Rattle.tree_set.specs.Routings.{ArePieces}
use Rattle.tree_set.proofs.Counting.{length-pieces}

cond-within : (b : Bool) (x y most : ℕ) → x ≤ most → y ≤ most → cond b x y ≤ most
cond-within true x y most first second = first
cond-within false x y most first second = second

-- no net uses more of an entry than this
demand-within : (g : Grid) (width e : ℕ) → IsNetWidth g width → demand_on g width e ≤ max_tree_load
demand-within g width e fits =
    let layer : ℕ = layer_of (size_of g) (edge_start e) in
    let narrow : width ≤ max_demand = omega (arith, fits 0 (size_of g).within.has_layer) in
    omega (arith, max-le narrow (g.limits.wide.within layer), g.limits.spaced.within layer)

-- and no set puts more on it
pub tree_load-within : (g : Grid) (width : ℕ) (tree : List Piece) (r : ℕ) → IsNetWidth g width → IsRising tree
    → ArePieces (size_of g) tree
    → tree_load g width tree r ≤ max_tree_load
tree_load-within g width tree r fits rising pieces =
    cond-within (r == edge_numbers g) (length tree) (net_load g width tree r) max_tree_load
    (omega (arith, length-pieces (size_of g) tree rising pieces, (size_of g).within.vertex_limit))
    (cond-within (holds tree r) (demand_on g width r) 0 max_tree_load (demand-within g width r fits) (omega arith))
