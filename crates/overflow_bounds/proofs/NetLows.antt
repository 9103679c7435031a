-- What a table of nodes says of the routes of a net, and lists with a number for each net.
use Rattle.std.proofs.Common.{◌≡◌, ℕ, zero, suc, ◌≤◌, List, [], ◌∷◌, None, All, length, replicate, set, refl, subst, arith}
use Rattle.std.specs.List.{AllZip}
use Rattle.grid_base.specs.Lists.{At}
use Rattle.grid_graph.specs.declared.grid.Grid.{Grid}
use Rattle.grid_graph.specs.declared.ground.Ground.{Ground}
use Rattle.grid_graph.specs.declared.net_spec.NetSpec.{NetSpec}
use Rattle.grid_graph.specs.Grids.{size_of}
use Rattle.grid_graph.specs.Grounds.{IsGround}
use Rattle.grid_graph.proofs.TileSteps.{flat_tiles}
use Rattle.lower_bound.specs.Costs.{costed}
use Rattle.dual_bound.specs.DesignBounds.{IsAtMostEachRoute}
use Rattle.dual_bound.proofs.Routes.{at_most_each_route}
use Rattle.overflow_bounds.specs.declared.merged_graph.MergedGraph.{MergedGraph}
use Rattle.overflow_bounds.specs.ClassGraphs.{IsGraphOfClass}
use Rattle.overflow_bounds.specs.NetEnds.{IsNodeOfSome}
use Rattle.overflow_bounds.specs.NodeTables.{IsOfTable}
use Rattle.overflow_bounds.proofs.Lifted.{table_bounds_sets}

-- what a table has for the ends of a net is at most what each route of the net costs
pub low_of_table : (g : Grid) (prices : List ℕ) (n : NetSpec) (over : Ground) (m : MergedGraph) (ends : List ℕ) (low : ℕ) → IsGround g n.terminals over → IsGraphOfClass g n.width over prices m
    → All (IsNodeOfSome (size_of g) m.nodes.items n.terminals) ends → 2 ≤ length ends → IsOfTable m.count m.links.items ends low → IsAtMostEachRoute g prices None n low
low_of_table g prices n over m ends low is_ground of all two table =
    at_most_each_route g prices None n over low is_ground
    (table_bounds_sets of.flat (size_of g) (costed g n.width over prices 0) of.across m (flat_tiles of.flat (size_of g) of.flat_of) of.between of.merged n.terminals ends low all two table)

-- the graph of a class, where the class is told in other words
pub same_class : (g h : Grid) (width w : ℕ) (over o : Ground) (prices old : List ℕ) (m : MergedGraph) → h ≡ g → w ≡ width → o ≡ over → old ≡ prices → IsGraphOfClass h w o old m → IsGraphOfClass g width over prices m
same_class g h width w over o prices old m grid wide ground priced is =
    subst (λ (x : Grid). IsGraphOfClass x width over prices m) grid
    (subst (λ j. IsGraphOfClass h j over prices m) wide
    (subst (λ (x : Ground). IsGraphOfClass h w x prices m) ground
    (subst (λ (xs : List ℕ). IsGraphOfClass h w o xs m) priced is)))

-- 0 is at most what anything costs
pub none_low : (g : Grid) (prices : List ℕ) (nets : List NetSpec) → AllZip (IsAtMostEachRoute g prices None) nets (replicate (length nets) 0)
none_low g prices [] = tt
none_low g prices (n ∷ nets) = ((λ set route. omega arith), none_low g prices nets)

-- another number at one place
pub written_low : (R : NetSpec → ℕ → Type 0) (nets : List NetSpec) (lows : List ℕ) (place low : ℕ) → AllZip R nets lows → ((n : NetSpec) → At nets place n → R n low) → AllZip R nets (set lows place low)
written_low R [] [] place low all is = tt
written_low R [] (x ∷ lows) place low all is = absurd all
written_low R (n ∷ nets) [] place low all is = absurd all
written_low R (n ∷ nets) (x ∷ lows) zero low all is = (is n refl, all.1)
written_low R (n ∷ nets) (x ∷ lows) (suc place) low all is = (all.0, written_low R nets lows place low all.1 is)
