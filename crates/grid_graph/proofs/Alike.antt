-- What alike grids have in common: walks, grounds, and nets without one.
use Rattle.std.proofs.Common.{◌≡◌, ◌↔◌, ℕ, List, slice_index, refl, sym, ◌∙◌, ap, subst}
use Rattle.grid_base.specs.declared.piece.Piece.{Piece}
use Rattle.grid_base.specs.declared.piece.Piece.TheVariants.{Edge, Via}
use Rattle.grid_base.specs.declared.size.Size.{Size}
use Rattle.grid_base.specs.declared.vertex.Vertex.{Vertex}
use Rattle.grid_base.specs.Numbers.{IsPiece, col_of, row_of, layer_of, edge_start}
use Rattle.grid_base.specs.Walks.{WalkBetween}
use Rattle.grid_base.proofs.Walks.{WalkBetween-superset}
use Rattle.grid_graph.specs.declared.grid.Grid.{Grid}
use Rattle.grid_graph.specs.declared.ground.Ground.{Ground}
use Rattle.grid_graph.specs.declared.ground.Ground.TheVariants.{Open, WithChoked}
use Rattle.grid_graph.specs.declared.net_spec.NetSpec.{NetSpec}
use Rattle.grid_graph.specs.Alike.{AreAlike}
use Rattle.grid_graph.specs.Capacities.{layer_capacity, demand}
use Rattle.grid_graph.specs.Grids.{size_of, layout_of, capacity, first_capacity, Allows}
use Rattle.grid_graph.specs.Grounds.{Reaches, JoinsTerminals, IsCutOff, IsFirstCutOff}
use Rattle.grid_graph.specs.Layouts.{Layout}
use Rattle.grid_graph.specs.Tiles.{written_position}

-- grids of one layout with the same capacities are alike
pub grids_alike : (g h : Grid) → layout_of g ≡ layout_of h → ((e : ℕ) → capacity g e ≡ capacity h e) → AreAlike g h
grids_alike g h same capacities = record {
  size = ap (λ (y : Layout). y.size) same;
  layout = same;
  kinds = λ e. let first : first_capacity g e ≡ first_capacity h e = ap (λ (y : Layout). layer_capacity y e) same in rw (capacities e, first) refl;
  capacities = capacities;
  demands = λ width e. ap (λ (y : Layout). let layer = layer_of y.size (edge_start e) in demand width (slice_index y.widths layer) (slice_index y.spacings layer)) same;
  positions = λ v. ap (λ (y : Layout). (written_position y.origin.0 y.tile.0 (col_of y.size v), written_position y.origin.1 y.tile.1 (row_of y.size v))) same;
}

pub AreAlike-sym : (g h : Grid) → AreAlike g h → AreAlike h g
AreAlike-sym g h alike = record {
  size = sym alike.size;
  layout = sym alike.layout;
  kinds = λ e. sym (alike.kinds e);
  capacities = λ e. sym (alike.capacities e);
  demands = λ width e. sym (alike.demands width e);
  positions = λ v. sym (alike.positions v);
}

-- alike grids allow the same pieces
pub Allows-alike : (g h : Grid) (over : Ground) (p : Piece) → AreAlike g h → Allows g over p → Allows h over p
Allows-alike g h Open (Edge e) alike allowed = sym (alike.kinds e.0) ∙ allowed
Allows-alike g h WithChoked (Edge e) alike allowed = λ wall. allowed (alike.kinds e.0 ∙ wall)
Allows-alike g h Open (Via v) alike piece = subst (λ (s : Size). IsPiece s (Via v)) alike.size piece
Allows-alike g h WithChoked (Via v) alike piece = subst (λ (s : Size). IsPiece s (Via v)) alike.size piece

-- what a walk reaches in one it reaches in the other
pub Reaches-alike : (g h : Grid) (over : Ground) (a b : ℕ) → AreAlike g h → Reaches g over a b → Reaches h over a b
Reaches-alike g h over a b alike walk =
    subst (λ (s : Size). WalkBetween s (Allows h over) a b) alike.size
    (WalkBetween-superset (size_of g) (Allows g over) (Allows h over) (λ p. Allows-alike g h over p alike) a b walk)

joins_too : (g h : Grid) (over : Ground) (terminals : List Vertex) → AreAlike g h → JoinsTerminals g over terminals → JoinsTerminals h over terminals
joins_too g h over terminals alike joins = λ a b a_in b_in. Reaches-alike g h over a b alike (joins a b a_in b_in)

-- what is joined in one is joined in the other
pub JoinsTerminals-alike : (g h : Grid) (over : Ground) (terminals : List Vertex) → AreAlike g h → JoinsTerminals g over terminals ↔ JoinsTerminals h over terminals
JoinsTerminals-alike g h over terminals alike = (joins_too g h over terminals alike, joins_too h g over terminals (AreAlike-sym g h alike))

-- a net that has none in one has none in the other, for the same terminal
pub IsCutOff-alike : (g h : Grid) (n : NetSpec) (id terminal : ℕ) → AreAlike g h → IsCutOff g n id terminal → IsCutOff h n id terminal
IsCutOff-alike g h n id terminal alike cut_off =
    record {
      named = cut_off.named;
      apart = λ joins. cut_off.apart ((JoinsTerminals-alike g h WithChoked n.terminals alike).1 joins);
      exists = cut_off.exists;
      unjoined = λ first v at_first at_v walk. cut_off.unjoined first v at_first at_v (Reaches-alike h g WithChoked first.0 v.0 (AreAlike-sym g h alike) walk);
      joined = λ i first v below at_first at_v. Reaches-alike g h WithChoked first.0 v.0 alike (cut_off.joined i first v below at_first at_v);
    }

-- and the first such net is the same
pub IsFirstCutOff-alike : (g h : Grid) (nets : List NetSpec) (id terminal : ℕ) → AreAlike g h → IsFirstCutOff g nets id terminal → IsFirstCutOff h nets id terminal
IsFirstCutOff-alike g h nets id terminal alike first = record {
  place = first.place;
  net = first.net;
  stands = first.stands;
  cut_off = IsCutOff-alike g h first.net id terminal alike first.cut_off;
  earlier = λ j m below at. (JoinsTerminals-alike g h WithChoked m.terminals alike).0 (first.earlier j m below at);
}
