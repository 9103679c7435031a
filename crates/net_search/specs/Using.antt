-- What nets may use.
use Rattle.std.specs.Prelude.{true, ◌≡◌, ◌≢◌, ◌⊎◌}
use Rattle.grid_graph.specs.declared.ground.Ground.{Ground}
use Rattle.grid_graph.specs.declared.ground.Ground.TheVariants.{Open, WithChoked}
use Rattle.grid_graph.specs.declared.kind.Kind.TheVariants as kinds
use Rattle.net_search.specs.declared.layers.LayerUse.{LayerUse}
use Rattle.net_search.specs.declared.road.Road.{Road}
use Rattle.net_search.specs.Kinds.{kind_of_road}

-- a net over a ground may use such an edge
abbrev pub IsUsable : Ground → Road → Type 0
IsUsable Open road = kind_of_road road ≡ kinds.Open
IsUsable WithChoked road = kind_of_road road ≢ kinds.Wall

-- a layer has edges along an axis
abbrev pub HasEdges : LayerUse → Type 0
HasEdges layer = (layer.along_x ≡ true) ⊎ (layer.along_y ≡ true)
