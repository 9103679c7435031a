-- What edges are to a search.
use Rattle.std.specs.Prelude.{Bool, true, false}
use Rattle.grid_graph.specs.declared.kind.Kind.{Kind}
use Rattle.grid_graph.specs.declared.kind.Kind.TheVariants.{Open, Choked, Wall}
use Rattle.net_search.specs.declared.road.Road.{Road}
use Rattle.net_search.specs.declared.road.Road.TheVariants as roads

-- an edge of this kind that the net has got, or hasn't
abbrev pub road_for : Kind → Bool → Road
road_for Wall _ = roads.Wall
road_for Choked true = roads.OwnChoked
road_for Choked false = roads.Choked
road_for Open true = roads.OwnOpen
road_for Open false = roads.Open
