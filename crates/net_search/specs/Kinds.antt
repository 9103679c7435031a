-- Of which kind the edges of a search are.
use Rattle.grid_graph.specs.declared.kind.Kind.{Kind}
use Rattle.grid_graph.specs.declared.kind.Kind.TheVariants as kinds
use Rattle.net_search.specs.declared.road.Road.{Road}
use Rattle.net_search.specs.declared.road.Road.TheVariants.{Wall, Choked, Open, OwnChoked, OwnOpen}

-- the kind of an edge
abbrev pub kind_of_road : Road → Kind
kind_of_road Wall = kinds.Wall
kind_of_road Choked = kinds.Choked
kind_of_road Open = kinds.Open
kind_of_road OwnChoked = kinds.Choked
kind_of_road OwnOpen = kinds.Open
