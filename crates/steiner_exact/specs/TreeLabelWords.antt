-- Labels for the search of trees.
use Rattle.std.specs.Prelude.{◌≡◌, ◌≤◌}
use Rattle.std.specs.Option.{ForSome}
use Rattle.grid_base.specs.declared.size.Size.{Size}
use Rattle.grid_graph.specs.Flat.{IsFlatOf}
use Rattle.shortest_paths.specs.LabelWords.{labels_size, masks_of}
use Rattle.steiner_tables.specs.Masks.{rooted_masks, proper_masks}
use Rattle.terminal_balls.specs.Balls.{AreInGrid}
use Rattle.terminal_distances.specs.DistanceWords.{AreDistanceRows}
use Rattle.steiner_exact.specs.declared.tree_labels.TreeLabels.{TreeLabels}
use Rattle.steiner_exact.specs.FlatPieces.{edge_flags}

-- labels of a grid of this size with room for the sets of five terminals without a root, and of its flat grid with room
-- for all but the set of all five, the edges of the flat grid, balls of the grid and distances of the flat grid, if any
pub record AreTreeLabels (s : Size) (labels : TreeLabels) : Type 0 where
  pub grid : labels_size labels.grid ≡ s
  pub grid_room : rooted_masks ≤ masks_of labels.grid
  pub flat : IsFlatOf (labels_size labels.flat) s
  pub flat_room : proper_masks ≤ masks_of labels.flat
  pub flat_edges : labels.flat_edges.items ≡ edge_flags (labels_size labels.flat)
  pub balls : ForSome labels.balls (λ b. AreInGrid s b)
  pub distances : (flat : Size) → IsFlatOf flat s → ForSome labels.distances (λ r. AreDistanceRows flat r)
