-- Room for the distances from terminals.
use Rattle.std.specs.Prelude.{◌≡◌, ◌≤◌}
use Rattle.grid_base.specs.declared.size.Size.{Size}
use Rattle.shortest_paths.specs.LabelWords.{labels_size, masks_of}
use Rattle.steiner_tables.specs.Masks.{lone_masks}
use Rattle.terminal_distances.specs.declared.distance_rows.DistanceRows.{DistanceRows}

-- two labels of a grid of this size, each with room for the masks of five terminals alone
pub record AreDistanceRows (s : Size) (rows : DistanceRows) : Type 0 where
  pub root : labels_size rows.root ≡ s
  pub root_room : lone_masks ≤ masks_of rows.root
  pub others : labels_size rows.others ≡ s
  pub others_room : lone_masks ≤ masks_of rows.others
