-- Costs of classes of a design's nets, and the labels for their searches.
use Rattle.std.specs.Prelude.{◌≡◌, ◌<◌, ◌≤◌}
use Rattle.grid_graph.specs.Grids.{size_of}
use Rattle.edge_prices.specs.Budgets.{price_per_piece}
use Rattle.shortest_paths.specs.LabelWords.{labels_size, masks_of}
use Rattle.steiner_exact.specs.TreeLabelWords.{AreTreeLabels}
use Rattle.steiner_tables.specs.Masks.{rooted_masks}
use Rattle.lower_bound.specs.declared.class_costs.ClassCosts.{ClassCosts}
use Rattle.lower_bound.specs.ClassWords.{tiles_size, IsCurrentClass}
use Rattle.dual_bound.specs.declared.bound_labels.BoundLabels.{BoundLabels}
use Rattle.dual_bound.specs.declared.bound_labels.BoundLabels.TheVariants.{Tiles, Trees}
use Rattle.dual_bound.specs.declared.priced.Priced.{Priced}
use Rattle.dual_bound.specs.Parts.{priced_grid}

-- the costs are those of a class of the design's nets, at its prices
pub record IsClassOf (p : Priced) (c : ClassCosts) : Type 0 where
  pub grid : c.grid.now ≡ priced_grid p
  pub prices : c.prices.now ≡ p.prices.now
  pub current : IsCurrentClass c

-- the labels serve the searches of a class: those of the flat grid where a piece alone costs nothing, those of trees where it
-- costs something
abbrev pub ServesClass : Priced → ClassCosts → BoundLabels → Type 0
ServesClass p c (Tiles labels) = (price_per_piece p.budget ≡ 0) × (labels_size labels ≡ tiles_size c) × (rooted_masks ≤ masks_of labels)
ServesClass p c (Trees labels) = (0 < price_per_piece p.budget) × AreTreeLabels (size_of (priced_grid p)) labels
