-- What the numbers per layer that were read so far keep.
use Rattle.std.specs.Prelude.{◌≡◌, ◌≤◌, ◌<◌, ℕ, ◌+◌, length, slice_index, pos}
use Rattle.grid_base.specs.declared.size.Size.{Size}
use Rattle.grid_graph.specs.Limits.{max_capacity, max_demand}
use Rattle.ispd_reader.specs.declared.layer_list.LayerList.{LayerList}
use Rattle.ispd_reader.specs.declared.layer_list.LayerList.TheVariants.{Vertical, Horizontal, Widths, Spacings}
use Rattle.ispd_reader.specs.declared.layer_lists.LayerLists.{LayerLists}
use Rattle.ispd_reader.specs.Header.{Header}
use Rattle.ispd_reader.specs.LayerLists.{count_of}
use Rattle.ispd_reader.specs.Views.{extent_of_size}

-- so many numbers of a list were read, all of the lists before it, and none of those behind it
pub record AreRead (layers : ℕ) (list : LayerList) (done : ℕ) (read : LayerLists) : Type 0 where
  pub vertical : length read.vertical.items ≡ count_of Vertical list layers done
  pub horizontal : length read.horizontal.items ≡ count_of Horizontal list layers done
  pub widths : length read.widths.items ≡ count_of Widths list layers done
  pub spacings : length read.spacings.items ≡ count_of Spacings list layers done
  pub along_y : (l : ℕ) → slice_index read.vertical.items l ≤ max_capacity
  pub along_x : (l : ℕ) → slice_index read.horizontal.items l ≤ max_capacity
  pub wide : (l : ℕ) → slice_index read.widths.items l ≤ max_demand
  pub spaced : (l : ℕ) → slice_index read.spacings.items l ≤ max_demand
  pub least_demand : (l : ℕ) → l < length read.spacings.items → 1 ≤ slice_index read.widths.items l + slice_index read.spacings.items l
  pub greatest_demand : (l : ℕ) → l < length read.spacings.items → slice_index read.widths.items l + slice_index read.spacings.items l ≤ max_demand

-- what was read so far of what stands before the nets
abbrev pub header_with : Size → LayerLists → Header
header_with size read = record {
  extent = extent_of_size size;
  vertical = read.vertical.items;
  horizontal = read.horizontal.items;
  widths = read.widths.items;
  spacings = read.spacings.items;
  origin = (pos 0, pos 0);
  tile = (pos 0, pos 0);
}
