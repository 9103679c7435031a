-- What the nets of a design keep.
use Rattle.std.proofs.Common.{◌≡◌, ℕ, ◌+◌, ◌<◌, ◌≤◌, List, All, slice_index, get_or, sym, ap, subst}
use Rattle.std.proofs.lemmas.Option.{slice_get-get_or}
use Rattle.grid_base.specs.Numbers.{layers, IsVertex}
use Rattle.grid_base.specs.declared.size.Size.{Size}
use Rattle.grid_graph.specs.declared.design.Design.{Design}
use Rattle.grid_graph.specs.declared.grid.Grid.{Grid}
use Rattle.grid_graph.specs.declared.net_spec.NetSpec.{NetSpec}
use Rattle.grid_graph.specs.Grids.{size_of, layout_of}
use Rattle.grid_graph.specs.Layouts.{Layout}
use Rattle.grid_graph.specs.Limits.{max_demand, max_id}
use Rattle.grid_graph.specs.Nets.{IsDesign}

-- the nets fit a grid of the same layout
pub design_kept : (g h : Grid) (nets : List NetSpec) → layout_of h ≡ layout_of g → IsDesign g nets → IsDesign h nets
design_kept g h nets same d =
    let size : size_of h ≡ size_of g = ap (λ (y : Layout). y.size) same in
    record {
      count = d.count;
      pins = d.pins;
      ids = d.ids;
      net = λ k n at_k.
          let fits = d.net k n at_k in
          record {
            id = fits.id;
            width = subst (λ (y : Layout). (l : ℕ) → l < layers y.size → n.width + slice_index y.spacings l ≤ max_demand) (sym same) fits.width;
            vertices = λ i v at_i. subst (λ (s : Size). IsVertex s v.0) (sym size) (fits.vertices i v at_i);
            distinct = fits.distinct;
          };
    }

-- each id is within the limit
pub design_numbered : (d : Design) → All (λ n. n.id ≤ max_id) d.nets
design_numbered d = λ k e below. (d.limits.net k (get_or d.nets k e) (slice_get-get_or d.nets k e below)).id
