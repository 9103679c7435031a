-- What a reader of the nets is where no token is left, and where the grid is adjusted.
use Rattle.std.proofs.Common.{◌≡◌, ℕ, ◌+◌, ◌<◌, ◌≤◌, true, false, List, Ok, slice_index, sym, ap, ◌∙◌, subst}
use Rattle.std.specs.List.{All}
use Rattle.grid_base.specs.declared.size.Size.{Size}
use Rattle.grid_base.specs.declared.vertex.Vertex.{Vertex}
use Rattle.grid_base.specs.Numbers.{cols, rows, layers, vertices, IsVertex}
use Rattle.grid_graph.specs.declared.grid.Grid.{Grid}
use Rattle.grid_graph.specs.declared.net_spec.NetSpec.{NetSpec}
use Rattle.grid_graph.specs.Grids.{layout_of, size_of, IsNetWidth}
use Rattle.grid_graph.specs.Layouts.{Layout}
use Rattle.grid_graph.specs.Limits.{max_demand}
use Rattle.grid_graph.specs.Nets.{IdsDiffer, IsNet}
use Rattle.ispd_reader.specs.declared.net_stage.NetStage.{NetStage}
use Rattle.ispd_reader.specs.declared.net_stage.NetStage.TheVariants as stages
use Rattle.ispd_reader.specs.declared.nets_reader.NetsReader.{NetsReader}
use Rattle.design_tokens.specs.declared.wanted.Wanted.{Wanted}
use Rattle.design_tokens.specs.Parsing.{Reading}
use Rattle.ispd_reader.specs.Header.{Header}
use Rattle.ispd_reader.specs.Nets.{Net, widest_spacing}
use Rattle.ispd_reader.specs.NetStages.{wanted_at_stage}
use Rattle.ispd_reader.specs.NetsLeft.{nets_left, has_all_nets}
use Rattle.ispd_reader.specs.NetsSoFar.{IsBegunNet, IsPresentNet, AreNetsOf}
use Rattle.design_tokens.specs.Steps.{IsMissing}
use Rattle.ispd_reader.specs.Views.{nets_of, numbers}
use Rattle.ispd_reader.proofs.NetTokens.{nets_missing, nets_there}

-- before the last, a word is missing
pub net_missing : (n : NetsReader) → has_all_nets n ≡ false → (w : Wanted) × ((header : Header) → IsMissing w (nets_left header n))
net_missing n more = (wanted_at_stage n.stage, λ header. nets_missing header n more)

-- behind it, no token is looked at
pub nets_done : (n : NetsReader) → has_all_nets n ≡ true → (nets : List Net) × ((header : Header) (r : Reading) → nets_left header n r ≡ Ok (nets, r))
nets_done n all = (nets_of n.nets.items, λ header r. nets_there header n r all)

-- their ids differ
pub nets_differ : (g : Grid) (n : NetsReader) → AreNetsOf g n → IdsDiffer n.nets.items
nets_differ g n nets = nets.done.ids

-- they fit a grid of the same layout
module _ (g h : Grid) (same : layout_of h ≡ layout_of g) where
  size : size_of h ≡ size_of g
  size = ap (λ (y : Layout). y.size) same

  width_kept : (width : ℕ) → IsNetWidth g width → IsNetWidth h width
  width_kept width narrow = subst (λ (y : Layout). (l : ℕ) → l < layers y.size → width + slice_index y.spacings l ≤ max_demand) (sym same) narrow

  net_kept : (m : NetSpec) → IsNet g m → IsNet h m
  net_kept m fits = record {
    id = fits.id;
    width = width_kept m.width fits.width;
    vertices = λ i v at. subst (λ (s : Size). IsVertex s v.0) (sym size) (fits.vertices i v at);
    distinct = fits.distinct;
  }

  begun_kept : (nets : List NetSpec) (id width : ℕ) (places : List Vertex) (pin : ℕ) → IsBegunNet g nets id width places pin → IsBegunNet h nets id width places pin
  begun_kept nets id width places pin begun = record {
    new = begun.new;
    narrow = width_kept width begun.narrow;
    so_far = record { count = begun.so_far.count; inside = subst (λ (s : Size). All (λ v. v < vertices s) (numbers places)) (sym size) begun.so_far.inside };
  }

  present_kept : (n : NetsReader) (stage : NetStage) → IsPresentNet g n stage → IsPresentNet h n stage
  present_kept n stages.Num present = tt
  present_kept n stages.Net present = tt
  present_kept n stages.Count present = tt
  present_kept n stages.Name present = tt
  present_kept n stages.Id present = tt
  present_kept n stages.PinCount present = present
  present_kept n stages.Width present = present
  present_kept n stages.X present = begun_kept _ _ _ _ _ present
  present_kept n (stages.Y col) present = (begun_kept _ _ _ _ _ present.0, subst (λ (s : Size). col < cols s) (sym size) present.1)
  present_kept n (stages.Layer col row) present = (begun_kept _ _ _ _ _ present.0, subst (λ (s : Size). col < cols s) (sym size) present.1, subst (λ (s : Size). row < rows s) (sym size) present.2)
  present_kept n stages.Done present = tt

  pub nets_kept : (n : NetsReader) → AreNetsOf g n → AreNetsOf h n
  nets_kept n nets = record {
    done = record {
      widest = nets.done.widest ∙ sym (ap (λ (y : Layout). widest_spacing y.spacings) same);
      each = λ k m at. net_kept m (nets.done.each k m at);
      ids = nets.done.ids;
      taken_ids = nets.done.taken_ids;
      pins_within = nets.done.pins_within;
      pins_limit = nets.done.pins_limit;
      count = nets.done.count;
    };
    present = present_kept n n.stage nets.present;
  }
