-- A text determines its design.
use Rattle.std.proofs.Common.{Ok, ◌≡◌, ℕ, ℤ, List, [], ◌∷◌, refl, sym, ◌∙◌, ap}
use Rattle.std.specs.Option.{unwrap_or}
use Rattle.grid_base.specs.declared.size.Size.{Size}
use Rattle.grid_base.specs.declared.vertex.Vertex.{Vertex}
use Rattle.grid_base.proofs.SameNumbers.{same_vertices, size_is_numbers}
use Rattle.grid_graph.specs.declared.design.Design.{Design}
use Rattle.grid_graph.specs.declared.net_spec.NetSpec.{NetSpec}
use Rattle.grid_graph.specs.Alike.{AreAlikeDesigns}
use Rattle.grid_graph.specs.Capacities.{layer_capacity}
use Rattle.grid_graph.specs.Grids.{layout_of}
use Rattle.grid_graph.specs.Layouts.{Layout}
use Rattle.grid_graph.proofs.Alike.{grids_alike}
use Rattle.ispd_reader.specs.Adjustments.{last_level}
use Rattle.ispd_reader.specs.Designs.{Contents, IsDesignOf, IsDesignOfText}
use Rattle.ispd_reader.specs.Header.{Header}
use Rattle.ispd_reader.specs.Nets.{Net}
use Rattle.ispd_reader.specs.Views.{header_of, net_of, nets_of}

abbrev layout_with : Size → List ℕ → List ℕ → List ℕ → List ℕ → ℤ × ℤ → ℤ × ℤ → Layout
layout_with size vertical horizontal widths spacings origin tile =
    record { size = size; vertical = vertical; horizontal = horizontal; widths = widths; spacings = spacings; origin = origin; tile = tile }

-- a layout is what stands before the nets
layout_from_header : (y z : Layout) → header_of y ≡ header_of z → y ≡ z
layout_from_header y z same =
    let size : y.size ≡ z.size = size_is_numbers y.size z.size (ap (λ (h : Header). h.extent.cols) same) (ap (λ (h : Header). h.extent.rows) same) (ap (λ (h : Header). h.extent.layers) same) in
    let vertical : y.vertical ≡ z.vertical = ap (λ (h : Header). h.vertical) same in
    let horizontal : y.horizontal ≡ z.horizontal = ap (λ (h : Header). h.horizontal) same in
    let widths : y.widths ≡ z.widths = ap (λ (h : Header). h.widths) same in
    let spacings : y.spacings ≡ z.spacings = ap (λ (h : Header). h.spacings) same in
    let origin : y.origin ≡ z.origin = ap (λ (h : Header). h.origin) same in
    let tile : y.tile ≡ z.tile = ap (λ (h : Header). h.tile) same in
    let parts : layout_with y.size y.vertical y.horizontal y.widths y.spacings y.origin y.tile ≡ layout_with z.size z.vertical z.horizontal z.widths z.spacings z.origin z.tile = rw (size, vertical, horizontal, widths, spacings, origin, tile) refl in
    parts

abbrev net_spec_of : ℕ → List ℕ → ℕ → List Vertex → NetSpec
net_spec_of id name width terminals = record { id = id; name = name; width = width; terminals = terminals }

-- nets are their numbers
same_net : (m n : NetSpec) → net_of m ≡ net_of n → m ≡ n
same_net m n same =
    let id : m.id ≡ n.id = ap (λ (x : Net). x.id) same in
    let name : m.name ≡ n.name = ap (λ (x : Net). x.name) same in
    let width : m.width ≡ n.width = ap (λ (x : Net). x.width) same in
    let terminals : m.terminals ≡ n.terminals = same_vertices m.terminals n.terminals (ap (λ (x : Net). x.terminals) same) in
    let parts : net_spec_of m.id m.name m.width m.terminals ≡ net_spec_of n.id n.name n.width n.terminals = rw (id, name, width, terminals) refl in
    parts

same_nets : (ms ns : List NetSpec) → nets_of ms ≡ nets_of ns → ms ≡ ns
same_nets [] [] same = refl
same_nets [] (n ∷ ns) same = cc
same_nets (m ∷ ms) [] same = cc
same_nets (m ∷ ms) (n ∷ ns) same =
    let first : net_of m ≡ net_of n = cc in
    let rest : nets_of ms ≡ nets_of ns = cc in
    let head : m ≡ n = same_net m n first in
    let tail : ms ≡ ns = same_nets ms ns rest in
    cc

-- designs of one text's contents are alike
designs_alike : (d e : Design) (c : Contents) → IsDesignOf d c → IsDesignOf e c → AreAlikeDesigns d e
designs_alike d e c of_d of_e =
    let layout : layout_of d.grid ≡ layout_of e.grid = layout_from_header (layout_of d.grid) (layout_of e.grid) (of_d.header ∙ sym of_e.header) in
    record {
      grids = grids_alike d.grid e.grid layout
          (λ edge. of_d.capacities edge
          ∙ ap (unwrap_or (last_level edge c.adjustments)) (ap (λ (y : Layout). layer_capacity y edge) layout)
          ∙ sym (of_e.capacities edge));
      nets = same_nets d.nets e.nets (of_d.nets ∙ sym of_e.nets);
    }

-- designs of one text are alike
pub one_design : (text : List ℕ) (d e : Design) → IsDesignOfText text d → IsDesignOfText text e → AreAlikeDesigns d e
one_design text d e named other =
    let same : named.contents ≡ other.contents = let both : Ok named.contents ≡ Ok other.contents = sym named.read ∙ other.read in cc in
    designs_alike d e other.contents (rw same at named.says) other.says
