-- What is drawn can be written.
use Rattle.std.proofs.Common.{◌≡◌, ℕ, ◌+◌, ◌*◌, ◌<◌, ◌^◌, List, Option, Some, None, arith, subst, sym, slice_index}
use Rattle.std.specs.Prelude.{Vec}
use Rattle.std.specs.List.{All, range_with_len}
use Rattle.std.specs.declared.alloc.Global.{Global}
use Rattle.std.proofs.lemmas.List.Elements.{All-filter, All-from_get_or}
use Rattle.std.proofs.lemmas.List.FromFn.{get_or-range_with_len, length-range_with_len}
use Rattle.cert_text.specs.declared.cert.Cert.{Cert}
use Rattle.congestion_cells.specs.declared.raster.Raster.{Raster}
use Rattle.congestion_cells.specs.declared.shown_layers.ShownLayers.{ShownLayers}
use Rattle.congestion_cells.specs.CutEdges.{cut_edges, is_priced}
use Rattle.congestion_cells.specs.TileUses.{AreLayersOf}
use Rattle.congestion_picture.specs.declared.picture.Maps.{Maps}
use Rattle.congestion_picture.specs.declared.picture.Maps.TheVariants as maps
use Rattle.congestion_picture.specs.Pictures.{AreCutEdges, CanBePut}
use Rattle.grid_base.specs.declared.size.Size.{Size}
use Rattle.grid_graph.specs.declared.grid.Grid.{Grid}
use Rattle.grid_graph.specs.Flat.{tiles}
use Rattle.grid_graph.specs.Grids.{size_of}
use Rattle.route_judge.specs.Counts.{listed_prices}
use Rattle.congestion_cli.specs.MapHeadline.{AreWholeMapsOf, IsCutOf}

range-below : (n : ℕ) → All (λ e. e < n) (range_with_len 0 n)
range-below n = All-from_get_or (λ (e : ℕ). e < n) (range_with_len 0 n) 0 (λ i inside.
    let below : i < n = omega (arith, inside, length-range_with_len 0 n) in
    omega (arith, below, get_or-range_with_len 0 n i 0 below))

-- the tile edges of a cut are those of the grid
cut-below : (s : Size) (price : ℕ → ℕ) (shown : ShownLayers) → All (λ e. e < 2 * tiles s) (cut_edges s price shown)
cut-below s price shown = All-filter (is_priced s price shown) (λ (e : ℕ). e < 2 * tiles s) (range_with_len 0 (2 * tiles s)) (range-below (2 * tiles s))

cut-drawable : (g : Grid) (shown : ShownLayers) (cert : Option Cert) (cut : Option (Vec ℕ Global)) (r : Raster) → r.size ≡ size_of g
    → IsCutOf g shown cert cut → AreCutEdges r cut
cut-drawable g shown None None r same is = tt
cut-drawable g shown None (Some cut) r same is = absurd is
cut-drawable g shown (Some cert) None r same is = absurd is
cut-drawable g shown (Some cert) (Some cut) r same is =
    subst (λ (t : Size). All (λ e. e < 2 * tiles t) cut.items) (sym same)
    (subst (λ (es : List ℕ). All (λ e. e < 2 * tiles (size_of g)) es) (sym is) (cut-below (size_of g) (slice_index (listed_prices g cert.prices)) shown))

-- whole maps of a grid with a cut of it
pub maps-drawable : (g : Grid) (shown : ShownLayers) (cert : Option Cert) (cut : Option (Vec ℕ Global)) (ms : Maps) → AreWholeMapsOf (size_of g) ms
    → IsCutOf g shown cert cut → CanBePut ms cut
maps-drawable g shown cert cut (maps.Both x y) whole is =
    (whole.0, whole.1, cut-drawable g shown cert cut x.raster whole.2 is, cut-drawable g shown cert cut y.raster whole.3 is)
maps-drawable g shown cert cut (maps.Greater m) whole is = (whole.0, cut-drawable g shown cert cut m.raster whole.1 is)

-- layers of a grid are few
pub few_layers : (s : Size) (shown : ShownLayers) → AreLayersOf s shown → shown.first + shown.count < 2 ^ 31
few_layers s shown are = omega (arith, are, s.within.layer_limit)
