-- The text of a picture: its head, one map or two, and the scale.
use Rattle.std.specs.Prelude.{ℕ, ◌+◌, ◌/◌, All, List, [], ◌++◌, codes, decimal, max, Option, Some, None, Vec}
use Rattle.std.specs.declared.alloc.Global.{Global}
use Rattle.congestion_cells.specs.declared.raster.Raster.{Raster}
use Rattle.congestion_picture.specs.declared.cell_map.CellMap.{CellMap}
use Rattle.congestion_picture.specs.declared.paint.Paint.TheVariants.{Class, Closed, PartlyClosed, Overfull}
use Rattle.congestion_picture.specs.declared.picture.Maps.{Maps}
use Rattle.congestion_picture.specs.declared.picture.Maps.TheVariants.{Both, Greater}
use Rattle.congestion_picture.specs.declared.picture.Picture.{Picture}
use Rattle.congestion_picture.specs.CellMaps.{IsCellMap, height, scale, width}
use Rattle.congestion_picture.specs.CutLines.{IsTileEdge, cut_text}
use Rattle.congestion_picture.specs.Heads.{facts_text, head_text}
use Rattle.congestion_picture.specs.Paths.{path_text}
use Rattle.congestion_picture.specs.ScaleBars.{class_samples, cut_sample, line_samples}

-- ---- one map

-- a path for each class but that of no load: the colours go from light to dark
abbrev pub cells_text : CellMap → List ℕ
cells_text map =
    path_text map (Class 1) (codes "stroke=\"#fcffa4\"")
    ++ path_text map (Class 2) (codes "stroke=\"#f6d746\"")
    ++ path_text map (Class 3) (codes "stroke=\"#fca50a\"")
    ++ path_text map (Class 4) (codes "stroke=\"#f37819\"")
    ++ path_text map (Class 5) (codes "stroke=\"#dd513a\"")
    ++ path_text map (Class 6) (codes "stroke=\"#bc3754\"")
    ++ path_text map (Class 7) (codes "stroke=\"#932667\"")
    ++ path_text map (Class 8) (codes "stroke=\"#6a176e\"")
    ++ path_text map (Class 9) (codes "stroke=\"#420a68\"")
    ++ path_text map (Class 10) (codes "stroke=\"#160b39\"")
    ++ path_text map (Class 11) (codes "stroke=\"#000004\"")

-- a line through closed cells, and a dotted one through partly closed ones
abbrev pub hatching_text : CellMap → List ℕ
hatching_text map =
    path_text map Closed (codes "stroke=\"#777\" stroke-width=\".2\" shape-rendering=\"auto\"")
    ++ path_text map PartlyClosed (codes "stroke=\"#777\" stroke-width=\".2\" stroke-dasharray=\".3 .7\" shape-rendering=\"auto\"")

-- the frames around overfull cells
abbrev pub marks_text : CellMap → List ℕ
marks_text map = path_text map Overfull (codes "class=\"overfull\" transform=\"translate(-1,-1)\" fill=\"none\" stroke=\"#00a0ff\" stroke-width=\"2\"")

-- the lines of a cut, if there is one
abbrev pub cut_part : Raster → Option (Vec ℕ Global) → List ℕ
cut_part r None = []
cut_part r (Some cut) = cut_text r cut.items

abbrev pub AreCutEdges : Raster → Option (Vec ℕ Global) → Type 0
AreCutEdges r None = Unit {0}
AreCutEdges r (Some cut) = All (IsTileEdge r) cut.items

-- the begin of a group that stands so far to the right
abbrev pub group_text : ℕ → List ℕ
group_text left = codes "<g transform=\"translate(" ++ decimal left ++ codes ",120)\">\n"

-- a map: its label, its cells with their hatching, its border, its marks, and the cut
abbrev pub map_text : CellMap → ℕ → List ℕ → Option (Vec ℕ Global) → List ℕ
map_text map left label cut =
    group_text left ++ codes "<text y=\"-10\">" ++ label
    ++ codes "</text>\n<g transform=\"translate(0," ++ decimal (scale map.raster / 2) ++ codes ") scale(" ++ decimal (scale map.raster)
    ++ codes ")\" fill=\"none\" shape-rendering=\"crispEdges\">\n"
    ++ cells_text map ++ hatching_text map
    ++ codes "</g>\n<rect fill=\"none\" stroke=\"#999\" width=\"" ++ decimal (width map.raster)
    ++ codes "\" height=\"" ++ decimal (height map.raster) ++ codes "\"/>\n"
    ++ marks_text map ++ cut_part map.raster cut ++ codes "</g>\n"

-- ---- the maps side by side

abbrev pub first_map : Maps → CellMap
first_map (Both along_x along_y) = along_x
first_map (Greater map) = map

-- how far they reach, with the gap behind each
abbrev pub across : Maps → ℕ
across (Both along_x along_y) = width along_x.raster + 40 + width along_y.raster + 40
across (Greater map) = width map.raster + 40

abbrev pub maps_text : Maps → Option (Vec ℕ Global) → List ℕ
maps_text (Both along_x along_y) cut =
    map_text along_x 20 (codes "edges along x") cut
    ++ map_text along_y (20 + width along_x.raster + 40) (codes "edges along y") cut
maps_text (Greater map) cut = map_text map 20 (codes "the fuller of the edges along x and y") cut

-- each map has its cells, and the tile edges of the cut are its own
abbrev pub CanBePut : Maps → Option (Vec ℕ Global) → Type 0
CanBePut (Both along_x along_y) cut =
    IsCellMap along_x × IsCellMap along_y × AreCutEdges along_x.raster cut × AreCutEdges along_y.raster cut
CanBePut (Greater map) cut = IsCellMap map × AreCutEdges map.raster cut

-- ---- the scale, and all of it

abbrev pub sample_part : Option (Vec ℕ Global) → List ℕ
sample_part None = []
sample_part (Some cut) = cut_sample

abbrev pub scale_text : ℕ → Option (Vec ℕ Global) → List ℕ
scale_text left cut = group_text left ++ class_samples ++ line_samples ++ sample_part cut ++ codes "</g>\n</svg>\n"

-- the picture of a design of this name
abbrev pub picture_text : List ℕ → Picture → List ℕ
picture_text name p =
    head_text name (max (20 + across p.maps + 180) 600) (120 + max (height (first_map p.maps).raster) 340 + 20)
    ++ facts_text p.measure p.shown (first_map p.maps).raster.side
    ++ maps_text p.maps p.cut
    ++ scale_text (20 + across p.maps) p.cut
