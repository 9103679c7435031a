-- What terminals span by the numbers of landmarks.
use Rattle.std.specs.Prelude.{ℕ, zero, suc, ◌+◌, ◌*◌, ◌/◌, ◌%◌, ◌<◌, ◌^◌, List, length, max, min}
use Rattle.grid_base.specs.declared.vertex.Vertex.{Vertex}
use Rattle.grid_base.specs.Lists.{At}
use Rattle.steiner_exact.specs.declared.extent.Extent.{Extent}
use Rattle.steiner_exact.specs.Boxes.{box_low, extent_of, width_with}
use Rattle.label_search.specs.Stamped.{far}
use Rattle.grid_base.specs.declared.size.Size.{Size}
use Rattle.grid_graph.specs.declared.floors.Floors.{Floors}
use Rattle.landmarks.specs.Numbers.{landmark_count, number_by}

-- what the first terminals of a mask span by a landmark
abbrev pub span_of : List (List ℕ) → List Vertex → ℕ → ℕ → ℕ → Extent
span_of numbers terminals mask count k = extent_of (number_by numbers k) terminals mask count

-- what the terminals of each mask span by each landmark; the spans of a mask stand behind one another
abbrev pub AreSpans : List (List ℕ) → List Vertex → List Extent → Type 0
AreSpans numbers terminals spans = (place : ℕ) → place < 2 ^ length terminals * landmark_count
    → At spans place (span_of numbers terminals (place / landmark_count) (length terminals) (place % landmark_count))

-- how far the terminals of a mask and a vertex reach at most by the first landmarks
unfoldable pub widest_span : List (List ℕ) → List Vertex → ℕ → ℕ → ℕ → ℕ
widest_span numbers terminals mask v zero = 0
widest_span numbers terminals mask v (suc k) =
    max (widest_span numbers terminals mask v k)
    (width_with (span_of numbers terminals mask (length terminals) k) (number_by numbers k v))

-- the bound: how far their box reaches by the floors, and how far they reach by a landmark beyond these
abbrev pub landmark_low : Size → Floors → List (List ℕ) → List Vertex → ℕ → ℕ → ℕ
landmark_low s floors numbers terminals mask v =
    min (box_low s floors terminals mask v + widest_span numbers terminals mask v landmark_count) far
