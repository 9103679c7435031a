-- What labels tell of the latest search.
use Rattle.std.specs.Prelude.{ℕ, ◌≡◌, ◌≤◌, ◌⊎◌, List, Option}
use Rattle.grid_base.specs.declared.piece.Piece.{Piece}
use Rattle.grid_base.specs.declared.size.Size.{Size}
use Rattle.shortest_paths.specs.declared.labels.Labels.{Labels}
use Rattle.label_search.specs.Founds.{index_in}
use Rattle.steiner_tables.specs.Kept.{masks_in, kept_in}
use Rattle.label_search.specs.Rows.{size_in, number_in}
use Rattle.label_search.specs.Searches.{IsBehind}
use Rattle.label_search.specs.Sets.{IsDistance}
use Rattle.label_search.specs.Stamped.{most, far}
use Rattle.steiner_tables.specs.Tables.{answer_at}

-- the size of the grid that they are of
abbrev pub labels_size : Labels → Size
labels_size l = size_in l.row

-- how many sets of terminals they have room for
abbrev pub masks_of : Labels → ℕ
masks_of l = masks_in l.rows

-- the source of the latest search
abbrev pub source_of : Labels → ℕ
source_of l = l.source.0

-- the number of a vertex
abbrev pub labels_number : Labels → ℕ → ℕ
labels_number l v = number_in l.row v

-- the same as an answer
abbrev pub distance_of : Labels → ℕ → Option ℕ
distance_of l v = answer_at far (labels_number l v)

-- the number of a mask at a vertex
abbrev pub label_of : Labels → ℕ → ℕ → ℕ
label_of l mask v = kept_in l.rows mask (index_in l.row.found v)

-- what the labels answer for v is its distance from the source
abbrev pub HasDistance : Size → List (Piece × ℕ) → Labels → ℕ → Type 0
HasDistance s pieces l v = IsDistance s pieces (source_of l) v (distance_of l v)

-- each number leads back to the source, by neighbours whose numbers are smaller by a piece's weight
pub record LeadsBack (s : Size) (pieces : List (Piece × ℕ)) (l : Labels) : Type 0 where
  pub size : labels_size l ≡ s
  pub behind : (v : ℕ) → labels_number l v ≤ most → (v ≡ source_of l) ⊎ IsBehind s pieces (labels_number l) v
