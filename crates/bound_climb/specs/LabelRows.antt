-- Labels as the rows of a table.
use Rattle.std.specs.Prelude.{ℕ, ◌+◌, List, map}
use Rattle.std.specs.List.{range_with_len}
use Rattle.grid_base.specs.Numbers.{vertices}
use Rattle.shortest_paths.specs.declared.labels.Labels.{Labels}
use Rattle.shortest_paths.specs.LabelWords.{labels_size, label_of}

-- the numbers of a mask at all vertices
abbrev pub label_row : Labels → ℕ → List ℕ
label_row l mask = map (label_of l mask) (range_with_len 0 (vertices (labels_size l)))

-- the rows of so many masks from 1 on
abbrev pub label_rows : Labels → ℕ → List (List ℕ)
label_rows l count = map (λ place. label_row l (place + 1)) (range_with_len 0 count)
