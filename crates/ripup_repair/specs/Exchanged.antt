-- Lists in which other elements stand at some positions.
use Rattle.std.specs.Prelude.{ℕ, List, [], ◌∷◌, slice_set}

-- the list with these elements at these positions
abbrev pub with_elements : {X : Type 0} → List X → List ℕ → List X → List X
with_elements xs [] ys = xs
with_elements xs (position ∷ positions) [] = xs
with_elements xs (position ∷ positions) (y ∷ ys) = with_elements (slice_set xs position y) positions ys
