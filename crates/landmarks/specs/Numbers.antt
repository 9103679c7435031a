-- Numbers of vertices by landmarks, after Goldberg and Harrelson, "Computing the shortest path: A* search meets graph theory"
-- (2005): distances from a few vertices. Two vertices are at least as far apart as these differ.
use Rattle.std.specs.Prelude.{ℕ, ◌≡◌, ◌+◌, ◌-◌, ◌^◌, ◌<◌, List, [], cond, ltb, length, map, min, get_or, slice_index}
use Rattle.grid_base.specs.declared.piece.Piece.{Piece}
use Rattle.grid_base.specs.declared.size.Size.{Size}
use Rattle.grid_base.specs.Numbers.{vertices}
use Rattle.grid_graph.specs.declared.floors.Floors.{Floors}
use Rattle.grid_graph.specs.Floors.{floor_of, AreFloors, AreWithin}
use Rattle.label_search.specs.Sets.{RisesSlowly}
use Rattle.label_search.specs.Stamped.{most, far}
use Rattle.shortest_paths.specs.declared.labels.Labels.{Labels}
use Rattle.shortest_paths.specs.LabelWords.{label_of}
use Rattle.landmarks.specs.declared.landmarks.Landmarks.{Landmarks}

-- so many landmarks
abbrev pub landmark_count : ℕ
landmark_count = 4

-- the greatest number
abbrev pub farthest_number : ℕ
farthest_number = 2 ^ 32 - 1

-- the same pieces, each with what it weighs beyond its floor
abbrev pub lowered : List (Piece × ℕ) → Floors → List (Piece × ℕ)
lowered pieces floors = map (λ x. (x.0, x.1 - floor_of floors x.0)) pieces

-- the number that a vertex has by a search from another one under a limit; one above the limit where it has none
abbrev pub across_at : Labels → ℕ → ℕ → ℕ
across_at labels limit v = cond (ltb (label_of labels 1 v) far) (label_of labels 1 v) (limit + 1)

-- its distance as far as numbers reach
abbrev pub known_number : Labels → ℕ → ℕ
known_number labels v = min (across_at labels most v) farthest_number

-- the number of a vertex by a landmark
abbrev pub number_by : List (List ℕ) → ℕ → ℕ → ℕ
number_by numbers k v = slice_index (get_or numbers v []) k

-- the numbers of the first landmarks rise along no piece by more than it weighs
pub record RiseSlowly (s : Size) (pieces : List (Piece × ℕ)) (count : ℕ) (numbers : List (List ℕ)) : Type 0 where
  pub slow : (k : ℕ) → k < count → RisesSlowly s pieces (number_by numbers k)
  pub small : (k v : ℕ) → k < count → number_by numbers k v < 2 ^ 32

-- landmarks of a grid's weights: floors of them, and numbers that rise by no more than what pieces weigh beyond these
pub record AreLandmarks (s : Size) (pieces : List (Piece × ℕ)) (l : Landmarks) : Type 0 where
  pub long : length l.numbers.items ≡ vertices s
  pub within : AreWithin l.floors
  pub floored : AreFloors l.floors pieces
  pub rise : RiseSlowly s (lowered pieces l.floors) landmark_count l.numbers.items
