-- Balls while they grow.
use Rattle.std.specs.Prelude.{ℕ, ◌≡◌, ◌+◌, ◌<◌, ◌≤◌, ◌⊎◌, List, length, slice_index}
use Rattle.grid_base.specs.declared.piece.Piece.{Piece}
use Rattle.grid_base.specs.declared.size.Size.{Size}
use Rattle.grid_base.specs.declared.vertex.Vertex.{Vertex}
use Rattle.grid_base.specs.Lists.{At}
use Rattle.grid_base.specs.Numbers.{vertices, Connects}
use Rattle.grid_graph.specs.Weighed.{Weighs}
use Rattle.label_search.specs.Stamped.{far}
use Rattle.shortest_paths.specs.LabelWords.{labels_size, labels_number}
use Rattle.shortest_paths.specs.LedSearches.{HasKey, IsOpen}
use Rattle.steiner_tables.specs.Masks.{few_terminals}
use Rattle.terminal_balls.specs.declared.terminal_balls.TerminalBalls.{TerminalBalls}
use Rattle.terminal_balls.specs.Balls.{Balls, beyond, balls_of, widest}

-- each vertex has room for an owner, no ball is too wide, and a vertex that waits does so under its number
pub record AreKept (t : TerminalBalls) : Type 0 where
  pub owners : length t.owners.items ≡ vertices (labels_size t.labels)
  pub few : (v : ℕ) → slice_index t.owners.items v < few_terminals
  pub small : (place : ℕ) → slice_index t.radii place ≤ widest
  pub keys : (v key : ℕ) → HasKey t.labels v key → labels_number t.labels v ≡ key

-- what a vertex was offered by the ball of the terminal at a place is answered: the vertex is of that ball and has no greater
-- number, or the ball reaches no farther than the offer
abbrev pub IsMet : Balls → ℕ → ℕ → ℕ → Type 0
IsMet balls place offered v = ((balls.owner v ≡ place) × (balls.number v ≤ offered)) ⊎ (balls.radius place ≤ offered)

-- along each piece of a vertex its neighbour was offered what it gets from there
abbrev pub IsRelaxed : Size → List (Piece × ℕ) → (ℕ → ℕ) → Balls → ℕ → Type 0
IsRelaxed s pieces over balls a = (p : Piece) (k b : ℕ) → Weighs pieces p k → Connects s p a b
    → IsMet balls (balls.owner a) (balls.number a + beyond s over p k) b

-- the vertex is within its ball
abbrev pub IsWithin : Balls → ℕ → Type 0
IsWithin balls a = balls.number a < balls.radius (balls.owner a)

-- the vertex has the number and the owner that it had
abbrev pub IsSame : Balls → Balls → ℕ → Type 0
IsSame old new v = (new.number v ≡ old.number v) × (new.owner v ≡ old.owner v)

-- no radius and no number rose, and each vertex that had a number has the same owner
pub record Shrink (old new : Balls) : Type 0 where
  pub radii : (place : ℕ) → new.radius place ≤ old.radius place
  pub numbers : (v : ℕ) → new.number v ≤ old.number v
  pub owned : (v : ℕ) → old.number v < far → new.owner v ≡ old.owner v

-- balls grew on: each vertex that changed waits, and each that waited still does
pub record GrowOn (old new : TerminalBalls) : Type 0 where
  pub size : labels_size new.labels ≡ labels_size old.labels
  pub shrink : Shrink (balls_of old) (balls_of new)
  pub changed : (v : ℕ) → IsSame (balls_of old) (balls_of new) v ⊎ IsOpen new.labels v
  pub waits : (v : ℕ) → IsOpen old.labels v → IsOpen new.labels v

-- the terminal at a place has no ball, or one around its vertex
abbrev pub IsOwn : Balls → ℕ → ℕ → Type 0
IsOwn balls place v = (balls.radius place ≡ 0) ⊎ ((balls.owner v ≡ place) × (balls.number v ≡ 0))

-- the first n terminals have begun, and every vertex with a number waits
pub record AreBegun (terminals : List Vertex) (n : ℕ) (t : TerminalBalls) : Type 0 where
  pub own : (place : ℕ) (v : Vertex) → place < n → At terminals place v → IsOwn (balls_of t) place v.0
  pub none : (place : ℕ) → n ≤ place → slice_index t.radii place ≡ 0
  pub waits : (v : ℕ) → labels_number t.labels v < far → IsOpen t.labels v

-- balls that grow around terminals: each vertex within one waits or is relaxed
pub record AreGrowing (s : Size) (pieces : List (Piece × ℕ)) (over : ℕ → ℕ) (terminals : List Vertex) (t : TerminalBalls) : Type 0 where
  pub own : (place : ℕ) (v : Vertex) → At terminals place v → IsOwn (balls_of t) place v.0
  pub steps : (a : ℕ) → IsWithin (balls_of t) a → IsOpen t.labels a ⊎ IsRelaxed s pieces over (balls_of t) a
