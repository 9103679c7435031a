-- Balls around terminals: how much more than the tile edges under it a set weighs around each terminal that it leaves.
use Rattle.std.specs.Prelude.{ℕ, zero, suc, ◌≡◌, ◌+◌, ◌-◌, ◌*◌, ◌^◌, ◌<◌, ◌≤◌, ◌⊎◌, ◌==◌, cond, min, List, length, slice_index}
use Rattle.grid_base.specs.declared.piece.Piece.{Piece}
use Rattle.grid_base.specs.declared.piece.Piece.TheVariants.{Edge, Via}
use Rattle.grid_base.specs.declared.size.Size.{Size}
use Rattle.grid_base.specs.declared.vertex.Vertex.{Vertex}
use Rattle.grid_base.specs.Lists.{At}
use Rattle.grid_base.specs.Numbers.{vertices, Connects}
use Rattle.grid_graph.specs.Flat.{tile_edge_of}
use Rattle.grid_graph.specs.Weighed.{Weighs}
use Rattle.shortest_paths.specs.LabelWords.{labels_size, labels_number}
use Rattle.steiner_tables.specs.Masks.{few_terminals, bit}
use Rattle.terminal_balls.specs.declared.terminal_balls.TerminalBalls.{TerminalBalls}

-- what a piece of this weight weighs more than the tile edge under it; a via stands over none
abbrev pub beyond : Size → (ℕ → ℕ) → Piece → ℕ → ℕ
beyond s over (Edge e) k = k - over (tile_edge_of s e.0)
beyond s over (Via v) k = k

-- balls: each vertex has a number and an owner, the place of a terminal, and each terminal has a radius
pub record Balls : Type 0 where
  pub number : ℕ → ℕ
  pub owner : ℕ → ℕ
  pub radius : ℕ → ℕ

-- what the terminal at a place has at a vertex: up to its radius the number of a vertex of its own, and its radius elsewhere
abbrev pub share : Balls → ℕ → ℕ → ℕ
share balls place v = cond (balls.owner v == place) (min (balls.radius place) (balls.number v)) (balls.radius place)

-- what the first n terminals have together at a vertex, of those of a mask
unfoldable pub shares_of : Balls → ℕ → ℕ → ℕ → ℕ
shares_of balls mask v zero = 0
shares_of balls mask v (suc n) = shares_of balls mask v n + bit mask n * share balls n v

-- what all of them have
abbrev pub shares : Balls → ℕ → ℕ → ℕ
shares balls mask v = shares_of balls mask v few_terminals

-- no terminal has anything at itself, and within a ball numbers rise along no piece by more than it weighs beyond its tile edge,
-- but where that leads to the radius
pub record AreBalls (s : Size) (pieces : List (Piece × ℕ)) (over : ℕ → ℕ) (terminals : List Vertex) (balls : Balls) : Type 0 where
  pub own : (place : ℕ) (v : Vertex) → At terminals place v → share balls place v.0 ≡ 0
  pub steps : (p : Piece) (k a b : ℕ) → Weighs pieces p k → Connects s p a b → balls.number a < balls.radius (balls.owner a)
      → ((balls.owner b ≡ balls.owner a) × (balls.number b ≤ balls.number a + beyond s over p k))
      ⊎ (balls.radius (balls.owner a) ≤ balls.number a + beyond s over p k)

-- the balls as they are kept
abbrev pub balls_of : TerminalBalls → Balls
balls_of t = record {
  number = labels_number t.labels;
  owner = slice_index t.owners.items;
  radius = slice_index t.radii;
}

-- the sum of the radii of the first n terminals, of those of a mask
unfoldable pub radii_sum : (ℕ → ℕ) → ℕ → ℕ → ℕ
radii_sum radius mask zero = 0
radii_sum radius mask (suc n) = radii_sum radius mask n + bit mask n * radius n

-- no ball is wider
abbrev pub widest : ℕ
widest = 2 ^ 56

-- of each mask the sum of its radii is kept
abbrev pub AreSums : List ℕ → List ℕ → Type 0
AreSums radii sums = (mask : ℕ) → mask < 32 → slice_index sums mask ≡ radii_sum (slice_index radii) mask few_terminals

-- they are of a grid of this size, and sums are those of the radii
pub record AreInGrid (s : Size) (t : TerminalBalls) : Type 0 where
  pub size : labels_size t.labels ≡ s
  pub owners : length t.owners.items ≡ vertices s
  pub few : (v : ℕ) → slice_index t.owners.items v < few_terminals
  pub small : (place : ℕ) → slice_index t.radii place ≤ widest
  pub summed : AreSums t.radii t.sums
