-- Nets and designs.
use Rattle.std.specs.Prelude.{ℕ, ◌≡◌, ◌≤◌, List, length}
use Rattle.std.specs.List.{sum_by}
use Rattle.grid_base.specs.declared.vertex.Vertex.{Vertex}
use Rattle.grid_base.specs.Numbers.{IsVertex}
use Rattle.grid_graph.specs.declared.grid.Grid.{Grid}
use Rattle.grid_graph.specs.declared.net_spec.NetSpec.{NetSpec}
use Rattle.grid_graph.specs.Grids.{size_of, IsNetWidth}
use Rattle.grid_graph.specs.Limits.{max_id, max_nets, max_pins}
use Rattle.grid_base.specs.Lists.{At, HasNoRepeats}

-- no two nets have one id
abbrev pub IdsDiffer : List NetSpec → Type 0
IdsDiffer nets = (i j : ℕ) (m n : NetSpec) → At nets i m → At nets j n → m.id ≡ n.id → i ≡ j

-- a net that fits the grid: its id has 32 bits, its terminals are different vertices, and every demand of its width is within the limit
pub record IsNet (g : Grid) (n : NetSpec) : Type 0 where
  pub id : n.id ≤ max_id
  pub width : IsNetWidth g n.width
  pub vertices : (i : ℕ) (v : Vertex) → At n.terminals i v → IsVertex (size_of g) v.0
  pub distinct : HasNoRepeats n.terminals

-- the nets fit the grid, their ids differ, and they are not too many
pub record IsDesign (g : Grid) (nets : List NetSpec) : Type 0 where
  pub count : length nets ≤ max_nets
  pub pins : sum_by (λ n. length n.terminals) nets ≤ max_pins
  pub ids : IdsDiffer nets
  pub net : (k : ℕ) (n : NetSpec) → At nets k n → IsNet g n
