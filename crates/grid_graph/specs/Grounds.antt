-- The ground of a net.
use Rattle.std.specs.Prelude.{ℕ, ◌≡◌, ◌<◌, List, length}
use Rattle.std.specs.List.{AllZip}
use Rattle.grid_base.specs.declared.vertex.Vertex.{Vertex}
use Rattle.grid_base.specs.Walks.{WalkBetween, Joins, InVertices}
use Rattle.grid_graph.specs.declared.grid.Grid.{Grid}
use Rattle.grid_graph.specs.declared.ground.Ground.{Ground}
use Rattle.grid_graph.specs.declared.ground.Ground.TheVariants.{Open, WithChoked}
use Rattle.grid_graph.specs.declared.ground_error.GroundError.{GroundError}
use Rattle.grid_graph.specs.declared.ground_error.GroundError.TheVariants.{Unreachable, NoMemory}
use Rattle.grid_graph.specs.declared.net_spec.NetSpec.{NetSpec}
use Rattle.grid_graph.specs.Grids.{size_of, Allows}
use Rattle.grid_base.specs.Lists.{At}

-- a walk of the ground's pieces leads from a to b
abbrev pub Reaches : Grid → Ground → ℕ → ℕ → Type 0
Reaches g over a b = WalkBetween (size_of g) (Allows g over) a b

-- the ground's pieces join the terminals
abbrev pub JoinsTerminals : Grid → Ground → List Vertex → Type 0
JoinsTerminals g over terminals = Joins (size_of g) (Allows g over) (InVertices terminals)

-- the ground of these terminals: open edges and vias where these join them, else choked edges too where these do
abbrev pub IsGround : Grid → List Vertex → Ground → Type 0
IsGround g terminals Open = JoinsTerminals g Open terminals
IsGround g terminals WithChoked = ¬ JoinsTerminals g Open terminals × JoinsTerminals g WithChoked terminals

-- no ground joins the net, and its terminal at this place is the first that isn't joined to the first one
pub record IsCutOff (g : Grid) (n : NetSpec) (id terminal : ℕ) : Type 0 where
  pub named : id ≡ n.id
  pub apart : ¬ JoinsTerminals g WithChoked n.terminals
  pub exists : terminal < length n.terminals
  pub unjoined : (first v : Vertex) → At n.terminals 0 first → At n.terminals terminal v → ¬ Reaches g WithChoked first.0 v.0
  pub joined : (i : ℕ) (first v : Vertex) → i < terminal → At n.terminals 0 first → At n.terminals i v → Reaches g WithChoked first.0 v.0

-- why a net has no ground; want of memory has no cause
abbrev pub IsGroundError : Grid → NetSpec → GroundError → Type 0
IsGroundError g n (Unreachable net) = IsCutOff g n net.id net.terminal
IsGroundError g n NoMemory = Unit {0}

-- net k is the first that has no ground
pub record IsFirstCutOff (g : Grid) (nets : List NetSpec) (id terminal : ℕ) : Type 0 where
  pub place : ℕ
  pub net : NetSpec
  pub stands : At nets place net
  pub cut_off : IsCutOff g net id terminal
  pub earlier : (j : ℕ) (m : NetSpec) → j < place → At nets j m → JoinsTerminals g WithChoked m.terminals

-- why a list of nets has no grounds
abbrev pub IsFirstGroundError : Grid → List NetSpec → GroundError → Type 0
IsFirstGroundError g nets (Unreachable net) = IsFirstCutOff g nets net.id net.terminal
IsFirstGroundError g nets NoMemory = Unit {0}

-- one ground per net, in order
abbrev pub AreGrounds : Grid → List NetSpec → List Ground → Type 0
AreGrounds g nets grounds = AllZip (λ n found. IsGround g n.terminals found) nets grounds
