use Rattle.std.proofs.Common.{ℕ, ◌<◌, List, length, subst, arith}
use Rattle.grid_base.specs.declared.piece.Piece.{Piece}
use Rattle.grid_base.specs.declared.vertex.Vertex.{Vertex}
use Rattle.grid_base.specs.Lists.{At}
use Rattle.grid_base.specs.Numbers.{IsVertex}
use Rattle.grid_graph.specs.declared.grid.Grid.{Grid}
use Rattle.grid_graph.specs.declared.ground.Ground.TheVariants.{Open, WithChoked}
use Rattle.grid_graph.specs.Components.{AreComponents}
use Rattle.grid_graph.specs.Grids.{size_of, Allows}
use Rattle.grid_graph.proofs.Grounds.{joins_alike, apart_not_joined, cut_off_apart}
use Rattle.grid_graph.proofs.ground_components.GroundComponents.ground_of.Goals as goal

-- what has a component is a vertex of the grid
are_vertices : (g : Grid) (F : Piece → Type 0) (components : List ℕ) (terminals : List Vertex) → AreComponents (size_of g) F components
    → ((i : ℕ) (v : Vertex) → At terminals i v → v.0 < length components) → (i : ℕ) (v : Vertex) → At terminals i v → IsVertex (size_of g) v.0
are_vertices g F components terminals are within i v at = subst (λ (n : ℕ). v.0 < n) are.long (within i v at)

pub first_apart-requires : goal.first_apart-requires
first_apart-requires c i v at =
    rw c.as_slice.ensures.value (c.requires.vertices i v (subst (λ (ts : List Vertex). At ts i v) c.list-terminals.ensures.items at)).by_open

pub first_apart-requires-2 : goal.first_apart-requires-2
first_apart-requires-2 c i v at =
    rw c.as_slice-2.ensures.value (c.requires.vertices i v (subst (λ (ts : List Vertex). At ts i v) c.list-terminals.ensures.items at)).by_choked

pub overflow_cast-result : goal.overflow_cast-result
overflow_cast-result c =
    let few = subst (λ (ts : List Vertex). c.in-Some-first_apart.terminal < length ts) c.list-terminals.ensures.items c.in-Some-first_apart.ensures.apart.exists in
    omega (arith, few, c.requires.few)

pub returns-in_default-clause-found : goal.returns-in_default-clause-found
returns-in_default-clause-found c g are =
    let ts = c.args.net.now.terminals in
    let components = c.args.self.now.by_open.items in
    joins_alike (size_of g) (Allows g Open) components ts are.open_ones
    (are_vertices g (Allows g Open) components ts are.open_ones (λ i v at. (c.requires.vertices i v at).by_open))
    (rw (c.as_slice.ensures.value, c.list-terminals.ensures.items) at c.in_default.ensures.alike)

pub returns-in-None-clause-found : goal.returns-in-None-clause-found
returns-in-None-clause-found c g are =
    let ts = c.args.net.now.terminals in
    let components = c.args.self.now.by_choked.items in (
      apart_not_joined (size_of g) (Allows g Open) c.args.self.now.by_open.items ts c.in-Some.field-0 are.open_ones
          (rw (c.as_slice.ensures.value, c.list-terminals.ensures.items) at c.in-Some.ensures.apart),
      joins_alike (size_of g) (Allows g WithChoked) components ts are.choked_ones
          (are_vertices g (Allows g WithChoked) components ts are.choked_ones (λ i v at. (c.requires.vertices i v at).by_choked))
          (rw (c.as_slice-2.ensures.value, c.list-terminals.ensures.items) at c.in-None.ensures.alike),
    )

pub returns-in-Some-first_apart-clause-cause : goal.returns-in-Some-first_apart-clause-cause
returns-in-Some-first_apart-clause-cause c g are =
    let ts = c.args.net.now.terminals in
    let components = c.args.self.now.by_choked.items in
    cut_off_apart g c.args.net.now components c.in-Some-first_apart.terminal are.choked_ones
    (are_vertices g (Allows g WithChoked) components ts are.choked_ones (λ i v at. (c.requires.vertices i v at).by_choked))
    (rw (c.as_slice-2.ensures.value, c.list-terminals.ensures.items) at c.in-Some-first_apart.ensures.apart)
