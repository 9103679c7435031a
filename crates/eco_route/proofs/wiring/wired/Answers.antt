use Rattle.std.proofs.Common.{◌≡◌, ℕ, ◌<◌, ◌≤◌, ◌∙◌, ap, List, length, arith}
use Rattle.std.specs.List.{All}
use Rattle.std.proofs.lemmas.List.{length-map}
use Rattle.grid_base.specs.declared.vertex.Vertex.{Vertex}
use Rattle.grid_base.specs.Numbers.{vertices}
use Rattle.grid_base.proofs.SameNumbers.{All-at}
use Rattle.grid_graph.specs.Grids.{size_of}
use Rattle.grid_graph.specs.Nets.{IsNet}
use Rattle.grid_graph.specs.Terms.{numbers, without_repeats}
use Rattle.grid_graph.proofs.WithoutRepeats.{All-without_repeats, length-without_repeats}
use Rattle.eco_route.specs.PinPlaces.{pin_vertex}
use Rattle.eco_route.proofs.wiring.wired.Goals as goal
use Rattle.eco_route.proofs.wiring.wired.Goals.{In_ok-terminals}

-- the terminals are the vertices of the pins
same : (c : In_ok-terminals) → numbers c.in_ok-terminals.terminals ≡ without_repeats (numbers c.in_ok-vertices.vertices.items)
same c = c.in_ok-terminals.ensures.terminals ∙ ap (λ (vs : List Vertex). without_repeats (numbers vs)) c.as_slice.ensures.value

-- there are no more of them than pins
few : (c : In_ok-terminals) → length c.in_ok-terminals.terminals ≤ length c.args.wish.now.pins.now
few c =
    let read = λ (v : Vertex). v.0 in
    let pins = c.args.wish.now.pins.now in
    omega (
      arith,
      ap length (same c),
      length-without_repeats (numbers c.in_ok-vertices.vertices.items),
      ap length c.in_ok-vertices.ensures.vertices,
      length-map c.in_ok-terminals.terminals read,
      length-map pins (pin_vertex c.args.grid.now),
    )

-- the net fits the grid, whatever it is called
fits : (c : In_ok-terminals) (name : List ℕ) → IsNet c.args.grid.now (record { id = c.args.wish.now.id; name = name; width = c.args.wish.now.width; terminals = c.in_ok-terminals.terminals })
fits c name =
    let below : ℕ → Type 0 = λ w. w < vertices (size_of c.args.grid.now) in
    let inside : All below (numbers c.in_ok-terminals.terminals) =
    rw (same c) (All-without_repeats below (numbers c.in_ok-vertices.vertices.items) c.in_ok-vertices.ensures.within) in
    record {
      id = c.requires.range.named;
      width = c.in_default.ensures.none.wide;
      vertices = All-at below c.in_ok-terminals.terminals inside;
      distinct = c.in_ok-terminals.ensures.distinct;
    }

pub ground_of-requires-clause-net : goal.ground_of-requires-clause-net
ground_of-requires-clause-net c = fits (goal.at.ground_of-requires-clause-net c).In_ok-terminals c.of.result

pub ground_of-requires-clause-few : goal.ground_of-requires-clause-few
ground_of-requires-clause-few c = omega (arith, few (goal.at.ground_of-requires-clause-few c).In_ok-terminals, c.in_default.ensures.none.within.pins_fit)

pub returns-in-Ok-clause-fits : goal.returns-in-Ok-clause-fits
returns-in-Ok-clause-fits c = fits (goal.at.returns-in-Ok-clause-fits c).In_ok-terminals c.of.result

pub returns-in-Ok-clause-pins : goal.returns-in-Ok-clause-pins
returns-in-Ok-clause-pins c = omega (arith, few (goal.at.returns-in-Ok-clause-pins c).In_ok-terminals, c.in_default.ensures.none.within.pins_fit)
