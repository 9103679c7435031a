use Rattle.std.proofs.Common.{◌≡◌, ◌≤◌, ◌<◌, ℕ, List, length, take, sym, ◌∙◌, subst, arith}
use Rattle.std.proofs.lemmas.List.{take_all}
use Rattle.grid_base.specs.declared.piece.Piece.{Piece}
use Rattle.grid_graph.specs.Grids.{demand_on, size_of}
use Rattle.grid_graph.specs.Limits.{max_demand}
use Rattle.tree_set.specs.Order.{IsRising}
use Rattle.tree_set.specs.Routings.{ArePieces}
use Rattle.tree_set.proofs.Loads.{edge_number}
use Rattle.routing_state.specs.Rooms.{Gives}
use Rattle.routing_state.proofs.Giving.{IsGiven-given, IsGiven-via, IsRoom-without}
use Rattle.routing_state.proofs.rooms.Rooms.give.Goals as goal
use Rattle.routing_state.proofs.rooms.Rooms.give.Goals.{in-Edge, in_default}

pub raise-requires-clause-limit : goal.raise-requires-clause-limit
raise-requires-clause-limit c =
    IsRoom-without c.args.grid.now c.args.width c.pieces-p-items.result.now c.loop-p.p-index c.args.self.now.rooms.items c.loop-p.self.rooms.items c.loop-p.invariant c.requires.limit

pub loop-p-preserved : goal.loop-p-preserved
loop-p-preserved c =
    let g = c.args.grid.now in
    let ps = c.pieces-p-items.result.now in
    let i = c.loop-p.p-index in
    let now = c.loop-p.self.rooms.items in
    let first = c.args.self.now.rooms.items in
    let within : i < length ps = c.loop-p-test.true in
    let rising : IsRising ps = subst IsRising (sym c.pieces-p-items.ensures.listed) c.pieces-p-items.ensures.rising in
    let pieces : ArePieces (size_of g) ps = subst (ArePieces (size_of g)) (sym c.pieces-p-items.ensures.listed) c.requires.pieces in
    elim c.match-p.branch [
      | in-Edge w ↦
          let x = w.in-Edge.e in
          let inside : x.0 < length now =
          omega (arith, c.loop-p.invariant.gives.long, c.requires.long, edge_number (size_of g) ps i _ x pieces within w.in-Edge.is) in
          let small : demand_on g c.args.width x.0 ≤ max_demand = subst (λ (n : ℕ). n ≤ max_demand) w.demand.ensures.value w.demand.ensures.limit in
          rw (w.self-is, w.raise.ensures, w.demand.ensures.value)
          (IsGiven-given g c.args.width ps i _ within x first now rising w.in-Edge.is inside small c.loop-p.invariant)
      | in_default w ↦
          rw w.self-is (IsGiven-via g c.args.width ps i _ within w.in_default.field-0 first now w.in_default.is c.loop-p.invariant)
    ]

pub returns : goal.returns
returns c =
    let ps = c.pieces-p-items.result.now in
    let whole : take c.loop-p.p-index ps ≡ c.args.tree.now = take_all c.loop-p.p-index ps (omega (arith, c.loop-p-test.false)) ∙ c.pieces-p-items.ensures.listed in
    subst (λ (qs : List Piece). Gives c.args.grid.now c.args.width qs c.args.self.now.rooms.items c.loop-p.self.rooms.items) whole c.loop-p.invariant.gives
