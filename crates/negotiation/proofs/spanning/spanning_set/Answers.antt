use Rattle.std.proofs.Common.{◌≡◌, ◌<◌, ℕ, Option, Result, Ok, Err, IfOk, List, length, get_or, sym, subst, arith}
use Rattle.std.proofs.lemmas.Option.{slice_get-get_or}
use Rattle.grid_base.specs.declared.piece.Piece.{Piece}
use Rattle.grid_base.specs.Lists.{At}
use Rattle.grid_base.proofs.Lists.{AllZip-at}
use Rattle.grid_graph.specs.declared.design.Design.{Design}
use Rattle.grid_graph.specs.declared.grid.Grid.{Grid}
use Rattle.grid_graph.specs.declared.ground.Ground.{Ground}
use Rattle.grid_graph.specs.declared.net_spec.NetSpec.{NetSpec}
use Rattle.grid_graph.specs.Grids.{IsNetWidth}
use Rattle.grid_graph.specs.Grounds.{AreGrounds, IsGround}
use Rattle.edge_prices.specs.KeptLists.{budget_of, grid_of, loads_of, scale_of}
use Rattle.sharing_runs.specs.NetSteps.{IsStep}
use Rattle.tree_set.specs.Routings.{IsRoute}
use Rattle.negotiation.proofs.Found.{AllZip-long, At-read_of, At-same}
use Rattle.negotiation.proofs.spanning.spanning_set.Goals as goal

pub bounds-grounds-net : goal.bounds-grounds-net
bounds-grounds-net c =
    let d = c.args.design.now in
    omega (arith, c.requires.net, AllZip-long (λ (x : NetSpec) (found : Ground). IsGround d.grid x.terminals found) d.nets c.args.grounds.now c.requires.grounds)

pub route_net-requires-clause-width : goal.route_net-requires-clause-width
route_net-requires-clause-width c =
    let d = c.args.design.now in
    let n = c.index-list-net.result in
    subst (λ (g : Grid). IsNetWidth g n.width) (sym c.in_ok-kept.ensures.grid)
    (d.limits.net c.args.net n (At-read_of d.nets c.list.result.now c.args.net n c.list.ensures.items c.index-list-net.is c.requires.net)).width

-- the ground of the net at a place, in a grid that is the design's
ground_there : (g : Grid) (d : Design) (grounds : List Ground) (k : ℕ) (n : NetSpec) (other : Ground) → g ≡ d.grid → AreGrounds d.grid d.nets grounds → At d.nets k n
    → k < length d.nets → IsGround g n.terminals (get_or grounds k other)
ground_there g d grounds k n other same are at within =
    let R : NetSpec → Ground → Type 0 = λ x found. IsGround d.grid x.terminals found in
    subst (λ (x : Grid). IsGround x n.terminals (get_or grounds k other)) (sym same)
    (AllZip-at R d.nets grounds k n (get_or grounds k other) are at (slice_get-get_or grounds k other (omega (arith, within, AllZip-long R d.nets grounds are))))

pub route_net-requires-clause-ground : goal.route_net-requires-clause-ground
route_net-requires-clause-ground c =
    let d = c.args.design.now in
    let n = c.index-list-net.result in
    ground_there (grid_of c.in_ok-kept.kept) d c.args.grounds.now c.args.net n _ c.in_ok-kept.ensures.grid c.requires.grounds
    (At-read_of d.nets c.list.result.now c.args.net n c.list.ensures.items c.index-list-net.is c.requires.net) c.requires.net

-- a step is a route, of the one net that stands there
route_of_step : {E : Type 0} (g h : Grid) (nets : List NetSpec) (k : ℕ) (n : NetSpec) (seen : List ℕ) (scale : ℕ) (budget : Option ℕ) (r : Result (List Piece) E)
    → g ≡ h → At nets k n → IfOk r (λ tree. IsStep g n seen scale budget tree) → (m : NetSpec) → At nets k m → IfOk r (IsRoute h m)
route_of_step g h nets k n seen scale budget (Ok tree) same at step m at_m =
    subst (λ (x : NetSpec). IsRoute h x tree) (At-same nets k n m at at_m) (subst (λ (x : Grid). IsRoute x n tree) same step.route)
route_of_step g h nets k n seen scale budget (Err e) same at step m at_m = tt

pub returns : goal.returns
returns c =
    let d = c.args.design.now in
    let n = c.index-list-net.result in
    record {
      route = route_of_step (grid_of c.in_ok-kept.kept) d.grid d.nets c.args.net n (loads_of c.in_ok-kept.kept) (scale_of c.in_ok-kept.kept) (budget_of c.in_ok-kept.kept) c.route_net.result c.in_ok-kept.ensures.grid
          (At-read_of d.nets c.list.result.now c.args.net n c.list.ensures.items c.index-list-net.is c.requires.net) c.route_net.ensures.step;
    }
