-- The net of a turn, by its position.
use Rattle.std.proofs.Common.{◌≡◌, ℕ, ◌+◌, ◌-◌, ◌<◌, ◌%◌, ◌==◌, true, false, List, length, get_or, All}
use Rattle.std.proofs.Common.{slice_index_or, sym, ◌∙◌, ap, arith}
use Rattle.std.proofs.lemmas.Option.{get_or_from_slice_get, same_Some, slice_get-get_or, slice_get_within}
use Rattle.std.proofs.lemmas.Slice.Zip.{AllZip-long}
use Rattle.grid_base.specs.declared.piece.Piece.{Piece}
use Rattle.grid_base.specs.Lists.{At}
use Rattle.grid_base.proofs.Lists.{AllZip-at}
use Rattle.grid_graph.specs.declared.grid.Grid.{Grid}
use Rattle.grid_graph.specs.declared.net_spec.NetSpec.{NetSpec}
use Rattle.grid_graph.specs.declared.ground.Ground.{Ground}
use Rattle.grid_graph.specs.declared.ground.Ground.TheVariants.{Open}
use Rattle.grid_graph.specs.Grounds.{IsGround}
use Rattle.grid_graph.specs.Grids.{size_of}
use Rattle.load_table.specs.Holdings.{Holding}
use Rattle.tree_set.specs.Routings.{ArePieces, IsRoute, IsRouting}
use Rattle.sharing_runs.specs.Parts.{nets_per_reading, part_start, IsInPart}
use Rattle.price_workers.specs.declared.worker.Worker.{Worker}
use Rattle.price_workers.specs.TreeLoads.{HoldsTree}
use Rattle.price_workers.specs.Workers.{party_of, trees_of, IsUnchanged, KeepsWork, MayRoute}
use Rattle.price_workers.proofs.TurnFacts.{route_pieces, stands}
use Rattle.routing_passes.specs.Passes.{HasRead, IsPass, Pass, ServesTurns, pass_nets, turns_start}
use Rattle.routing_passes.specs.PassTurns.{IsWithinPart}
use Rattle.routing_passes.proofs.Parts.{in_design}
use Rattle.routing_passes.proofs.Positions.{AreWithin, at_positions-at, at_positions-long}
use Rattle.routing_passes.proofs.WorkerSteps.{IsTurnOf, may_repair, own_set, read_either, still_had}

-- there are as many nets as positions
pub count : (p : Pass) → IsPass p → length p.positions ≡ length (pass_nets p)
count p pass = sym (at_positions-long p.design.nets p.positions pass.nets)

pub sets_within : (p : Pass) → IsPass p → AreWithin p.before p.positions
sets_within p pass k d short = omega (arith, pass.nets k d short, pass.before.long)

-- where turns begin, by the number of the positions
pub turns_begin : {p : Pass} (worker : ℕ) {from : ℕ} → IsPass p → from ≡ part_start p.workers (length p.positions) worker
    → from ≡ turns_start p worker
turns_begin {p} worker pass begins = begins ∙ ap (λ n. part_start p.workers n worker) (count p pass)

-- the sets of a routing are made of pieces of the grid
pub routing_pieces : (g : Grid) (nets : List NetSpec) (trees : List (List Piece)) → IsRouting g nets trees
    → All (ArePieces (size_of g)) trees
routing_pieces g nets trees routing k e short =
    let n = stands nets k (omega (arith, short, AllZip-long (IsRoute g) nets trees routing)) in
    route_pieces g n.0 (get_or trees k e) (AllZip-at (IsRoute g) nets trees k n.0 (get_or trees k e) routing n.1
    (slice_get-get_or trees k e short))

-- a worker's next turn is due: the net and its old set, and that the worker has that set and has read
pub record IsReady (p : Pass) (worker : ℕ) (first : Holding) (turn from k : ℕ) (w : Worker) : Type 0 where
  pub place : turn - from ≡ turn - turns_start p worker
  pub inside : k < length p.design.nets
  pub net : NetSpec
  pub stands : At p.design.nets k net
  pub before : List Piece
  pub of : IsTurnOf p worker turn net before
  pub within : IsWithinPart p worker first turn (turn + 1) w
  pub may : MayRoute w
  pub own : At (trees_of w) (turn - from) before
  pub had : (n : NetSpec) (tree : List Piece) → At p.design.nets k n → At (trees_of w) (turn - from) tree
      → HoldsTree p.design.grid n.width tree (party_of w)
  pub grounds : length p.grounds ≡ length p.design.nets
  pub ground : (n : NetSpec) → At p.design.nets k n → IsGround p.design.grid n.terminals (slice_index_or p.grounds k Open)

pub ready : {p : Pass} {worker turn from to : ℕ} {first : Holding} {found : List ℕ} {old new : Worker} → IsPass p
    → worker < p.workers → ServesTurns p worker (worker + 1) first → found ≡ p.positions
    → from ≡ turns_start p worker → to ≡ turns_start p (worker + 1) → turn < to
    → ((turn - from) % nets_per_reading == 0 ≡ true → HasRead p.table old new)
    → ((turn - from) % nets_per_reading == 0 ≡ false → IsUnchanged old new) → KeepsWork old new
    → IsWithinPart p worker first turn turn old
    → IsReady p worker first turn from (get_or found turn 0) new
ready {p} {worker} {turn} {from} {first} {new} pass exists serves same start end before read unchanged kept w =
    let nets : ℕ = length (pass_nets p) in
    let part : IsInPart p.workers nets worker turn =
    record { worker_exists = exists; from = w.turns.before; before = omega (arith, before, end) } in
    let within : IsWithinPart p worker first turn (turn + 1) new =
    read_either kept w (rw start at read) (rw start at unchanged) in
    let short : turn < length p.positions = omega (arith, count p pass, in_design pass.some part) in
    let k : ℕ = get_or p.positions turn 0 in
    let among : At p.positions turn k = slice_get-get_or p.positions turn 0 short in
    let n = stands p.design.nets k (pass.nets turn 0 short) in
    let t = stands p.before k (sets_within p pass turn 0 short) in
    let of : IsTurnOf p worker turn n.0 t.0 = record {
      part = part;
      net = at_positions-at p.design.nets p.positions turn k n.0 pass.nets among n.1;
      had = at_positions-at p.before p.positions turn k t.0 (sets_within p pass) among t.1;
      width = (p.design.limits.net k n.0 n.1).width;
      pieces = rw (← get_or_from_slice_get p.before k t.0 t.0 t.1)
          (pass.before.pieces k t.0 (slice_get_within p.before k t.0 t.1));
    } in
    let own : At (trees_of new) (turn - from) t.0 = rw start (own_set {before = t.0} serves of within) in
    let grounded : NetSpec → Ground → Type 0 = λ m found. IsGround p.design.grid m.terminals found in
    let grounds : length p.grounds ≡ length p.design.nets = AllZip-long grounded p.design.nets p.grounds pass.grounds in
    rw same (record {
      place = ap (λ k. turn - k) start;
      inside = pass.nets turn 0 short;
      net = n.0;
      stands = n.1;
      before = t.0;
      of = of;
      within = within;
      may = may_repair {before = t.0} serves of within (length p.positions) short pass.few;
      own = own;
      had = λ m tree at there.
          let net : m ≡ n.0 = same_Some m n.0 (sym at ∙ n.1) in
          let set : tree ≡ t.0 = same_Some tree t.0 (sym there ∙ own) in
          rw (net, set) (still_had {before = t.0} serves of within);
      grounds = grounds;
      ground = λ m at. AllZip-at grounded p.design.nets p.grounds k m (slice_index_or p.grounds k Open) pass.grounds at
          (slice_get-get_or p.grounds k Open (omega (arith, grounds, pass.nets turn 0 short)));
    })
