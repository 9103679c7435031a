-- What the sets of blocks are as sets to begin with, and what rerouted ones are as routes.
use Rattle.std.proofs.Common.{◌≡◌, ℕ, All, Bool, List, [], None, get_or, map, sym, ◌∙◌, subst, arith}
use Rattle.std.specs.List.{AllZip}
use Rattle.std.proofs.lemmas.Option.{slice_get-get_or}
use Rattle.std.proofs.lemmas.Slice.Zip.{AllZip-long}
use Rattle.grid_base.specs.declared.piece.Piece.{Piece}
use Rattle.grid_base.proofs.Lists.{AllZip-at, AllZip-from_places}
use Rattle.grid_graph.specs.declared.design.Design.{Design}
use Rattle.grid_graph.specs.declared.grid.Grid.{Grid}
use Rattle.grid_graph.specs.declared.ground.Ground.TheVariants.{WithChoked}
use Rattle.grid_graph.specs.Grids.{size_of}
use Rattle.grid_graph.specs.declared.net_spec.NetSpec.{NetSpec}
use Rattle.grid_graph.proofs.Allowed.{Allows-IsPiece}
use Rattle.grid_graph.proofs.Grounds.{at_place}
use Rattle.negotiation.specs.declared.rerouted.Rerouted.{Rerouted}
use Rattle.negotiation.specs.declared.settings.RerouteSettings.{RerouteSettings}
use Rattle.negotiation.specs.Given.{AreGiven}
use Rattle.negotiation.specs.Rerouted.{IsRerouted}
use Rattle.route_judge.specs.BlockSets.{AreBlockSets}
use Rattle.route_judge.specs.Measured.{IsMeasureOf}
use Rattle.route_judge.specs.NetSets.{AreJoining, IsJoining, IsSetOfNet}
use Rattle.route_judge.specs.Objections.{missing_net}
use Rattle.route_judge.specs.Orders.{AreRoutes, all_block_objections}
use Rattle.route_judge.proofs.AllSets.{none_missing}
use Rattle.route_judge.proofs.Found.{none_behind}
use Rattle.route_text.specs.declared.block.Block.{Block}
use Rattle.routing_state.specs.Totals.{IsNoWorse}
use Rattle.tree_set.specs.declared.measure.Measure.{Measure}
use Rattle.tree_set.specs.Loads.{load}
use Rattle.tree_set.specs.Measures.{overflow, wirelength}
use Rattle.tree_set.specs.Routings.{ArePieces, KeepsTo}
use Rattle.reroute_cli.specs.NewRoutes.{totals_in_measure}

-- what has no wall is a list of pieces
pub are_pieces : (g : Grid) (trees : List (List Piece)) → All (KeepsTo g WithChoked) trees → All (ArePieces (size_of g)) trees
are_pieces g trees unwalled = λ k other below i p inside. Allows-IsPiece g WithChoked (get_or (get_or trees k other) i p) (unwalled k other below i p inside)

-- ---- of blocks

pub given_sets : (d : Design) (blocks : List Block) (trees : List (List Piece)) (has : List Bool) (missing : List ℕ) → AreBlockSets d blocks trees has missing → AreGiven d trees missing
given_sets d blocks trees has missing are = record {
  long = AllZip-long (IsSetOfNet d.grid blocks) d.nets trees are.sets;
  no_wall = are.no_wall;
  joined = λ k n tree at_n at_tree absent. (are.joining k n tree at_n at_tree (λ lacks. absent ((are.lacking.each k n at_n).1 lacks))).joined;
  places = are.lacking.places;
}

-- ---- rerouted

pub rerouted_join : (d : Design) (given : List (List Piece)) (missing : List ℕ) (s : RerouteSettings) (r : Rerouted) → IsRerouted d given missing s r → AreJoining d r.trees
rerouted_join d given missing s r is = AllZip-from_places (IsJoining d.grid) d.nets r.trees is.long
    (λ k n tree at_n at_tree. let own = is.each k n tree at_n at_tree in record { joined = own.joined; no_wall = own.no_wall })

-- sets that join their nets' terminals have no walls
pub joining_unwalled : (g : Grid) (nets : List NetSpec) (trees : List (List Piece)) → AllZip (IsJoining g) nets trees → All (KeepsTo g WithChoked) trees
joining_unwalled g nets trees joining = λ k other below.
    let net = at_place nets k (omega (arith, below, AllZip-long (IsJoining g) nets trees joining)) in
    (AllZip-at (IsJoining g) nets trees k net.0 (get_or trees k other) joining net.1 (slice_get-get_or trees k other below)).no_wall

-- where the blocks lack no net, the rerouted sets measure no more than the given ones
pub measures_no_worse : (d : Design) (given : List (List Piece)) (missing : List ℕ) (s : RerouteSettings) (r : Rerouted) (new old : Measure) → IsRerouted d given missing s r
    → IsMeasureOf d None r.trees new → IsMeasureOf d None given old → missing ≡ [] → IsNoWorse (totals_in_measure new) (totals_in_measure old)
measures_no_worse d given missing s r new old is of_new of_old none =
    let old_over = overflow d.grid (load d.grid d.nets given) in
    let old_wire = wirelength given in
    subst (λ x. IsNoWorse (totals_in_measure new) (record { overflow = old.overflow; wirelength = x })) (sym of_old.of_wirelength)
    (subst (λ x. IsNoWorse (totals_in_measure new) (record { overflow = x; wirelength = old_wire })) (sym of_old.of_overflow)
    (subst (λ x. IsNoWorse (record { overflow = new.overflow; wirelength = x }) (record { overflow = old_over; wirelength = old_wire })) (is.wirelength ∙ sym of_new.of_wirelength)
    (subst (λ x. IsNoWorse (record { overflow = x; wirelength = r.wirelength }) (record { overflow = old_over; wirelength = old_wire })) (is.overflow ∙ sym of_new.of_overflow) (is.no_worse none))))

pub routes_lack_none : (d : Design) (blocks : List Block) (given : List (List Piece)) (has : List Bool) (missing : List ℕ) → AreBlockSets d blocks given has missing → AreRoutes d blocks → missing ≡ []
routes_lack_none d blocks given has missing are routes = none_missing d blocks missing are.lacking (none_behind d (all_block_objections blocks) (map (missing_net blocks) d.nets) routes)
