-- What is true of rerouted sets and of their report is true of new routes.
use Rattle.std.proofs.Common.{ℕ, All, Bool, List}
use Rattle.grid_base.specs.declared.piece.Piece.{Piece}
use Rattle.grid_graph.specs.declared.design.Design.{Design}
use Rattle.grid_graph.specs.declared.ground.Ground.{Ground}
use Rattle.judge_laws.proofs.WrittenBlocks.{AreRoutedSets, written_are_routes, written_sets}
use Rattle.negotiation.specs.declared.settings.RerouteSettings.{RerouteSettings}
use Rattle.negotiation.specs.Rerouted.{IsRerouted}
use Rattle.route_judge.specs.BlockSets.{AreBlockSets}
use Rattle.route_text.specs.declared.block.Block.{Block}
use Rattle.tree_set.specs.Order.{IsRising}
use Rattle.reroute_cli.specs.declared.new_routes.NewRoutes.{NewRoutes}
use Rattle.reroute_cli.specs.NewRoutes.{AreNewRoutes, IsRerouteReport}
use Rattle.reroute_cli.proofs.GivenSets.{measures_no_worse, rerouted_join, routes_lack_none}

pub are_new_routes : (d : Design) (over : List Ground) (blocks : List Block) (s : RerouteSettings) (new : NewRoutes) (given : List (List Piece)) (has : List Bool) (missing : List ℕ)
    → AreBlockSets d blocks given has missing → IsRerouted d given missing s new.rerouted → All IsRising new.rerouted.trees → IsRerouteReport d over given has missing new
    → AreNewRoutes d over blocks s new
are_new_routes d over blocks s new given has missing are is rising reported =
    let sets : AreRoutedSets d new.rerouted.trees = record { rising = rising; joining = rerouted_join d given missing s new.rerouted is } in
    record {
      given = given;
      has = has;
      missing = missing;
      are_given = are;
      rerouted = is;
      no_worse = λ routes. measures_no_worse d given missing s new.rerouted new.report.measure new.report.given is reported.measure reported.of_given
          (routes_lack_none d blocks given has missing are routes);
      accepted = written_are_routes d new.rerouted.trees sets;
      read_again = written_sets d new.rerouted.trees sets;
      reported = reported;
    }
