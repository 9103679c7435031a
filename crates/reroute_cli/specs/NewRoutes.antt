-- What is true of new routes: how they stand to the given ones, that they are accepted, and what is reported of them.
use Rattle.std.specs.Prelude.{ℕ, ◌≡◌, ◌≢◌, ◌↔◌, Bool, IsTrue, List, None, length}
use Rattle.std.specs.List.{count_by}
use Rattle.grid_base.specs.declared.piece.Piece.{Piece}
use Rattle.grid_base.specs.Lists.{At}
use Rattle.grid_graph.specs.declared.design.Design.{Design}
use Rattle.grid_graph.specs.declared.ground.Ground.{Ground}
use Rattle.negotiation.specs.declared.settings.RerouteSettings.{RerouteSettings}
use Rattle.negotiation.specs.Rerouted.{IsRerouted}
use Rattle.route_judge.specs.BlockSets.{AreBlockSets}
use Rattle.route_judge.specs.Counts.{forced_count}
use Rattle.route_judge.specs.Measured.{IsMeasureOf}
use Rattle.route_judge.specs.NetSets.{AreSetsOf}
use Rattle.route_judge.specs.Orders.{AreRoutes}
use Rattle.route_text.specs.declared.block.Block.{Block}
use Rattle.route_text.specs.Written.{written_blocks}
use Rattle.routing_state.specs.declared.totals.Totals.{Totals}
use Rattle.routing_state.specs.Totals.{IsNoWorse}
use Rattle.tree_set.specs.declared.measure.Measure.{Measure}
use Rattle.reroute_cli.specs.declared.new_routes.NewRoutes.{NewRoutes}

-- ---- the report

-- which nets had a block and got another set, by one mark per net, where `has` says by a mark which nets had one
pub record HaveOtherSets (has : List Bool) (given trees : List (List Piece)) (changed : List Bool) : Type 0 where
  pub long : length changed ≡ length trees
  pub each : (k : ℕ) (had is : Bool) (old new : List Piece) → At has k had → At given k old → At trees k new → At changed k is
      → IsTrue is ↔ (IsTrue had × (old ≢ new))

-- how many of the marks are set
abbrev pub marked_count : List Bool → ℕ
marked_count marks = count_by (λ mark. mark) marks

-- the numbers of the report: how many nets there are, how many are forced, how many of two or more terminals had no block, and how
-- many with a block got another set; the rounds; the measure of the new sets, and that of the given ones
pub record IsRerouteReport (d : Design) (over : List Ground) (given : List (List Piece)) (has : List Bool) (missing : List ℕ) (new : NewRoutes) : Type 0 where
  pub nets : new.report.nets ≡ length d.nets
  pub forced : new.report.forced ≡ forced_count over
  pub routed : new.report.routed ≡ length missing
  pub rerouted : (changed : List Bool) × HaveOtherSets has given new.rerouted.trees changed × (new.report.rerouted ≡ marked_count changed)
  pub rounds : new.report.rounds ≡ new.rerouted.rounds
  pub measure : IsMeasureOf d None new.rerouted.trees new.report.measure
  pub of_given : IsMeasureOf d None given new.report.given

-- ---- all of it

-- overflow and wirelength of a measure
abbrev pub totals_in_measure : Measure → Totals
totals_in_measure m = record { overflow = m.overflow; wirelength = m.wirelength }

-- the new routes are true of a design with its nets' grounds, of blocks that may lack nets, and of settings
pub record AreNewRoutes (d : Design) (over : List Ground) (blocks : List Block) (s : RerouteSettings) (new : NewRoutes) : Type 0 where
  -- the sets that the blocks give the nets, which nets have one, and which lack one
  pub given : List (List Piece)
  pub has : List Bool
  pub missing : List ℕ
  pub are_given : AreBlockSets d blocks given has missing
  -- each new set joins its net's terminals without a wall; it is the given one, or lies in its net's ground, as it does where the
  -- net lacked a block
  pub rerouted : IsRerouted d given missing s new.rerouted
  -- where the blocks are routes, which lack no net, overflow and wirelength are at most theirs, overflow first
  pub no_worse : AreRoutes d blocks → IsNoWorse (totals_in_measure new.report.measure) (totals_in_measure new.report.given)
  -- the blocks that are written for them are routes, and give the nets these very sets
  pub accepted : AreRoutes d (written_blocks d.grid d.nets new.rerouted.trees)
  pub read_again : AreSetsOf d (written_blocks d.grid d.nets new.rerouted.trees) new.rerouted.trees
  pub reported : IsRerouteReport d over given has missing new
