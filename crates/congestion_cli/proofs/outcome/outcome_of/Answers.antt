use Rattle.std.proofs.Common.{◌≡◌, List, length, None, Some, ◌∙◌, ap, subst}
use Rattle.command_words.specs.MapLine.{map_task_of}
use Rattle.congestion_cells.specs.declared.shown_layers.ShownLayers.{ShownLayers}
use Rattle.grid_base.specs.declared.size.Size.{Size}
use Rattle.grid_graph.specs.Grids.{size_of}
use Rattle.route_judge.proofs.Found.{found_before, found_behind}
use Rattle.route_judge.specs.Counts.{forced_count}
use Rattle.route_judge.specs.Measured.{AreMeasured}
use Rattle.route_judge.specs.NetLoads.{AreLoadsOf}
use Rattle.route_judge.specs.Objections.{Finds}
use Rattle.route_judge.specs.Orders.{route_objections}
use Rattle.route_text.specs.declared.block.Block.{Block}
use Rattle.congestion_cli.specs.MapHeadline.{HasLayer, IsDrawingOf, IsMissing, cut_objections, shown_of}
use Rattle.congestion_cli.proofs.outcome.outcome_of.Goals as goal

pub returns-in-No-clause-outcome : goal.returns-in-No-clause-outcome
returns-in-No-clause-outcome c =
    let d = c.args.input.routed.grounded.design in
    let blocks = c.args.input.routed.blocks in
    let first : Finds d (route_objections d blocks) (Some c.in-No.reason) = rw c.in-No.is at c.in_ok-reason.ensures.first in
    found_before d (route_objections d blocks) (cut_objections d c.args.input.cert) c.in-No.reason first

pub returns-in-Some-clause-outcome : goal.returns-in-Some-clause-outcome
returns-in-Some-clause-outcome c =
    let d = c.args.input.routed.grounded.design in
    let blocks = c.args.input.routed.blocks in
    let none : Finds d (route_objections d blocks) None = rw c.in-Yes.is at c.in_ok-reason.ensures.first in
    found_behind d (route_objections d blocks) (cut_objections d c.args.input.cert) (Some c.in-Some.reason) none c.in-Some.ensures

pub returns-in-Err-clause-outcome : goal.returns-in-Err-clause-outcome
returns-in-Err-clause-outcome c =
    let d = c.args.input.routed.grounded.design in
    let blocks = c.args.input.routed.blocks in
    let none : Finds d (route_objections d blocks) None = rw c.in-Yes.is at c.in_ok-reason.ensures.first in (
      found_behind d (route_objections d blocks) (cut_objections d c.args.input.cert) None none c.in-None.ensures,
      subst (λ (s : Size). IsMissing s c.args.request.now.layer c.in-Err.missing) c.size.ensures c.in-Err.ensures.missing,
    )

pub returns-clause-outcome : goal.returns-clause-outcome
returns-clause-outcome c =
    let routed = c.args.input.routed in
    let d = routed.grounded.design in
    let over = routed.grounded.grounds.items in
    let blocks = routed.blocks in
    let cert = c.args.input.cert in
    let layer = c.args.request.now.layer in
    let loads = c.in_ok-loads-in-Yes.loads.items in
    let none : Finds d (route_objections d blocks) None = rw c.in-Yes.is at c.in_ok-reason.ensures.first in
    let measured : AreMeasured d over blocks None c.in-Yes.measure c.in-Yes.beyond =
    rw c.as_slice-grounds.ensures.value at (rw c.in-Yes.is at c.in_ok-reason.ensures.measured) in
    let shown : c.in-Ok.shown ≡ shown_of (size_of d.grid) layer = c.in-Ok.ensures.shown ∙ ap (λ (s : Size). shown_of s layer) c.size.ensures in (
      found_behind d (route_objections d blocks) (cut_objections d cert) None none c.in-None.ensures,
      subst (λ (s : Size). HasLayer s layer) c.size.ensures c.in-Ok.ensures.there,
      record {
        nets = ap length c.list.ensures.items;
        forced = c.forced_count.ensures ∙ ap forced_count c.as_slice-grounds.ensures.value;
        measured = measured;
      },
      (
        loads,
        c.in_ok-loads-in-Yes.ensures.loads,
        subst (λ (s : ShownLayers). IsDrawingOf d loads s (map_task_of c.args.request.now).form cert c.in-Yes.measure c.in_ok-drawing-in-Yes.drawing) shown c.in_ok-drawing-in-Yes.ensures.drawing,
      ),
    )
