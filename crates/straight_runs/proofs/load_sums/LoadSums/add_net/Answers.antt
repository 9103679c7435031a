use Rattle.std.proofs.Common.{◌≡◌, ◌∙◌, ◌+◌, ◌<◌, Some, None, get_or, length, ap, sym, subst}
use Rattle.std.proofs.lemmas.List.{get_or_default}
use Rattle.grid_base.specs.declared.edge.Edge.{Edge as EdgeNumber}
use Rattle.grid_base.specs.Numbers.{edge_along}
use Rattle.grid_graph.specs.Grids.{demand_on, size_of}
use Rattle.straight_runs.specs.declared.direction.Direction.TheVariants.{East}
use Rattle.straight_runs.specs.declared.load_sums.LoadSums.{LoadSums}
use Rattle.straight_runs.specs.declared.run.Run.{Run}
use Rattle.straight_runs.specs.Lines.{axis_of}
use Rattle.straight_runs.specs.LoadSums.{AreLoadSums}
use Rattle.straight_runs.proofs.NetLoads.{all_added, sized_edges, sized_vias, so_far}
use Rattle.straight_runs.proofs.load_sums.LoadSums.add_net.Goals as goal
use Rattle.straight_runs.proofs.load_sums.LoadSums.add_net.Goals.{in-Some, in_default}

abbrev no_run : Run
no_run = record { direction = East; first = record { 0 = 0 }; count = 0 }

pub loop-run-preserved : goal.loop-run-preserved
loop-run-preserved c =
    let g = c.args.grid.now in
    let runs = c.args.runs.now in
    let i = c.loop-run.run-index in
    let run = get_or runs i no_run in
    let within : i < length runs = c.loop-run-test.true in
    let at : run ≡ get_or runs i run = get_or_default runs i no_run run within in
    let is_run = c.requires.runs i no_run within in
    let sized : c.loop-run.self.size ≡ size_of g = c.loop-run.invariant.same ∙ c.requires.size in
    elim c.match-axis.branch [
      | in-Some w ↦
          let now : w.add.new.self.size ≡ size_of g = w.add.ensures.size ∙ sized in
          let is : axis_of run.direction ≡ Some w.in-Some.axis = sym c.axis.ensures ∙ w.in-Some.is in
          let uses : w.demand-demand.result ≡ demand_on g c.args.width (edge_along w.in-Some.axis run.first.0).0 =
          w.demand-demand.ensures.value ∙ ap (λ (x : EdgeNumber). demand_on g c.args.width x.0) w.along.ensures in
          record {
            same = ap (λ (sums : LoadSums). sums.size) w.self-is ∙ now ∙ sym c.requires.size;
            added = λ load are. subst (λ (sums : LoadSums). AreLoadSums (so_far g c.args.width runs (i + 1) load) sums) (sym w.self-is)
                (sized_edges c.loop-run.self.size w.add.new.self.size g c.args.width runs i run w.in-Some.axis w.demand-demand.result load w.add.new.self.differences.items
                sized now c.requires.distinct within at is_run is uses
                (w.add.ensures.added (so_far g c.args.width runs i load) (c.loop-run.invariant.added load are)));
          }
      | in_default w ↦
          let is : axis_of run.direction ≡ None = sym c.axis.ensures ∙ w.in_default.is in
          record {
            same = ap (λ (sums : LoadSums). sums.size) w.self-is ∙ c.loop-run.invariant.same;
            added = λ load are. subst (λ (sums : LoadSums). AreLoadSums (so_far g c.args.width runs (i + 1) load) sums) (sym w.self-is)
                (sized_vias c.loop-run.self.size g c.args.width runs i run load c.loop-run.self.differences.items sized c.requires.distinct within at is
                (c.loop-run.invariant.added load are));
          }
    ]

pub returns-clause-added : goal.returns-clause-added
returns-clause-added c load are =
    all_added c.loop-run.self.size c.args.grid.now c.args.width c.args.runs.now c.loop-run.run-index load c.loop-run.self.differences.items c.loop-run-test.false (c.loop-run.invariant.added load are)
