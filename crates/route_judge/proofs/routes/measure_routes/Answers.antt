use Rattle.std.proofs.Common.{◌≡◌, ◌≤◌, ◌*◌, ℕ, List, length, slice_index, ◌∙◌, ap, sym, subst}
use Rattle.grid_base.specs.Numbers.{vertices}
use Rattle.tree_set.specs.Limits.{max_routing_load}
use Rattle.tree_set.specs.Loads.{load}
use Rattle.route_judge.proofs.RunningSums.{AreFinished, finished_loads, finished_limit}
use Rattle.route_judge.proofs.routes.measure_routes.Goals as goal

pub measure_of_loads-requires-clause-table : goal.measure_of_loads-requires-clause-table
measure_of_loads-requires-clause-table g c =
    ap (length {A = ℕ}) c.as_slice.ensures.value ∙ c.finish-loads.ensures.long ∙ ap (λ s. 2 * vertices s) c.in_ok-sums.ensures.sums.sums_of.sized

pub measure_of_loads-requires-clause-room : goal.measure_of_loads-requires-clause-room
measure_of_loads-requires-clause-room g c =
    let finished : AreFinished c.in_ok-sums.sums c.finish-loads.result.items = record { long = c.finish-loads.ensures.long; each = c.finish-loads.ensures.loads } in
    subst (λ (xs : List ℕ). (e : ℕ) → slice_index xs e ≤ max_routing_load) (sym c.as_slice.ensures.value)
    (finished_limit c.args.design.now c.args.grounds.now (g.B.Blocks.list c.args.blocks) c.in_ok-sums.sums c.in_ok-sums.ensures.sums c.finish-loads.result.items finished)

pub returns-clause-measured : goal.returns-clause-measured
returns-clause-measured g c =
    let d = c.args.design.now in
    let of = c.in_ok-sums.ensures.sums in
    let finished : AreFinished c.in_ok-sums.sums c.finish-loads.result.items = record { long = c.finish-loads.ensures.long; each = c.finish-loads.ensures.loads } in
    let loaded = subst (λ (xs : List ℕ). (e : ℕ) → slice_index xs e ≡ load d.grid d.nets of.trees e) (sym c.as_slice.ensures.value)
    (finished_loads d c.args.grounds.now (g.B.Blocks.list c.args.blocks) c.in_ok-sums.sums of c.finish-loads.result.items finished) in
    record {
      trees = of.trees;
      sets = of.sets;
      joining = of.joining;
      measure = record {
        of_overflow = c.measure_of_loads.ensures.overflow (load d.grid d.nets of.trees) loaded;
        of_wirelength = c.measure_of_loads.ensures.wirelength ∙ of.sums_of.long;
        of_peak = c.measure_of_loads.ensures.peak (load d.grid d.nets of.trees) loaded;
      };
      beyond_ground = of.sums_of.outside;
    }
