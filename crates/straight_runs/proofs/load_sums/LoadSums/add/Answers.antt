use Rattle.std.proofs.Common.{◌≡◌, ◌∙◌, ◌+◌, ◌-◌, ◌%◌, ◌^◌, ◌<◌, ◌≤◌, ℕ, List, Some, length, slice_index, slice_set, ap, sym, subst, arith}
use Rattle.std.proofs.lemmas.List.{get_or_default, length-set}
use Rattle.grid_base.specs.declared.edge.Edge.{Edge as EdgeNumber}
use Rattle.grid_base.specs.Numbers.{edge_along, vertices}
use Rattle.straight_runs.specs.Differences.{AreDifferences}
use Rattle.straight_runs.specs.Lines.{axis_of}
use Rattle.straight_runs.specs.LoadSums.{run_load}
use Rattle.straight_runs.specs.Runs.{run_end}
use Rattle.straight_runs.proofs.Added.{edge_below, lowered, raised, with_edges, with_vias}
use Rattle.straight_runs.proofs.Lines.{run_begins, run_ends}
use Rattle.straight_runs.proofs.load_sums.LoadSums.add.Goals as goal

pub returns-in_default-clause-added : goal.returns-in_default-clause-added
returns-in_default-clause-added c load are =
    with_vias c.args.self.now.size load c.args.self.now.differences.items c.args.run c.args.demand (sym c.axis.ensures ∙ c.in_default.is) are

same_tables : (items : List ℕ) (x b y e p q d demand : ℕ) → x ≡ b → y ≡ e → d ≡ demand → p ≡ slice_index items b → q ≡ slice_index (slice_set items x ((p + d) % 2 ^ 64)) y → slice_set (slice_set items x ((p + d) % 2 ^ 64)) y ((q + (2 ^ 64 - d)) % 2 ^ 64) ≡ lowered (raised items b demand) e demand
same_tables items x b y e p q d demand at_begin at_end same first second = cc

pub returns-clause-added : goal.returns-clause-added
returns-clause-added c load are =
    let sums = c.args.self.now in
    let s = sums.size in
    let a = c.in-Some.axis in
    let items = sums.differences.items in
    let is : axis_of c.args.run.direction ≡ Some a = sym c.axis.ensures ∙ c.in-Some.is in
    let begin : c.along-begin.result.0 ≡ (edge_along a c.args.run.first.0).0 = ap (λ (x : EdgeNumber). x.0) c.along-begin.ensures in
    let end : c.along-end.result.0 ≡ (edge_along a (run_end s c.args.run)).0 = ap (λ (x : EdgeNumber). x.0) c.along-end.ensures ∙ ap (λ v. (edge_along a v).0) c.end.ensures.value in
    let begins_inside : c.along-begin.result.0 < length items = omega (arith, begin, sums.long, edge_below a c.args.run.first.0 (vertices s) (run_begins s c.args.run c.requires)) in
    let ends_inside : c.along-end.result.0 < length items = omega (arith, end, sums.long, edge_below a (run_end s c.args.run) (vertices s) (run_ends s c.args.run c.requires)) in
    let first : c.index.result.now ≡ slice_index items (edge_along a c.args.run.first.0).0 = c.index.ensures ∙ get_or_default items c.along-begin.result.0 c.index.result.now 0 begins_inside ∙ ap (slice_index items) begin in
    let middle = slice_set items c.along-begin.result.0 ((c.index.result.now + c.from-demand.result) % 2 ^ 64) in
    let second : c.index-2.result.now ≡ slice_index middle c.along-end.result.0 =
    c.index-2.ensures ∙ get_or_default middle c.along-end.result.0 c.index-2.result.now 0 (omega (arith, ends_inside, length-set items c.along-begin.result.0 ((c.index.result.now + c.from-demand.result) % 2 ^ 64))) in
    let same = same_tables items c.along-begin.result.0 (edge_along a c.args.run.first.0).0 c.along-end.result.0 (edge_along a (run_end s c.args.run)).0 c.index.result.now c.index-2.result.now c.from-demand.result c.args.demand
    begin end c.from-demand.ensures first second in
    let small : c.args.demand ≤ 2 ^ 64 = omega (arith, c.ranges.demand.fits) in
    subst (λ table. AreDifferences s (λ e. load e + run_load s c.args.run c.args.demand e) table) (sym same)
    (with_edges s load items c.args.run a c.args.demand is c.requires sums.long small are)
