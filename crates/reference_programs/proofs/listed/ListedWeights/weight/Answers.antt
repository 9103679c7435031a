use Rattle.grid_graph.specs.Weighed.{Weighs}
use Rattle.grid_graph.proofs.Weighed.{one_weight}
use Rattle.reference_programs.proofs.listed.ListedWeights.weight.Goals as goal

pub returns-in-Some-clause-value : goal.returns-in-Some-clause-value
returns-in-Some-clause-value c =
    let s = c.args.self.now in
    let found : Weighs s.pieces.items c.args.p c.in-Some.weight = rw c.as_slice.ensures.value at c.in-Some.ensures.some in
    λ weight weighs. one_weight s.pieces.items c.args.p c.in-Some.weight weight s.different found weighs

pub returns-in-Some-clause-limit : goal.returns-in-Some-clause-limit
returns-in-Some-clause-limit c =
    let s = c.args.self.now in
    let found : Weighs s.pieces.items c.args.p c.in-Some.weight = rw c.as_slice.ensures.value at c.in-Some.ensures.some in
    s.light c.args.p c.in-Some.weight found
