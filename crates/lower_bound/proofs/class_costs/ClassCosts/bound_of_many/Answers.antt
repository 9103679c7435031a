use Rattle.std.proofs.Common.{arith}
use Rattle.grid_base.specs.Walks.{InVertices}
use Rattle.grid_graph.specs.Weighed.{IsAllowed}
use Rattle.grid_graph.specs.Grids.{size_of}
use Rattle.lower_bound.specs.ClassWords.{class_pieces}
use Rattle.lower_bound.specs.Spread.{IsSpread}
use Rattle.lower_bound.proofs.ClassBounds.{kept_joins, kept_sum}
use Rattle.lower_bound.proofs.ManyBounds.{bound_of_many, chosen_vertices, chosen_joined, spread_of_five}
use Rattle.lower_bound.proofs.class_costs.ClassCosts.bound_of_many.Goals as goal

pub least_cost-requires-clause-vertices : goal.least_cost-requires-clause-vertices
least_cost-requires-clause-vertices c =
    let s = size_of c.args.self.now.grid.now in
    let terminals = c.args.terminals.now in
    let chosen = c.choose-chosen.result in
    let spread : IsSpread s terminals chosen = spread_of_five c.size.result s terminals chosen c.size.ensures c.requires.many c.choose-chosen.ensures.long c.choose-chosen.ensures.spread in
    chosen_vertices s terminals chosen spread c.requires.vertices

pub least_cost-requires-clause-joined : goal.least_cost-requires-clause-joined
least_cost-requires-clause-joined c =
    let s = size_of c.args.self.now.grid.now in
    let terminals = c.args.terminals.now in
    let chosen = c.choose-chosen.result in
    let spread : IsSpread s terminals chosen = spread_of_five c.size.result s terminals chosen c.size.ensures c.requires.many c.choose-chosen.ensures.long c.choose-chosen.ensures.spread in
    chosen_joined s (IsAllowed (class_pieces c.args.self.now)) terminals chosen spread c.requires.joined

pub sum_of_halves-requires-clause-joined : goal.sum_of_halves-requires-clause-joined
sum_of_halves-requires-clause-joined c = kept_joins c.args.self.now c.least_cost.new.self (InVertices c.args.terminals.now) c.in_ok-of_chosen.ensures.class c.requires.joined

pub returns-clause-bound : goal.returns-clause-bound
returns-clause-bound c =
    let x = c.args.self.now in
    let s = size_of x.grid.now in
    let pieces = class_pieces x in
    let terminals = c.args.terminals.now in
    let chosen = c.choose-chosen.result in
    let listed = c.requires.current.costs.listed in
    let spread : IsSpread s terminals chosen = spread_of_five c.size.result s terminals chosen c.size.ensures c.requires.many c.choose-chosen.ensures.long c.choose-chosen.ensures.spread in
    let some = c.requires.vertices 0 (record { 0 = 0 }) (omega (arith, c.requires.many)) in
    let sums = kept_sum x c.least_cost.new.self terminals _ c.in_ok-halves.halves c.in_ok-of_chosen.ensures.class c.in_ok-halves.ensures.sum in
    bound_of_many s pieces terminals chosen c.in_ok-of_chosen.of_chosen c.in_ok-halves.halves c.max.result listed.once listed.inside listed.within (omega (arith, c.requires.many)) c.requires.joined (omega (arith, some)) spread c.in_ok-of_chosen.ensures.least sums c.max.ensures
