use Rattle.std.proofs.Common.{◌^◌, [], ◌∷◌, All, sym, ◌∙◌, subst, arith}
use Rattle.std.proofs.lemmas.List.Elements.{All-nil, All-cons}
use Rattle.grid_base.specs.declared.size.Size.{Size}
use Rattle.grid_base.specs.declared.vertex.Vertex.{Vertex}
use Rattle.grid_base.specs.Numbers.{IsVertex}
use Rattle.label_search.specs.Founds.{AreFoundFirst}
use Rattle.label_search.specs.Rows.{number_in}
use Rattle.label_search.specs.Searches.{IsReached}
use Rattle.label_search.specs.Stamped.{far}
use Rattle.label_search.proofs.Finding.{found_vertex, still_found}
use Rattle.label_search.proofs.Starts.{sources_settled}
use Rattle.shortest_paths.specs.Nearest.{IsGoal, IsFoundGoal, NoneIsNearer, IsNearestDistance, IsLeastToGoal}
use Rattle.shortest_paths.proofs.Distances.{fallen_reached}
use Rattle.shortest_paths.proofs.NearestGoals.{nearer_of, goal_found, found_goal, nearest_goal, none_joined}
use Rattle.shortest_paths.proofs.labels.Labels.distance_to_nearest.Goals.{After-next_goal}
use Rattle.shortest_paths.proofs.labels.Labels.distance_to_nearest.Goals as goal

pub start_each-requires-clause-sources : goal.start_each-requires-clause-sources
start_each-requires-clause-sources g c =
    subst (λ (x : Size). All (λ (v : Vertex). IsVertex x v.0) (c.args.source ∷ [])) (sym (c.begin-count.ensures.size ∙ c.requires.size))
    (All-cons (λ (v : Vertex). IsVertex (g.W.Weights.size c.args.weights.now) v.0) c.args.source [] c.requires.source (All-nil _))

pub next_goal-requires-clause-settled : goal.next_goal-requires-clause-settled
next_goal-requires-clause-settled g c =
    let w = c.args.weights.now in
    sources_settled (g.W.Weights.size w) (g.W.Weights.pieces w) (λ _. 0) (2 ^ 62) _ c.start_each.new.row c.start_each.ensures.started

pub next_goal-requires-clause-waits : goal.next_goal-requires-clause-waits
next_goal-requires-clause-waits g c = λ v goal has. c.start_each.ensures.started.waits v has

pub next_goal-requires-clause-source : goal.next_goal-requires-clause-source
next_goal-requires-clause-source g c = c.start_each.ensures.zero 0 c.args.source (omega arith)

pub next_goal-requires-clause-count : goal.next_goal-requires-clause-count
next_goal-requires-clause-count g c = (still_found c.args.goals.now c.begin-count.result c.begin-count.new.self.row.found c.start_each.new.row.found c.begin-count.ensures.first c.start_each.ensures.found).room

-- the goals were found first
found_first : (g : _) (c : After-next_goal g) → AreFoundFirst c.args.goals.now c.begin-count.result c.next_goal.new.row.found
found_first g c =
    let goals = c.args.goals.now in
    let count = c.begin-count.result in
    let begun = c.start_each.new.row.found in
    still_found goals count begun c.next_goal.new.row.found
    (still_found goals count c.begin-count.new.self.row.found begun c.begin-count.ensures.first c.start_each.ensures.found) c.next_goal.ensures.fell.found

pub number-requires : goal.number-requires
number-requires g c =
    let first = found_first g (goal.at.number-requires g c).After-next_goal in
    found_vertex c.next_goal.new.row.found c.in_ok-goal.goal.0 (omega (arith, c.in_ok-goal.ensures.goal.0, first.room))

pub returns-in_err-goal-clause-nearest : goal.returns-in_err-goal-clause-nearest
returns-in_err-goal-clause-nearest g c =
    let w = c.args.weights.now in
    let s = g.W.Weights.size w in
    let pieces = g.W.Weights.pieces w in
    let goals = c.args.goals.now in
    let source = c.args.source.0 in
    let count = c.begin-count.result in
    let new = c.next_goal.new.row in
    let first = found_first g (goal.at.returns-in_err-goal-clause-nearest g c).After-next_goal in
    let near : NoneIsNearer s pieces source (IsGoal goals source) far = nearer_of s pieces source (IsFoundGoal new count source) (IsGoal goals source) far far (λ v is. goal_found goals count new source v first is) (omega arith) (c.next_goal.ensures.none c.in_err-goal.was) in
    subst (IsNearestDistance s pieces goals source) (sym c.from_residual.ensures) (none_joined s pieces goals source (g.met.W.Weights.small w) near)

pub returns-clause-nearest : goal.returns-clause-nearest
returns-clause-nearest g c =
    let w = c.args.weights.now in
    let s = g.W.Weights.size w in
    let pieces = g.W.Weights.pieces w in
    let goals = c.args.goals.now in
    let source = c.args.source.0 in
    let count = c.begin-count.result in
    let new = c.next_goal.new.row in
    let first = found_first g (goal.at.returns-clause-nearest g c).After-next_goal in
    let begun = c.start_each.ensures in
    let reached : IsReached s pieces source (number_in new) = fallen_reached s pieces c.args.source c.start_each.new.row new (begun.size ∙ c.begin-count.ensures.size ∙ c.requires.size) c.requires.source begun.zero begun.started c.next_goal.ensures.fell in
    let v = c.in_ok-goal.goal.0 in
    let near : NoneIsNearer s pieces source (IsGoal goals source) (number_in new v) =
    nearer_of s pieces source (IsFoundGoal new count source) (IsGoal goals source) (number_in new v) (number_in new v) (λ u is. goal_found goals count new source u first is) (omega arith) c.in_ok-goal.ensures.nearest in
    subst (IsLeastToGoal s pieces goals source) (sym c.number.ensures.number)
    (nearest_goal s pieces goals source v (number_in new) reached (found_goal goals count new source v first c.in_ok-goal.ensures.goal) c.in_ok-goal.ensures.number near)
