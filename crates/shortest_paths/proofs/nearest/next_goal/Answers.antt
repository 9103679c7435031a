use Rattle.std.proofs.Common.{◌≡◌, ◌≢◌, ◌<◌, ◌^◌, false, sym, ◌∙◌, subst, inl, inr, ⊎_elim, arith}
use Rattle.std.specs.Bool.{IsTrue}
use Rattle.label_search.specs.declared.found.Found.{Found}
use Rattle.label_search.specs.declared.row.Row.{Row}
use Rattle.label_search.specs.Founds.{FindsMore, index_in}
use Rattle.shortest_paths.specs.Nearest.{IsFoundGoal}
use Rattle.label_search.specs.Rows.{number_in, Waits}
use Rattle.label_search.specs.Runs.{FallsFrom}
use Rattle.label_search.proofs.Finding.{FindsMore-refl}
use Rattle.shortest_paths.proofs.NearestGoals.{goal_before, nearer_of, taken_nearest, idle_nearest}
use Rattle.label_search.proofs.Relaxing.{settled_on, FallsFrom-same, FallsFrom-trans}
use Rattle.shortest_paths.proofs.nearest.next_goal.Goals as goal

-- a vertex was taken out and nothing else changed
same_found : (old new : Row) → new.found ≡ old.found → FindsMore old.found new.found
same_found old new same = subst (λ (f : Found). FindsMore old.found f) (sym same) (FindsMore-refl old.found)

pub returns-then-is_goal-clause-fell : goal.returns-then-is_goal-clause-fell
returns-then-is_goal-clause-fell g c =
    let s = g.W.Weights.size c.args.weights.now in
    let pieces = g.W.Weights.pieces c.args.weights.now in
    let old = c.loop-bound.row in
    let mid = c.take-at.new.self in
    FallsFrom-trans s pieces c.args.row.now old mid c.loop-bound.invariant.fell
    (FallsFrom-same s pieces old mid (same_found old mid c.take-at.ensures.found) c.take-at.ensures.numbers)

pub returns-then-is_goal-clause-number : goal.returns-then-is_goal-clause-number
returns-then-is_goal-clause-number g c =
    let least = c.take-at.ensures.least in
    let v = c.take-at.result.vertex.0 in
    omega (arith, c.loop-bound.invariant.search.numbered v least.key least.waits, c.take-at.ensures.numbers v)

pub returns-then-is_goal-clause-nearest : goal.returns-then-is_goal-clause-nearest
returns-then-is_goal-clause-nearest g c =
    let s = g.W.Weights.size c.args.weights.now in
    let pieces = g.W.Weights.pieces c.args.weights.now in
    let old = c.loop-bound.row in
    let mid = c.take-at.new.self in
    let before = c.loop-bound.invariant in
    let count = c.args.count in
    let source = c.args.source.0 in
    let at = c.take-at.result.vertex.0 in
    let start : number_in old source ≡ 0 = omega (arith, c.requires.source, before.fell.falls source) in
    let is = taken_nearest s pieces (2 ^ 62) old count source at before.search before.settled before.waits start
    c.take-at.ensures.least (omega arith) in
    nearer_of s pieces source (IsFoundGoal old count source) (IsFoundGoal mid count source) (number_in old at)
    (number_in mid at)
    (λ v goal. goal_before old mid count source v (same_found old mid c.take-at.ensures.found)
    (omega (arith, c.requires.count, before.fell.found.more)) goal)
    (omega (arith, c.take-at.ensures.numbers at)) is

pub relax-requires-clause-search : goal.relax-requires-clause-search
relax-requires-clause-search g c =
    let before = c.loop-bound.invariant.search in
    let taken = c.take-at.ensures in
    record {
      keys = λ v key held. omega (arith, before.keys v key (taken.only v key held).1, taken.numbers v);
      numbered = λ v key held. omega (arith, before.numbered v key (taken.only v key held).1, taken.numbers v);
      within = λ v has. omega (arith, before.within v (omega (arith, has, taken.numbers v)), taken.numbers v);
    }

pub relax-requires-clause-number : goal.relax-requires-clause-number
relax-requires-clause-number g c =
    let least = c.take-at.ensures.least in
    let v = c.take-at.result.vertex.0 in
    omega (arith, c.loop-bound.invariant.search.numbered v least.key least.waits, c.take-at.ensures.numbers v)

pub loop-bound-preserved : goal.loop-bound-preserved
loop-bound-preserved g c =
    let s = g.W.Weights.size c.args.weights.now in
    let pieces = g.W.Weights.pieces c.args.weights.now in
    let old = c.loop-bound.row in
    let mid = c.take-at.new.self in
    let new = c.relax.new.row in
    let before = c.loop-bound.invariant in
    let after = c.relax.ensures in
    let taken = c.take-at.ensures in
    let count = c.args.count in
    let source = c.args.source.0 in
    let at = c.take-at.result.vertex.0 in
    let fell : FallsFrom s pieces old new = FallsFrom-trans s pieces old mid new
    (FallsFrom-same s pieces old mid (same_found old mid taken.found) taken.numbers) after.goes_on.fell in
    record {
      search = after.search;
      settled = settled_on s pieces (λ _. 0) (2 ^ 62) (number_in old) (number_in new) (Waits old) (Waits mid)
          (Waits new) at before.settled
          (λ v other waits. (waits.0, taken.kept v waits.0 other waits.1))
          (λ v. omega (arith, after.goes_on.fell.falls v, taken.numbers v))
          (λ v. ⊎_elim (λ same. inl (same ∙ taken.numbers v)) (λ waits. inr waits) (after.goes_on.changed v))
          after.goes_on.kept after.relaxed;
      fell = FallsFrom-trans s pieces c.args.row.now old new before.fell fell;
      waits = λ v goal has. ⊎_elim
          (λ same.
          let was = goal_before old new count source v fell.found
          (omega (arith, c.requires.count, before.fell.found.more)) goal in
          let waits = before.waits v was (omega (arith, has, same, taken.numbers v)) in
          let on_mid : IsFoundGoal mid count source v =
          (subst (λ (f : Found). index_in f v < count) (sym taken.found) was.0, was.1) in
          let other : v ≢ at = λ here. let yes : IsTrue false =
          subst IsTrue c.if-is_goal.false (c.is_goal.ensures.1 (subst (IsFoundGoal mid count source) here on_mid)) in cc in
          after.goes_on.kept v (waits.0, taken.kept v waits.0 other waits.1))
          (λ waits. waits)
          (after.goes_on.changed v);
    }

pub returns-clause-none : goal.returns-clause-none
returns-clause-none g c none =
    let s = g.W.Weights.size c.args.weights.now in
    let pieces = g.W.Weights.pieces c.args.weights.now in
    let before = c.loop-bound.invariant in
    let source = c.args.source.0 in
    idle_nearest s pieces (2 ^ 62) c.loop-bound.row c.args.count source before.search before.settled before.waits
    (omega (arith, c.requires.source, before.fell.falls source))
    (c.is_waiting.ensures.none c.loop-bound-test.false) (omega arith)
