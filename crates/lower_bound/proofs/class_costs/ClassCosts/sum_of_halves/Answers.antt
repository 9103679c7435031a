use Rattle.std.proofs.Common.{arith}
use Rattle.lower_bound.proofs.ClassBounds.{stand_for}
use Rattle.lower_bound.proofs.class_costs.ClassCosts.sum_of_halves.Goals as goal

pub sum_of_kept_halves-requires-clause-vertices : goal.sum_of_kept_halves-requires-clause-vertices
sum_of_kept_halves-requires-clause-vertices c =
    (stand_for c.args.self.now c.requires.current c.args.terminals.now c.requires.vertices c.in_ok-tiles.tiles.items _
    c.in_ok-tiles.ensures c.as_slice-then-are_mostly_joined.ensures.value).vertices

pub sum_of_kept_halves-requires-clause-joined : goal.sum_of_kept_halves-requires-clause-joined
sum_of_kept_halves-requires-clause-joined c =
    (stand_for c.args.self.now c.requires.current c.args.terminals.now c.requires.vertices c.in_ok-tiles.tiles.items _
    c.in_ok-tiles.ensures c.as_slice-then-are_mostly_joined.ensures.value).joined c.requires.joined

pub sum_of_kept_halves-requires-clause-two : goal.sum_of_kept_halves-requires-clause-two
sum_of_kept_halves-requires-clause-two c =
    omega (
      arith,
      (stand_for c.args.self.now c.requires.current c.args.terminals.now c.requires.vertices c.in_ok-tiles.tiles.items _
          c.in_ok-tiles.ensures c.as_slice-then-are_mostly_joined.ensures.value).long,
      c.requires.two,
    )

pub returns-then-are_mostly_joined-clause-sum : goal.returns-then-are_mostly_joined-clause-sum
returns-then-are_mostly_joined-clause-sum c =
    (stand_for c.args.self.now c.requires.current c.args.terminals.now c.requires.vertices c.in_ok-tiles.tiles.items _
    c.in_ok-tiles.ensures c.as_slice-then-are_mostly_joined.ensures.value).sum c.sum_of_kept_halves.result c.sum_of_kept_halves.ensures.sum

pub sum_of_halves-requires-clause-vertices : goal.sum_of_halves-requires-clause-vertices
sum_of_halves-requires-clause-vertices c =
    (stand_for c.args.self.now c.requires.current c.args.terminals.now c.requires.vertices c.in_ok-tiles.tiles.items _
    c.in_ok-tiles.ensures c.as_slice-2.ensures.value).vertices

pub sum_of_halves-requires-clause-joined : goal.sum_of_halves-requires-clause-joined
sum_of_halves-requires-clause-joined c =
    (stand_for c.args.self.now c.requires.current c.args.terminals.now c.requires.vertices c.in_ok-tiles.tiles.items _
    c.in_ok-tiles.ensures c.as_slice-2.ensures.value).joined c.requires.joined

pub sum_of_halves-requires-clause-two : goal.sum_of_halves-requires-clause-two
sum_of_halves-requires-clause-two c =
    omega (
      arith,
      (stand_for c.args.self.now c.requires.current c.args.terminals.now c.requires.vertices c.in_ok-tiles.tiles.items _
          c.in_ok-tiles.ensures c.as_slice-2.ensures.value).long,
      c.requires.two,
    )

pub returns-clause-sum : goal.returns-clause-sum
returns-clause-sum c =
    (stand_for c.args.self.now c.requires.current c.args.terminals.now c.requires.vertices c.in_ok-tiles.tiles.items _
    c.in_ok-tiles.ensures c.as_slice-2.ensures.value).sum c.sum_of_halves.result c.sum_of_halves.ensures.sum
