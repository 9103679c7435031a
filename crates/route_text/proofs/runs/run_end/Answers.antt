use Rattle.std.proofs.Common.{◌+◌, Contains, refl, sym, ◌∙◌, subst, arith}
use Rattle.grid_base.specs.Numbers.{edge_along}
use Rattle.grid_base.specs.Lines.{edge_from, stride}
use Rattle.tree_set.proofs.RunEnds.{run_end-held, run_end-done}
use Rattle.route_text.specs.Standing.{IsBelow}
use Rattle.route_text.proofs.Apart.{below_step, up_to_step, step_vertex}
use Rattle.route_text.proofs.runs.run_end.Goals as goal
use Rattle.route_text.proofs.runs.run_end.Goals.{Start}

-- the set holds the edge that the run begins with
first_held : (c : Start) → Contains c.args.tree.now (edge_from c.args.axis c.args.start.0)
first_held c = (c.args.at, c.requires.within, c.requires.here (edge_from c.args.axis c.args.start.0))

pub overflow_add-end : goal.overflow_add-end
overflow_add-end c =
    let here = (goal.at.overflow_add-end c).Start in
    let s = c.args.size.now in
    omega (arith, c.step-step.ensures, step_vertex s c.args.axis c.args.tree.now c.args.start.0 c.requires.pieces (first_held here), s.within)

pub loop-next-init : goal.loop-next-init
loop-next-init c =
    let here = (goal.at.loop-next-init c).Start in
    let s = c.args.size.now in
    let axis = c.args.axis in
    let v = c.args.start.0 in
    rw c.step-step.ensures
    (record {
      vertex = step_vertex s axis c.args.tree.now v c.requires.pieces (first_held here);
      same_end = sym (run_end-held s axis c.args.tree.now v c.requires.rising (first_held here));
      stride = refl;
      within = c.requires.within;
      below = λ other. subst (IsBelow (edge_along axis (v + stride axis s)).0) (sym (c.requires.here other)) (below_step s axis v);
    })

pub find_behind-requires-clause-below : goal.find_behind-requires-clause-below
find_behind-requires-clause-below c other = rw c.along.ensures (c.loop-next.invariant.below other)

pub overflow_add-end-in-Some : goal.overflow_add-end-in-Some
overflow_add-end-in-Some c =
    let s = c.args.size.now in
    omega (arith, c.loop-next.invariant.stride, step_vertex s c.args.axis c.args.tree.now c.loop-next.end.0 c.requires.pieces (rw c.along.ensures at c.in-Some.ensures.held), s.within)

pub loop-next-preserved : goal.loop-next-preserved
loop-next-preserved c =
    let s = c.args.size.now in
    let axis = c.args.axis in
    let v = c.loop-next.end.0 in
    let held : Contains c.args.tree.now (edge_from axis v) = rw c.along.ensures at c.in-Some.ensures.held in
    rw c.loop-next.invariant.stride
    (record {
      vertex = step_vertex s axis c.args.tree.now v c.requires.pieces held;
      same_end = sym (run_end-held s axis c.args.tree.now v c.requires.rising held) ∙ c.loop-next.invariant.same_end;
      stride = refl;
      within = c.in-Some.ensures.within;
      below = λ other. up_to_step s axis v _ (rw c.along.ensures at (c.in-Some.ensures.up_to other));
    })

pub returns-clause-end : goal.returns-clause-end
returns-clause-end c =
    sym (run_end-done c.args.size.now c.args.axis c.args.tree.now c.loop-next.end.0 (rw c.along.ensures at c.in_default.ensures.missing)) ∙ c.loop-next.invariant.same_end
