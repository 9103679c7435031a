use Rattle.std.proofs.Common.{◌≡◌, ◌<◌, ◌≤◌, All, Contains, List, length, refl, sym, slice_set, subst, take, arith}
use Rattle.std.proofs.lemmas.List.{take_all}
use Rattle.std.proofs.lemmas.Option.{get_or_from_slice_get, slice_get-get_or}
use Rattle.std.proofs.lemmas.Result.{err_from_is_err_and}
use Rattle.std.specs.Prelude.{◌↔◌}
use Rattle.straight_runs.specs.declared.run.Run.{Run}
use Rattle.straight_runs.specs.Runs.{IsStraightRun, pieces_of}
use Rattle.grid_base.specs.declared.piece.Piece.{Piece}
use Rattle.grid_base.specs.declared.size.Size.{Size}
use Rattle.grid_graph.specs.Grids.{size_of}
use Rattle.grid_graph.proofs.Grounds.{at_place}
use Rattle.route_judge.specs.Orders.{block_objections}
use Rattle.route_judge.specs.TestedBlocks.{AreSetsAfter, AreTaken}
use Rattle.route_judge.proofs.BlockTests.{one_block_more, sets_more}
use Rattle.route_judge.proofs.Found.{none_numbered, stops_numbered, none_in_all}
use Rattle.route_judge.proofs.net_sets.sets_of.Goals as goal

-- the set of some runs, by other names of the size and of the list
set_of_sized : (s t : Size) (given runs : List Run) (tree : List Piece) → s ≡ t → given ≡ runs → ((p : Piece) → Contains tree p ↔ Contains (pieces_of s given) p) → (p : Piece) → Contains tree p ↔ Contains (pieces_of t runs) p
set_of_sized s t given runs tree size list same = subst (λ rs. (p : Piece) → Contains tree p ↔ Contains (pieces_of t rs) p) list (subst (λ u. (p : Piece) → Contains tree p ↔ Contains (pieces_of u given) p) size same)

pub set_of_runs-requires : goal.set_of_runs-requires
set_of_runs-requires g c =
    subst (λ s. All (IsStraightRun s) c.as_slice.result.now) (sym c.size.ensures) (subst (All (IsStraightRun (size_of c.args.design.now.grid))) (sym c.as_slice.ensures.value) c.in_ok-place.ensures.runs)

pub returns-in_err-place-clause-stops : goal.returns-in_err-place-clause-stops
returns-in_err-place-clause-stops g c =
    let below : c.loop-number.number < length (g.B.Blocks.list c.args.blocks) = omega (arith, c.count-number-end.ensures, c.loop-number-test.true) in
    let exit = err_from_is_err_and c.from_residual-in_err-place.result c.from_residual-in_err-place.ensures.1 in
    let blocks = g.B.Blocks.list c.args.blocks in
    let found = at_place blocks c.loop-number.number below in
    rw (exit.1, exit.2) (stops_numbered c.args.design.now (block_objections blocks) blocks blocks c.loop-number.number found.0 c.in_err-place.field-0.0 refl below c.loop-number.invariant.clear
    (c.in_err-place.ensures.stops _ (slice_get-get_or blocks c.loop-number.number found.0 below)))

pub loop-number-preserved : goal.loop-number-preserved
loop-number-preserved g c =
    let below : c.loop-number.number < length (g.B.Blocks.list c.args.blocks) = omega (arith, c.count-number-end.ensures, c.loop-number-test.true) in
    let d = c.args.design.now in
    let blocks = g.B.Blocks.list c.args.blocks in
    let k = c.loop-number.number in
    let block = at_place blocks k below in
    let s = size_of d.grid in
    let tree = c.in_ok-tree.tree in
    let runs = c.in_ok-place.field-0.runs.items in
    let place = c.in_ok-place.field-0.place in
    let trees = c.loop-number.trees.items in
    let same = set_of_sized _ s _ runs tree c.size.ensures c.as_slice.ensures.value c.in_ok-tree.ensures.same in
    record {
      clear = none_numbered d (block_objections blocks) blocks blocks k block.0 refl below c.loop-number.invariant.clear
          (c.in_ok-place.ensures.stops _ (slice_get-get_or blocks k block.0 below));
      taken = c.in_ok-place.ensures.taken;
      sets = subst (λ earlier. AreSetsAfter d earlier (slice_set trees place tree)) (one_block_more blocks k block.0 below (sym (get_or_from_slice_get blocks k block.0 block.0 block.1)))
          (sets_more d (take k blocks) block.0 place (pieces_of s runs) tree trees (c.in_ok-place.ensures.tested block.0 block.1) c.in_ok-tree.ensures.rising same c.loop-number.invariant.sets);
    }

pub returns-clause-stops : goal.returns-clause-stops
returns-clause-stops g c =
    let all : length (g.B.Blocks.list c.args.blocks) ≤ c.loop-number.number = omega (arith, c.count-number-end.ensures, c.loop-number-test.false) in
    none_in_all c.args.design.now (block_objections (g.B.Blocks.list c.args.blocks)) (g.B.Blocks.list c.args.blocks) c.loop-number.number all c.loop-number.invariant.clear

pub returns-clause-sets : goal.returns-clause-sets
returns-clause-sets g c =
    let all : length (g.B.Blocks.list c.args.blocks) ≤ c.loop-number.number = omega (arith, c.count-number-end.ensures, c.loop-number-test.false) in
    subst (λ earlier. AreSetsAfter c.args.design.now earlier c.loop-number.trees.items) (take_all c.loop-number.number (g.B.Blocks.list c.args.blocks) all) c.loop-number.invariant.sets

pub returns-clause-taken : goal.returns-clause-taken
returns-clause-taken g c =
    let all : length (g.B.Blocks.list c.args.blocks) ≤ c.loop-number.number = omega (arith, c.count-number-end.ensures, c.loop-number-test.false) in
    subst (λ earlier. AreTaken c.args.design.now earlier c.loop-number.taken.nets.items) (take_all c.loop-number.number (g.B.Blocks.list c.args.blocks) all) c.loop-number.invariant.taken
