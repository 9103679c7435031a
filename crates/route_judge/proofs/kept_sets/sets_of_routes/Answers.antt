use Rattle.std.proofs.Common.{◌≡◌, ◌∙◌, Bool, None, ap, length, map, subst, sym}
use Rattle.std.proofs.lemmas.Result.{err_from_is_err_and}
use Rattle.route_judge.specs.Objections.{missing_net, Finds}
use Rattle.route_judge.specs.Orders.{all_block_objections}
use Rattle.route_judge.specs.TestedBlocks.{AreTaken}
use Rattle.route_judge.proofs.AllSets.{all_sets, all_joining}
use Rattle.route_judge.proofs.Found.{found_behind, stops_before, stops_behind}
use Rattle.route_judge.proofs.kept_sets.sets_of_routes.Goals as goal

pub find_missing-requires : goal.find_missing-requires
find_missing-requires g c = ap (length {A = Bool}) c.as_slice.ensures.value ∙ c.in_ok-sets.ensures.taken.long

pub returns-in_err-sets-clause-stops : goal.returns-in_err-sets-clause-stops
returns-in_err-sets-clause-stops g c =
    let d = c.args.design.now in
    let blocks = g.B.Blocks.list c.args.blocks in
    let exit = err_from_is_err_and c.from_residual.result c.from_residual.ensures.1 in
    rw (exit.1, exit.2) (stops_before d (all_block_objections blocks) (map (missing_net blocks) d.nets) c.in_err-sets.field-0.0 c.in_err-sets.ensures.stops)

pub returns-in_err-find_missing-clause-stops : goal.returns-in_err-find_missing-clause-stops
returns-in_err-find_missing-clause-stops g c =
    let d = c.args.design.now in
    let blocks = g.B.Blocks.list c.args.blocks in
    let exit = err_from_is_err_and c.from_residual-in_err-find_missing.result c.from_residual-in_err-find_missing.ensures.1 in
    let taken : AreTaken d blocks c.as_slice.result.now = subst (AreTaken d blocks) (sym c.as_slice.ensures.value) c.in_ok-sets.ensures.taken in
    rw (exit.1, exit.2) (stops_behind d (all_block_objections blocks) (map (missing_net blocks) d.nets) c.in_err-find_missing.field-0.0 c.in_ok-sets.ensures.stops (c.in_err-find_missing.ensures.stops blocks taken))

pub returns-clause-stops : goal.returns-clause-stops
returns-clause-stops g c =
    let d = c.args.design.now in
    let blocks = g.B.Blocks.list c.args.blocks in
    let taken : AreTaken d blocks c.as_slice.result.now = subst (AreTaken d blocks) (sym c.as_slice.ensures.value) c.in_ok-sets.ensures.taken in
    found_behind d (all_block_objections blocks) (map (missing_net blocks) d.nets) None c.in_ok-sets.ensures.stops (c.in_ok-find_missing.ensures.stops blocks taken)

pub returns-clause-sets : goal.returns-clause-sets
returns-clause-sets g c = all_sets c.args.design.now (g.B.Blocks.list c.args.blocks) c.in_ok-sets.sets.trees.items c.in_ok-sets.ensures.sets

pub returns-clause-joining : goal.returns-clause-joining
returns-clause-joining g c =
    let d = c.args.design.now in
    let blocks = g.B.Blocks.list c.args.blocks in
    let taken : AreTaken d blocks c.as_slice.result.now = subst (AreTaken d blocks) (sym c.as_slice.ensures.value) c.in_ok-sets.ensures.taken in
    all_joining d blocks c.in_ok-sets.sets.trees.items c.in_ok-sets.ensures.sets (c.in_ok-find_missing.ensures.stops blocks taken)
