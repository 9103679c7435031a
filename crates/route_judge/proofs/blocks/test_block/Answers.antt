use Rattle.std.proofs.Common.{◌≡◌, ℕ, sym, subst, ◌∙◌, List, take, Some, None}
use Rattle.std.proofs.lemmas.Option.{same_Some, get_or_from_slice_get}
use Rattle.std.proofs.lemmas.Result.{err_from_is_err_and}
use Rattle.straight_runs.specs.Runs.{pieces_of}
use Rattle.grid_base.specs.Lists.{At}
use Rattle.grid_graph.specs.Grids.{size_of}
use Rattle.route_text.specs.declared.block.Block.{Block}
use Rattle.route_text.specs.LentBlocks.{lent_block}
use Rattle.route_judge.specs.declared.reason.Reason.TheVariants.{RepeatedNet}
use Rattle.route_judge.specs.NetPlaces.{place_by_id}
use Rattle.route_judge.specs.Objections.{Finds}
use Rattle.route_judge.specs.Orders.{block_objections}
use Rattle.route_judge.specs.Stops.{StopsFor}
use Rattle.route_judge.specs.TestedBlocks.{IsTested}
use Rattle.route_judge.proofs.BlockTests.{repeated_block, first_of_block, stop_of_block, tested_block, taken_after}
use Rattle.route_judge.proofs.blocks.test_block.Goals as goal

-- the block that was read is the one at that place
read_block : (blocks : List Block) (k : ℕ) (block b : Block) → At blocks k block → At blocks k b → block ≡ b
read_block blocks k block b read at = same_Some _ _ (sym read ∙ at)

pub returns-then-index-clause-stops : goal.returns-then-index-clause-stops
returns-then-index-clause-stops g c b at =
    let d = c.args.design.now in
    let blocks = g.B.Blocks.list c.args.blocks in
    let k = c.args.number in
    let block = lent_block c.block-block.result in
    let same = read_block blocks k block b c.block-block.ensures at in
    subst (λ x. Finds d (block_objections blocks (k, x)) (Some (RepeatedNet block.id))) same
    (repeated_block d blocks k block (place_by_id c.args.places.now) c.in-Some.place c.args.taken.now.nets.items c.index.result.now c.requires.places c.in-Some.ensures c.requires.taken c.index.ensures c.if-index.true)

pub returns-in_err-runs-clause-stops : goal.returns-in_err-runs-clause-stops
returns-in_err-runs-clause-stops g c b at =
    let d = c.args.design.now in
    let blocks = g.B.Blocks.list c.args.blocks in
    let k = c.args.number in
    let block = lent_block c.block-block.result in
    let exit = err_from_is_err_and c.from_residual.result c.from_residual.ensures.1 in
    let same = read_block blocks k block b c.block-block.ensures at in
    rw (exit.1, exit.2) (subst (λ x. StopsFor d (block_objections blocks (k, x)) c.in_err-runs.field-0.0) same
    (stop_of_block d blocks k block (place_by_id c.args.places.now) c.in-Some.place c.args.taken.now.nets.items c.index.result.now c.in_err-runs.field-0.0 c.requires.places c.in-Some.ensures c.requires.taken c.index.ensures c.if-index.false c.in_err-runs.ensures.stops))

pub returns-clause-stops : goal.returns-clause-stops
returns-clause-stops g c b at =
    let d = c.args.design.now in
    let blocks = g.B.Blocks.list c.args.blocks in
    let k = c.args.number in
    let block = lent_block c.block-block.result in
    let same = read_block blocks k block b c.block-block.ensures at in
    subst (λ x. Finds d (block_objections blocks (k, x)) None) same
    (first_of_block d blocks k block (place_by_id c.args.places.now) c.in-Some.place c.args.taken.now.nets.items c.index.result.now None c.requires.places c.in-Some.ensures c.requires.taken c.index.ensures c.if-index.false c.in_ok-runs.ensures.stops)

pub returns-clause-tested : goal.returns-clause-tested
returns-clause-tested g c b at =
    let d = c.args.design.now in
    let blocks = g.B.Blocks.list c.args.blocks in
    let k = c.args.number in
    let block = lent_block c.block-block.result in
    let same = read_block blocks k block b c.block-block.ensures at in
    subst (λ x. IsTested d (take k blocks) x c.in-Some.place (pieces_of (size_of d.grid) c.in_ok-runs.runs.items)) same
    (tested_block d blocks k block (place_by_id c.args.places.now) c.in-Some.place c.args.taken.now.nets.items c.index.result.now (pieces_of (size_of d.grid) c.in_ok-runs.runs.items) c.requires.places c.in-Some.ensures c.requires.taken c.index.ensures c.if-index.false
    c.in_ok-runs.ensures.once c.in_ok-runs.ensures.named c.in_ok-runs.ensures.joining)

pub returns-clause-taken : goal.returns-clause-taken
returns-clause-taken g c =
    let d = c.args.design.now in
    let blocks = g.B.Blocks.list c.args.blocks in
    let block = lent_block c.block-block.result in
    taken_after d blocks c.args.number block (place_by_id c.args.places.now) c.in-Some.place c.args.taken.now.nets.items c.requires.number (sym (get_or_from_slice_get blocks c.args.number block block c.block-block.ensures)) c.requires.places c.in-Some.ensures c.requires.taken
