use Rattle.std.proofs.Common.{◌≡◌, ◌≤◌, ◌<◌, All, ℕ, List, length, map, get_or, take, None, refl, sym, ◌∙◌, ap, subst, arith}
use Rattle.std.proofs.lemmas.List.{take_all}
use Rattle.std.proofs.lemmas.Option.{slice_get_read, slice_get-get_or}
use Rattle.std.proofs.lemmas.Result.{err_from_is_err_and}
use Rattle.std.proofs.lemmas.Slice.Zip.{AllZip-long}
use Rattle.straight_runs.specs.Runs.{IsStraightRun, pieces_of}
use Rattle.grid_base.specs.Lists.{At, HasNoRepeats}
use Rattle.grid_graph.specs.declared.design.Design.{Design}
use Rattle.grid_graph.specs.declared.ground.Ground.{Ground}
use Rattle.grid_graph.specs.declared.net_spec.NetSpec.{NetSpec}
use Rattle.grid_graph.specs.Grids.{size_of}
use Rattle.grid_graph.specs.Grounds.{AreGrounds, IsGround}
use Rattle.grid_graph.proofs.Grounds.{at_place}
use Rattle.route_text.specs.declared.block.Block.{Block}
use Rattle.route_judge.specs.Objections.{missing_net}
use Rattle.route_judge.specs.Orders.{all_block_objections, block_objections}
use Rattle.route_judge.specs.TestedBlocks.{AreTaken}
use Rattle.route_judge.proofs.Found.{found_behind, none_numbered, none_in_all, stops_numbered, stops_before, stops_behind}
use Rattle.route_judge.proofs.RunningSums.{few_pieces, none_running, running_more, all_sums, small_sums, tested_pieces}
use Rattle.route_judge.proofs.summing.sums_of.Goals as goal

-- the net that was read stands at that place
read_net : (nets xs : List NetSpec) (place : ℕ) (n : NetSpec) → xs ≡ nets → place < length nets → n ≡ get_or xs place n → At nets place n
read_net nets xs place n same below is = slice_get_read nets _ place n refl below (is ∙ ap (λ ys. get_or ys place n) same)

grounds_long : (d : Design) (over : List Ground) → AreGrounds d.grid d.nets over → length over ≡ length d.nets
grounds_long d over are = AllZip-long (λ n found. IsGround d.grid n.terminals found) d.nets over are

after_all : (d : Design) (blocks : List Block) (k : ℕ) (taken : List _) → length blocks ≤ k → AreTaken d (take k blocks) taken → AreTaken d blocks taken
after_all d blocks k taken all are = subst (λ earlier. AreTaken d earlier taken) (take_all k blocks all) are

pub loop-number-init : goal.loop-number-init
loop-number-init g c =
    let e = c.in_ok-sums.ensures in
    record {
      clear = refl;
      taken = c.in_ok-taken.ensures;
      running = none_running c.args.design.now c.args.grounds.now c.in_ok-sums.sums (e.size ∙ c.size.ensures) e.loads e.wirelength e.beyond;
    }

pub bounds-grounds-block : goal.bounds-grounds-block
bounds-grounds-block g c = omega (arith, c.in_ok-block.ensures.place, grounds_long c.args.design.now c.args.grounds.now c.requires.grounds)

pub add-requires-clause-width : goal.add-requires-clause-width
add-requires-clause-width g c =
    let d = c.args.design.now in
    let at = read_net d.nets _ c.in_ok-block.block.place c.index-list-block.result c.list-in-loop-number.ensures.items c.in_ok-block.ensures.place c.index-list-block.is in
    (d.limits.net c.in_ok-block.block.place c.index-list-block.result at).width

pub add-requires-clause-runs : goal.add-requires-clause-runs
add-requires-clause-runs g c = subst (All (IsStraightRun (size_of c.args.design.now.grid))) (sym c.as_slice-runs.ensures.value) c.in_ok-block.ensures.runs

pub add-requires-clause-distinct : goal.add-requires-clause-distinct
add-requires-clause-distinct g c =
    let below : c.loop-number.number < length (g.B.Blocks.list c.args.blocks) = omega (arith, c.count-number-end.ensures, c.loop-number-test.true) in
    let block = at_place (g.B.Blocks.list c.args.blocks) c.loop-number.number below in
    subst (λ rs. HasNoRepeats (pieces_of (size_of c.args.design.now.grid) rs)) (sym c.as_slice-runs.ensures.value) (c.in_ok-block.ensures.tested block.0 block.1).once

pub add-requires-clause-size : goal.add-requires-clause-size
add-requires-clause-size g c = c.loop-number.invariant.running.2.sized

pub add-requires-clause-long : goal.add-requires-clause-long
add-requires-clause-long g c =
    let below : c.loop-number.number < length (g.B.Blocks.list c.args.blocks) = omega (arith, c.count-number-end.ensures, c.loop-number-test.true) in
    let d = c.args.design.now in
    let blocks = g.B.Blocks.list c.args.blocks in
    let block = at_place blocks c.loop-number.number below in
    let tested = c.in_ok-block.ensures.tested block.0 block.1 in
    let running = c.loop-number.invariant.running in
    let pieces = pieces_of (size_of d.grid) c.in_ok-block.block.runs.items in
    omega (
      arith,
      (small_sums d c.args.grounds.now (take c.loop-number.number blocks) running.0 c.loop-number.sums running.1 running.2).wire_limit,
      few_pieces (size_of d.grid) pieces tested.once (tested_pieces d (take c.loop-number.number blocks) block.0 c.in_ok-block.block.place pieces tested),
      ap (λ rs. length (pieces_of (size_of d.grid) rs)) c.as_slice-runs.ensures.value,
    )

pub add-requires-clause-count : goal.add-requires-clause-count
add-requires-clause-count g c =
    let running = c.loop-number.invariant.running in
    omega (arith, (small_sums c.args.design.now c.args.grounds.now (take c.loop-number.number (g.B.Blocks.list c.args.blocks)) running.0 c.loop-number.sums running.1 running.2).count_limit)

pub loop-number-preserved : goal.loop-number-preserved
loop-number-preserved g c =
    let below : c.loop-number.number < length (g.B.Blocks.list c.args.blocks) = omega (arith, c.count-number-end.ensures, c.loop-number-test.true) in
    let d = c.args.design.now in
    let blocks = g.B.Blocks.list c.args.blocks in
    let k = c.loop-number.number in
    let block = at_place blocks k below in
    let place = c.in_ok-block.block.place in
    let at = read_net d.nets _ place c.index-list-block.result c.list-in-loop-number.ensures.items c.in_ok-block.ensures.place c.index-list-block.is in
    let within : place < length c.args.grounds.now = omega (arith, c.in_ok-block.ensures.place, grounds_long d c.args.grounds.now c.requires.grounds) in
    record {
      clear = none_numbered d (block_objections blocks) blocks blocks k block.0 refl below c.loop-number.invariant.clear
          (c.in_ok-block.ensures.stops _ (slice_get-get_or blocks k block.0 below));
      taken = c.in_ok-block.ensures.taken;
      running = running_more d c.args.grounds.now blocks k block.0 place c.index-list-block.result _ (pieces_of (size_of d.grid) c.in_ok-block.block.runs.items) (pieces_of (size_of d.grid) c.as_slice-runs.result.now) c.loop-number.sums c.add.new.self
          block.1 (c.in_ok-block.ensures.tested block.0 block.1) at (slice_get-get_or c.args.grounds.now place _ within) (ap (pieces_of (size_of d.grid)) c.as_slice-runs.ensures.value) c.loop-number.invariant.running
          c.add.ensures.size c.add.ensures.loads c.add.ensures.wirelength c.add.ensures.beyond;
    }

pub returns-in_err-block-clause-stops : goal.returns-in_err-block-clause-stops
returns-in_err-block-clause-stops g c =
    let below : c.loop-number.number < length (g.B.Blocks.list c.args.blocks) = omega (arith, c.count-number-end.ensures, c.loop-number-test.true) in
    let d = c.args.design.now in
    let blocks = g.B.Blocks.list c.args.blocks in
    let k = c.loop-number.number in
    let exit = err_from_is_err_and c.from_residual-in_err-block.result c.from_residual-in_err-block.ensures.1 in
    let found = at_place blocks k below in
    let stop = stops_numbered d (block_objections blocks) blocks blocks k found.0 c.in_err-block.field-0.0 refl below c.loop-number.invariant.clear (c.in_err-block.ensures.stops _ (slice_get-get_or blocks k found.0 below)) in
    rw (exit.1, exit.2) (stops_before d (all_block_objections blocks) (map (missing_net blocks) d.nets) c.in_err-block.field-0.0 stop)

pub returns-in_err-find_missing-clause-stops : goal.returns-in_err-find_missing-clause-stops
returns-in_err-find_missing-clause-stops g c =
    let all : length (g.B.Blocks.list c.args.blocks) ≤ c.loop-number.number = omega (arith, c.count-number-end.ensures, c.loop-number-test.false) in
    let d = c.args.design.now in
    let blocks = g.B.Blocks.list c.args.blocks in
    let k = c.loop-number.number in
    let exit = err_from_is_err_and c.from_residual-in_err-find_missing.result c.from_residual-in_err-find_missing.ensures.1 in
    let taken : AreTaken d blocks c.as_slice-taken.result.now = subst (AreTaken d blocks) (sym c.as_slice-taken.ensures.value) (after_all d blocks k _ all c.loop-number.invariant.taken) in
    let clear = none_in_all d (block_objections blocks) blocks k all c.loop-number.invariant.clear in
    rw (exit.1, exit.2) (stops_behind d (all_block_objections blocks) (map (missing_net blocks) d.nets) c.in_err-find_missing.field-0.0 clear (c.in_err-find_missing.ensures.stops blocks taken))

pub returns-clause-stops : goal.returns-clause-stops
returns-clause-stops g c =
    let all : length (g.B.Blocks.list c.args.blocks) ≤ c.loop-number.number = omega (arith, c.count-number-end.ensures, c.loop-number-test.false) in
    let d = c.args.design.now in
    let blocks = g.B.Blocks.list c.args.blocks in
    let k = c.loop-number.number in
    let taken : AreTaken d blocks c.as_slice-taken.result.now = subst (AreTaken d blocks) (sym c.as_slice-taken.ensures.value) (after_all d blocks k _ all c.loop-number.invariant.taken) in
    let clear = none_in_all d (block_objections blocks) blocks k all c.loop-number.invariant.clear in
    found_behind d (all_block_objections blocks) (map (missing_net blocks) d.nets) None clear (c.in_ok-find_missing.ensures.stops blocks taken)

pub returns-clause-sums : goal.returns-clause-sums
returns-clause-sums g c =
    let all : length (g.B.Blocks.list c.args.blocks) ≤ c.loop-number.number = omega (arith, c.count-number-end.ensures, c.loop-number-test.false) in
    let d = c.args.design.now in
    let blocks = g.B.Blocks.list c.args.blocks in
    let k = c.loop-number.number in
    let taken : AreTaken d blocks c.as_slice-taken.result.now = subst (AreTaken d blocks) (sym c.as_slice-taken.ensures.value) (after_all d blocks k _ all c.loop-number.invariant.taken) in
    all_sums d c.args.grounds.now blocks k c.loop-number.sums all c.loop-number.invariant.running (c.in_ok-find_missing.ensures.stops blocks taken)
