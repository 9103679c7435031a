use Rattle.std.proofs.Common.{◌∙◌, length, get_or, take, ap, length-append, arith}
use Rattle.std.proofs.lemmas.List.{take_all, take_more}
use Rattle.std.proofs.lemmas.List.FromFn.{length-map-range_with_len}
use Rattle.straight_runs.specs.Runs.{pieces_of, run_piece, run_pieces}
use Rattle.straight_runs.specs.Touching.{no_run}
use Rattle.straight_runs.proofs.AllPieces.{few_in_runs, few_so_far}
use Rattle.straight_runs.proofs.Merges.{pieces_of-push}
use Rattle.straight_runs.proofs.counted.piece_count.Goals as goal

pub overflow_add-count : goal.overflow_add-count
overflow_add-count c =
    omega (arith, c.loop-run.invariant, c.from-count.ensures, few_so_far c.args.size c.args.runs.now c.loop-run.run-index c.requires.runs c.requires.distinct c.loop-run-test.true, c.args.size.within.vertex_limit)

pub loop-run-preserved : goal.loop-run-preserved
loop-run-preserved c =
    let s = c.args.size in
    let runs = c.args.runs.now in
    let i = c.loop-run.run-index in
    let run = get_or runs i no_run in
    omega (
      arith,
      c.loop-run.invariant,
      c.from-count.ensures,
      ap (λ rs. length (pieces_of s rs)) (take_more runs i no_run c.loop-run-test.true),
      ap length (pieces_of-push s (take i runs) run),
      length-append (pieces_of s (take i runs)) (run_pieces s run),
      length-map-range_with_len (run_piece s run) 0 run.count,
    )

pub returns : goal.returns
returns c =
    let value = c.loop-run.invariant ∙ ap (λ rs. length (pieces_of c.args.size rs)) (take_all c.loop-run.run-index c.args.runs.now c.loop-run-test.false) in
    record {
      value = value;
      limit = omega (arith, value, few_in_runs c.args.size c.args.runs.now c.requires.runs c.requires.distinct);
    }
