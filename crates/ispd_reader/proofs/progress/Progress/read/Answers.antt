use Rattle.std.proofs.Common.{◌++◌, take, length-drop, arith}
use Rattle.std.proofs.lemmas.Result.{err_from_is_err_and}
use Rattle.ispd_reader.proofs.Pieces.{bytes_from, piece_goes_on, piece_refused, length_so_far}
use Rattle.ispd_reader.proofs.progress.Progress.read.Goals as goal

pub loop-at-preserved : goal.loop-at-preserved
loop-at-preserved c =
    let piece = c.args.bytes.now in
    let at = c.loop-at.at in
    let some = rw (bytes_from at piece) at c.in_ok-at.ensures.some in (
      omega (arith, some.0, some.1, length-drop at piece, c.loop-at-test.true),
      λ text long so_far.
          let here = length_so_far text piece at c.args.start long c.loop-at.invariant.0 in
          let read = rw (bytes_from at piece) at (c.in_ok-at.ensures.read (text ++ take at piece) here (c.loop-at.invariant.1 text long so_far)) in
          piece_goes_on c.step.new.self text piece at _ read,
    )

pub returns-in_err-at : goal.returns-in_err-at
returns-in_err-at c text long so_far =
    let p = err_from_is_err_and c.from_residual.result c.from_residual.ensures.1 in
    let piece = c.args.bytes.now in
    let at = c.loop-at.at in
    let here = length_so_far text piece at c.args.start long c.loop-at.invariant.0 in
    let refused = rw (bytes_from at piece) at (c.in_err-at.ensures.read (text ++ take at piece) here (c.loop-at.invariant.1 text long so_far)) in
    rw (p.1, p.2) (piece_refused c.step.new.self c.in_err-at.field-0.0 text piece at refused)
