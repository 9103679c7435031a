use Rattle.std.proofs.Common.{sym, inl, inr, arith}
use Rattle.grid_base.proofs.Pieces.{end_of-vertex}
use Rattle.std.proofs.lemmas.List.{get_or_default}
use Rattle.reference_programs.specs.LowerNumbers.{unreached}
use Rattle.reference_programs.proofs.Lowering.{lower_end}
use Rattle.reference_programs.proofs.reference_paths.lower_by.Goals as goal

pub returns-then-near_number-weight-clause-some : goal.returns-then-near_number-weight-clause-some
returns-then-near_number-weight-clause-some c =
    lower_end c.args.size c.args.p c.args.weight c.args.numbers.now c.ends_of.result.0.0 c.ends_of.result.1.0
    (inl (c.requires.piece, sym c.ends_of.ensures.start, sym c.ends_of.ensures.end)) c.requires.long
    c.if-near_number-weight.true

pub overflow_add-far_number : goal.overflow_add-far_number
overflow_add-far_number c =
    let far = c.ends_of.result.1.0 in
    let numbers = c.args.numbers.now in
    omega (
      arith,
      c.requires.limit far,
      get_or_default numbers far 0 unreached
          (omega (arith, c.requires.long, c.ends_of.ensures.end, end_of-vertex c.args.size c.args.p c.requires.piece)),
    )

pub returns-then-far_number-weight-clause-some : goal.returns-then-far_number-weight-clause-some
returns-then-far_number-weight-clause-some c =
    lower_end c.args.size c.args.p c.args.weight c.args.numbers.now c.ends_of.result.1.0 c.ends_of.result.0.0
    (inr (c.requires.piece, sym c.ends_of.ensures.start, sym c.ends_of.ensures.end)) c.requires.long
    c.if-far_number-weight.true
