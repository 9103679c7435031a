use Rattle.std.proofs.Common.{get_or, refl}
use Rattle.std.proofs.lemmas.List.Elements.{Contains-get_or}
use Rattle.grid_base.specs.declared.piece.Piece.TheVariants.{Edge}
use Rattle.reference_programs.specs.LowerNumbers.{listed_number}
use Rattle.reference_programs.proofs.Lowering.{slack_more}
use Rattle.reference_programs.proofs.reference_paths.first_lower.Goals as goal

pub lower_by-requires-clause-piece : goal.lower_by-requires-clause-piece
lower_by-requires-clause-piece c =
    let x = get_or c.args.pieces.now c.loop-entry.entry-index (Edge record { 0 = 0 }, 0) in
    c.requires.inside x.0 (
      x.1,
      Contains-get_or c.args.pieces.now c.loop-entry.entry-index
          (Edge record { 0 = 0 }, 0) c.loop-entry-test.true,
    )

pub lower_by-requires-clause-light : goal.lower_by-requires-clause-light
lower_by-requires-clause-light c =
    let x = get_or c.args.pieces.now c.loop-entry.entry-index (Edge record { 0 = 0 }, 0) in
    c.requires.light x.0 x.1 (Contains-get_or c.args.pieces.now c.loop-entry.entry-index
    (Edge record { 0 = 0 }, 0) c.loop-entry-test.true)

pub returns-in-Some-clause-some : goal.returns-in-Some-clause-some
returns-in-Some-clause-some c =
    c.in-Some.ensures.some c.args.pieces.now (Contains-get_or c.args.pieces.now c.loop-entry.entry-index
    (Edge record { 0 = 0 }, 0) c.loop-entry-test.true)

pub loop-entry-preserved : goal.loop-entry-preserved
loop-entry-preserved c =
    slack_more c.args.size c.args.pieces.now (listed_number c.args.numbers.now) c.loop-entry.entry-index
    (Edge record { 0 = 0 }, 0) c.loop-entry-test.true c.loop-entry.invariant (c.in_default.ensures.none refl)
