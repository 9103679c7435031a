use Rattle.std.proofs.Common.{refl, ◌∙◌, arith}
use Rattle.shortest_paths.specs.LabelWords.{label_of}
use Rattle.steiner_tables.specs.RowWork.{table_of}
use Rattle.steiner_tables.proofs.LoneRows.{more_lone_rows, single_room}
use Rattle.shortest_paths.proofs.labels.Labels.distances_from_each.Goals as goal

pub fill_alone-requires-clause-room : goal.fill_alone-requires-clause-room
fill_alone-requires-clause-room g c =
    omega (arith, single_room c.loop-place.place (omega (arith, c.loop-place-test.true, c.requires.end, c.requires.few)), c.requires.room, c.loop-place.invariant.masks)

pub returns-clause-rows : goal.returns-clause-rows
returns-clause-rows g c = λ place from inside. c.loop-place.invariant.rows place from (omega (arith, inside, c.loop-place-test.false))

pub loop-place-init : goal.loop-place-init
loop-place-init g c = record {
  size = refl;
  masks = refl;
  rows = λ place from inside. absurd (omega (arith, from, inside));
}

pub loop-place-preserved : goal.loop-place-preserved
loop-place-preserved g c =
    let before = c.loop-place.invariant in
    let after = c.fill_alone.ensures in
    record {
      size = after.found.size ∙ before.size;
      masks = after.masks ∙ before.masks;
      rows = more_lone_rows (g.W.Weights.size c.args.weights.now) (g.W.Weights.pieces c.args.weights.now) c.args.terminals.now
          (g.F.Family.low c.args.family.now) (label_of c.loop-place.self) (table_of c.fill_alone.new.rows c.fill_alone.new.row)
          c.args.limit c.args.first c.loop-place.place before.rows after.others after.alone;
    }
