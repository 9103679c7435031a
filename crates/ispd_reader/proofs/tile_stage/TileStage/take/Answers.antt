use Rattle.std.proofs.lemmas.Result.{err_from_is_err_and}
use Rattle.ispd_reader.specs.Views.{extent_of_size}
use Rattle.ispd_reader.proofs.AdjustmentStages.{tile_refused, column_read, row_read, layer_read}
use Rattle.ispd_reader.proofs.tile_stage.TileStage.take.Goals as goal

pub returns-in_err-number-clause-takes : goal.returns-in_err-number-clause-takes
returns-in_err-number-clause-takes c =
    let p = err_from_is_err_and c.from_residual.result c.from_residual.ensures.1 in
    rw (p.1, p.2) (tile_refused c.args.token.now c.in_err-number.field-0.0 (extent_of_size c.args.size) c.args.self.now c.in_err-number.ensures.number)

pub returns-in-Column-clause-takes : goal.returns-in-Column-clause-takes
returns-in-Column-clause-takes c = λ r next. rw c.in-Column.is (column_read (extent_of_size c.args.size) c.in_ok-number.number r _ (c.in_ok-number.ensures.number r next))

pub returns-in-Row-clause-takes : goal.returns-in-Row-clause-takes
returns-in-Row-clause-takes c = λ r next. rw c.in-Row.is (row_read (extent_of_size c.args.size) c.in-Row.col c.in_ok-number.number r _ (c.in_ok-number.ensures.number r next))

pub returns-in-Layer-clause-takes : goal.returns-in-Layer-clause-takes
returns-in-Layer-clause-takes c = λ r next. rw (c.in-Layer.is, c.place_in.ensures.place) (layer_read (extent_of_size c.args.size) c.in-Layer.col c.in-Layer.row c.in_ok-number.number r _ (c.in_ok-number.ensures.number r next))
