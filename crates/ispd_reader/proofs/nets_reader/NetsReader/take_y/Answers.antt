use Rattle.std.proofs.Common.{refl}
use Rattle.std.proofs.lemmas.Result.{err_from_is_err_and}
use Rattle.grid_graph.specs.Grids.{layout_of}
use Rattle.ispd_reader.specs.declared.net_stage.NetStage.TheVariants as stages
use Rattle.ispd_reader.specs.PinParts.{pin_row_at}
use Rattle.ispd_reader.specs.NetsLeft.{nets_left_at_y, nets_left}
use Rattle.ispd_reader.specs.Views.{header_of}
use Rattle.ispd_reader.proofs.NetTokens.{took, refused_there}
use Rattle.ispd_reader.proofs.NetFits.{done_at, present_at}
use Rattle.ispd_reader.proofs.nets_reader.NetsReader.take_y.Goals as goal

pub returns-in_err-row : goal.returns-in_err-row
returns-in_err-row c =
    let n = c.args.self.now in
    let p = err_from_is_err_and c.from_residual.result c.from_residual.ensures.1 in
    rw (p.1, p.2) (refused_there c.args.grid.now c.args.token.now (stages.Y c.args.col) n _ (pin_row_at (header_of (layout_of c.args.grid.now)) n.net.id n.net.pin) c.in_err-row.field-0.0 (λ header n row. nets_left_at_y header n c.args.col row) c.requires.stage (λ r. refl) (λ fault. refl) c.in_err-row.ensures.row)

pub returns : goal.returns
unfolding nets_left
returns c =
    let grid = c.args.grid.now in
    let n = c.args.self.now in
    let present = present_at grid n (stages.Y c.args.col) c.requires.stage c.requires.fits in
    took grid c.args.token.now (stages.Y c.args.col) n _ (pin_row_at (header_of (layout_of grid)) n.net.id n.net.pin) c.in_ok-row.row (λ header n row. nets_left_at_y header n c.args.col row) c.requires.stage (λ r. refl) (λ after. refl) c.in_ok-row.ensures.row
    (record { done = done_at grid n (stages.Y c.args.col) c.requires.stage c.requires.fits; present = (present.0, present.1, c.in_ok-row.ensures.below) })
