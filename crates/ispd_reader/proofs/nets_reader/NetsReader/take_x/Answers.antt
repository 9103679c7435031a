use Rattle.std.proofs.Common.{refl}
use Rattle.std.proofs.lemmas.Result.{err_from_is_err_and}
use Rattle.grid_graph.specs.Grids.{layout_of}
use Rattle.ispd_reader.specs.declared.net_stage.NetStage.TheVariants as stages
use Rattle.ispd_reader.specs.PinParts.{pin_column_at}
use Rattle.ispd_reader.specs.NetsLeft.{nets_left_at_x, nets_left}
use Rattle.ispd_reader.specs.Views.{header_of}
use Rattle.ispd_reader.proofs.NetTokens.{took, refused_there}
use Rattle.ispd_reader.proofs.NetFits.{done_at, present_at}
use Rattle.ispd_reader.proofs.nets_reader.NetsReader.take_x.Goals as goal

pub returns-in_err-col : goal.returns-in_err-col
returns-in_err-col c =
    let n = c.args.self.now in
    let p = err_from_is_err_and c.from_residual.result c.from_residual.ensures.1 in
    rw (p.1, p.2) (refused_there c.args.grid.now c.args.token.now stages.X n _ (pin_column_at (header_of (layout_of c.args.grid.now)) n.net.id n.net.pin) c.in_err-col.field-0.0 nets_left_at_x c.requires.stage (λ r. refl) (λ fault. refl) c.in_err-col.ensures.column)

pub returns : goal.returns
unfolding nets_left
returns c =
    let grid = c.args.grid.now in
    let n = c.args.self.now in
    took grid c.args.token.now stages.X n _ (pin_column_at (header_of (layout_of grid)) n.net.id n.net.pin) c.in_ok-col.col nets_left_at_x c.requires.stage (λ r. refl) (λ after. refl) c.in_ok-col.ensures.column
    (record { done = done_at grid n stages.X c.requires.stage c.requires.fits; present = (present_at grid n stages.X c.requires.stage c.requires.fits, c.in_ok-col.ensures.below) })
