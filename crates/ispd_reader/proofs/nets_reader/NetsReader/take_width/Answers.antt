use Rattle.std.proofs.Common.{◌∙◌, refl}
use Rattle.std.proofs.lemmas.Result.{err_from_is_err_and}
use Rattle.grid_graph.specs.Grids.{layout_of}
use Rattle.ispd_reader.specs.declared.net_stage.NetStage.TheVariants as stages
use Rattle.ispd_reader.specs.Nets.{net_width_at}
use Rattle.ispd_reader.specs.NetsLeft.{nets_left_at_width}
use Rattle.ispd_reader.specs.Views.{header_of}
use Rattle.ispd_reader.proofs.NetTokens.{took, refused_there, pins_next}
use Rattle.ispd_reader.proofs.NetFits.{done_at, present_at, no_places}
use Rattle.ispd_reader.proofs.nets_reader.NetsReader.take_width.Goals as goal

pub returns-in_err-width : goal.returns-in_err-width
returns-in_err-width c =
    let p = err_from_is_err_and c.from_residual.result c.from_residual.ensures.1 in
    rw (p.1, p.2) (refused_there c.args.grid.now c.args.token.now stages.Width c.args.self.now _ (net_width_at (header_of (layout_of c.args.grid.now))) c.in_err-width.field-0.0 nets_left_at_width c.requires.stage (λ r. refl) (λ fault. refl) c.in_err-width.ensures.width)

pub returns : goal.returns
returns c =
    let grid = c.args.grid.now in
    let header = header_of (layout_of grid) in
    let n = c.args.self.now in
    let width = c.in_ok-width.width in
    let present = present_at grid n stages.Width c.requires.stage c.requires.fits in
    took grid c.args.token.now stages.Width n _ (net_width_at header) width nets_left_at_width c.requires.stage (λ r. refl)
    (λ after. pins_next header n width after present.1 present.2 ∙ c.in_ok-await_pin.ensures.left header after) c.in_ok-width.ensures.width
    (c.in_ok-await_pin.ensures.fits grid (record {
      done = done_at grid n stages.Width c.requires.stage c.requires.fits;
      begun = record { new = present.0; narrow = c.in_ok-width.ensures.limit; so_far = no_places grid n.net.places.items n.net.pin present.1 present.2 };
    }))
