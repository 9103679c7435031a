use Rattle.std.proofs.Common.{◌+◌, ◌==◌, suc, ◌∙◌, refl, arith}
use Rattle.std.proofs.lemmas.Result.{err_from_is_err_and}
use Rattle.std.specs.BTreeSet.{contains}
use Rattle.std.specs.Ordering.{nat_cmp}
use Rattle.grid_graph.specs.Grids.{layout_of}
use Rattle.ispd_reader.specs.declared.net_stage.NetStage.TheVariants as stages
use Rattle.ispd_reader.specs.declared.present_net.PresentNet.{PresentNet}
use Rattle.ispd_reader.specs.PinParts.{pin_level_at}
use Rattle.ispd_reader.specs.NetsLeft.{nets_left_at_layer}
use Rattle.ispd_reader.specs.Views.{header_of}
use Rattle.ispd_reader.proofs.NetTokens.{took, refused_there, pin_added}
use Rattle.ispd_reader.proofs.NetFits.{done_at, present_at, same_pins, place_added}
use Rattle.ispd_reader.proofs.nets_reader.NetsReader.take_layer.Goals as goal

pub returns-in_err-level : goal.returns-in_err-level
returns-in_err-level c =
    let n = c.args.self.now in
    let p = err_from_is_err_and c.from_residual.result c.from_residual.ensures.1 in
    rw (p.1, p.2) (refused_there c.args.grid.now c.args.token.now (stages.Layer c.args.col c.args.row) n _ (pin_level_at (header_of (layout_of c.args.grid.now)) n.net.id n.net.pin) c.in_err-level.field-0.0
    (λ header n level. nets_left_at_layer header n c.args.col c.args.row level) c.requires.stage (λ r. refl) (λ fault. refl) c.in_err-level.ensures.level)

pub returns : goal.returns
returns c =
    let grid = c.args.grid.now in
    let header = header_of (layout_of grid) in
    let n = c.args.self.now in
    let s = stages.Layer c.args.col c.args.row in
    let level = c.in_ok-level.level in
    let with : PresentNet = record n.net { places = c.push.new.self } in
    let present = present_at grid n s c.requires.stage c.requires.fits in
    let begun = present.0 in
    took grid c.args.token.now s n _ (pin_level_at header n.net.id n.net.pin) level (λ header n level. nets_left_at_layer header n c.args.col c.args.row level) c.requires.stage (λ r. refl)
    (λ after. pin_added header n with c.args.col c.args.row level c.vertex-vertex.result after c.vertex-vertex.ensures.number c.in_ok-push.ensures.items ∙ c.in_ok-await_pin.ensures.left header after) c.in_ok-level.ensures.level
    (c.in_ok-await_pin.ensures.fits grid (record {
      done = same_pins grid n.spacing n.nets.items (contains nat_cmp n.taken) n.pins (λ q. q == n.net.id) (n.net.pin + suc n.net.owed) (n.net.pin + 1 + n.net.owed) (suc n.owed) (omega arith) (done_at grid n s c.requires.stage c.requires.fits);
      begun = record {
        new = begun.new;
        narrow = begun.narrow;
        so_far = rw c.in_ok-push.ensures.items (place_added grid n.net.places.items n.net.pin c.vertex-vertex.result c.vertex-vertex.ensures.vertex begun.so_far);
      };
    }))
