use Rattle.std.proofs.Common.{◌-◌, ◌==◌, suc, refl}
use Rattle.std.proofs.lemmas.Result.{err_from_is_err_and}
use Rattle.std.specs.BTreeSet.{contains}
use Rattle.std.specs.Ordering.{nat_cmp}
use Rattle.grid_graph.specs.Limits.{max_pins}
use Rattle.ispd_reader.specs.declared.net_stage.NetStage.TheVariants as stages
use Rattle.design_tokens.specs.Numbers.{count_at}
use Rattle.ispd_reader.specs.NetsLeft.{nets_left_at_pin_count, nets_left}
use Rattle.ispd_reader.proofs.NetTokens.{took, refused_there}
use Rattle.ispd_reader.proofs.NetFits.{done_at, present_at, pins_done}
use Rattle.ispd_reader.proofs.nets_reader.NetsReader.take_pin_count.Goals as goal

pub returns-in_err-count : goal.returns-in_err-count
returns-in_err-count c =
    let n = c.args.self.now in
    let p = err_from_is_err_and c.from_residual.result c.from_residual.ensures.1 in
    rw (p.1, p.2) (refused_there c.args.grid.now c.args.token.now stages.PinCount n _ (count_at (max_pins - n.pins)) c.in_err-count.field-0.0 nets_left_at_pin_count c.requires.stage (λ r. refl) (λ fault. refl) c.in_err-count.ensures.count)

pub returns : goal.returns
unfolding nets_left
returns c =
    let grid = c.args.grid.now in
    let n = c.args.self.now in
    let count = c.in_ok-count.count in
    took grid c.args.token.now stages.PinCount n _ (count_at (max_pins - n.pins)) count nets_left_at_pin_count c.requires.stage (λ r. refl) (λ after. refl) c.in_ok-count.ensures.count
    (record {
      done = pins_done grid n.spacing n.nets.items (contains nat_cmp n.taken) n.pins (suc n.owed) count (λ q. q == n.net.id) c.in_ok-count.ensures.limit (done_at grid n stages.PinCount c.requires.stage c.requires.fits);
      present = (present_at grid n stages.PinCount c.requires.stage c.requires.fits, c.clear.ensures.items, refl);
    })
