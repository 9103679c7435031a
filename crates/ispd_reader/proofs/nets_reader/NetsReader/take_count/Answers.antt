use Rattle.std.proofs.Common.{false, refl}
use Rattle.std.proofs.lemmas.Result.{err_from_is_err_and}
use Rattle.std.specs.BTreeSet.{contains}
use Rattle.std.specs.Ordering.{nat_cmp}
use Rattle.grid_graph.specs.Grids.{layout_of}
use Rattle.grid_graph.specs.Limits.{max_nets}
use Rattle.ispd_reader.specs.declared.net_stage.NetStage.TheVariants as stages
use Rattle.design_tokens.specs.Numbers.{count_at}
use Rattle.ispd_reader.specs.NetsLeft.{nets_left_at_count}
use Rattle.ispd_reader.specs.Views.{header_of}
use Rattle.ispd_reader.proofs.NetTokens.{took, refused_there}
use Rattle.ispd_reader.proofs.NetFits.{done_at, fewer}
use Rattle.ispd_reader.proofs.nets_reader.NetsReader.take_count.Goals as goal

pub returns-in_err-count : goal.returns-in_err-count
returns-in_err-count c = λ grid fits.
    let p = err_from_is_err_and c.from_residual.result c.from_residual.ensures.1 in
    rw (p.1, p.2) (refused_there grid c.args.token.now stages.Count c.args.self.now _ (count_at max_nets) c.in_err-count.field-0.0 nets_left_at_count c.requires (λ r. refl) (λ fault. refl) c.in_err-count.ensures.count)

pub returns : goal.returns
returns c = λ grid fits.
    let n = c.args.self.now in
    let count = c.in_ok-count.count in
    took grid c.args.token.now stages.Count n _ (count_at max_nets) count nets_left_at_count c.requires (λ r. refl) (λ after. c.await_net.ensures.left (header_of (layout_of grid)) after) c.in_ok-count.ensures.count
    (c.await_net.ensures.fits grid (fewer grid n.spacing n.nets.items (contains nat_cmp n.taken) n.pins (λ _. false) 0 max_nets count c.in_ok-count.ensures.limit (done_at grid n stages.Count c.requires fits)))
