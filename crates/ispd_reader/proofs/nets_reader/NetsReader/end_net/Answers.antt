use Rattle.std.proofs.Common.{◌+◌, ap, arith}
use Rattle.std.specs.BTreeSet.{contains}
use Rattle.std.specs.Ordering.{nat_cmp}
use Rattle.ispd_reader.specs.Nets.{Net}
use Rattle.ispd_reader.proofs.NetFits.{net_done, begun_is_net, begun_terminals}
use Rattle.ispd_reader.proofs.nets_reader.NetsReader.end_net.Goals as goal

pub returns-clause-fits : goal.returns-clause-fits
returns-clause-fits c = λ grid awaits.
    let n = c.args.self.now in
    let made = c.in_ok-net.net in
    let is = c.in_ok-net.ensures.net in
    let begun = awaits.begun in
    c.await_net.ensures.fits grid (rw c.in_ok-push.ensures.items (net_done grid n.spacing n.nets.items (contains nat_cmp n.taken) n.pins n.net.id (n.net.pin + n.net.owed) n.owed made awaits.done
    (ap (λ (m : Net). m.id) is) begun.new.free (begun_is_net grid n.nets.items n.net made begun is c.in_ok-net.ensures.distinct) (omega (arith, begun_terminals grid n.nets.items n.net made begun is))))
