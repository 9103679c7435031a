use Rattle.std.proofs.Common.{None}
use Rattle.judge_laws.specs.RoutesAlone.{IsCertOfRoutes}
use Rattle.judge_laws.proofs.RoutesAlone.{routes_accepted, routes_bound, routes_within}
use Rattle.route_judge.specs.Measured.{AreMeasured}
use Rattle.route_judge.specs.Orders.{AreRoutes}
use Rattle.unavoidable_cli.proofs.outcome.outcome_alone.Goals as goal

pub finding_of-requires-clause-cert : goal.finding_of-requires-clause-cert
finding_of-requires-clause-cert g c κs within =
    let d = c.args.routed.grounded.design in
    let over = c.args.routed.grounded.grounds.items in
    let blocks = c.args.routed.blocks in
    let cert = c.in_ok-cert-in-Yes.cert in
    let measured : AreMeasured d c.as_slice-grounds.result.now blocks None c.in-Yes.measure c.in-Yes.beyond = rw c.in-Yes.is at c.in_ok-measure.ensures.measured in
    let is : IsCertOfRoutes d over blocks cert = rw c.as_slice-grounds.ensures.value at (c.in_ok-cert-in-Yes.ensures blocks c.in-Yes.beyond measured) in
    routes_within d over blocks cert c.requires.grounds is

pub finding_of-requires-clause-judged : goal.finding_of-requires-clause-judged
finding_of-requires-clause-judged g c κs within =
    let d = c.args.routed.grounded.design in
    let over = c.args.routed.grounded.grounds.items in
    let blocks = c.args.routed.blocks in
    let cert = c.in_ok-cert-in-Yes.cert in
    let routes : AreRoutes d blocks = rw c.in-Yes.is at c.in_ok-measure.ensures.first in
    let measured : AreMeasured d c.as_slice-grounds.result.now blocks None c.in-Yes.measure c.in-Yes.beyond = rw c.in-Yes.is at c.in_ok-measure.ensures.measured in
    let is : IsCertOfRoutes d over blocks cert = rw c.as_slice-grounds.ensures.value at (c.in_ok-cert-in-Yes.ensures blocks c.in-Yes.beyond measured) in
    routes_accepted d over blocks cert routes is

pub finding_of-requires-clause-bounds : goal.finding_of-requires-clause-bounds
finding_of-requires-clause-bounds g c κs within =
    let d = c.args.routed.grounded.design in
    let over = c.args.routed.grounded.grounds.items in
    let blocks = c.args.routed.blocks in
    let cert = c.in_ok-cert-in-Yes.cert in
    let measured : AreMeasured d c.as_slice-grounds.result.now blocks None c.in-Yes.measure c.in-Yes.beyond = rw c.in-Yes.is at c.in_ok-measure.ensures.measured in
    let is : IsCertOfRoutes d over blocks cert = rw c.as_slice-grounds.ensures.value at (c.in_ok-cert-in-Yes.ensures blocks c.in-Yes.beyond measured) in
    routes_bound d over blocks cert is
