use Rattle.std.proofs.Common.{◌≤◌}
use Rattle.unavoidable_cli.specs.Findings.{IsSameOrBetter}
use Rattle.unavoidable_cli.proofs.FindingParts.{better_most}
use Rattle.unavoidable_cli.proofs.NewCerts.{accepted-new}
use Rattle.unavoidable_cli.proofs.TwoLists.{most_of_lists, not_above-trans}
use Rattle.unavoidable_cli.proofs.found.finding_by.Goals as goal

pub returns-clause-finding : goal.returns-clause-finding
returns-clause-finding g c =
    let d = c.args.grounded.design in
    let cert = c.args.cert in
    let first = c.in_ok-first.first in
    let second = c.in_ok-first.second in
    let most = c.in_ok-most in
    let best = c.best_for_bound in
    let better = c.in_ok-better.better in
    let least : best.result.shown.overflow ≤ most.most.overflow =
    most_of_lists first second best.result most.most.overflow most.ensures.not_first most.ensures.not_second best.ensures.one in
    let new : IsSameOrBetter d cert better.cert better.edges.items most.most.overflow =
    better_most d cert better.cert better.edges.items best.result.shown.overflow most.most.overflow least c.in_ok-better.ensures.same_or_better in
    let is_accepted = accepted-new d c.args.grounded.grounds.items c.args.blocks.now cert better.cert better.edges.items most.most.overflow c.requires.cert c.requires.judged c.requires.bounds new in
    record {
      new = new;
      accepted = is_accepted.judged;
      reads_back = is_accepted.reads_back;
      bounds = is_accepted.bounds;
      shown = c.in_ok-cut.ensures;
      unavoidable = most.ensures.shown.unavoidable;
      of_routes = c.requires.overflow;
    }

pub returns-clause-first : goal.returns-clause-first
returns-clause-first g c =
    let first = c.in_ok-first.first in
    let best = c.best_for_bound in
    record {
      list = first;
      of_prices = c.in_ok-first.ensures.first_prices;
      shown = c.in_ok-first.ensures.first;
      bound = not_above-trans first.shown.bound best.result.shown.bound c.in_ok-better.better.cert.bound best.ensures.not_first c.in_ok-better.ensures.not_less;
      overflow = c.in_ok-most.ensures.not_first;
    }

pub returns-clause-second : goal.returns-clause-second
returns-clause-second g c =
    let second = c.in_ok-first.second in
    let best = c.best_for_bound in
    record {
      list = second;
      of_prices = c.in_ok-first.ensures.second_prices;
      shown = c.in_ok-first.ensures.second;
      bound = not_above-trans second.shown.bound best.result.shown.bound c.in_ok-better.better.cert.bound best.ensures.not_second c.in_ok-better.ensures.not_less;
      overflow = c.in_ok-most.ensures.not_second;
    }
