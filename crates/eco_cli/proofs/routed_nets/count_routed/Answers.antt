use Rattle.std.proofs.Common.{◌≡◌, ◌+◌, ◌≤◌, Bool, cond, take, sym, ◌∙◌, ap, arith}
use Rattle.std.proofs.lemmas.List.{take_all}
use Rattle.std.proofs.lemmas.List.Sums.{sum_by_more}
use Rattle.std.specs.BTreeSet.{contains}
use Rattle.std.specs.List.{count_by}
use Rattle.std.specs.Ordering.{nat_cmp}
use Rattle.grid_graph.specs.declared.net_spec.NetSpec.{NetSpec}
use Rattle.route_judge.proofs.OpenEdges.{as_number, at_most_one}
use Rattle.eco_cli.proofs.routed_nets.count_routed.Goals as goal

pub loop-net-preserved : goal.loop-net-preserved
loop-net-preserved c =
    let nets = c.args.nets.now in
    let k = c.loop-net.net-index in
    let has : NetSpec → Bool = λ n. contains nat_cmp c.in_ok-routed.routed n.id in
    let more : c.from-count.result ≡ cond c.contains.result 1 0 = c.from-count.ensures ∙ as_number c.contains.result in
    let at_most : c.from-count.result ≤ 1 = rw c.from-count.ensures (at_most_one c.contains.result) in
    record {
      counted = ap (λ n. n + c.from-count.result) c.loop-net.invariant.counted
          ∙ ap (λ n. count_by has (take k nets) + n) (more ∙ ap (λ b. cond b 1 0) c.contains.ensures ∙ ap (λ (x : NetSpec). cond (has x) 1 0) c.net-item.is)
          ∙ sym (sum_by_more (λ (x : NetSpec). cond (has x) 1 0) nets k c.net-item.result c.loop-net-test.true);
      small = omega (arith, c.loop-net.invariant.small, at_most);
    }

pub returns : goal.returns
returns c =
    let nets = c.args.nets.now in
    let has : NetSpec → Bool = λ n. contains nat_cmp c.in_ok-routed.routed n.id in
    c.loop-net.invariant.counted ∙ ap (count_by has) (take_all c.loop-net.net-index nets (omega (arith, c.loop-net-test.false)))
    ∙ (λ i. count_by (λ n. c.in_ok-routed.ensures n.id i) nets)
