use Rattle.std.proofs.Common.{◌≡◌, ◌+◌, ◌≤◌, cond, take, sym, ◌∙◌, ap, arith}
use Rattle.std.specs.List.{count_by}
use Rattle.std.proofs.lemmas.List.Sums.{sum_by_more}
use Rattle.grid_graph.specs.declared.ground.Ground.{Ground}
use Rattle.route_judge.specs.Counts.{needs_choked_edges}
use Rattle.route_judge.proofs.OpenEdges.{as_number, at_most_one}
use Rattle.route_judge.proofs.claims.forced_count.Goals as goal

pub loop-over-preserved : goal.loop-over-preserved
loop-over-preserved c =
    let grounds = c.args.grounds.now in
    let k = c.loop-over.over-index in
    let more : c.from-count.result ≡ cond c.needs_choked_edges.result 1 0 = c.from-count.ensures ∙ as_number c.needs_choked_edges.result in
    let at_most : c.from-count.result ≤ 1 = rw c.from-count.ensures (at_most_one c.needs_choked_edges.result) in
    record {
      counted = ap (λ n. n + c.from-count.result) c.loop-over.invariant.counted
          ∙ ap (λ n. count_by needs_choked_edges (take k grounds) + n) (more ∙ ap (λ b. cond b 1 0) c.needs_choked_edges.ensures)
          ∙ sym (sum_by_more (λ (x : Ground). cond (needs_choked_edges x) 1 0) grounds k _ c.loop-over-test.true);
      small = omega (arith, c.loop-over.invariant.small, at_most);
    }
