use Rattle.std.proofs.Common.{ℕ, length, replicate, refl, ◌∙◌, ap, arith}
use Rattle.std.proofs.lemmas.List.Sums.{count_by-le-length}
use Rattle.std.proofs.lemmas.Slice.Zip.{AllZip-long}
use Rattle.grid_graph.specs.Grounds.{IsGround}
use Rattle.route_judge.specs.Counts.{needs_choked_edges}
use Rattle.tree_set.specs.Loads.{load}
use Rattle.unavoidable_cli.proofs.routes_alone.cert_of_routes.Goals as goal

pub overflow_cast-result-2 : goal.overflow_cast-result-2
overflow_cast-result-2 c =
    let d = c.args.design.now in
    omega (
      arith,
      c.forced_count.ensures,
      count_by-le-length needs_choked_edges c.args.grounds.now,
      AllZip-long (λ n found. IsGround d.grid n.terminals found) d.nets c.args.grounds.now c.requires.grounds,
      d.limits.count,
    )

pub returns : goal.returns
returns c = λ blocks beyond measured.
    let d = c.args.design.now in
    record {
      nets = ap length c.list.ensures.items;
      forced = c.forced_count.ensures;
      beyond = beyond;
      measured = measured;
      no_budget = refl;
      equal_prices = c.of.ensures ∙ c.in_ok-prices.ensures.items_if_clones_equal (λ y same. same) ∙ ap (λ (n : ℕ). replicate {A = ℕ} n 0) c.open_count.ensures;
      bound = c.bound_beside.ensures d.grid (load d.grid d.nets measured.trees) measured.measure.of_peak;
    }
