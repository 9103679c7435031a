use Rattle.std.proofs.Common.{arith}
use Rattle.std.proofs.lemmas.List.Sums.{count_by-le-length}
use Rattle.std.proofs.lemmas.Slice.Zip.{AllZip-long}
use Rattle.grid_graph.specs.Grounds.{IsGround}
use Rattle.route_judge.specs.Counts.{needs_choked_edges}
use Rattle.router_cli.proofs.certificate.certificate.Goals as goal

pub overflow_cast-result-2 : goal.overflow_cast-result-2
overflow_cast-result-2 g c =
    let d = c.args.design.now in
    omega (
      arith,
      c.forced_count.ensures,
      count_by-le-length needs_choked_edges c.args.grounds.now,
      AllZip-long (λ n found. IsGround d.grid n.terminals found) d.nets c.args.grounds.now c.requires.grounds,
      d.limits.count,
    )
