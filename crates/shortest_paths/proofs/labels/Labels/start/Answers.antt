use Rattle.std.proofs.Common.{All, sym, subst}
use Rattle.grid_base.specs.declared.size.Size.{Size}
use Rattle.grid_base.specs.declared.vertex.Vertex.{Vertex}
use Rattle.grid_base.specs.Numbers.{IsVertex}
use Rattle.shortest_paths.proofs.labels.Labels.start.Goals as goal

pub start_each-requires-clause-sources : goal.start_each-requires-clause-sources
start_each-requires-clause-sources g c =
    subst (λ (x : Size). All (λ (v : Vertex). IsVertex x v.0) c.args.sources.now) (sym c.forget-2.ensures.size) c.requires.sources
