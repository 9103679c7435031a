use Rattle.std.proofs.Common.{◌/◌, get_or, ap}
use Rattle.std.proofs.lemmas.Option.{slice_get-get_or}
use Rattle.grid_base.specs.declared.vertex.Vertex.{Vertex}
use Rattle.bound_climb.proofs.Halves.{half_to_other}
use Rattle.bound_climb.proofs.proving.half.Goals as goal

pub returns-clause-half : goal.returns-clause-half
returns-clause-half g c =
    let w = c.args.weights.now in
    let terminals = c.args.terminals.now in
    let nowhere : Vertex = record { 0 = 0 } in
    half_to_other (g.W.Weights.size w) (g.W.Weights.pieces w) terminals c.args.place (c.unwrap_or.result / 2)
    (get_or terminals c.args.place nowhere) c.distance_to_nearest-least.result (g.met.W.Weights.once w) c.requires.joined
    c.requires.two c.requires.distinct (slice_get-get_or terminals c.args.place nowhere c.requires.place)
    c.distance_to_nearest-least.ensures.nearest (ap (λ n. n / 2) c.unwrap_or.ensures)
