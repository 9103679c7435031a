use Rattle.std.proofs.Common.{◌≡◌, sym, ◌∙◌, ap, subst, arith, get_or}
use Rattle.std.proofs.lemmas.List.Elements.{Contains-get_or}
use Rattle.grid_base.specs.declared.size.Size.{Size}
use Rattle.grid_base.specs.declared.spot.Spot.{Spot}
use Rattle.grid_base.specs.declared.vertex.Vertex.{Vertex}
use Rattle.grid_base.specs.Numbers.{IsVertex}
use Rattle.grid_base.specs.Spots.{IsSpot, spot_at}
use Rattle.grid_base.specs.Walks.{InVertices}
use Rattle.shortest_paths.specs.LabelWords.{labels_size, labels_number}
use Rattle.label_search.proofs.Finding.{listed_spot}
use Rattle.steiner_span.proofs.Reaching.{start_growing, start_grown}
use Rattle.steiner_span.proofs.grow.begin.Goals as goal

pub offer-requires-clause-keys : goal.offer-requires-clause-keys
offer-requires-clause-keys g c = record {
  low = λ v key held. absurd (c.begin-count.ensures.idle v key held);
  high = λ v key held. absurd (c.begin-count.ensures.idle v key held);
  numbered = λ v key held. absurd (c.begin-count.ensures.idle v key held);
}

pub offer-requires-clause-to : goal.offer-requires-clause-to
offer-requires-clause-to g c =
    let t = labels_size c.begin-count.new.self in
    listed_spot t (g.W.Weights.size c.args.weights.now) c.args.terminals.now 0 (record { 0 = 0 }) c.of-source.result c.requires.vertices
    (sym (c.begin-count.ensures.size ∙ c.requires.size)) c.requires.some
    (c.of-source.ensures ∙ ap (λ (x : Size). spot_at x (get_or c.args.terminals.now 0 (record { 0 = 0 })).0) c.size.ensures)

pub reach-requires : goal.reach-requires
reach-requires g c =
    let t = labels_size c.begin-count.new.self in
    subst (λ (x : Size). IsSpot x c.of-source.result) (c.begin-count.ensures.size ∙ c.requires.size ∙ sym c.requires.ahead_size)
    (listed_spot t (g.W.Weights.size c.args.weights.now) c.args.terminals.now 0 (record { 0 = 0 }) c.of-source.result c.requires.vertices
    (sym (c.begin-count.ensures.size ∙ c.requires.size)) c.requires.some
    (c.of-source.ensures ∙ ap (λ (x : Size). spot_at x (get_or c.args.terminals.now 0 (record { 0 = 0 })).0) c.size.ensures))

pub returns-clause-terminals : goal.returns-clause-terminals
returns-clause-terminals g c = c.offer.ensures.taken.go_on.first c.args.terminals.now c.begin-count.result c.begin-count.ensures.first

pub returns-clause-left : goal.returns-clause-left
returns-clause-left g c = λ v terminal above.
    c.reach.ensures.left v (λ here. omega (arith, above, c.offer.ensures.lower, ap (labels_number c.offer.new.labels) here)) (c.requires.left v terminal)

pub returns-clause-source : goal.returns-clause-source
returns-clause-source g c =
    let terminals = c.args.terminals.now in
    let v : Vertex = get_or terminals 0 (record { 0 = 0 }) in
    let at : c.of-source.result.vertex.0 ≡ v.0 = ap (λ (x : Spot). x.vertex.0) c.of-source.ensures in
    (v.0, Contains-get_or terminals 0 (record { 0 = 0 }) c.requires.some, omega (arith, c.offer.ensures.lower, ap (labels_number c.offer.new.labels) at))

pub returns-clause-growing : goal.returns-clause-growing
returns-clause-growing g c =
    start_growing (g.W.Weights.size c.args.weights.now) (g.W.Weights.pieces c.args.weights.now) (InVertices c.args.terminals.now) (g.A.Bound.rest c.reach.new.self) c.begin-count.new.self c.offer.new.labels c.of-source.result.vertex.0
    c.begin-count.ensures.none c.offer.ensures.keys c.offer.ensures.taken

pub returns-clause-grown : goal.returns-clause-grown
returns-clause-grown g c =
    let s = g.W.Weights.size c.args.weights.now in
    let terminals = c.args.terminals.now in
    let v : Vertex = get_or terminals 0 (record { 0 = 0 }) in
    let at : c.of-source.result.vertex.0 ≡ v.0 = ap (λ (x : Spot). x.vertex.0) c.of-source.ensures in
    let t = labels_size c.begin-count.new.self in
    let same : t ≡ s = c.begin-count.ensures.size ∙ c.requires.size in
    let spot = listed_spot t s terminals 0 (record { 0 = 0 }) c.of-source.result c.requires.vertices (sym same) c.requires.some
    (c.of-source.ensures ∙ ap (λ (x : Size). spot_at x v.0) c.size.ensures) in
    start_grown s (g.W.Weights.pieces c.args.weights.now) terminals c.begin-count.new.self c.offer.new.labels c.of-source.result.vertex.0
    (subst (λ (x : Size). IsVertex x c.of-source.result.vertex.0) same spot.vertex) (subst (InVertices terminals) (sym at) (Contains-get_or terminals 0 (record { 0 = 0 }) c.requires.some))
    c.begin-count.ensures.none c.offer.ensures.taken c.offer.ensures.lower
