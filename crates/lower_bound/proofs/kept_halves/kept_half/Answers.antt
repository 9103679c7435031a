use Rattle.std.proofs.Common.{◌+◌, get_or, refl, sym, ◌∙◌, ap, subst, arith}
use Rattle.std.proofs.lemmas.Option.{slice_get-get_or, get_or_from_slice_get}
use Rattle.grid_base.specs.declared.vertex.Vertex.{Vertex}
use Rattle.grid_base.specs.Numbers.{IsVertex}
use Rattle.grid_graph.specs.Weighed.{IsAllowed}
use Rattle.shortest_paths.specs.declared.labels.Labels.{Labels}
use Rattle.shortest_paths.specs.LabelWords.{labels_size, masks_of}
use Rattle.least_weights.specs.declared.kept_costs.KeptCosts.{KeptCosts}
use Rattle.lower_bound.specs.HalfWords.{HasTwin}
use Rattle.least_weights.specs.KeptCosts.{AreKeptCosts}
use Rattle.lower_bound.proofs.HalvesOf.{twin_least}
use Rattle.lower_bound.proofs.NearestPairs.{IsNearestSoFar, nearest_none, nearest_past, nearest_more, nearest_all, two_joined}
use Rattle.lower_bound.proofs.kept_halves.kept_half.Goals as goal
use Rattle.lower_bound.proofs.kept_halves.kept_half.Goals.{then-other-place, else-other-place}

pub returns-then-has_twin-clause-half : goal.returns-then-has_twin-clause-half
returns-then-has_twin-clause-half g c =
    let s = g.W.Weights.size c.args.weights.now in
    let pieces = g.W.Weights.pieces c.args.weights.now in
    let tiles = c.args.tiles.now in
    let place = c.args.place in
    let twin : HasTwin tiles place = c.has_twin.ensures.0 c.if-has_twin.true in
    let vertex : IsVertex s twin.vertex.0 = subst (λ (v : Vertex). IsVertex s v.0) (get_or_from_slice_get tiles place twin.vertex twin.vertex twin.stands) (c.requires.vertices place twin.vertex c.requires.place) in
    (0, twin_least s pieces tiles place twin vertex, refl)

pub between-least-requires-clause-joined : goal.between-least-requires-clause-joined
between-least-requires-clause-joined g c =
    two_joined (g.W.Weights.size c.args.weights.now) (IsAllowed (g.W.Weights.pieces c.args.weights.now)) c.args.tiles.now c.args.place c.another-first.result (record { 0 = 0 }) c.requires.joined c.requires.place
    (omega (arith, c.another-first.ensures.low, c.requires.two))

pub between-requires-clause-joined : goal.between-requires-clause-joined
between-requires-clause-joined g c =
    two_joined (g.W.Weights.size c.args.weights.now) (IsAllowed (g.W.Weights.pieces c.args.weights.now)) c.args.tiles.now c.args.place c.loop-other.other (record { 0 = 0 }) c.requires.joined c.requires.place c.loop-other-test.true

pub loop-other-init : goal.loop-other-init
loop-other-init g c =
    let s = g.W.Weights.size c.args.weights.now in
    let pieces = g.W.Weights.pieces c.args.weights.now in
    let tiles = c.args.tiles.now in
    let first = c.another-first.result in
    let d : Vertex = record { 0 = 0 } in
    record {
      kept = c.between-least.ensures.kept;
      size = c.between-least.ensures.size;
      masks = c.between-least.ensures.masks;
      nearest = nearest_none s pieces tiles c.args.place first c.between-least.result (get_or tiles c.args.place d) (get_or tiles first d) (slice_get-get_or tiles c.args.place d c.requires.place)
          (slice_get-get_or tiles first d (omega (arith, c.another-first.ensures.low, c.requires.two))) c.another-first.ensures.differs c.between-least.ensures.least;
    }

pub loop-other-preserved : goal.loop-other-preserved
loop-other-preserved g c =
    let s = g.W.Weights.size c.args.weights.now in
    let pieces = g.W.Weights.pieces c.args.weights.now in
    let tiles = c.args.tiles.now in
    let place = c.args.place in
    let n = c.loop-other.other in
    let before = c.loop-other.invariant in
    let d : Vertex = record { 0 = 0 } in
    elim c.if-other-place.branch [
      | then-other-place w ↦ record {
        kept = subst (λ (k : KeptCosts). AreKeptCosts s pieces k.entries.items) (sym w.kept-is) w.between.ensures.kept;
        size = ap (λ (l : Labels). labels_size l) w.labels-is ∙ w.between.ensures.size ∙ before.size;
        masks = ap (λ (l : Labels). masks_of l) w.labels-is ∙ w.between.ensures.masks ∙ before.masks;
        nearest = subst (IsNearestSoFar s pieces tiles place (n + 1)) (sym w.least-is)
            (nearest_more s pieces tiles place n c.loop-other.least w.between.result w.min-least.result (get_or tiles place d) (get_or tiles n d) before.nearest w.if-other-place.true (slice_get-get_or tiles place d c.requires.place)
            (slice_get-get_or tiles n d c.loop-other-test.true) w.between.ensures.least w.min-least.ensures);
      }
      | else-other-place w ↦ record {
        kept = subst (λ (k : KeptCosts). AreKeptCosts s pieces k.entries.items) (sym w.kept-is) before.kept;
        size = ap (λ (l : Labels). labels_size l) w.labels-is ∙ before.size;
        masks = ap (λ (l : Labels). masks_of l) w.labels-is ∙ before.masks;
        nearest = subst (IsNearestSoFar s pieces tiles place (n + 1)) (sym w.least-is) (nearest_past s pieces tiles place n c.loop-other.least before.nearest w.if-other-place.false);
      }
    ]

pub returns-clause-half : goal.returns-clause-half
returns-clause-half g c =
    let nearest = nearest_all (g.W.Weights.size c.args.weights.now) (g.W.Weights.pieces c.args.weights.now) c.args.tiles.now c.args.place
    c.loop-other.other c.loop-other.least c.loop-other.invariant.nearest c.loop-other-test.false in
    (c.loop-other.least, nearest, refl)
