use Rattle.std.proofs.Common.{ℕ, ◌+◌, ◌-◌, ◌^◌, min, ◌≡◌, ◌<◌, ◌≤◌, ◌⊎◌, All, List, Some, ◌∙◌, ap, subst, inl, inr, arith}
use Rattle.grid_base.specs.declared.size.Size.{Size}
use Rattle.grid_base.specs.declared.vertex.Vertex.{Vertex}
use Rattle.grid_base.specs.Numbers.{layer_of}
use Rattle.grid_base.specs.Walks.{InVertices}
use Rattle.grid_graph.specs.Flat.{tile_of}
use Rattle.label_search.specs.Searches.{IsLow}
use Rattle.shortest_paths.specs.LabelWords.{labels_number}
use Rattle.shortest_paths.specs.Sources.{IsFromAny}
use Rattle.least_weights.proofs.NearestLed.{AreFoundFrom, bound_slow, answer_within}
use Rattle.least_weights.proofs.nearest.nearest_within.Goals as goal
use Rattle.least_weights.proofs.nearest.nearest_within.Goals.{then-number-limit, else-number-limit}

-- a search within a limit knows of all keys up to it
reached : (limit past own : ℕ) → limit ≤ 2 ^ 61 - 1 → own ≡ 0 → past ≡ min (own + (limit + 1)) (2 ^ 61) → past ≡ limit + 1
reached limit past own small start is = omega (arith, small, start, is)

pub returns-clause-nearest : goal.returns-clause-nearest
returns-clause-nearest g c =
    let w = c.args.weights.now in
    let s = g.W.Weights.size w in
    let pieces = g.W.Weights.pieces w in
    let terminals = c.args.terminals.now in
    let here = c.args.here.0 in
    let limit = c.args.limit in
    let flat = c.distance_past-past.new.self in
    let bound = c.new-bound.result in
    let across = bound.across.now in
    let found = c.in_ok-sources.sources.items in
    let num = labels_number c.distance_from_any.new.self in
    let size : c.size-size.result ≡ s = c.size-size.ensures ∙ c.requires.labels.grid in
    let is : AreFoundFrom s pieces terminals here limit bound.via flat found num = record {
      here = c.requires.here;
      slow = bound_slow s bound.size pieces (g.W.Weights.pieces bound.weights.now) (layer_of s here) bound.layer bound.via limit across.least flat across.labels.now
          (c.new-bound.ensures.size ∙ size) (ap g.W.Weights.pieces c.new-bound.ensures.weights)
          (c.new-bound.ensures.layer ∙ ap (λ (x : Size). layer_of x here) size) (ap (λ x. x.labels.now) c.new-bound.ensures.across ∙ c.new-across.ensures.labels)
          (ap (λ x. x.least) c.new-bound.ensures.across ∙ c.new-across.ensures.least ∙ reached limit c.distance_past-past.result _ c.requires.limit c.distance_past-past.ensures.start c.distance_past-past.ensures.past)
          bound.slow;
      own = subst (λ n. labels_number flat n ≡ 0) (c.tile_under-tile.ensures ∙ ap (λ (x : Size). tile_of x here) size) c.distance_past-past.ensures.start;
      small = c.requires.limit;
      are_goals = c.in_ok-sources.ensures.goals;
      others = λ v goes. subst (λ (x : Size). InVertices found v ⊎ (limit < labels_number flat (tile_of x v))) size (c.in_ok-sources.ensures.others v goes);
      low = subst (λ (vs : List Vertex). All (λ (v : Vertex). IsLow s pieces v.0 num here) vs) c.as_slice-2.ensures.value c.distance_from_any.ensures.low;
      from = λ less. subst (λ (vs : List Vertex). IsFromAny s pieces vs here (num here)) c.as_slice-2.ensures.value (c.distance_from_any.ensures.from here less);
    } in
    elim c.if-number-limit.branch [
      | then-number-limit w ↦ answer_within s pieces terminals here limit bound.via flat found num _ is (inl (omega (arith, w.if-number-limit.true, c.number-number.ensures.number), w.result-is ∙ ap Some c.number-number.ensures.number))
      | else-number-limit w ↦ answer_within s pieces terminals here limit bound.via flat found num _ is (inr (omega (arith, w.if-number-limit.false, c.number-number.ensures.number), w.result-is))
    ]
