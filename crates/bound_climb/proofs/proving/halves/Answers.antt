use Rattle.std.proofs.Common.{◌≡◌, ◌++◌, ◌∷◌, [], ℕ, List, ◌+◌, length, ◌∙◌, ap, subst}
use Rattle.std.proofs.lemmas.List.{length_push}
use Rattle.grid_base.specs.Lists.{At}
use Rattle.bound_climb.proofs.Halves.{one_more}
use Rattle.bound_climb.proofs.proving.halves.Goals as goal

pub loop-place-preserved : goal.loop-place-preserved
loop-place-preserved g c =
    let s = g.W.Weights.size c.args.weights.now in
    let pieces = g.W.Weights.pieces c.args.weights.now in
    let old = c.loop-place.halves.items in
    let half = c.half.result in
    let items : c.push.new.self.items ≡ old ++ half ∷ [] = c.in_ok-push.ensures.items in
    record {
      size = c.half.ensures.size ∙ c.loop-place.invariant.size;
      masks = c.half.ensures.masks ∙ c.loop-place.invariant.masks;
      long = ap (λ (xs : List ℕ). length xs) items ∙ length_push old half ∙ ap (λ n. n + 1) c.loop-place.invariant.long;
      each = λ place x at. one_more s pieces c.args.terminals.now old c.loop-place.place half c.loop-place.invariant.long
          c.loop-place.invariant.each c.half.ensures.half place x (subst (λ (xs : List ℕ). At xs place x) items at);
    }
