use Rattle.std.proofs.Common.{◌≡◌, ◌%◌, ◌+◌, ◌<◌, ◌++◌, ◌∷◌, [], ℕ, List, length, slice_index, refl, sym, ◌∙◌, ap, subst, ⊎_elim, arith}
use Rattle.std.proofs.lemmas.Bool.{cases_lt}
use Rattle.std.proofs.lemmas.List.{get_or_append_left, get_or_push, get_or_past, length_push}
use Rattle.grid_base.proofs.Places.{place_at-inside}
use Rattle.grid_base.specs.Numbers.{edge_start, layer_of, layers}
use Rattle.grid_graph.specs.Grids.{demand_on, size_of}
use Rattle.overflow_bounds.proofs.Units.{IsUnitOf, unit_kept}
use Rattle.overflow_bounds.proofs.layer_units.layer_units.Goals as goal

-- a number more is the last one, and the others stay
more_number : (P : ℕ → ℕ → Type 0) (xs : List ℕ) (x : ℕ) → ((k : ℕ) → k < length xs → P k (slice_index xs k)) → P (length xs) x → (k : ℕ) → k < length xs + 1 → P k (slice_index (xs ++ x ∷ []) k)
more_number P xs x each new k below = ⊎_elim
    (λ (earlier : k < length xs). subst (P k) (sym (get_or_append_left xs (x ∷ []) 0 k earlier)) (each k earlier))
    (λ last.
    let same : length xs ≡ k = omega (arith, below, last) in
    subst (λ (n : ℕ). P n (slice_index (xs ++ x ∷ []) n)) same (subst (P (length xs)) (sym (get_or_push xs x 0 (length xs) (omega arith))) new))
    (cases_lt k (length xs))

pub loop-layer-preserved : goal.loop-layer-preserved
loop-layer-preserved c =
    let d = c.args.design.now in
    let s = size_of d.grid in
    let units = c.loop-layer.units.items in
    let unit = c.unit_of_layer.result in
    let before = c.loop-layer.invariant in
    let long : length units ≡ c.loop-layer.layer = before.long in
    record {
      long = ap length c.in_ok-push.ensures.items ∙ length_push units unit ∙ omega (arith, long);
      each = λ layer below. subst (λ (xs : List ℕ). IsUnitOf d layer (slice_index xs layer)) (sym c.in_ok-push.ensures.items)
          (more_number (IsUnitOf d) units unit (λ k inside. before.each k (omega (arith, inside, long)))
          (subst (λ (k : ℕ). IsUnitOf d k unit) (sym long) (record { some = c.unit_of_layer.ensures.positive; small = c.unit_of_layer.ensures.small; divides = c.unit_of_layer.ensures.divides }))
          layer (omega (arith, below, long)));
    }

pub returns : goal.returns
returns c =
    let d = c.args.design.now in
    let s = size_of d.grid in
    let units = c.loop-layer.units.items in
    let all : layers s ≡ c.layers-layer-end.result = sym (c.layers-layer-end.ensures ∙ ap layers c.size.ensures) in
    let each : (layer : ℕ) → layer < layers s → IsUnitOf d layer (slice_index units layer) = λ layer below. c.loop-layer.invariant.each layer (omega (arith, below, all, c.loop-layer-test.false)) in
    record {
      divides = λ e n inside listed.
          let layer = layer_of s (edge_start e) in
          let is = each layer (place_at-inside s (edge_start e) (omega (arith, inside))).2 in
          ap (λ u. demand_on d.grid n.width e % u) (unit_kept (slice_index units layer) is.some) ∙ is.divides e n inside refl listed;
      small = λ e.
          let layer = layer_of s (edge_start e) in
          ⊎_elim
          (λ (below : layer < layers s). let is = each layer below in omega (arith, is.small, is.some))
          (λ past.
          let none : slice_index units layer ≡ 0 = get_or_past units layer 0 (omega (arith, past, all, c.loop-layer.invariant.long, c.loop-layer.auto.layer-end)) in
          omega (arith, none))
          (cases_lt layer (layers s));
    }
