use Rattle.std.proofs.Common.{◌≡◌, ℕ, ◌+◌, ◌-◌, ◌^◌, ◌≤◌, ap, ◌∙◌, arith}
use Rattle.std.specs.Prelude.{map, max, min, sum}
use Rattle.std.specs.List.{range_with_len}
use Rattle.std.proofs.lemmas.List.FromFn.{sum_by-map-range_with_len_more}
use Rattle.net_extents.specs.Spreads.{layer_if_several, layer_to_reach, vias_above}
use Rattle.net_extents.proofs.spread.Spread.fewest_vias.Goals as goal

-- with those above one more layer
vias_more : (f : ℕ → ℕ) (base from layer vias more : ℕ) → from ≤ layer → vias ≡ min (base + sum (map f (range_with_len from (layer - from)))) (2 ^ 64 - 1)
    → more ≡ min (vias + f layer) (2 ^ 64 - 1) → more ≡ min (base + sum (map f (range_with_len from (layer + 1 - from)))) (2 ^ 64 - 1)
vias_more f base from layer vias more above are is =
    let counts : layer + 1 - from ≡ (layer - from) + 1 = omega (arith, above) in
    let sums : sum (map f (range_with_len from (layer + 1 - from))) ≡ sum (map f (range_with_len from (layer - from))) + f layer =
    ap (λ n. sum (map f (range_with_len from n))) counts ∙ sum_by-map-range_with_len_more (λ (n : ℕ). n) f from (layer - from) layer (omega (arith, above)) in
    omega (arith, sums, are, is)

pub loop-layer-preserved : goal.loop-layer-preserved
loop-layer-preserved c = record {
  within = omega (arith, c.loop-layer-test.true);
  vias = vias_more (vias_above c.args.lowest c.args.self.now) _ _ c.loop-layer.layer c.loop-layer.vias _ c.loop-layer.auto.layer c.loop-layer.invariant.vias
      (c.saturating_add-vias.ensures ∙ ap (λ n. min (c.loop-layer.vias + n) (2 ^ 64 - 1)) c.vias_above.ensures);
}

pub returns : goal.returns
returns c =
    let s = c.args.self.now in
    let lowest = c.args.lowest in
    let cols = c.layer_if_several-for_cols.ensures ∙ ap (λ xs. layer_if_several xs lowest.along_x) c.deref.ensures.value in
    let rows = c.layer_if_several-for_rows.ensures ∙ ap (λ xs. layer_if_several xs lowest.along_y) c.deref-2.ensures.value in
    let reach : c.max-layer-end.result ≡ layer_to_reach lowest s =
    c.max-layer-end.ensures ∙ ap (λ n. max n c.layer_if_several-for_rows.result) cols ∙ ap (max (layer_if_several s.cols.items lowest.along_x)) rows in
    let counts : c.loop-layer.layer - s.high ≡ layer_to_reach lowest s - s.high = omega (arith, c.loop-layer-test.false, c.loop-layer.invariant.within, reach) in
    c.loop-layer.invariant.vias ∙ ap (λ n. min ((s.high - s.low) + sum (map (vias_above lowest s) (range_with_len s.high n))) (2 ^ 64 - 1)) counts
