-- The least prices over tile edges, where one price changes.
use Rattle.std.proofs.Common.{ℕ, ◌+◌, ◌*◌, ◌%◌, ◌≡◌, ◌≢◌, ◌≤◌, ◌<◌, List, set, slice_index, cond, sym, ap, inl, inr, ◌∙◌, arith, get_or-set_other, length-set}
use Rattle.std.proofs.lemmas.Bool.{cases_eq}
use Rattle.std.proofs.lemmas.Grind.{get_or-set_at}
use Rattle.std.proofs.lemmas.Nat.{mod-mul-add}
use Rattle.grid_base.specs.Numbers.{layers}
use Rattle.grid_graph.specs.declared.grid.Grid.{Grid}
use Rattle.grid_graph.specs.Flat.{tiles, tile_edge_of}
use Rattle.grid_graph.specs.Grids.{size_of, edge_numbers}
use Rattle.edge_prices.specs.TilePrices.{no_price, price_on, least_price_over, AreTilePrices}
use Rattle.edge_prices.specs.Weights.{is_open}
use Rattle.edge_prices.proofs.Least.{least-cong}
use Rattle.edge_prices.proofs.LeastOver.{number-on}

-- no other entry of the prices changed
abbrev pub IsSameElsewhere : List ℕ → List ℕ → ℕ → Type 0
IsSameElsewhere before after r = (k : ℕ) → k ≢ r → slice_index after k ≡ slice_index before k

-- a tile edge keeps its price where the entry isn't over it
same_over : (g : Grid) (before after : List ℕ) (r e : ℕ) → IsSameElsewhere before after r →
    ((layer : ℕ) → layer < layers (size_of g) → layer * (2 * tiles (size_of g)) + e ≢ r) → least_price_over g after e ≡ least_price_over g before e
same_over g before after r e same apart =
    least-cong no_price (price_on g after e) (price_on g before e) (layers (size_of g))
    (λ layer below. let k = layer * (2 * tiles (size_of g)) + e in ap (λ p. cond (is_open g k) p no_price) (same k (apart layer below)))

pub tiles-kept : (g : Grid) (before after over : List ℕ) (r : ℕ) → AreTilePrices g before over → IsSameElsewhere before after r → edge_numbers g ≤ r → AreTilePrices g after over
tiles-kept g before after over r old same past = record {
  long = old.long;
  each = λ e below. old.each e below ∙ sym (same_over g before after r e same (λ layer inside is. absurd (omega (arith, is, number-on (size_of g) layer e inside below))));
}

pub tiles-set : (g : Grid) (before after over : List ℕ) (r tile price : ℕ) → AreTilePrices g before over → IsSameElsewhere before after r → tile < 2 * tiles (size_of g) →
    tile ≡ tile_edge_of (size_of g) r → price ≡ least_price_over g after tile → AreTilePrices g after (set over tile price)
tiles-set g before after over r tile price old same inside is priced =
    let w = 2 * tiles (size_of g) in record {
      long = length-set over tile price ∙ old.long;
      each = λ e below. elim (cases_eq e tile) [
        | inl here ↦ get_or-set_at over tile e price 0 here (omega (arith, old.long)) ∙ priced ∙ ap (least_price_over g after) (sym here)
        | inr other ↦ get_or-set_other over tile e price 0 other ∙ old.each e below
            ∙ sym (same_over g before after r e same (λ layer _ at. other (sym (mod-mul-add layer w e below) ∙ ap (λ n. n % w) at ∙ sym is)))
      ];
    }
