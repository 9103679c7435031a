-- What a keeper of prices does where one load changes.
use Rattle.std.proofs.Common.{ℕ, ◌≡◌, ◌≢◌, ◌≤◌, ◌<◌, List, length, get_or, set, refl, sym, ap, inl, inr, ◌∙◌, arith, get_or-set_other, length-set}
use Rattle.std.specs.Prelude.{Option}
use Rattle.std.proofs.lemmas.Bool.{cases_eq}
use Rattle.std.proofs.lemmas.Grind.{get_or-set_at}
use Rattle.std.proofs.lemmas.List.{get_or_read}
use Rattle.std.proofs.lemmas.List.FromFn.{fill_by_all}
use Rattle.grid_base.specs.declared.axis.Axis.{Axis}
use Rattle.grid_base.specs.Numbers.{edge_axis}
use Rattle.grid_graph.specs.declared.grid.Grid.{Grid}
use Rattle.grid_graph.specs.Grids.{capacity, edge_numbers, entries}
use Rattle.edge_prices.specs.declared.least_prices.LeastPrices.{LeastPrices}
use Rattle.edge_prices.specs.declared.top_index.TopIndex.{TopIndex}
use Rattle.edge_prices.specs.Floors.{least_along, AreLeast}
use Rattle.edge_prices.specs.Kept.{IsCurrent}
use Rattle.grid_graph.specs.Limits.{max_load}
use Rattle.edge_prices.specs.TilePrices.{AreTilePrices}
use Rattle.edge_prices.specs.Prices.{index_or_zero, price_or_zero}
use Rattle.edge_prices.specs.TopIndices.{IsTopIndex, IsAfterChange}
use Rattle.edge_prices.specs.Vectors.{capacity_of, index_of, top_of, price_of, price_vector, IsLoadList}
use Rattle.edge_prices.proofs.Entries.{set_within}
use Rattle.edge_prices.proofs.TopIndices.{IsTopIndex-change}
use Rattle.edge_prices.proofs.PriceVectors.{capacity_of-edge, entry-price_vector, length-price_vector, price_or_zero-positive}

pub IsLoadList-set : (g : Grid) (loads : List ℕ) (r load : ℕ) → IsLoadList g loads → load ≤ max_load → IsLoadList g (set loads r load)
IsLoadList-set g loads r load loaded small = record { long = length-set loads r load ∙ loaded.long; within = set_within loads r load max_load loaded.within small }

index_of-others : (g : Grid) (loads : List ℕ) (scale : ℕ) (budget : Option ℕ) (r load k : ℕ) → k ≢ r → index_of g (set loads r load) scale budget k ≡ index_of g loads scale budget k
index_of-others g loads scale budget r load k other = ap (λ x. index_or_zero (capacity_of g budget k) x scale) (get_or-set_other loads r k load 0 other)

index_of-here : (g : Grid) (loads : List ℕ) (scale : ℕ) (budget : Option ℕ) (r load : ℕ) → r < length loads →
    index_of g (set loads r load) scale budget r ≡ index_or_zero (capacity_of g budget r) load scale
index_of-here g loads scale budget r load inside = ap (λ x. index_or_zero (capacity_of g budget r) x scale) (get_or-set_at loads r r load 0 refl inside)

-- a load under which the greatest index stays
pub record KeepsGreatest (g : Grid) (loads : List ℕ) (scale : ℕ) (budget : Option ℕ) (r load : ℕ) : Type 0 where
  pub inside : r < entries g
  pub stays : top_of g (set loads r load) scale budget ≡ top_of g loads scale budget

-- the greatest index and how many have it, after the change
pub top-set : (g : Grid) (loads : List ℕ) (scale : ℕ) (budget : Option ℕ) (r load read before after : ℕ) (top next : TopIndex) → IsLoadList g loads → r < entries g →
    IsTopIndex (index_of g loads scale budget) (entries g) top → read ≡ get_or loads r read → before ≡ index_or_zero (capacity_of g budget r) read scale →
    after ≡ index_or_zero (capacity_of g budget r) load scale → IsAfterChange top before after next →
    IsTopIndex (index_of g (set loads r load) scale budget) (entries g) next
top-set g loads scale budget r load read before after top next loaded inside is found was now changed =
    let within : r < length loads = omega (arith, loaded.long) in
    let had : before ≡ index_of g loads scale budget r =
    was ∙ ap (λ x. index_or_zero (capacity_of g budget r) x scale) (get_or_read loads r read within found 0) in
    IsTopIndex-change (index_of g loads scale budget) (index_of g (set loads r load) scale budget) (entries g) r before after top next is
    (λ k apart. index_of-others g loads scale budget r load k apart) inside had (now ∙ sym (index_of-here g loads scale budget r load within)) changed

-- so it stays
pub KeepsGreatest-by : (g : Grid) (loads : List ℕ) (scale : ℕ) (budget : Option ℕ) (r load before after : ℕ) (top next : TopIndex) → r < entries g →
    IsTopIndex (index_of g loads scale budget) (entries g) top → IsTopIndex (index_of g (set loads r load) scale budget) (entries g) next → IsAfterChange top before after next →
    KeepsGreatest g loads scale budget r load
KeepsGreatest-by g loads scale budget r load before after top next inside was is changed = record {
  inside = inside;
  stays = sym is.index ∙ changed.index ∙ was.index;
}

-- the price of each entry after the change
price_of-after : (g : Grid) (loads : List ℕ) (scale : ℕ) (budget : Option ℕ) (r load : ℕ) → IsLoadList g loads → KeepsGreatest g loads scale budget r load → (k : ℕ) → k ≢ r →
    price_of g loads scale budget k ≡ price_of g (set loads r load) scale budget k
price_of-after g loads scale budget r load loaded keeps k apart =
    ap (λ t. price_or_zero (capacity_of g budget k) t (index_of g loads scale budget k)) (sym keeps.stays)
    ∙ ap (λ i. price_or_zero (capacity_of g budget k) (top_of g (set loads r load) scale budget) i) (sym (index_of-others g loads scale budget r load k apart))

price_of-here : (g : Grid) (loads : List ℕ) (scale : ℕ) (budget : Option ℕ) (r load : ℕ) → IsLoadList g loads → KeepsGreatest g loads scale budget r load →
    price_or_zero (capacity_of g budget r) (top_of g loads scale budget) (index_or_zero (capacity_of g budget r) load scale) ≡ price_of g (set loads r load) scale budget r
price_of-here g loads scale budget r load loaded keeps =
    ap (λ t. price_or_zero (capacity_of g budget r) t (index_or_zero (capacity_of g budget r) load scale)) (sym keeps.stays)
    ∙ ap (λ i. price_or_zero (capacity_of g budget r) (top_of g (set loads r load) scale budget) i)
    (sym (index_of-here g loads scale budget r load (omega (arith, loaded.long, keeps.inside))))

vector-after : (g : Grid) (loads : List ℕ) (scale : ℕ) (budget : Option ℕ) (r load price : ℕ) → IsLoadList g loads → KeepsGreatest g loads scale budget r load →
    price ≡ price_of g (set loads r load) scale budget r → (k : ℕ) → k < entries g →
    get_or (set (price_vector g loads scale budget) r price) k 0 ≡ price_of g (set loads r load) scale budget k
vector-after g loads scale budget r load price loaded keeps priced k below = elim (cases_eq k r) [
  | inl here ↦ get_or-set_at (price_vector g loads scale budget) r k price 0 here (omega (arith, length-price_vector g loads scale budget, keeps.inside))
      ∙ priced ∙ ap (price_of g (set loads r load) scale budget) (sym here)
  | inr apart ↦ get_or-set_other (price_vector g loads scale budget) r k price 0 apart
      ∙ entry-price_vector g loads scale budget k below ∙ price_of-after g loads scale budget r load loaded keeps k apart
]

-- the prices are those of the loads after the change
pub vector-set : (g : Grid) (loads : List ℕ) (scale : ℕ) (budget : Option ℕ) (prices : List ℕ) (top : ℕ) (r load price : ℕ) →
    IsLoadList g loads → prices ≡ price_vector g loads scale budget → top ≡ top_of g loads scale budget → KeepsGreatest g loads scale budget r load →
    price ≡ price_or_zero (capacity_of g budget r) top (index_or_zero (capacity_of g budget r) load scale) →
    set prices r price ≡ price_vector g (set loads r load) scale budget
vector-set g loads scale budget prices top r load price loaded vector greatest keeps priced =
    let is : price ≡ price_of g (set loads r load) scale budget r =
    priced ∙ ap (λ t. price_or_zero (capacity_of g budget r) t (index_or_zero (capacity_of g budget r) load scale)) greatest
    ∙ price_of-here g loads scale budget r load loaded keeps in
    ap (λ xs. set xs r price) vector
    ∙ fill_by_all (price_of g (set loads r load) scale budget) (set (price_vector g loads scale budget) r price) (entries g) 0
    (length-set (price_vector g loads scale budget) r price ∙ length-price_vector g loads scale budget)
    (vector-after g loads scale budget r load price loaded keeps is)

-- the prices stay current where the greatest index stays and the entry gets its price
pub IsCurrent-set : (g : Grid) (loads : List ℕ) (scale : ℕ) (budget : Option ℕ) (prices : List ℕ) (top next : TopIndex) (least lower : LeastPrices) (over after : List ℕ) (r load price : ℕ) →
    IsLoadList g loads → IsCurrent g loads scale budget prices top least over → IsTopIndex (index_of g (set loads r load) scale budget) (entries g) next → KeepsGreatest g loads scale budget r load →
    price ≡ price_or_zero (capacity_of g budget r) next.index (index_or_zero (capacity_of g budget r) load scale) → AreLeast g (set prices r price) lower → AreTilePrices g (set prices r price) after →
    IsCurrent g (set loads r load) scale budget (set prices r price) next lower after
IsCurrent-set g loads scale budget prices top next least lower over after r load price loaded current greatest keeps priced lowest tiled =
    record {
      greatest = greatest;
      vector = vector-set g loads scale budget prices next.index r load price loaded current.vector (greatest.index ∙ keeps.stays) keeps priced;
      lowest = lowest;
      tiled = tiled;
    }

-- the least prices where one entry changes
pub AreLeast-set : (g : Grid) (budget : Option ℕ) (prices : List ℕ) (least lower : LeastPrices) (r price top index : ℕ) → r < length prices → AreLeast g prices least →
    price ≡ price_or_zero (capacity_of g budget r) top index → (r < edge_numbers g → 0 < price → least_along lower (edge_axis r) ≤ price) →
    ((axis : Axis) → least_along lower axis ≤ least_along least axis) → AreLeast g (set prices r price) lower
AreLeast-set g budget prices least lower r price top index inside low priced here others = record {
  below = λ e number some. elim (cases_eq e r) [
    | inl same ↦ rw (get_or-set_at prices r e price 0 same inside) (rw same (
        let edge : r < edge_numbers g = omega (arith, same) in
        let has : 0 < capacity_of g budget r = omega (arith, capacity_of-edge g budget r edge, ap (capacity g) same) in
        here edge (omega (arith, priced, price_or_zero-positive (capacity_of g budget r) top index has))))
    | inr apart ↦ rw (get_or-set_other prices r e price 0 apart) (omega (arith, others (edge_axis e), low.below e number some))
  ];
  within = λ axis. omega (arith, others axis, low.within axis);
}
