-- The greatest index, as indices come and change.
use Rattle.std.proofs.Common.{ℕ, ◌+◌, ◌==◌, ◌≡◌, ◌≢◌, ◌≤◌, ◌<◌, cond, max, refl, inl, inr, ap, sym, ◌∙◌, arith}
use Rattle.std.specs.Prelude.{ltb}
use Rattle.std.proofs.lemmas.Bool.{cases_eq}
use Rattle.edge_prices.specs.declared.top_index.TopIndex.{TopIndex}
use Rattle.edge_prices.specs.Greatest.{greatest, how_many}
use Rattle.edge_prices.specs.TopIndices.{IsTopIndex, IsAfterChange}
use Rattle.edge_prices.proofs.Greatest.{greatest-more, greatest-met, how_many-change, how_many-greatest, how_many-here, how_many-limit, le-greatest}

-- one index more
pub IsTopIndex-more : (f : ℕ → ℕ) (n x : ℕ) (top next : TopIndex) → IsTopIndex f n top → x ≡ f n → next.index ≡ max top.index x →
    next.tied ≡ cond (ltb top.index x) 1 (top.tied + cond (x == top.index) 1 0) → IsTopIndex f (n + 1) next
IsTopIndex-more f n x top next is here greater tied =
    let index : next.index ≡ max (greatest f n) (f n) = greater ∙ ap (λ t. max t x) is.index ∙ ap (max (greatest f n)) here in
    record {
      index = index ∙ sym (greatest-more f n);
      tied = tied ∙ ap {B = ℕ} (λ y. cond (ltb top.index y) 1 (top.tied + cond (y == top.index) 1 0)) here
          ∙ ap {B = ℕ} (λ k. cond (ltb top.index (f n)) 1 (k + cond (f n == top.index) 1 0)) is.tied
          ∙ ap {B = ℕ} (λ t. cond (ltb t (f n)) 1 (how_many f t n + cond (f n == t) 1 0)) is.index
          ∙ sym (how_many-greatest f n) ∙ ap (λ t. how_many f t (n + 1)) (sym index);
    }

-- one index changes
pub IsTopIndex-change : (f g : ℕ → ℕ) (n r before after : ℕ) (top next : TopIndex) → IsTopIndex f n top → ((k : ℕ) → k ≢ r → g k ≡ f k) → r < n →
    before ≡ f r → after ≡ g r → IsAfterChange top before after next → IsTopIndex g n next
IsTopIndex-change f g n r before after top next is others inside was now changed =
    let change = how_many-change f g top.index n r others inside in
    let many : next.tied ≡ how_many g top.index n =
    omega (arith, changed.tied, is.tied, ap {B = ℕ} (λ y. cond (y == top.index) 1 0) was, ap {B = ℕ} (λ y. cond (y == top.index) 1 0) now) in
    let each : (k : ℕ) → k < n → g k ≤ top.index = λ k below. elim (cases_eq k r) [
      | inl same ↦ omega (arith, ap g same, changed.low)
      | inr other ↦ omega (arith, others k other, le-greatest f n k below, is.index)
    ] in
    record {
      index = changed.index ∙ sym (greatest-met g top.index n each (omega (arith, changed.some)));
      tied = many ∙ ap (λ t. how_many g t n) (sym changed.index);
    }

-- of no index
pub IsTopIndex-none : (f : ℕ → ℕ) → IsTopIndex f 0 (record { index = 0; tied = 0 })
unfolding greatest how_many
IsTopIndex-none f = record { index = refl; tied = refl }

-- no more have it than there are
pub tied-limit : (f : ℕ → ℕ) (n : ℕ) (top : TopIndex) → IsTopIndex f n top → top.tied ≤ n
tied-limit f n top is = omega (arith, is.tied, how_many-limit f top.index n)

-- one of them counts
pub tied-counts : (f : ℕ → ℕ) (n r before : ℕ) (top : TopIndex) → IsTopIndex f n top → r < n → before ≡ f r → cond (before == top.index) 1 0 ≤ top.tied
tied-counts f n r before top is inside was = omega (arith, is.tied, how_many-here f top.index n r inside, ap {B = ℕ} (λ y. cond (y == top.index) 1 0) was)
