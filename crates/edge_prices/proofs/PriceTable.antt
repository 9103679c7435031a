-- The constant table is the price table.
use Rattle.std.proofs.Common.{ℕ, zero, suc, ◌+◌, ◌≡◌, ◌<◌, List, [], ◌∷◌, get_or, refl, ap, arith, ◌∙◌, sym, add-zero, zero-add}
use Rattle.edge_prices.specs.declared.price_table.TheConstants.{PRICES}
use Rattle.edge_prices.specs.Prices.{price, next_price}

-- this many prices from one on
prices_from : ℕ → ℕ → List ℕ
prices_from p zero = []
prices_from p (suc n) = p ∷ prices_from (next_price p) n

abbrev later : ℕ → ℕ → ℕ
later p zero = p
later p (suc i) = later (next_price p) i

get_or-prices_from : (p n i : ℕ) → i < n → get_or (prices_from p n) i 0 ≡ later p i
unfolding prices_from
get_or-prices_from p (suc n) zero below = refl
get_or-prices_from p (suc n) (suc i) below = get_or-prices_from (next_price p) n i (omega arith)
get_or-prices_from p zero i below = absurd (omega arith)

later-price : (k i : ℕ) → later (price k) i ≡ price (k + i)
unfolding price
later-price k zero = ap price (sym (add-zero k))
later-price k (suc i) = later-price (suc k) i ∙ ap price (omega arith)

is_table : PRICES ≡ prices_from 1 256
unfolding prices_from
is_table = refl

pub PRICES-price : (i : ℕ) → i < 256 → get_or PRICES i 0 ≡ price i
unfolding price
PRICES-price i below = let e : get_or PRICES i 0 ≡ get_or (prices_from 1 256) i 0 = ap (λ xs. get_or xs i 0) is_table in
    e ∙ get_or-prices_from 1 256 i below ∙ later-price 0 i ∙ ap price (zero-add i)
