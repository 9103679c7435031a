-- The greatest index and how many have it, as a keeper of prices knows them.
use Rattle.std.specs.Prelude.{ℕ, ◌≡◌, ◌≤◌, ◌<◌, ◌+◌, ◌==◌, cond}
use Rattle.edge_prices.specs.declared.top_index.TopIndex.{TopIndex}
use Rattle.edge_prices.specs.Greatest.{greatest, how_many}

-- the greatest of f 0, .., f (n - 1), and how many of these are it
pub record IsTopIndex (f : ℕ → ℕ) (n : ℕ) (top : TopIndex) : Type 0 where
  pub index : top.index ≡ greatest f n
  pub tied : top.tied ≡ how_many f top.index n

-- one index fell or rose, none is above the greatest, and some still have it
pub record IsAfterChange (old : TopIndex) (before after : ℕ) (new : TopIndex) : Type 0 where
  pub index : new.index ≡ old.index
  pub low : after ≤ old.index
  pub some : 0 < new.tied
  pub tied : new.tied + cond (before == old.index) 1 0 ≡ old.tied + cond (after == old.index) 1 0
