-- Batches of nets.
use Rattle.std.specs.Prelude.{ℕ, ◌≡◌, ◌<◌, ◌≤◌, ◌-◌, List, length, slice_index}
use Rattle.std.specs.List.{slice_range}
use Rattle.negotiation.specs.Chosen.{AreChosen}

-- the nets that are wanted of those from one place of an order up to another, no more than a batch has; where the order goes on
-- behind these places there are as many, and the last of them stands at the last of the places
pub record IsBatch (Wanted : ℕ → Type 0) (size : ℕ) (order : List ℕ) (from at : ℕ) (batch : List ℕ) : Type 0 where
  pub chosen : AreChosen Wanted (slice_range order from at) batch
  pub few : length batch ≤ size
  pub full : at < length order → (length batch ≡ size) × Wanted (slice_index order (at - 1))
