-- The nets of a part in the order of their classes, and bounds that are known of them.
use Rattle.std.specs.Prelude.{ℕ, ◌≡◌, ◌≤◌, ◌<◌, ◌-◌, List, Contains, slice_index}
use Rattle.grid_base.specs.Lists.{At}
use Rattle.grid_graph.specs.declared.net_spec.NetSpec.{NetSpec}
use Rattle.dual_bound.specs.declared.class_order.ClassedNet.{ClassedNet}
use Rattle.dual_bound.specs.declared.priced.Priced.{Priced}
use Rattle.dual_bound.specs.DesignBounds.{IsBoundOfNet}
use Rattle.dual_bound.specs.Parts.{priced_grid, priced_nets}

-- the net's place lies from one up to another
abbrev pub IsPlaceOf : ℕ → ℕ → ClassedNet → Type 0
IsPlaceOf from to net = (from ≤ net.place) × (net.place < to)

-- the net at each place from one up to another is among these
abbrev pub HasEachPlace : ℕ → ℕ → List ClassedNet → Type 0
HasEachPlace from to nets = (k : ℕ) → from ≤ k → k < to → (net : ClassedNet) × Contains nets net × (net.place ≡ k)

-- the list, which begins with the net at a place, has the bound of this net
abbrev pub HasBoundOf : Priced → ℕ → List ℕ → ClassedNet → Type 0
HasBoundOf p from bounds net = (n : NetSpec) → At (priced_nets p) net.place n → IsBoundOfNet (priced_grid p) p.prices.now p.budget n (slice_index bounds (net.place - from))
