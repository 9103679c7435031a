-- Nets in bundles.
use Rattle.std.specs.Prelude.{ℕ, ◌≡◌, ◌≢◌, ◌<◌, ◌≤◌, ◌+◌, ◌-◌, ◌*◌, ◌/◌, ◌^◌, ◌==◌, List, [], ◌∷◌, cond, drop, slice_index, suc}
use Rattle.std.specs.List.{sum_by}
use Rattle.tile_graphs.specs.declared.bundles.Bundle.{Bundle}
use Rattle.tile_graphs.specs.declared.ends.Ends.{Ends}
use Rattle.tile_graphs.specs.Fullness.{in_word}

-- stands for no node
abbrev pub no_end : ℕ
no_end = 2 ^ 32 - 1

-- each place before this one has a node, which is another one
abbrev pub AreOthersBefore : List ℕ → ℕ → ℕ → Type 0
AreOthersBefore nodes node place = (k : ℕ) → k < place → (slice_index nodes k ≢ node) × (slice_index nodes k ≢ no_end)

-- how many nodes stand before the first place of no node
abbrev pub ends_before_none : List ℕ → ℕ
ends_before_none [] = 0
ends_before_none (node ∷ nodes) = cond (node == no_end) 0 (suc (ends_before_none nodes))

-- how many sets there are of the nodes but the first one
abbrev pub sets_of_ends : List ℕ → ℕ
sets_of_ends nodes = 2 ^ ends_before_none (drop 1 nodes)

-- what all bundles use together
abbrev pub demand_of_bundles : List Bundle → ℕ
demand_of_bundles bundles = sum_by (λ b. b.demand) bundles

-- whatever a tree costs that joins such ends, the bundles cost together as much as the others do
abbrev pub CostAlike : List Bundle → List Bundle → Type 0
CostAlike bundles others = (cost : Ends → ℕ) → sum_by (λ b. cost b.ends * b.demand) bundles ≡ sum_by (λ b. cost b.ends * b.demand) others

-- the next bundle, if there is one, has other ends, or the first one takes no further net
abbrev pub IsEndedBefore : ℕ → Bundle → List Bundle → Type 0
IsEndedBefore most bundle [] = Unit {0}
IsEndedBefore most bundle (next ∷ rest) = bundle.ends ≡ next.ends → most ≤ bundle.demand

-- neighbours with the same ends are one bundle, until that has so much
abbrev pub AreTight : ℕ → List Bundle → Type 0
AreTight most [] = Unit {0}
AreTight most (bundle ∷ rest) = IsEndedBefore most bundle rest × AreTight most rest

-- a bundle with so much takes no further net: a thousandth of what all use
abbrev pub much_of : List Bundle → ℕ
much_of bundles = in_word (demand_of_bundles bundles) / 1000

-- how often a least tree of a bundle looks at links and at labels of nodes
abbrev pub looks_of_bundle : ℕ → ℕ → Bundle → ℕ
looks_of_bundle links nodes bundle =
    let sets = sets_of_ends bundle.ends.nodes in
    in_word (sets * in_word (links + in_word (nodes * (sets / 4))))
