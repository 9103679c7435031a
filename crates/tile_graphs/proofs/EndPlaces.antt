-- The place at which one node more belongs.
use Rattle.std.proofs.Common.{ℕ, ◌≡◌, ◌≢◌, ◌≤◌, ◌⊎◌, List, slice_index, ap, sym, ◌∙◌, inl, inr, ⊎_elim, arith}
use Rattle.std.proofs.lemmas.Bool.{cases_lt}
use Rattle.tile_graphs.specs.Bundles.{AreOthersBefore, no_end}

-- where the node or none stands, the places of others end
ends_before : (nodes : List ℕ) (node place other : ℕ) → AreOthersBefore nodes node other
    → (slice_index nodes place ≡ node) ⊎ (slice_index nodes place ≡ no_end) → other ≤ place
ends_before nodes node place other others met =
    ⊎_elim (λ before. absurd (⊎_elim (others place before).0 (others place before).1 met)) (λ behind. behind) (cases_lt place other)

-- only one place is the first
pub one_place : (nodes : List ℕ) (node place other : ℕ) → AreOthersBefore nodes node place → AreOthersBefore nodes node other
    → (slice_index nodes place ≡ node) ⊎ (slice_index nodes place ≡ no_end) → (slice_index nodes other ≡ node) ⊎ (slice_index nodes other ≡ no_end)
    → place ≡ other
one_place nodes node place other first others here there =
    omega (arith, ends_before nodes node place other others here, ends_before nodes node other place first there)

-- a node that is met first is not a new one
pub not_new : (nodes : List ℕ) (node place other : ℕ) → AreOthersBefore nodes node place → AreOthersBefore nodes node other
    → slice_index nodes place ≡ node → slice_index nodes other ≡ no_end → node ≢ no_end → ⊥
not_new nodes node place other first others met none some =
    some (sym met ∙ ap (λ k. slice_index nodes k) (one_place nodes node place other first others (inl met) (inr none)) ∙ none)
