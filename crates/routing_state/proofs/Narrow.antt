-- Rooms in 16 bits, as rooms change.
use Rattle.std.proofs.Common.{◌≡◌, ℕ, List, ap, sym, ◌∙◌, ℤ}
use Rattle.std.specs.Prelude.{map, slice_set}
use Rattle.std.proofs.lemmas.List.{map-set}
use Rattle.routing_state.specs.Clipped.{clipped}

-- where one room changes
pub clipped-set : (narrow rooms : List ℤ) (e : ℕ) (room : ℤ) → narrow ≡ map clipped rooms → slice_set narrow e (clipped room) ≡ map clipped (slice_set rooms e room)
clipped-set narrow rooms e room same = ap (λ (xs : List ℤ). slice_set xs e (clipped room)) same ∙ sym (map-set clipped rooms e room)
