-- The bound of many terminals, from what was found of them.
use Rattle.std.proofs.Common.{◌≡◌, ℕ, ◌<◌, ◌≤◌, List, All, length, min, max, take, get_or, subst, arith}
use Rattle.std.proofs.lemmas.List.{take_all}
use Rattle.std.proofs.lemmas.Option.{slice_get-get_or, slice_get_within, get_or_from_slice_get}
use Rattle.grid_base.specs.declared.piece.Piece.{Piece}
use Rattle.grid_base.specs.declared.size.Size.{Size}
use Rattle.grid_base.specs.declared.vertex.Vertex.{Vertex}
use Rattle.grid_base.specs.Numbers.{IsVertex}
use Rattle.grid_base.specs.Walks.{Joins, InVertices}
use Rattle.grid_graph.specs.Weighed.{IsAllowed, NoPieceTwice, WeighsOnlyPieces, AreWithinLimit}
use Rattle.label_search.specs.Sets.{IsLeastWeight}
use Rattle.label_search.proofs.Forests.{light_part}
use Rattle.lower_bound.specs.HalfWords.{IsSumOfHalves}
use Rattle.lower_bound.specs.NetBounds.{AreHalves, IsBoundOfMany}
use Rattle.lower_bound.specs.Spread.{IsSpread}
use Rattle.lower_bound.proofs.Crossing.{moats_within}
use Rattle.lower_bound.proofs.LowBounds.{halves_are_moats, chosen_terminal}

-- those chosen are vertices, as all terminals are
pub chosen_vertices : (s : Size) (terminals chosen : List Vertex) → IsSpread s terminals chosen → All (λ v. IsVertex s v.0) terminals → All (λ v. IsVertex s v.0) chosen
chosen_vertices s terminals chosen spread all i d low =
    let v = get_or chosen i d in
    let next = spread.each i v (slice_get-get_or chosen i d low) in
    subst (λ (w : Vertex). IsVertex s w.0) (get_or_from_slice_get terminals next.place v d next.stands) (all next.place d (slice_get_within terminals next.place v next.stands))

-- and joined, as all terminals are
pub chosen_joined : (s : Size) (F : Piece → Type 0) (terminals chosen : List Vertex) → IsSpread s terminals chosen → Joins s F (InVertices terminals) → Joins s F (InVertices chosen)
chosen_joined s F terminals chosen spread joins a b at_a at_b = joins a b (chosen_terminal s terminals chosen spread a at_a) (chosen_terminal s terminals chosen spread b at_b)

pub bound_of_many : (s : Size) (pieces : List (Piece × ℕ)) (terminals chosen : List Vertex) (least total bound : ℕ) → NoPieceTwice pieces → WeighsOnlyPieces s pieces → AreWithinLimit pieces → 2 ≤ length terminals → Joins s (IsAllowed pieces) (InVertices terminals) → IsVertex s 0 →
    IsSpread s terminals chosen → IsLeastWeight s pieces (InVertices chosen) least → IsSumOfHalves s pieces terminals (length terminals) total → bound ≡ max least total → IsBoundOfMany s pieces terminals bound
bound_of_many s pieces terminals chosen least total bound once inside small two joins vertex spread is sums greater =
    let halves : AreHalves s pieces terminals sums.halves = record { each = sums.each; half = sums.half } in
    let light = light_part s pieces pieces 0 small (record { allowed = λ x at. at; once = once }) vertex in
    let low = moats_within s pieces light.part terminals sums.halves inside (halves_are_moats s pieces terminals sums.halves halves) two light.is_set (λ a b at_a at_b. light.joins a b (joins a b at_a at_b)) in
    record {
      chosen = chosen;
      spread = spread;
      of_chosen = least;
      least = is;
      halves = sums.halves;
      are_halves = halves;
      greater = omega (arith, greater, sums.sums, low, light.light);
    }

-- of more than five terminals five are chosen
pub spread_of_five : (t s : Size) (terminals chosen : List Vertex) → t ≡ s → 5 < length terminals → length chosen ≡ 5 → IsSpread t terminals (take (min 5 (length terminals)) chosen) → IsSpread s terminals chosen
spread_of_five t s terminals chosen same many long spread =
    subst (λ (u : Size). IsSpread u terminals chosen) same (subst (IsSpread t terminals) (take_all (min 5 (length terminals)) chosen (omega (arith, many, long))) spread)
