-- A net bound is at most what every joining set costs.
use Rattle.std.proofs.Common.{◌≡◌, ℕ, ◌≤◌, List, length, Some, sym, ◌∙◌, ap, subst, ⊎_elim, arith}
use Rattle.std.proofs.lemmas.Bool.{cases_lt}
use Rattle.std.proofs.lemmas.Option.{slice_get-get_or, slice_get_within, get_or_from_slice_get, same_Some}
use Rattle.grid_base.specs.declared.piece.Piece.{Piece}
use Rattle.grid_base.specs.declared.size.Size.{Size}
use Rattle.grid_base.specs.declared.vertex.Vertex.{Vertex}
use Rattle.grid_base.specs.Lists.{At}
use Rattle.grid_base.specs.Walks.{Joins, InVertices, WalkBetween}
use Rattle.grid_base.proofs.Walks.{WalkBetween-sym}
use Rattle.grid_graph.specs.Weighed.{IsAllowed, WeighsOnlyPieces}
use Rattle.label_search.specs.Sets.{IsSetOf, weight}
use Rattle.lower_bound.specs.Moats.{AreMoats}
use Rattle.lower_bound.specs.NetBounds.{AreHalves, IsNetBound}
use Rattle.steiner_tables.specs.Masks.{few_terminals}
use Rattle.lower_bound.specs.Spread.{IsSpread}
use Rattle.lower_bound.proofs.Crossing.{moats_within}

-- halves of least distances are moats
pub halves_are_moats : (s : Size) (pieces : List (Piece × ℕ)) (terminals : List Vertex) (halves : List ℕ) → AreHalves s pieces terminals halves → AreMoats s pieces terminals halves
halves_are_moats s pieces terminals halves are = record {
  each = are.each;
  apart = λ i j a b r q other at_a at_b at_r at_q set is walk.
      let first = are.half i r at_r in
      let second = are.half j q at_q in
      let from : first.1.terminal ≡ a = same_Some first.1.terminal a (sym first.1.stands ∙ at_a) in
      let to : second.1.terminal ≡ b = same_Some second.1.terminal b (sym second.1.stands ∙ at_b) in
      let there = first.1.nearest j b (λ same. other (sym same)) at_b set is (subst (λ (v : Vertex). WalkBetween s (IsAllowed set) v.0 b.0) (sym from) walk) in
      let back = second.1.nearest i a other at_a set is (subst (λ (v : Vertex). WalkBetween s (IsAllowed set) v.0 a.0) (sym to) (WalkBetween-sym s (IsAllowed set) a.0 b.0 walk)) in
      omega (arith, there, back, first.2, second.2);
}

-- those chosen are terminals
pub chosen_terminal : (s : Size) (terminals chosen : List Vertex) → IsSpread s terminals chosen → (v : ℕ) → InVertices chosen v → InVertices terminals v
chosen_terminal s terminals chosen spread v is =
    let at : At chosen is.0 (record { 0 = v }) = slice_get-get_or chosen is.0 (record { 0 = v }) is.1 ∙ ap (λ (x : Vertex). Some x) is.2 in
    let next = spread.each is.0 (record { 0 = v }) at in
    (next.place, slice_get_within terminals next.place (record { 0 = v }) next.stands, get_or_from_slice_get terminals next.place (record { 0 = v }) (record { 0 = v }) next.stands)

pub net_bound_low : (s : Size) (pieces : List (Piece × ℕ)) (terminals : List Vertex) (bound : ℕ) → WeighsOnlyPieces s pieces → IsNetBound s pieces terminals bound → (set : List (Piece × ℕ)) → IsSetOf pieces set → Joins s (IsAllowed set) (InVertices terminals) → bound ≤ weight set
net_bound_low s pieces terminals bound are is set is_set joins = ⊎_elim
    (λ many.
    let b = is.many many in
    let first = b.least.lightest set is_set (λ u v at_u at_v. joins u v (chosen_terminal s terminals b.chosen b.spread u at_u) (chosen_terminal s terminals b.chosen b.spread v at_v)) in
    let second = moats_within s pieces set terminals b.halves are (halves_are_moats s pieces terminals b.halves b.are_halves) (omega (arith, many)) is_set joins in
    omega (arith, b.greater, first, second))
    (λ few. (is.few few).lightest set is_set joins)
    (cases_lt few_terminals (length terminals))
