-- What a right proof bounds is at most every joining set.
use Rattle.std.proofs.Common.{◌≤◌, ◌-◌, ◌^◌, ℕ, List, Option, Some, None, length, ⊎_elim, arith}
use Rattle.std.specs.List.{sum}
use Rattle.std.proofs.lemmas.Bool.{cases_lt}
use Rattle.grid_base.specs.declared.piece.Piece.{Piece}
use Rattle.grid_base.specs.declared.size.Size.{Size}
use Rattle.grid_base.specs.declared.vertex.Vertex.{Vertex}
use Rattle.grid_base.specs.Numbers.{IsVertex}
use Rattle.grid_base.specs.Walks.{Joins, InVertices}
use Rattle.grid_graph.specs.Weighed.{IsAllowed, NoPieceTwice, WeighsOnlyPieces, AreWithinLimit}
use Rattle.label_search.specs.Sets.{IsSetOf, weight}
use Rattle.label_search.proofs.Forests.{light_part}
use Rattle.steiner_tables.proofs.Roots.{holds_at_root}
use Rattle.steiner_exact.specs.Roots.{root_of}
use Rattle.steiner_exact.proofs.Attempts.{root_stands}
use Rattle.lower_bound.specs.Moats.{AreMoats}
use Rattle.lower_bound.proofs.Crossing.{moats_within}
use Rattle.brought_bounds.specs.declared.moats.Moats.{Moats}
use Rattle.brought_bounds.specs.TableWords.{table_number}
use Rattle.bound_climb.specs.declared.net_proof.NetProof.{NetProof}
use Rattle.bound_climb.specs.NetProofs.{IsTableBound, MayHaveMoats, greater_bound, IsRight}
use Rattle.bound_climb.proofs.Chosen.{tabled_two, tabled_joined}

table_low : (s : Size) (pieces set : List (Piece × ℕ)) (terminals : List Vertex) (rows : List (List ℕ)) (bound : ℕ)
    → 2 ≤ length terminals → IsTableBound s pieces terminals rows bound → IsSetOf pieces set
    → Joins s (IsAllowed set) (InVertices terminals) → bound ≤ weight set
table_low s pieces set terminals rows bound two table is joins =
    let chosen = table.chosen in
    let some = tabled_two s terminals chosen table.tabled two in
    let low = holds_at_root s pieces chosen (table_number rows) set (root_of chosen) table.holds.holds some
    (root_stands chosen some) is (tabled_joined s (IsAllowed set) terminals chosen table.tabled joins) in
    omega (arith, low, table.is)

greater_low : (s : Size) (pieces set : List (Piece × ℕ)) (terminals : List Vertex) (moats : Option Moats) (of_table : ℕ)
    → WeighsOnlyPieces s pieces → 2 ≤ length terminals → MayHaveMoats s pieces terminals moats → of_table ≤ weight set
    → IsSetOf pieces set → Joins s (IsAllowed set) (InVertices terminals) → greater_bound of_table moats ≤ weight set
greater_low s pieces set terminals (Some moats) of_table inside two hold low is joins =
    omega (arith, low, moats_within s pieces set terminals moats.radii inside hold two is joins)
greater_low s pieces set terminals None of_table inside two hold low is joins = low

pub right_low : (s : Size) (pieces set : List (Piece × ℕ)) (terminals : List Vertex) (proof : NetProof) (number : ℕ)
    → WeighsOnlyPieces s pieces → IsRight s pieces terminals proof number → IsSetOf pieces set
    → Joins s (IsAllowed set) (InVertices terminals) → number ≤ weight set
right_low s pieces set terminals proof number inside right is joins = ⊎_elim
    (λ few. omega (arith, (right.few few).is))
    (λ two.
    let r = right.several two in
    let low = table_low s pieces set terminals proof.table.rows r.of_table two r.table is joins in
    omega (arith, r.is, greater_low s pieces set terminals proof.moats r.of_table inside two r.moats low is joins))
    (cases_lt (length terminals) 2)

-- the sum of the radii of moats fits 64 bits
pub moats_small : (s : Size) (pieces : List (Piece × ℕ)) (terminals : List Vertex) (radii : List ℕ) → NoPieceTwice pieces
    → WeighsOnlyPieces s pieces → AreWithinLimit pieces → 2 ≤ length terminals → IsVertex s 0
    → Joins s (IsAllowed pieces) (InVertices terminals) → AreMoats s pieces terminals radii → sum radii ≤ 2 ^ 61 - 1
moats_small s pieces terminals radii once inside small two vertex joins are =
    let light = light_part s pieces pieces 0 small (record { allowed = λ x at. at; once = once }) vertex in
    let low = moats_within s pieces light.part terminals radii inside are two light.is_set
    (λ a b at_a at_b. light.joins a b (joins a b at_a at_b)) in
    omega (arith, low, light.light)
