-- Which proofs are right, from what was tested.
use Rattle.std.proofs.Common.{◌≡◌, ◌<◌, ◌≤◌, ◌↔◌, ℕ, List, Option, Some, None, IfSome, IsSome, length, refl, sym, ◌∙◌, ap}
use Rattle.std.proofs.Common.{Bool, true, false, not, subst, arith}
use Rattle.std.proofs.Math.Bool.{beq}
use Rattle.grid_base.specs.declared.piece.Piece.{Piece}
use Rattle.grid_base.specs.declared.size.Size.{Size}
use Rattle.grid_base.specs.declared.vertex.Vertex.{Vertex}
use Rattle.brought_bounds.specs.TableWords.{IsTableThatHolds}
use Rattle.bound_climb.specs.declared.net_proof.NetProof.{NetProof}
use Rattle.bound_climb.specs.NetProofs.{AreTabled, table_bound, MayHaveMoats, greater_bound, IsRightForNone, IsRightForSeveral}
use Rattle.bound_climb.specs.NetProofs.{IsRight}
use Rattle.bound_climb.proofs.Chosen.{tabled_unique}

-- two tests of which it isn't true that they differ
pub same_tests : (a b : Bool) → not (beq a b) ≡ false → a ≡ b
same_tests true true same = refl
same_tests true false same = absurd (cc)
same_tests false true same = absurd (cc)
same_tests false false same = refl

-- an answer says a number exactly where it is right
abbrev pub TellsOf : Option ℕ → (ℕ → Type 0) → Type 0
TellsOf answer Right = (number : ℕ) → (answer ≡ Some number) ↔ Right number

-- none says that there is no right one
pub tells_none : (Right : ℕ → Type 0) → ((number : ℕ) → ¬ Right number) → TellsOf None Right
tells_none Right never number = (λ none. absurd (cc), λ right. absurd (never number right))

-- what is true of each right number is true of the answer
pub if_told : (answer : Option ℕ) (Right P : ℕ → Type 0) → TellsOf answer Right → ((number : ℕ) → Right number → P number)
    → IfSome answer P
if_told (Some number) Right P tells holds = holds number ((tells number).0 refl)
if_told None Right P tells holds = tt

pub right_for_none : (s : Size) (pieces : List (Piece × ℕ)) (terminals : List Vertex) (proof : NetProof) (answer : Option ℕ)
    → length terminals < 2 → TellsOf answer (IsRightForNone proof) → TellsOf answer (IsRight s pieces terminals proof)
right_for_none s pieces terminals proof answer few tells number = (
  λ told. record { few = λ _. (tells number).0 told; several = λ two. absurd (omega (arith, few, two)) },
  λ right. (tells number).1 (right.few few),
)

pub right_for_several : (s : Size) (pieces : List (Piece × ℕ)) (terminals : List Vertex) (proof : NetProof) (answer : Option ℕ)
    → 2 ≤ length terminals → TellsOf answer (IsRightForSeveral s pieces terminals proof)
    → TellsOf answer (IsRight s pieces terminals proof)
right_for_several s pieces terminals proof answer two tells number = (
  λ told. record { few = λ few. absurd (omega (arith, few, two)); several = λ _. (tells number).0 told },
  λ right. (tells number).1 (right.several two),
)

-- a table that holds, with what is told of the moats
pub table_right : (s : Size) (pieces : List (Piece × ℕ)) (terminals chosen : List Vertex) (proof : NetProof) (bound : ℕ)
    (answer : Option ℕ) → AreTabled s terminals chosen → IsSome proof.moats ↔ (5 < length terminals)
    → IsTableThatHolds s pieces chosen proof.table.rows → bound ≡ table_bound chosen proof.table.rows
    → TellsOf answer (λ n. MayHaveMoats s pieces terminals proof.moats × (n ≡ greater_bound bound proof.moats))
    → TellsOf answer (IsRightForSeveral s pieces terminals proof)
table_right s pieces terminals chosen proof bound answer tabled moated holds is tells number = (
  λ told. let moats = (tells number).0 told in record {
    moated = moated;
    moats = moats.0;
    of_table = bound;
    table = record { chosen = chosen; tabled = tabled; holds = holds; is = is };
    is = moats.1;
  },
  λ right.
      let same : right.table.chosen ≡ chosen = tabled_unique s terminals right.table.chosen chosen right.table.tabled tabled in
      let equal : right.of_table ≡ bound =
      right.table.is ∙ ap (λ (ts : List Vertex). table_bound ts proof.table.rows) same ∙ sym is in
      (tells number).1 (right.moats, right.is ∙ ap (λ n. greater_bound n proof.moats) equal),
)

-- no number is right where the table doesn't hold
pub no_table : (s : Size) (pieces : List (Piece × ℕ)) (terminals chosen : List Vertex) (proof : NetProof)
    → AreTabled s terminals chosen → ¬ IsTableThatHolds s pieces chosen proof.table.rows
    → TellsOf None (IsRightForSeveral s pieces terminals proof)
no_table s pieces terminals chosen proof tabled fails = tells_none (IsRightForSeveral s pieces terminals proof)
    (λ number right. fails (subst (λ (ts : List Vertex). IsTableThatHolds s pieces ts proof.table.rows)
    (tabled_unique s terminals right.table.chosen chosen right.table.tabled tabled) right.table.holds))

-- nor where moats are there without need, or missing
pub not_moated : (s : Size) (pieces : List (Piece × ℕ)) (terminals : List Vertex) (proof : NetProof)
    → ¬ (IsSome proof.moats ↔ (5 < length terminals)) → TellsOf None (IsRightForSeveral s pieces terminals proof)
not_moated s pieces terminals proof fails = tells_none (IsRightForSeveral s pieces terminals proof)
    (λ number right. fails right.moated)
