-- Numbers of vertices that tell which of them a set of pieces joins.
use Rattle.std.specs.Prelude.{ℕ, ◌-◌, ◌^◌, ◌≡◌, ◌==◌, List, length, slice_index, Option, None, Some, cond}
use Rattle.grid_base.specs.declared.piece.Piece.{Piece}
use Rattle.grid_base.specs.declared.size.Size.{Size}
use Rattle.grid_base.specs.Numbers.{vertices, IsVertex}
use Rattle.grid_base.specs.Walks.{WalkBetween}

-- one component per vertex, and two vertices have the same one exactly where a walk in F leads from one to the other
pub record AreComponents (s : Size) (F : Piece → Type 0) (components : List ℕ) : Type 0 where
  pub long : length components ≡ vertices s
  pub joined : (a b : ℕ) → IsVertex s a → IsVertex s b → slice_index components a ≡ slice_index components b → WalkBetween s F a b
  pub apart : (a b : ℕ) → WalkBetween s F a b → slice_index components a ≡ slice_index components b

-- stands where a vertex has no component yet
abbrev pub no_component : ℕ
no_component = 2 ^ 32 - 1

-- the component of a vertex, if it has one yet
abbrev pub component_of : List ℕ → ℕ → Option ℕ
component_of components v = cond (slice_index components v == no_component) None (Some (slice_index components v))
