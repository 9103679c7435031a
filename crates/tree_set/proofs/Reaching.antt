-- A set of numbers as the marks of vertices.
use Rattle.std.proofs.Common.{◌≡◌, ℕ, ◌↔◌, Bool, true, false, cond, List, get_or, Contains, All, refl, ap, Some, None}
use Rattle.std.specs.Prelude.{IsTrue, IsSome, Option}
use Rattle.std.specs.BTreeSet.{contains}
use Rattle.std.specs.Ordering.{nat_cmp}
use Rattle.std.proofs.lemmas.List.Elements.{All-contains_itself}
use Rattle.grid_base.specs.declared.piece.Piece.{Piece}
use Rattle.grid_base.specs.declared.size.Size.{Size}
use Rattle.grid_base.specs.declared.vertex.Vertex.{Vertex}
use Rattle.grid_base.specs.Flood.{IsFlooded}
use Rattle.grid_base.specs.Walks.{WalkBetween, InPieces, JoinsList}
use Rattle.grid_base.proofs.Joined.{JoinsList-from_one}
use Rattle.tree_set.specs.declared.reached.Reached.{Reached}
use Rattle.tree_set.specs.Reached.{Has, mark_of}

-- the mark of what is there or not
mark : Bool → Option ℕ
mark here = cond here (Some 0) None

has_mark : (here : Bool) → IsSome (mark here) → IsTrue here
unfolding mark
has_mark true there = refl
has_mark false there = cc

-- after a flood that began with nothing, what walks lead to from the start was reached, and nothing else
pub reached_by_flood : (s : Size) (F : Piece → Type 0) (before after : Reached) (start : ℕ) → ((v : ℕ) → mark_of before v ≡ None) → IsFlooded s F (mark_of before) (mark_of after) 0 start → (v : ℕ) → Has after v ↔ WalkBetween s F start v
unfolding mark Has
reached_by_flood s F before after start none flooded v = (
  λ has. (flooded.new v 0 (none v) (ap (λ b. cond b (Some 0) None) has)).1,
  λ walk. has_mark (contains nat_cmp after.numbers v) (flooded.reached v walk),
)

-- terminals are joined where each was reached from one of them
pub joins_by_reach : (s : Size) (tree : List Piece) (terminals : List Vertex) (root : Vertex) (reached : Reached) → ((v : ℕ) → Has reached v ↔ WalkBetween s (InPieces tree) root.0 v) → Contains terminals root → All (λ (t : Vertex). Has reached t.0) terminals ↔ JoinsList s tree terminals
joins_by_reach s tree terminals root reached is at = (
  λ all. JoinsList-from_one s tree terminals root.0 (λ k d within. (is (get_or terminals k d).0).0 (all k d within)),
  λ joins. λ k d within. (is (get_or terminals k d).0).1 (joins root.0 (get_or terminals k d).0 at (All-contains_itself terminals k d within)),
)
