-- A search over masks of terminals and vertices.
use Rattle.std.specs.Prelude.{ℕ, ◌≡◌, ◌+◌, ◌<◌, ◌≤◌, ◌⊎◌, List}
use Rattle.grid_base.specs.declared.piece.Piece.{Piece}
use Rattle.grid_base.specs.declared.size.Size.{Size}
use Rattle.grid_base.specs.declared.vertex.Vertex.{Vertex}
use Rattle.grid_base.specs.Lists.{At}
use Rattle.grid_base.specs.Numbers.{IsVertex, Connects}
use Rattle.grid_graph.specs.Weighed.{Weighs}
use Rattle.label_search.specs.declared.row.Row.{Row}
use Rattle.label_search.specs.Founds.{FindsMore}
use Rattle.label_search.specs.Rows.{size_in, number_in, Waits, work_left}
use Rattle.label_search.specs.Runs.{IsSearch}
use Rattle.label_search.specs.Stamped.{far, max_key}
use Rattle.steiner_tables.specs.Masks.{single, AreParts}
use Rattle.steiner_tables.specs.Tables.{HasTree}
use Rattle.dijkstra_steiner.specs.Stacks.{on_stack, mask_of, rest_on}

-- the number of a mask at a vertex of the flat grid
abbrev pub mask_number : Size → Row → ℕ → ℕ → ℕ
mask_number flat r mask v = number_in r (on_stack flat mask v)

-- numbers in the course of a search for the masks up to the last one: what waits has its number and what is left to go as its key,
-- a set of allowed pieces of at most its number joins the terminals of each mask and the vertex, no other vertex of the stack has a
-- number, and the goal waits once it has one
pub record IsMaskSearch (flat : Size) (pieces : List (Piece × ℕ)) (terminals : List Vertex) (low : ℕ → ℕ → ℕ) (last goal : ℕ)
    (r : Row) : Type 0 where
  pub search : IsSearch (rest_on (size_in r) terminals low) max_key r
  pub used : (w : ℕ) → number_in r w < far → IsVertex (size_in r) w × (mask_of (size_in r) w ≤ last)
  pub trees : (mask v : ℕ) → 0 < mask → mask ≤ last → IsVertex flat v → mask_number flat r mask v < far
      → HasTree flat pieces terminals mask v (mask_number flat r mask v)
  pub waits : number_in r goal < far → Waits r goal

-- each terminal but the root has 0 for itself
abbrev pub AreStarted : Size → List Vertex → ℕ → Row → Type 0
AreStarted flat terminals last r =
    (place : ℕ) (v : Vertex) → At terminals place v → single place ≤ last → mask_number flat r (single place) v.0 ≡ 0

-- the pieces from each vertex of the stack that is done were offered
abbrev pub AreRelaxed : Size → List (Piece × ℕ) → ℕ → (ℕ → Type 0) → Row → Type 0
AreRelaxed flat pieces last Done r = (mask : ℕ) (p : Piece) (k v u : ℕ) → 0 < mask → mask ≤ last → IsVertex flat v
    → Done (on_stack flat mask v) → Weighs pieces p k → Connects flat p v u
    → mask_number flat r mask u ≤ mask_number flat r mask v + k

-- the sum of each two parts of a mask that are done was offered
abbrev pub AreMerged : Size → ℕ → (ℕ → Type 0) → Row → Type 0
AreMerged flat last Done r = (one other mask v : ℕ) → AreParts one other mask → mask ≤ last → IsVertex flat v
    → Done (on_stack flat one v) → Done (on_stack flat other v)
    → mask_number flat r mask v ≤ mask_number flat r one v + mask_number flat r other v

-- each vertex of the stack that doesn't wait is done
pub record AreMasksSettled (flat : Size) (pieces : List (Piece × ℕ)) (last : ℕ) (r : Row) : Type 0 where
  pub relaxed : AreRelaxed flat pieces last (λ w. ¬ Waits r w) r
  pub merged : AreMerged flat last (λ w. ¬ Waits r w) r

-- numbers fell, and what fell waits
pub record Proceeds (old new : Row) : Type 0 where
  pub found : FindsMore old.found new.found
  pub falls : (w : ℕ) → number_in new w ≤ number_in old w
  pub changed : (w : ℕ) → (number_in new w ≡ number_in old w) ⊎ Waits new w
  pub kept : (w : ℕ) → Waits old w → Waits new w
  pub less : work_left new ≤ work_left old
