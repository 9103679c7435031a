-- What stands in the course of the growth of a tree, from terminal to terminal.
use Rattle.std.specs.Prelude.{ℕ, ◌≡◌, ◌≢◌, ◌+◌, ◌<◌, ◌≤◌, ◌⊎◌, List, [], ◌∷◌}
use Rattle.std.specs.List.{Contains}
use Rattle.grid_base.specs.declared.piece.Piece.{Piece}
use Rattle.grid_base.specs.declared.size.Size.{Size}
use Rattle.grid_base.specs.declared.vertex.Vertex.{Vertex}
use Rattle.grid_base.specs.Spots.{IsSpot}
use Rattle.grid_base.specs.Walks.{InPieces, InVertices, WalkBetween}
use Rattle.grid_graph.specs.Weighed.{IsAllowed}
use Rattle.shortest_paths.specs.declared.labels.Labels.{Labels}
use Rattle.shortest_paths.specs.LabelWords.{labels_number}
use Rattle.shortest_paths.specs.LedSearches.{HasKey, IsOpen, GoOn, work_of}
use Rattle.label_search.specs.Paths.{IsStepBack}
use Rattle.label_search.specs.Searches.{IsBehind, IsRelaxed}
use Rattle.label_search.specs.Sets.{IsSetOf, weight}
use Rattle.shortest_paths.specs.Spanning.{Link}
use Rattle.label_search.specs.Stamped.{far}
use Rattle.steiner_span.specs.declared.step_back.StepBack.{StepBack}
use Rattle.steiner_span.specs.Exchanges.{IsExchanged}
use Rattle.steiner_span.specs.SpanningLinks.{AreSpanningLinks}

-- a vertex waits with a key from its number to that and what is still to go
pub record AreKeys (rest : ℕ → ℕ) (l : Labels) : Type 0 where
  pub low : (v key : ℕ) → HasKey l v key → labels_number l v ≤ key
  pub high : (v key : ℕ) → HasKey l v key → key ≤ labels_number l v + rest v
  pub numbered : (v key : ℕ) → HasKey l v key → labels_number l v < far

-- each vertex with a number has 0, as those of the tree, or is behind a neighbour
abbrev pub AreBehind : Size → List (Piece × ℕ) → (ℕ → ℕ) → Type 0
AreBehind s pieces num = (v : ℕ) → num v < far → (num v ≡ 0) ⊎ IsBehind s pieces num v

-- the numbers of a growth: what doesn't wait is relaxed, and of the terminals T each that has a number above 0 waits
pub record IsGrowing (s : Size) (pieces : List (Piece × ℕ)) (T : ℕ → Type 0) (rest : ℕ → ℕ) (l : Labels) : Type 0 where
  pub keys : AreKeys rest l
  pub behind : AreBehind s pieces (labels_number l)
  pub relaxed : (v : ℕ) → ¬ IsOpen l v → IsRelaxed s pieces (labels_number l) v
  pub pending : (v : ℕ) → T v → 0 < labels_number l v → labels_number l v < far → IsOpen l v

-- the same where a vertex of least key was taken out and isn't relaxed
pub record IsTaken (s : Size) (pieces : List (Piece × ℕ)) (T : ℕ → Type 0) (rest : ℕ → ℕ) (l : Labels) (at : ℕ) : Type 0 where
  pub keys : AreKeys rest l
  pub behind : AreBehind s pieces (labels_number l)
  pub relaxed : (v : ℕ) → v ≢ at → ¬ IsOpen l v → IsRelaxed s pieces (labels_number l) v
  pub pending : (v : ℕ) → v ≢ at → T v → 0 < labels_number l v → labels_number l v < far → IsOpen l v
  pub numbered : labels_number l at < far
  pub least : (v : ℕ) → IsOpen l v → labels_number l at ≤ labels_number l v + rest v

-- a vertex took an offer, or nothing changed
pub record AfterOffer (old new : Labels) (to offered : ℕ) : Type 0 where
  pub go_on : GoOn old new
  pub falls : (v : ℕ) → labels_number new v ≤ labels_number old v
  pub changed : (v : ℕ) → (labels_number new v ≡ labels_number old v) ⊎ ((v ≡ to) × (labels_number new v ≡ offered) × IsOpen new v)
  pub kept : (v : ℕ) → IsOpen old v → IsOpen new v
  pub less : work_of new ≤ work_of old

-- numbers fell
pub record FallsTo (old new : Labels) : Type 0 where
  pub go_on : GoOn old new
  pub falls : (v : ℕ) → labels_number new v ≤ labels_number old v
  pub less : work_of new ≤ work_of old

-- numbers fell, none of them to 0
pub record FallsOn (old new : Labels) : Type 0 where
  pub to : FallsTo old new
  pub zeros : (v : ℕ) → labels_number new v ≡ 0 → labels_number old v ≡ 0

-- numbers fell, none of them to 0, and what fell waits and is behind a neighbour
pub record RelaxesOn (s : Size) (pieces : List (Piece × ℕ)) (old new : Labels) : Type 0 where
  pub fell : FallsOn old new
  pub changed : (v : ℕ) → (labels_number new v ≡ labels_number old v) ⊎ IsOpen new v
  pub kept : (v : ℕ) → IsOpen old v → IsOpen new v
  pub behind : AreBehind s pieces (labels_number old) → AreBehind s pieces (labels_number new)

-- steps, the latest first, lead from a vertex to another, each to a smaller number
abbrev pub IsWayBack : Size → List (Piece × ℕ) → (ℕ → ℕ) → ℕ → List StepBack → ℕ → Type 0
IsWayBack s pieces num at [] here = here ≡ at
IsWayBack s pieces num at (x ∷ before) here =
    IsSpot s x.from × IsStepBack s pieces num x.from.vertex.0 here x.by × IsWayBack s pieces num at before x.from.vertex.0

-- the pieces of a list are in a set of allowed pieces of at most this weight
pub record AreLight (pieces : List (Piece × ℕ)) (grown : List Piece) (limit : ℕ) : Type 0 where
  pub set : List (Piece × ℕ)
  pub is_set : IsSetOf pieces set
  pub listed : (p : Piece) → Contains grown p → IsAllowed set p
  pub light : weight set ≤ limit

-- the tree so far: its pieces join the vertices of number 0, and weigh at most a total that all links that span the terminals
-- can be exchanged for
pub record IsGrown (s : Size) (pieces : List (Piece × ℕ)) (terminals : List Vertex) (num : ℕ → ℕ) (grown : List Piece) : Type 0 where
  pub total : ℕ
  pub joined : (a b : ℕ) → num a ≡ 0 → num b ≡ 0 → WalkBetween s (InPieces grown) a b
  pub light : AreLight pieces grown total
  pub exchanged : (links : List Link) → AreSpanningLinks s pieces terminals links → IsExchanged (InVertices terminals) links (λ u. num u ≡ 0) total
