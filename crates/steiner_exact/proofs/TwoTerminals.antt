-- What joins terminals, where there are at most two.
use Rattle.std.proofs.Common.{◌≡◌, List, [], ◌∷◌, length, get_or, All, arith}
use Rattle.std.proofs.lemmas.List.Elements.{All-cons, All-nil, All-head, Contains-get_or}
use Rattle.grid_base.specs.declared.piece.Piece.{Piece}
use Rattle.grid_base.specs.declared.size.Size.{Size}
use Rattle.grid_base.specs.declared.vertex.Vertex.{Vertex}
use Rattle.grid_base.specs.Numbers.{IsVertex}
use Rattle.grid_base.specs.Walks.{WalkBetween, Joins, InPieces, InVertices, JoinsList}
use Rattle.grid_base.proofs.Joined.{JoinsList-from_one}
use Rattle.grid_base.proofs.Walks.{WalkBetween-refl, walk_vertices}

-- a walk from one terminal to the other joins the two
pub JoinsList-both : (s : Size) (pieces : List Piece) (terminals : List Vertex) (d : Vertex) → length terminals ≡ 2 → All (λ (t : Vertex). IsVertex s t.0) terminals → WalkBetween s (InPieces pieces) (get_or terminals 0 d).0 (get_or terminals 1 d).0 → JoinsList s pieces terminals
JoinsList-both s pieces [] d two vertices walk = absurd (omega arith)
JoinsList-both s pieces (a ∷ []) d two vertices walk = absurd (omega arith)
JoinsList-both s pieces (a ∷ b ∷ []) d two vertices walk =
    let Reached : Vertex → Type 0 = λ t. WalkBetween s (InPieces pieces) a.0 t.0 in
    let vertex : IsVertex s a.0 = All-head (λ (t : Vertex). IsVertex s t.0) a (b ∷ []) vertices in
    JoinsList-from_one s pieces (a ∷ b ∷ []) a.0
    (All-cons Reached a (b ∷ []) (WalkBetween-refl s (InPieces pieces) a.0 vertex) (All-cons Reached b [] walk (All-nil Reached)))
JoinsList-both s pieces (a ∷ b ∷ c ∷ rest) d two vertices walk = absurd (omega arith)

-- terminals that are joined are vertices
pub joined_vertices : (s : Size) (F : Piece → Type 0) (terminals : List Vertex) → Joins s F (InVertices terminals) → All (λ (t : Vertex). IsVertex s t.0) terminals
joined_vertices s F terminals joined = λ k d short.
    let at = Contains-get_or terminals k d short in
    (walk_vertices s F (get_or terminals k d).0 (get_or terminals k d).0 (joined (get_or terminals k d).0 (get_or terminals k d).0 at at)).0
