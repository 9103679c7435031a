-- What joins a set of vertices.
use Rattle.std.proofs.Common.{◌≡◌, ℕ, ◌<◌, List, [], ◌∷◌, length, refl, sym, ◌∙◌, subst, All, arith}
use Rattle.std.proofs.lemmas.List.Elements.{All-contains, All-cons, All-nil, All-head}
use Rattle.grid_base.specs.declared.piece.Piece.{Piece}
use Rattle.grid_base.specs.declared.size.Size.{Size}
use Rattle.grid_base.specs.declared.vertex.Vertex.{Vertex}
use Rattle.grid_base.specs.Numbers.{IsVertex}
use Rattle.grid_base.specs.Walks.{WalkBetween, Joins, InPieces, InVertices, JoinsList}
use Rattle.grid_base.proofs.Walks.{WalkBetween-refl, WalkBetween-sym, WalkBetween-trans, WalkBetween-superset}

-- what joins a set of vertices joins it also with more pieces
pub Joins-superset : (s : Size) (F G : Piece → Type 0) (T : ℕ → Type 0) → ((p : Piece) → F p → G p) → Joins s F T → Joins s G T
Joins-superset s F G T greater joins a b at_a at_b = WalkBetween-superset s F G greater a b (joins a b at_a at_b)

-- it is enough that each vertex can be reached from one
pub Joins-from_one : (s : Size) (F : Piece → Type 0) (T : ℕ → Type 0) (root : ℕ) → ((v : ℕ) → T v → WalkBetween s F root v) → Joins s F T
Joins-from_one s F T root reached a b at_a at_b =
    WalkBetween-trans s F a root b (WalkBetween-sym s F root a (reached a at_a)) (reached b at_b)

-- every set of pieces joins a vertex alone
pub Joins-alone : (s : Size) (F : Piece → Type 0) (T : ℕ → Type 0) (v : ℕ) → IsVertex s v → ((w : ℕ) → T w → w ≡ v) → Joins s F T
Joins-alone s F T v vertex alone a b at_a at_b =
    let same : b ≡ a = alone b at_b ∙ sym (alone a at_a) in
    let here : IsVertex s a = subst (IsVertex s) (sym (alone a at_a)) vertex in
    subst (WalkBetween s F a) (sym same) (WalkBetween-refl s F a here)

-- every list of pieces joins a terminal alone
pub JoinsList-alone : (s : Size) (pieces : List Piece) (v : Vertex) → IsVertex s v.0 → JoinsList s pieces (v ∷ [])
JoinsList-alone s pieces v vertex =
    let IsHere : Vertex → Type 0 = λ w. w.0 ≡ v.0 in
    Joins-alone s (InPieces pieces) (InVertices (v ∷ [])) v.0 vertex
    (λ w at. All-contains IsHere (v ∷ []) (record { 0 = w }) (All-cons IsHere v [] refl (All-nil IsHere)) at)

-- it is enough that each terminal can be reached from the first
pub JoinsList-from_one : (s : Size) (pieces : List Piece) (terminals : List Vertex) (root : ℕ) → All (λ (t : Vertex). WalkBetween s (InPieces pieces) root t.0) terminals → JoinsList s pieces terminals
JoinsList-from_one s pieces terminals root reached =
    Joins-from_one s (InPieces pieces) (InVertices terminals) root
    (λ v at. All-contains (λ (t : Vertex). WalkBetween s (InPieces pieces) root t.0) terminals (record { 0 = v }) reached at)

-- every list of pieces joins fewer than two terminals
pub JoinsList-few : (s : Size) (pieces : List Piece) (terminals : List Vertex) → length terminals < 2 → All (λ (t : Vertex). IsVertex s t.0) terminals → JoinsList s pieces terminals
JoinsList-few s pieces [] few vertices = λ a b at_a at_b. absurd (omega (arith, at_a.1))
JoinsList-few s pieces (a ∷ []) few vertices = JoinsList-alone s pieces a (All-head (λ (t : Vertex). IsVertex s t.0) a [] vertices)
JoinsList-few s pieces (a ∷ b ∷ rest) few vertices = absurd (omega (arith, few))
