-- Walks put together and turned round, and what joins a set of vertices.
use Rattle.std.proofs.Common.{◌≡◌, ℕ, suc, ◌-◌, List, [], ◌∷◌, length, slice_get, Some, refl, sym, ◌∙◌, subst, inl, inr, ⊎_elim, arith}
use Rattle.grid_base.specs.declared.piece.Piece.{Piece}
use Rattle.grid_base.specs.declared.size.Size.{Size}
use Rattle.grid_base.specs.Numbers.{IsVertex, Connects}
use Rattle.grid_base.specs.Walks.{AreLinked, GoesOn, IsWalk, WalkBetween}
use Rattle.grid_base.proofs.Pieces.{neighbours_from_connects}

-- a vertex alone is a walk
pub WalkBetween-refl : (s : Size) (F : Piece → Type 0) (a : ℕ) → IsVertex s a → WalkBetween s F a a
WalkBetween-refl s F a vertex = record { way = a ∷ []; walks = (vertex, tt); starts = refl; arrives = refl }

-- linked vertices are linked in the other order
pub AreLinked-sym : (s : Size) (F : Piece → Type 0) (a b : ℕ) → AreLinked s F a b → AreLinked s F b a
AreLinked-sym s F a b link =
    record { piece = link.piece; in_set = link.in_set; connects = ⊎_elim (λ goes. inr goes) (λ goes. inl goes) link.connects }

pub linked_vertex : (s : Size) (F : Piece → Type 0) (a b : ℕ) → AreLinked s F a b → IsVertex s a
linked_vertex s F a b link = (neighbours_from_connects s link.piece a b link.connects).0

-- a vertex in front doesn't change the last one
last-cons : (a b : ℕ) (rest : List ℕ) → slice_get (a ∷ b ∷ rest) (length (a ∷ b ∷ rest) - 1) ≡ slice_get (b ∷ rest) (length (b ∷ rest) - 1)
last-cons a b rest =
    let one_more : length (a ∷ b ∷ rest) - 1 ≡ suc (length (b ∷ rest) - 1) = omega arith in
    rw one_more refl

-- the walk with one vertex more in front
longer : (s : Size) (F : Piece → Type 0) (a b c : ℕ) (way : List ℕ) → AreLinked s F a b → IsWalk s F way → slice_get way 0 ≡ Some b → slice_get way (length way - 1) ≡ Some c → WalkBetween s F a c
longer s F a b c [] link walks starts arrives = absurd walks
longer s F a b c (v ∷ rest) link walks starts arrives =
    let same : b ≡ v = cc in
    record {
      way = a ∷ v ∷ rest;
      walks = (linked_vertex s F a b link, (subst (AreLinked s F a) same link, walks.1));
      starts = refl;
      arrives = last-cons a v rest ∙ arrives;
    }

-- a walk from a linked vertex is one from here
pub WalkBetween-step : (s : Size) (F : Piece → Type 0) (a b c : ℕ) → AreLinked s F a b → WalkBetween s F b c → WalkBetween s F a c
WalkBetween-step s F a b c link walk = longer s F a b c walk.way link walk.walks walk.starts walk.arrives

kept_along : (s : Size) (F : Piece → Type 0) (M : ℕ → Type 0) → ((u w : ℕ) → M u → AreLinked s F u w → M w) → (a b : ℕ) (rest : List ℕ) → M a → GoesOn s F a rest → slice_get (a ∷ rest) (length (a ∷ rest) - 1) ≡ Some b → M b
kept_along s F M closed a b [] member goes arrives = let same : a ≡ b = cc in subst M same member
kept_along s F M closed a b (c ∷ rest) member goes arrives =
    kept_along s F M closed c b rest (closed a c member goes.0) goes.1 (sym (last-cons a c rest) ∙ arrives)

kept : (s : Size) (F : Piece → Type 0) (M : ℕ → Type 0) → ((u w : ℕ) → M u → AreLinked s F u w → M w) → (a b : ℕ) (way : List ℕ) → M a → IsWalk s F way → slice_get way 0 ≡ Some a → slice_get way (length way - 1) ≡ Some b → M b
kept s F M closed a b [] member walks starts arrives = absurd walks
kept s F M closed a b (v ∷ rest) member walks starts arrives =
    let same : a ≡ v = cc in kept_along s F M closed v b rest (subst M same member) walks.1 arrives

-- a set of vertices that no piece of F leaves holds the end of each walk from a member
pub closed_under_walks : (s : Size) (F : Piece → Type 0) (M : ℕ → Type 0) → ((u w : ℕ) → M u → AreLinked s F u w → M w) → (a b : ℕ) → M a → WalkBetween s F a b → M b
closed_under_walks s F M closed a b member walk = kept s F M closed a b walk.way member walk.walks walk.starts walk.arrives

first_vertex : (s : Size) (F : Piece → Type 0) (a : ℕ) (way : List ℕ) → IsWalk s F way → slice_get way 0 ≡ Some a → IsVertex s a
first_vertex s F a [] walks starts = absurd walks
first_vertex s F a (v ∷ rest) walks starts = let same : v ≡ a = cc in subst (IsVertex s) same walks.0

-- a walk leads from a vertex to a vertex
pub walk_vertices : (s : Size) (F : Piece → Type 0) (a b : ℕ) → WalkBetween s F a b → IsVertex s a × IsVertex s b
walk_vertices s F a b walk =
    let start = first_vertex s F a walk.way walk.walks walk.starts in
    (start, closed_under_walks s F (IsVertex s) (λ u w _ link. linked_vertex s F w u (AreLinked-sym s F u w link)) a b start walk)

-- a walk can be turned round
pub WalkBetween-sym : (s : Size) (F : Piece → Type 0) (a b : ℕ) → WalkBetween s F a b → WalkBetween s F b a
WalkBetween-sym s F a b walk =
    closed_under_walks s F (λ w. WalkBetween s F w a)
    (λ u w back link. WalkBetween-step s F w u a (AreLinked-sym s F u w link) back)
    a b (WalkBetween-refl s F a (walk_vertices s F a b walk).0) walk

-- walks can be put together end to end
pub WalkBetween-trans : (s : Size) (F : Piece → Type 0) (a b c : ℕ) → WalkBetween s F a b → WalkBetween s F b c → WalkBetween s F a c
WalkBetween-trans s F a b c first second =
    closed_under_walks s F (λ w. WalkBetween s F w c)
    (λ u w on link. WalkBetween-step s F w u c (AreLinked-sym s F u w link) on)
    b a second (WalkBetween-sym s F a b first)

-- two linked vertices are a walk
pub WalkBetween-link : (s : Size) (F : Piece → Type 0) (a b : ℕ) → AreLinked s F a b → WalkBetween s F a b
WalkBetween-link s F a b link =
    WalkBetween-step s F a b b link (WalkBetween-refl s F b (linked_vertex s F b a (AreLinked-sym s F a b link)))

-- a piece of F is a walk between its ends
pub WalkBetween-piece : (s : Size) (F : Piece → Type 0) (p : Piece) (a b : ℕ) → F p → Connects s p a b → WalkBetween s F a b
WalkBetween-piece s F p a b member connects = WalkBetween-link s F a b (record { piece = p; in_set = member; connects = connects })

-- a walk in a set of pieces is one in each greater set
pub WalkBetween-superset : (s : Size) (F G : Piece → Type 0) → ((p : Piece) → F p → G p) → (a b : ℕ) → WalkBetween s F a b → WalkBetween s G a b
WalkBetween-superset s F G greater a b walk =
    closed_under_walks s F (WalkBetween s G a)
    (λ u w before link. WalkBetween-trans s G a u w before (WalkBetween-piece s G link.piece u w (greater link.piece link.in_set) link.connects))
    a b (WalkBetween-refl s G a (walk_vertices s F a b walk).0) walk

-- without pieces a walk leads nowhere
pub walk_without_pieces : (s : Size) (F : Piece → Type 0) → ((p : Piece) → F p → ⊥) → (a b : ℕ) → WalkBetween s F a b → a ≡ b
walk_without_pieces s F none a b walk =
    closed_under_walks s F (λ w. a ≡ w) (λ u w _ link. absurd (none link.piece link.in_set)) a b refl walk
