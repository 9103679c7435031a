-- Sets that grow by a piece.
use Rattle.std.proofs.Common.{◌≡◌, ◌≢◌, ◌<◌, ◌≤◌, ◌+◌, ◌++◌, ℕ, List, [], ◌∷◌, length, get_or, slice_get, Some, All, Contains, refl, sym, ◌∙◌, subst, inl, inr, arith, get_or-set_other, length-set}
use Rattle.std.proofs.Math.ListN.{set}
use Rattle.std.proofs.lemmas.Bool.{cases_eq}
use Rattle.std.proofs.lemmas.List.Elements.{All-contains, All-contains_itself, Contains-append_left, Contains-append_right}
use Rattle.std.proofs.lemmas.Option.{slice_get_within, get_or_from_slice_get, slice_get_read, slice_get-get_or}
use Rattle.grid_base.specs.declared.piece.Piece.{Piece}
use Rattle.grid_base.specs.declared.size.Size.{Size}
use Rattle.grid_base.specs.declared.vertex.Vertex.{Vertex}
use Rattle.grid_base.specs.Numbers.{IsVertex, Connects}
use Rattle.grid_graph.specs.declared.grid.Grid.{Grid}
use Rattle.grid_graph.specs.declared.net_spec.NetSpec.{NetSpec}
use Rattle.grid_graph.specs.Grids.{size_of}
use Rattle.grid_graph.specs.Nets.{IsNet}
use Rattle.grid_base.specs.Walks.{WalkBetween, InPieces, JoinsList}
use Rattle.grid_base.proofs.Joined.{JoinsList-from_one, Joins-superset}
use Rattle.grid_base.proofs.Walks.{WalkBetween-trans, WalkBetween-piece, WalkBetween-superset}

-- where a mark stands in a list in which another place was set, it stood there before
unset_mark : (marks : List ℕ) (to mark v : ℕ) → v ≢ to → slice_get (set marks to mark) v ≡ Some mark → slice_get marks v ≡ Some mark
unset_mark marks to mark v other marked =
    let inside : v < length marks = omega (arith, slice_get_within (set marks to mark) v mark marked, length-set marks to mark) in
    let here : get_or marks v mark ≡ mark = sym (get_or-set_other marks to v mark mark other) ∙ get_or_from_slice_get (set marks to mark) v mark mark marked in
    slice_get_read marks (length marks) v mark refl inside (sym here)

-- where no place had more than a mark, the next mark stands only where it was set
pub only_root : (marks : List ℕ) (root mark v : ℕ) → ((w : ℕ) → get_or marks w 0 ≤ mark) → slice_get (set marks root (mark + 1)) v ≡ Some (mark + 1) → v ≡ root
only_root marks root mark v past marked = elim (cases_eq v root) [
  | inl same ↦ same
  | inr other ↦ absurd (omega (arith, past v, get_or_from_slice_get marks v (mark + 1) 0 (unset_mark marks root (mark + 1) v other marked)))
]

-- the walks from a root to all that is marked, with a piece more that leads from a marked vertex to another one
pub walks_on : (s : Size) (marks : List ℕ) (pieces : List Piece) (mark root from to : ℕ) (piece : Piece)
    → Connects s piece from to
    → slice_get marks from ≡ Some mark
    → ((v : ℕ) → slice_get marks v ≡ Some mark → WalkBetween s (InPieces pieces) root v)
    → (v : ℕ) → slice_get (set marks to mark) v ≡ Some mark → WalkBetween s (InPieces (pieces ++ piece ∷ [])) root v
walks_on s marks pieces mark root from to piece connects at walks v marked =
    let more : (p : Piece) → InPieces pieces p → InPieces (pieces ++ piece ∷ []) p = λ p in_pieces. Contains-append_left pieces (piece ∷ []) p in_pieces in
    let there : InPieces (pieces ++ piece ∷ []) piece = Contains-append_right pieces (piece ∷ []) piece (0, omega arith, refl) in
    elim (cases_eq v to) [
      | inl same ↦ subst (WalkBetween s (InPieces (pieces ++ piece ∷ [])) root) (sym same)
          (WalkBetween-trans s (InPieces (pieces ++ piece ∷ [])) root from to
          (WalkBetween-superset s (InPieces pieces) (InPieces (pieces ++ piece ∷ [])) more root from (walks from at))
          (WalkBetween-piece s (InPieces (pieces ++ piece ∷ [])) piece from to there connects))
      | inr other ↦ WalkBetween-superset s (InPieces pieces) (InPieces (pieces ++ piece ∷ [])) more root v (walks v (unset_mark marks to mark v other marked))
    ]

-- a set with the same pieces joins the terminals to which walks lead from a root
pub joined_by : (s : Size) (pieces tree : List Piece) (terminals : List Vertex) (root : ℕ)
    → ((p : Piece) → InPieces pieces p → InPieces tree p)
    → All (λ (t : Vertex). WalkBetween s (InPieces pieces) root t.0) terminals
    → JoinsList s tree terminals
joined_by s pieces tree terminals root more reached =
    Joins-superset s (InPieces pieces) (InPieces tree) (λ v. Contains terminals (record { 0 = v })) more (JoinsList-from_one s pieces terminals root reached)

-- what is true of all pieces is true of those of a set that has no others
pub all_of : (P : Piece → Type 0) (pieces tree : List Piece) → ((p : Piece) → InPieces tree p → InPieces pieces p) → All P pieces → All P tree
all_of P pieces tree fewer all = λ k d within. All-contains P pieces (get_or tree k d) all (fewer (get_or tree k d) (All-contains_itself tree k d within))

-- the terminals of a net are vertices
pub net_vertices : (g : Grid) (n : NetSpec) (s : Size) (listed : List Vertex) → IsNet g n → s ≡ size_of g → listed ≡ n.terminals → All (λ (v : Vertex). IsVertex s v.0) listed
net_vertices g n s listed fits size same =
    let all : All (λ (v : Vertex). IsVertex (size_of g) v.0) n.terminals = λ k d within. fits.vertices k (get_or n.terminals k d) (slice_get-get_or n.terminals k d within) in
    subst (λ (xs : List Vertex). All (λ (v : Vertex). IsVertex s v.0) xs) (sym same)
    (subst (λ (z : Size). All (λ (v : Vertex). IsVertex z v.0) n.terminals) (sym size) all)
