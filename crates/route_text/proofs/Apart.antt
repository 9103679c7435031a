-- A rising list holds no edge between two places one behind the other, of which the first is below it and the second behind it.
use Rattle.std.proofs.Common.{◌≡◌, ℕ, Bool, true, false, ◌+◌, ◌-◌, ◌<◌, ◌≤◌, List, All, length, get_or, Contains, sym, ap, ◌∙◌, subst, arith, ⊎_elim}
use Rattle.std.specs.Cmp.{ranked}
use Rattle.std.specs.declared.cmp.Ordering.TheVariants.{Less}
use Rattle.std.proofs.lemmas.Bool.{cases_lt, false≢true}
use Rattle.std.proofs.lemmas.List.Elements.{All-contains}
use Rattle.std.proofs.lemmas.Map.Keys.{Less-from_sorted}
use Rattle.grid_base.specs.declared.axis.Axis.{Axis}
use Rattle.grid_base.specs.declared.axis.Axis.TheVariants.{X, Y}
use Rattle.grid_base.specs.declared.edge.Edge.{Edge as EdgeNumber}
use Rattle.grid_base.specs.declared.piece.Piece.{Piece}
use Rattle.grid_base.specs.declared.piece.Piece.TheVariants.{Edge, Via}
use Rattle.grid_base.specs.declared.size.Size.{Size}
use Rattle.grid_base.specs.Lines.{edge_from, stride}
use Rattle.grid_base.specs.Numbers.{IsPiece, IsVertex, edge_along}
use Rattle.grid_base.proofs.Lines.{end_of-edge_from, stride-positive}
use Rattle.grid_base.proofs.Pieces.{end_of-vertex}
use Rattle.tree_set.specs.Order.{piece_cmp, IsRising}
use Rattle.route_text.specs.Standing.{IsBelow, IsBehind, IsNumbered}

-- what an edge is less than is not below it
greater_is_not_below : (e : EdgeNumber) (q : Piece) → piece_cmp (Edge e) q ≡ Less → IsBelow e.0 q → ⊥
greater_is_not_below e (Edge other) less below = omega (arith, ranked e.0 other.0 Less (sym less), below)
greater_is_not_below e (Via v) less below = below

-- what is less than an edge is not behind it
less_is_not_behind : (e : EdgeNumber) (q : Piece) → piece_cmp q (Edge e) ≡ Less → IsBehind e.0 q → ⊥
less_is_not_behind e (Edge other) less behind = omega (arith, ranked other.0 e.0 Less (sym less), behind)
less_is_not_behind e (Via v) less behind = cc

-- a piece that is neither behind an edge nor that edge is below it, and so the other way round
pub else_below : (e : ℕ) (q : Piece) → ¬ IsBehind e q → ¬ IsNumbered e q → IsBelow e q
else_below e (Edge other) behind is = omega (arith, behind, is)
else_below e (Via v) behind is = absurd (behind tt)

pub else_behind : (e : ℕ) (q : Piece) → ¬ IsBelow e q → ¬ IsNumbered e q → IsBehind e q
else_behind e (Edge other) below is = omega (arith, below, is)
else_behind e (Via v) below is = tt

pub numbered_is : (e : EdgeNumber) (q : Piece) → IsNumbered e.0 q → q ≡ Edge e
numbered_is e (Edge other) is = ap (λ n. Edge (record { 0 = n })) is
numbered_is e (Via v) is = absurd is

below_later : (e f : ℕ) (q : Piece) → e ≤ f → IsBelow e q → IsBelow f q
below_later e f (Edge other) later below = omega (arith, later, below)
below_later e f (Via v) later below = below

-- an edge does not stand up to a place whose piece is below it
not_up_to : (ps : List Piece) (at : ℕ) (e : EdgeNumber) → IsRising ps → at < length ps → ((other : Piece) → IsBelow e.0 (get_or ps at other))
    → (i : ℕ) → i ≤ at → get_or ps i (Edge e) ≡ Edge e → ⊥
not_up_to ps at e up within below i before is =
    let here = get_or ps at (Edge e) in
    ⊎_elim
    (λ (less : i < at).
    let first : piece_cmp (Edge e) here ≡ Less = subst (λ q. piece_cmp q here ≡ Less) is (Less-from_sorted piece_cmp ps i at (Edge e) up less within) in
    greater_is_not_below e here first (below (Edge e)))
    (λ (other : at ≤ i).
    let same : at ≡ i = omega (arith, other, before) in
    let itself : e.0 < e.0 = subst (IsBelow e.0) (ap (λ k. get_or ps k (Edge e)) same ∙ is) (below (Edge e)) in
    omega (arith, itself))
    (cases_lt i at)

-- nor from a place on whose piece is behind it
not_from : (ps : List Piece) (at : ℕ) (e : EdgeNumber) → IsRising ps → ((other : Piece) → IsBehind e.0 (get_or ps at other))
    → (i : ℕ) → at ≤ i → i < length ps → get_or ps i (Edge e) ≡ Edge e → ⊥
not_from ps at e up behind i after within is =
    let here = get_or ps at (Edge e) in
    ⊎_elim
    (λ (later : at < i).
    let first : piece_cmp here (Edge e) ≡ Less = subst (λ q. piece_cmp here q ≡ Less) is (Less-from_sorted piece_cmp ps at i (Edge e) up later within) in
    less_is_not_behind e here first (behind (Edge e)))
    (λ (other : i ≤ at).
    let same : at ≡ i = omega (arith, other, after) in
    let itself : e.0 < e.0 = subst (IsBehind e.0) (ap (λ k. get_or ps k (Edge e)) same ∙ is) (behind (Edge e)) in
    omega (arith, itself))
    (cases_lt at i)

-- so it is not held between two such places
pub none_between : (ps : List Piece) (at : ℕ) (e : EdgeNumber) → IsRising ps → at + 1 < length ps
    → ((other : Piece) → IsBelow e.0 (get_or ps at other)) → ((other : Piece) → IsBehind e.0 (get_or ps (at + 1) other)) → ¬ Contains ps (Edge e)
none_between ps at e up within below behind held =
    ⊎_elim
    (λ (before : held.0 < at + 1). not_up_to ps at e up (omega (arith, within)) below held.0 (omega (arith, before)) held.2)
    (λ (after : at + 1 ≤ held.0). not_from ps (at + 1) e up behind held.0 after held.1 held.2)
    (cases_lt held.0 (at + 1))

-- nor behind the last
pub none_at_end : (ps : List Piece) (at : ℕ) (e : EdgeNumber) → IsRising ps → at + 1 ≡ length ps → ((other : Piece) → IsBelow e.0 (get_or ps at other)) → ¬ Contains ps (Edge e)
none_at_end ps at e up last below held = not_up_to ps at e up (omega (arith, last)) below held.0 (omega (arith, last, held.1)) held.2

-- nor before the first
pub none_at_front : (ps : List Piece) (e : EdgeNumber) → IsRising ps → ((other : Piece) → IsBehind e.0 (get_or ps 0 other)) → ¬ Contains ps (Edge e)
none_at_front ps e up behind held = not_from ps 0 e up behind held.0 (omega arith) held.1 held.2

-- an edge comes behind the one a step before it
pub behind_step : (s : Size) (axis : Axis) (v : ℕ) → stride axis s ≤ v → IsBehind (edge_along axis (v - stride axis s)).0 (edge_from axis v)
behind_step s X v high = omega (arith, high)
behind_step s Y v high = omega (arith, high, stride-positive s Y)

-- and below the one a step behind it
pub below_step : (s : Size) (axis : Axis) (v : ℕ) → IsBelow (edge_along axis (v + stride axis s)).0 (edge_from axis v)
below_step s X v = omega arith
below_step s Y v = omega (arith, stride-positive s Y)

-- also what comes up to it is below the one a step behind it
pub up_to_step : (s : Size) (axis : Axis) (v : ℕ) (q : Piece) → IsBelow ((edge_along axis v).0 + 1) q → IsBelow (edge_along axis (v + stride axis s)).0 q
up_to_step s X v q = below_later _ _ q (omega arith)
up_to_step s Y v q = below_later _ _ q (omega (arith, stride-positive s Y))

-- the edge from a vertex leads to the one a step behind it
pub step_vertex : (s : Size) (axis : Axis) (ps : List Piece) (v : ℕ) → All (IsPiece s) ps → Contains ps (edge_from axis v) → IsVertex s (v + stride axis s)
step_vertex s axis ps v pieces held =
    subst (IsVertex s) (end_of-edge_from s axis v) (end_of-vertex s (edge_from axis v) (All-contains (IsPiece s) ps (edge_from axis v) pieces held))

-- what a test that fails would show
pub not_shown : {P : Type 0} (test : Bool) → test ≡ false → (P → test ≡ true) → ¬ P
not_shown test off shows p = false≢true (sym off ∙ shows p)

-- the piece that is read where a place is empty
abbrev pub first_edge : Piece
first_edge = Edge (record { 0 = 0 })
