-- Walls and choked edges of runs, by the counts of their kinds.
use Rattle.std.proofs.Common.{◌≡◌, ℕ, ◌<◌, ◌||◌, cond, Bool, true, false, List, [], ◌∷◌, Contains, refl, sym, ◌∙◌, ap, ⊎_elim, arith}
use Rattle.std.specs.List.{list_any}
use Rattle.std.proofs.lemmas.Bool.{cases_Bool}
use Rattle.std.proofs.lemmas.List.Sums.{sum_by-cons}
use Rattle.straight_runs.specs.LineCounts.{is_of_kind, is_same_kind, kind_count}
use Rattle.grid_base.specs.declared.edge.Edge.{Edge as EdgeNumber}
use Rattle.grid_base.specs.declared.piece.Piece.{Piece}
use Rattle.grid_base.specs.declared.piece.Piece.TheVariants.{Edge, Via}
use Rattle.grid_base.proofs.Lists.{Contains-rest, head_or_rest}
use Rattle.grid_graph.specs.declared.grid.Grid.{Grid}
use Rattle.grid_graph.specs.declared.ground.Ground.TheVariants as grounds
use Rattle.grid_graph.specs.declared.kind.Kind.{Kind}
use Rattle.grid_graph.specs.declared.kind.Kind.TheVariants.{Open, Choked, Wall}
use Rattle.grid_graph.specs.Grids.{kind}
use Rattle.route_judge.specs.Lines.{HasWall}
use Rattle.route_judge.specs.Measured.{is_beyond, is_choked}

abbrev as_number : Bool → ℕ
as_number b = cond b 1 0

same_Wall : (k : Kind) → is_same_kind k Wall ≡ true → k ≡ Wall
same_Wall Open same = absurd (cc same)
same_Wall Choked same = absurd (cc same)
same_Wall Wall same = refl

is_wall : (g : Grid) (p : Piece) → is_of_kind g Wall p ≡ true → (e : EdgeNumber) × (Edge e ≡ p) × (kind g e.0 ≡ Wall)
is_wall g (Edge e) of = (e, refl, same_Wall (kind g e.0) of)
is_wall g (Via v) of = absurd (cc of)

-- where some are counted, one of the pieces is a wall
pub wall_where_counted : (g : Grid) (pieces : List Piece) → 0 < kind_count g Wall pieces → HasWall g (Contains pieces)
wall_where_counted g [] some = absurd (omega (arith, some))
wall_where_counted g (p ∷ ps) some = ⊎_elim
    (λ (of : is_of_kind g Wall p ≡ true). let wall = is_wall g p of in (wall.0, (0, omega arith, sym wall.1), wall.2))
    (λ (other : is_of_kind g Wall p ≡ false).
    let rest = wall_where_counted g ps (omega (arith, some, sum_by-cons (λ q. as_number (is_of_kind g Wall q)) p ps, ap as_number other)) in
    (rest.0, Contains-rest p ps (Edge rest.0) rest.1, rest.2))
    (cases_Bool (is_of_kind g Wall p))

-- and the other way round
pub counted_where_wall : (g : Grid) (pieces : List Piece) → HasWall g (Contains pieces) → 0 < kind_count g Wall pieces
counted_where_wall g [] wall = absurd (omega (arith, wall.1.1))
counted_where_wall g (p ∷ ps) wall = ⊎_elim
    (λ (is : Edge wall.0 ≡ p).
    let of : is_of_kind g Wall p ≡ true = ap (is_of_kind g Wall) (sym is) ∙ ap (λ k. is_same_kind k Wall) wall.2 in
    let one : as_number (is_of_kind g Wall p) ≡ 1 = ap as_number of in
    omega (arith, sum_by-cons (λ q. as_number (is_of_kind g Wall q)) p ps, one))
    (λ later. omega (arith, sum_by-cons (λ q. as_number (is_of_kind g Wall q)) p ps, counted_where_wall g ps (wall.0, later, wall.2)))
    (head_or_rest p ps (Edge wall.0) wall.1)

same_Choked : (k : Kind) → is_same_kind k Choked ≡ is_choked k
same_Choked Open = refl
same_Choked Choked = refl
same_Choked Wall = refl

same_test : (g : Grid) (p : Piece) → is_of_kind g Choked p ≡ is_beyond g grounds.Open p
same_test g (Edge e) = same_Choked (kind g e.0)
same_test g (Via v) = refl

-- beyond open ground are the choked edges
pub beyond_open : (g : Grid) (pieces : List Piece) → list_any (is_of_kind g Choked) pieces ≡ list_any (is_beyond g grounds.Open) pieces
beyond_open g [] = refl
beyond_open g (p ∷ ps) = ap (λ b. b || list_any (is_of_kind g Choked) ps) (same_test g p) ∙ ap (λ b. is_beyond g grounds.Open p || b) (beyond_open g ps)

-- and beyond the other nothing is
pub beyond_choked : (g : Grid) (pieces : List Piece) → list_any (is_beyond g grounds.WithChoked) pieces ≡ false
beyond_choked g [] = refl
beyond_choked g (p ∷ ps) = beyond_choked g ps
