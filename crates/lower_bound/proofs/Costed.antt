-- A set of pieces of the ground with what each costs.
use Rattle.std.proofs.Common.{◌≡◌, ℕ, zero, suc, ◌+◌, List, [], ◌∷◌, All, length, map, refl, sym, ◌∙◌, ap, subst, ⊎_elim, arith}
use Rattle.std.specs.List.{Contains, filter}
use Rattle.std.proofs.Math.Nat.{mul-suc, mul-zero}
use Rattle.std.proofs.lemmas.List.Sums.{sum_by-cons}
use Rattle.grid_base.specs.declared.piece.Piece.{Piece}
use Rattle.grid_base.specs.declared.vertex.Vertex.{Vertex}
use Rattle.grid_base.specs.Lists.{HasNoRepeats}
use Rattle.grid_base.specs.Walks.{Joins, InVertices, InPieces, JoinsList}
use Rattle.grid_base.proofs.Lists.{head_or_rest}
use Rattle.grid_base.proofs.Walks.{WalkBetween-superset}
use Rattle.grid_graph.specs.declared.grid.Grid.{Grid}
use Rattle.grid_graph.specs.declared.ground.Ground.{Ground}
use Rattle.grid_graph.specs.Grids.{size_of, Allows}
use Rattle.grid_graph.specs.Grounds.{JoinsTerminals}
use Rattle.grid_graph.specs.Weighed.{IsAllowed}
use Rattle.edge_prices.specs.PieceLists.{has_piece, all_pieces, pieces_with}
use Rattle.edge_prices.specs.Weights.{cost}
use Rattle.edge_prices.proofs.GroundPieces.{pieces_with-Weighs}
use Rattle.label_search.specs.Sets.{IsSetOf, weight}
use Rattle.lower_bound.specs.Costs.{costed, set_cost}
use Rattle.lower_bound.specs.Raised.{raised}

-- each piece with its number
with_numbers : (Piece → ℕ) → List Piece → List (Piece × ℕ)
with_numbers f set = map (λ p. (p, f p)) set

back : (f : Piece → ℕ) (set : List Piece) → map (λ x. x.0) (with_numbers f set) ≡ set
unfolding with_numbers
back f [] = refl
back f (p ∷ set) = ap (λ ps. p ∷ ps) (back f set)

numbered_from : (f : Piece → ℕ) (set : List Piece) (y : Piece × ℕ) → Contains (with_numbers f set) y → Contains set y.0 × (y.1 ≡ f y.0)
unfolding with_numbers
numbered_from f [] y at = absurd (omega (arith, at.1))
numbered_from f (p ∷ set) y at = ⊎_elim
    (λ here. ((0, omega arith, ap (λ (x : Piece × ℕ). x.0) (sym here)), ap (λ (x : Piece × ℕ). x.1) here ∙ ap f (ap (λ (x : Piece × ℕ). x.0) (sym here))))
    (λ rest. let old = numbered_from f set y rest in ((suc old.0.0, omega (arith, old.0.1), old.0.2), old.1))
    (head_or_rest (p, f p) (with_numbers f set) y at)

numbered_into : (f : Piece → ℕ) (set : List Piece) (p : Piece) → Contains set p → Contains (with_numbers f set) (p, f p)
unfolding with_numbers
numbered_into f [] p at = absurd (omega (arith, at.1))
numbered_into f (q ∷ set) p (zero, inside, is) = (0, omega arith, ap (λ r. (r, f r)) is)
numbered_into f (q ∷ set) p (suc k, inside, is) = let rest = numbered_into f set p (k, omega (arith, inside), is) in (suc rest.0, omega (arith, rest.1), rest.2)

numbers_sum : (g : Grid) (width : ℕ) (prices : List ℕ) (q : ℕ) (set : List Piece) → weight (with_numbers (λ p. cost g width prices p + q) set) ≡ set_cost g width prices q set
unfolding with_numbers
numbers_sum g width prices q [] = omega (arith, mul-zero q)
numbers_sum g width prices q (p ∷ set) =
    let f : Piece → ℕ = λ r. cost g width prices r + q in
    omega (arith, sum_by-cons (λ (x : Piece × ℕ). x.1) (p, f p) (with_numbers f set), numbers_sum g width prices q set, sum_by-cons (cost g width prices) p set, mul-suc q (length set))

-- a set of pieces of a ground as one of the list of what they cost
pub record IsCosted (g : Grid) (width : ℕ) (over : Ground) (prices : List ℕ) (q : ℕ) (set : List Piece) (terminals : List Vertex) : Type 0 where
  pub costs : List (Piece × ℕ)
  pub is_set : IsSetOf (costed g width over prices q) costs
  pub joins : Joins (size_of g) (IsAllowed costs) (InVertices terminals)
  pub weighs : weight costs ≡ set_cost g width prices q set

pub costed_set : (g : Grid) (width : ℕ) (over : Ground) (prices : List ℕ) (q : ℕ) (set : List Piece) (terminals : List Vertex) → HasNoRepeats set → All (Allows g over) set → JoinsList (size_of g) set terminals → IsCosted g width over prices q set terminals
costed_set g width over prices q set terminals once allowed joins =
    let f : Piece → ℕ = λ p. cost g width prices p + q in
    record {
      costs = with_numbers f set;
      is_set = record {
        allowed = λ y at. let from = numbered_from f set y at in
            (pieces_with-Weighs g over f y.0 y.1).1 (subst (Allows g over) from.0.2 (allowed from.0.0 y.0 from.0.1), from.1);
        once = subst HasNoRepeats (sym (back f set)) once;
      };
      joins = λ a b at_a at_b. WalkBetween-superset (size_of g) (InPieces set) (IsAllowed (with_numbers f set)) (λ p at. (f p, numbered_into f set p at)) a b (joins a b at_a at_b);
      weighs = numbers_sum g width prices q set;
    }

-- the pieces of a ground with what they cost, and a price for each: the same list
raised_map : (f : Piece → ℕ) (q : ℕ) (ps : List Piece) → raised (map (λ p. (p, f p)) ps) q ≡ map (λ p. (p, f p + q)) ps
raised_map f q [] = refl
raised_map f q (p ∷ ps) = ap (λ xs. (p, f p + q) ∷ xs) (raised_map f q ps)

pub raised_costs : (g : Grid) (width : ℕ) (over : Ground) (prices : List ℕ) (q : ℕ) → raised (pieces_with g over (cost g width prices)) q ≡ costed g width over prices q
raised_costs g width over prices q = raised_map (cost g width prices) q (filter (has_piece g over) (all_pieces g))

-- what a ground joins is joined by its pieces with their costs
pub joined_by_costs : (g : Grid) (width : ℕ) (over : Ground) (prices : List ℕ) (q : ℕ) (terminals : List Vertex) → JoinsTerminals g over terminals → Joins (size_of g) (IsAllowed (costed g width over prices q)) (InVertices terminals)
joined_by_costs g width over prices q terminals joins a b at_a at_b =
    let f : Piece → ℕ = λ p. cost g width prices p + q in
    WalkBetween-superset (size_of g) (Allows g over) (IsAllowed (costed g width over prices q)) (λ p may. (f p, (pieces_with-Weighs g over f p (f p)).1 (may, refl))) a b (joins a b at_a at_b)
