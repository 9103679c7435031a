-- A set of least weight at prices is a step.
use Rattle.std.proofs.Common.{◌≡◌, ◌<◌, ◌≤◌, ◌+◌, ◌*◌, ℕ, List, [], ◌∷◌, length, get_or, map, All, refl, ◌∙◌, ap, subst}
use Rattle.std.proofs.Common.{arith, Option}
use Rattle.std.proofs.lemmas.List.Sums.{sum_by-cons}
use Rattle.std.proofs.lemmas.List.Elements.{All-head, All-map, All-tail, Contains-get_or}
use Rattle.price_workers.proofs.Common.{cond_both, sum_by, Contains, Piece, Grid, NetSpec, Allows, size_of, IsGround, KeepsTo}
use Rattle.price_workers.proofs.Common.{Size, Vertex, Joins, JoinsList, InVertices, max_weight, IsAllowed, piece_weight, is_open}
use Rattle.price_workers.proofs.Common.{edge_cost, wirelength_price, IsRising, IsStep, IsStepAt, weighed, set_weight}
use Rattle.price_workers.proofs.Common.{IsLeastSet, IsLightTree}
use Rattle.grid_base.specs.declared.piece.Piece.TheVariants.{Edge, Via}
use Rattle.grid_base.proofs.Joined.{Joins-superset}
use Rattle.grid_graph.specs.declared.ground.Ground.{Ground}
use Rattle.grid_graph.proofs.Grounds.{ground_joins}
use Rattle.edge_prices.specs.PieceLists.{AreGroundPieces}
use Rattle.edge_prices.proofs.GroundPieces.{pieces_with-Weighs}
use Rattle.label_search.specs.Paths.{NoneWeighsNothing}
use Rattle.steiner_tables.specs.Masks.{few_terminals}
use Rattle.shortest_paths.specs.Spanning.{Link, IsSpanningTree}
use Rattle.label_search.specs.Sets as sets

-- no piece weighs nothing
pub piece_weight-positive : (g : Grid) (width : ℕ) (prices : List ℕ) (p : Piece) → 0 < piece_weight g width prices p
piece_weight-positive g width prices (Edge e) =
    cond_both (is_open g e.0) (4 * (edge_cost g width prices e.0 + wirelength_price g prices) + 1) max_weight (λ n. 0 < n)
    (λ held. omega arith) (λ closed. omega arith)
piece_weight-positive g width prices (Via v) = omega arith

pub none_weighs_nothing : (g : Grid) (over : Ground) (width : ℕ) (prices : List ℕ) (pieces : List (Piece × ℕ))
    → AreGroundPieces g over (piece_weight g width prices) pieces → NoneWeighsNothing pieces
none_weighs_nothing g over width prices pieces are p k weighs =
    rw ((are p k).0 weighs).1 (piece_weight-positive g width prices p)

-- what a ground joins is joined by its pieces with their weights
pub joined_by_pieces : (g : Grid) (over : Ground) (f : Piece → ℕ) (pieces : List (Piece × ℕ)) (n : NetSpec)
    → AreGroundPieces g over f pieces → IsGround g n.terminals over → Joins (size_of g) (IsAllowed pieces) (InVertices n.terminals)
joined_by_pieces g over f pieces n are ground =
    Joins-superset (size_of g) (Allows g over) (IsAllowed pieces) (InVertices n.terminals)
    (λ p allows. (f p, (are p (f p)).1 (allows, refl))) (ground_joins g n.terminals over ground)

-- the sum of numbers that a function gives
sum_by-given : (f : Piece → ℕ) (set : List (Piece × ℕ)) → All (λ x. x.1 ≡ f x.0) set
    → sum_by (λ x. x.1) set ≡ sum_by f (map (λ x. x.0) set)
sum_by-given f [] are = refl
sum_by-given f (x ∷ set) are =
    let first : x.1 ≡ f x.0 = All-head (λ y. y.1 ≡ f y.0) x set are in
    let rest = sum_by-given f set (All-tail (λ y. y.1 ≡ f y.0) x set are) in
    omega (arith, sum_by-cons (λ (y : Piece × ℕ). y.1) x set, sum_by-cons f x.0 (map (λ y. y.0) set), first, rest)

-- two lists have the same pieces with the same weights, perhaps in another order
pub record HaveSame (pieces others : List (Piece × ℕ)) : Type 0 where
  pub fore : (x : Piece × ℕ) → Contains pieces x → Contains others x
  pub back : (x : Piece × ℕ) → Contains others x → Contains pieces x

-- so they have the same least weights and the same spanning trees by distances
same_least : {s : Size} {pieces others : List (Piece × ℕ)} {T : ℕ → Type 0} {d : ℕ} → HaveSame pieces others
    → sets.IsLeastWeight s pieces T d → sets.IsLeastWeight s others T d
same_least same least = record {
  set = least.set;
  is_set = record { allowed = λ x in_set. same.fore x (least.is_set.allowed x in_set); once = least.is_set.once };
  joins = least.joins;
  weighs = least.weighs;
  lightest = λ other is. least.lightest other (record { allowed = λ x in_set. same.back x (is.allowed x in_set); once = is.once });
}

same_spanning : {s : Size} {pieces others : List (Piece × ℕ)} {terminals : List Vertex} {links : List Link}
    → HaveSame pieces others → IsSpanningTree s pieces terminals links → IsSpanningTree s others terminals links
same_spanning same tree = record {
  count = tree.count;
  ends = tree.ends;
  distances = λ i d short. same_least same (tree.distances i d short);
  connects = tree.connects;
}

-- a set of a ground's pieces with their weights: its pieces keep to the ground, and it weighs as much as they do
pub record IsSetOver (g : Grid) (n : NetSpec) (over : Ground) (prices : List ℕ) (pieces : List (Piece × ℕ)) (tree : List Piece)
    (total : ℕ) : Type 0 where
  pub inside : KeepsTo g over tree
  pub weighs : total ≡ set_weight g n.width prices tree
  pub same : HaveSame pieces (weighed g n.width over prices)

set_over : (g : Grid) (n : NetSpec) (over : Ground) (prices : List ℕ) (pieces set : List (Piece × ℕ)) (tree : List Piece)
    → AreGroundPieces g over (piece_weight g n.width prices) pieces → map (λ x. x.0) set ≡ tree → sets.IsSetOf pieces set
    → IsSetOver g n over prices pieces tree (sets.weight set)
set_over g n over prices pieces set tree are of is_set =
    let f : Piece → ℕ = piece_weight g n.width prices in
    let each : All (λ x. Allows g over x.0 × (x.1 ≡ f x.0)) set = λ i d short.
    (are (get_or set i d).0 (get_or set i d).1).0 (is_set.allowed (get_or set i d) (Contains-get_or set i d short)) in
    record {
      inside = subst (KeepsTo g over) of (All-map (Allows g over) (λ x. x.0) set (λ i d short. (each i d short).0));
      weighs = sum_by-given f set (λ i d short. (each i d short).1) ∙ ap (λ ps. sum_by f ps) of;
      same = record {
        fore = λ x in_pieces. (pieces_with-Weighs g over f x.0 x.1).1 ((are x.0 x.1).0 in_pieces);
        back = λ x in_others. (are x.0 x.1).1 ((pieces_with-Weighs g over f x.0 x.1).0 in_others);
      };
    }

-- a set of least weight of a ground's pieces is a step of a net of few terminals
pub step_from_least : (g : Grid) (n : NetSpec) (over : Ground) (prices : List ℕ) (pieces : List (Piece × ℕ)) (tree : List Piece)
    → AreGroundPieces g over (piece_weight g n.width prices) pieces → length n.terminals ≤ few_terminals → IsGround g n.terminals over
    → IsRising tree → JoinsList (size_of g) tree n.terminals → IsLeastSet (size_of g) pieces n.terminals tree
    → IsStepAt g n prices tree
step_from_least g n over prices pieces tree are few ground rising joined least =
    let its = set_over g n over prices pieces least.set tree are least.of least.is_set in
    record {
      set = rising;
      route = record { over = over; is_ground = ground; inside = its.inside; joined = joined };
      lightest = λ small. subst (λ (d : ℕ). sets.IsLeastWeight (size_of g) (weighed g n.width over prices)
          (InVertices n.terminals) d) its.weighs (same_least its.same least.least);
      light = λ many. absurd (omega (arith, few, many));
    }

-- a tree of a ground's pieces that is no heavier than spanning trees by distances is a step of a net of many terminals
pub step_from_light : (g : Grid) (n : NetSpec) (over : Ground) (prices : List ℕ) (pieces : List (Piece × ℕ)) (tree : List Piece)
    (total : ℕ) → AreGroundPieces g over (piece_weight g n.width prices) pieces → few_terminals < length n.terminals
    → IsGround g n.terminals over → IsLightTree (size_of g) pieces n.terminals tree total → IsStepAt g n prices tree
step_from_light g n over prices pieces tree total are many ground light =
    let its = set_over g n over prices pieces light.set tree are light.of light.is_set in
    let same : HaveSame (weighed g n.width over prices) pieces = record { fore = its.same.back; back = its.same.fore } in
    record {
      set = light.rising;
      route = record { over = over; is_ground = ground; inside = its.inside; joined = light.joins };
      lightest = λ few. absurd (omega (arith, few, many));
      light = λ few links spanning. omega (arith, its.weighs, light.weighs, light.light links (same_spanning same spanning));
    }

-- a step at some prices is one at the same prices by other names
pub step_moved : {g h : Grid} {n : NetSpec} {loads others : List ℕ} {scale scale' : ℕ} {budget budget' : Option ℕ}
    {tree : List Piece} → g ≡ h → loads ≡ others → scale ≡ scale' → budget ≡ budget' → IsStep g n loads scale budget tree
    → IsStep h n others scale' budget' tree
step_moved grid loads scale budget step = rw (← grid, ← loads, ← scale, ← budget) step
