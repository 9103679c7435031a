-- The pieces of a path between two terminals are a set of least weight that joins them.
use Rattle.std.proofs.Common.{◌≡◌, ℕ, suc, ◌<◌, ◌≤◌, ◌↔◌, List, [], ◌∷◌, length, get_or, Option, Some, None, IsSome, refl, sym, subst, ⊎_elim, All, arith}
use Rattle.std.specs.List.{Contains}
use Rattle.std.specs.List.Sorted.{IsPermutation, IsStrictlySortedBy}
use Rattle.std.proofs.lemmas.List.Sorted.{Contains-permutation, IsPermutation-sym}
use Rattle.std.specs.Option.{IfSome}
use Rattle.std.proofs.lemmas.List.Elements.{Contains-get_or}
use Rattle.grid_base.specs.declared.piece.Piece.{Piece}
use Rattle.grid_base.specs.declared.size.Size.{Size}
use Rattle.grid_base.specs.declared.vertex.Vertex.{Vertex}
use Rattle.grid_base.specs.Numbers.{IsVertex}
use Rattle.grid_base.specs.Walks.{WalkBetween, Joins, InPieces, InVertices, JoinsList}
use Rattle.grid_base.proofs.Joined.{JoinsList-few, Joins-superset}
use Rattle.grid_base.proofs.Walks.{WalkBetween-refl, WalkBetween-trans, WalkBetween-piece, WalkBetween-superset}
use Rattle.grid_graph.specs.Weighed.{IsAllowed, NoPieceTwice}
use Rattle.tree_set.specs.Order.{IsRising}
use Rattle.shortest_paths.specs.declared.labels.Labels.{Labels}
use Rattle.shortest_paths.specs.LabelWords.{source_of, distance_of, HasDistance}
use Rattle.label_search.specs.Paths.{IsPath}
use Rattle.label_search.specs.Sets.{IsLeastWeight, AreApart, IsEither, IsDistance, weight}
use Rattle.label_search.proofs.Sets.{no_pieces}
use Rattle.steiner_exact.specs.LeastSets.{IsLeastSet, IsLeastTree}
use Rattle.steiner_exact.proofs.TwoTerminals.{JoinsList-both, joined_vertices}
use Rattle.steiner_exact.proofs.WeighedLists.{path_set}

-- the first two terminals, by their numbers
abbrev pub first_of : List Vertex → ℕ
first_of terminals = let none : Vertex = record { 0 = 0 } in (get_or terminals 0 none).0

abbrev pub second_of : List Vertex → ℕ
second_of terminals = let none : Vertex = record { 0 = 0 } in (get_or terminals 1 none).0

-- both of two terminals that are joined are vertices
pub first_vertex : (s : Size) (F : Piece → Type 0) (terminals : List Vertex) → length terminals ≡ 2 → Joins s F (InVertices terminals) → IsVertex s (first_of terminals)
first_vertex s F terminals two joins = joined_vertices s F terminals joins 0 (record { 0 = 0 }) (omega (arith, two))

pub second_vertex : (s : Size) (F : Piece → Type 0) (terminals : List Vertex) → length terminals ≡ 2 → Joins s F (InVertices terminals) → IsVertex s (second_of terminals)
second_vertex s F terminals two joins = joined_vertices s F terminals joins 1 (record { 0 = 0 }) (omega (arith, two))

-- what joins two terminals or more joins the first two
pub joins_first_two : (s : Size) (F : Piece → Type 0) (terminals : List Vertex) → 2 ≤ length terminals → Joins s F (InVertices terminals) → Joins s F (IsEither (first_of terminals) (second_of terminals))
joins_first_two s F terminals two joins v w at_v at_w =
    let none : Vertex = record { 0 = 0 } in
    let member : (u : ℕ) → IsEither (first_of terminals) (second_of terminals) u → InVertices terminals u = λ u is. ⊎_elim
    (λ first. subst (InVertices terminals) (sym first) (Contains-get_or terminals 0 none (omega (arith, two))))
    (λ second. subst (InVertices terminals) (sym second) (Contains-get_or terminals 1 none (omega (arith, two))))
    is in
    joins v w (member v at_v) (member w at_w)

-- vertices that the allowed pieces join are not apart
not_apart : (s : Size) (pieces : List (Piece × ℕ)) (a b : ℕ) → NoPieceTwice pieces → Joins s (IsAllowed pieces) (IsEither a b) → ¬ AreApart s pieces (IsEither a b)
not_apart s pieces a b once joins apart = apart pieces (record { allowed = λ x at. at; once = once }) joins

-- so they have a distance
pub joined_distance : (s : Size) (pieces : List (Piece × ℕ)) (a b : ℕ) (o : Option ℕ) → NoPieceTwice pieces → Joins s (IsAllowed pieces) (IsEither a b) → IsDistance s pieces a b o → IsSome o
joined_distance s pieces a b (Some d) once joins is = refl
joined_distance s pieces a b None once joins apart = absurd (not_apart s pieces a b once joins apart)

-- the pieces of a path are a walk between its ends
path_walk : (s : Size) (pieces : List (Piece × ℕ)) (a b total : ℕ) (path : List Piece) → IsVertex s b → IsPath s pieces a b total path → WalkBetween s (InPieces path) a b
path_walk s pieces a b total [] vertex (here, nothing) = subst (λ v. WalkBetween s (InPieces []) v b) (sym here) (WalkBetween-refl s (InPieces []) b vertex)
path_walk s pieces a b total (p ∷ path) vertex (next, weight, left, is, rest, sum) =
    WalkBetween-trans s (InPieces (p ∷ path)) a next b
    (WalkBetween-piece s (InPieces (p ∷ path)) p a next (0, omega arith, refl) is.connects)
    (WalkBetween-superset s (InPieces path) (InPieces (p ∷ path)) (λ q at. (suc at.0, omega (arith, at.1), at.2)) next b (path_walk s pieces next b left path vertex rest))

-- the same pieces as a path between two terminals join the two
pub path_joins : (s : Size) (pieces : List (Piece × ℕ)) (terminals : List Vertex) (total : ℕ) (path tree : List Piece) → length terminals ≡ 2 → All (λ (t : Vertex). IsVertex s t.0) terminals → IsPath s pieces (first_of terminals) (second_of terminals) total path → ((p : Piece) → Contains tree p ↔ Contains path p) → JoinsList s tree terminals
path_joins s pieces terminals total path tree two vertices is same =
    let none : Vertex = record { 0 = 0 } in
    JoinsList-both s tree terminals none two vertices
    (WalkBetween-superset s (InPieces path) (InPieces tree) (λ p at. (same p).1 at) (first_of terminals) (second_of terminals)
    (path_walk s pieces (first_of terminals) (second_of terminals) total path (vertices 1 none (omega (arith, two))) is))

-- and are a set of least weight where the path weighs as much as the distance of the two
pub path_is_least : (s : Size) (pieces : List (Piece × ℕ)) (terminals : List Vertex) (d : ℕ) (path tree : List Piece) → NoPieceTwice pieces → length terminals ≡ 2 → All (λ (t : Vertex). IsVertex s t.0) terminals →
    IsLeastWeight s pieces (IsEither (first_of terminals) (second_of terminals)) d → IsPath s pieces (first_of terminals) (second_of terminals) d path → IsRising tree → ((p : Piece) → Contains tree p ↔ Contains path p) → IsLeastSet s pieces terminals tree
path_is_least s pieces terminals d path tree once two vertices distance is rising same =
    let own = path_set s pieces (first_of terminals) (second_of terminals) d path tree once is rising same in
    record {
      set = own.set;
      of = own.of;
      is_set = own.is_set;
      least = record {
        set = own.set;
        is_set = own.is_set;
        joins = Joins-superset s (InPieces tree) (IsAllowed own.set) (InVertices terminals) own.holds (path_joins s pieces terminals d path tree two vertices is same);
        weighs = refl;
        lightest = λ other other_is joins. omega (arith, own.light, distance.lightest other other_is (joins_first_two s (IsAllowed other) terminals (omega (arith, two)) joins));
      };
    }

-- with fewer than two terminals the set without a piece is of least weight
pub none_is_least : (s : Size) (pieces : List (Piece × ℕ)) (terminals : List Vertex) → length terminals < 2 → All (λ (t : Vertex). IsVertex s t.0) terminals → IsLeastSet s pieces terminals []
none_is_least s pieces terminals few vertices = record {
  set = [];
  of = refl;
  is_set = no_pieces pieces;
  least = record {
    set = [];
    is_set = no_pieces pieces;
    joins = Joins-superset s (InPieces []) (IsAllowed []) (InVertices terminals) (λ p at. absurd (omega (arith, at.1))) (JoinsList-few s [] terminals few vertices);
    weighs = refl;
    lightest = λ other is joins. omega arith;
  };
}

-- the distance that a search from the first terminal to the second found
pub searched : (s : Size) (pieces : List (Piece × ℕ)) (l : Labels) (terminals : List Vertex) → source_of l ≡ first_of terminals → HasDistance s pieces l (second_of terminals) → IsDistance s pieces (first_of terminals) (second_of terminals) (distance_of l (second_of terminals))
searched s pieces l terminals first has =
    subst (λ a. IsDistance s pieces a (second_of terminals) (distance_of l (second_of terminals))) first has

-- the same as a path that is found for each answer
pub found_is_least : (s : Size) (pieces : List (Piece × ℕ)) (terminals : List Vertex) (o : Option ℕ) (path tree : List Piece) → NoPieceTwice pieces → length terminals ≡ 2 → Joins s (IsAllowed pieces) (InVertices terminals) →
    IsDistance s pieces (first_of terminals) (second_of terminals) o → IfSome o (λ d. IsPath s pieces (first_of terminals) (second_of terminals) d path) → IsRising tree → ((p : Piece) → Contains tree p ↔ Contains path p) → IsLeastSet s pieces terminals tree
found_is_least s pieces terminals (Some d) path tree once two joined distance is rising same =
    path_is_least s pieces terminals d path tree once two (joined_vertices s (IsAllowed pieces) terminals joined) distance is rising same
found_is_least s pieces terminals None path tree once two joined apart is rising same =
    absurd (not_apart s pieces (first_of terminals) (second_of terminals) once (joins_first_two s (IsAllowed pieces) terminals (omega (arith, two)) joined) apart)

-- a set of least weight joins the terminals
pub least_joins : (s : Size) (pieces : List (Piece × ℕ)) (terminals : List Vertex) (o : Option ℕ) (path tree : List Piece) → NoPieceTwice pieces → length terminals ≡ 2 → Joins s (IsAllowed pieces) (InVertices terminals) →
    IsDistance s pieces (first_of terminals) (second_of terminals) o → IfSome o (λ d. IsPath s pieces (first_of terminals) (second_of terminals) d path) → ((p : Piece) → Contains tree p ↔ Contains path p) → JoinsList s tree terminals
least_joins s pieces terminals (Some d) path tree once two joined distance is same =
    path_joins s pieces terminals d path tree two (joined_vertices s (IsAllowed pieces) terminals joined) is same
least_joins s pieces terminals None path tree once two joined apart is same =
    absurd (not_apart s pieces (first_of terminals) (second_of terminals) once (joins_first_two s (IsAllowed pieces) terminals (omega (arith, two)) joined) apart)

-- the distance of the two terminals is the least weight of a set that joins them
pub both_least : (s : Size) (pieces : List (Piece × ℕ)) (terminals : List Vertex) (d : ℕ) (path tree : List Piece) → NoPieceTwice pieces → length terminals ≡ 2 → All (λ (t : Vertex). IsVertex s t.0) terminals →
    IsLeastWeight s pieces (IsEither (first_of terminals) (second_of terminals)) d → IsPath s pieces (first_of terminals) (second_of terminals) d path → IsRising tree → ((p : Piece) → Contains tree p ↔ Contains path p) → IsLeastTree s pieces terminals tree d
both_least s pieces terminals d path tree once two vertices distance is rising same =
    let own = path_set s pieces (first_of terminals) (second_of terminals) d path tree once is rising same in
    let least = path_is_least s pieces terminals d path tree once two vertices distance is rising same in
    let joins = path_joins s pieces terminals d path tree two vertices is same in
    let joined = Joins-superset s (InPieces tree) (IsAllowed own.set) (InVertices terminals) own.holds joins in
    record {
      rising = rising;
      joins = joins;
      least = least;
      weighs = record {
        set = own.set;
        is_set = own.is_set;
        joins = joined;
        weighs = omega (arith, own.light, distance.lightest own.set own.is_set (joins_first_two s (IsAllowed own.set) terminals (omega (arith, two)) joined));
        lightest = λ other other_is other_joins. distance.lightest other other_is (joins_first_two s (IsAllowed other) terminals (omega (arith, two)) other_joins);
      };
    }

-- no piece is in rising order
rising_none : IsRising []
unfolding IsStrictlySortedBy
rising_none = tt

-- with fewer than two terminals no piece is a least tree
pub none_tree : (s : Size) (pieces : List (Piece × ℕ)) (terminals : List Vertex) → length terminals < 2 → All (λ (t : Vertex). IsVertex s t.0) terminals → IsLeastTree s pieces terminals [] 0
none_tree s pieces terminals few vertices =
    let least = none_is_least s pieces terminals few vertices in
    record {
      rising = rising_none;
      joins = JoinsList-few s [] terminals few vertices;
      least = least;
      weighs = record {
        set = [];
        is_set = no_pieces pieces;
        joins = Joins-superset s (InPieces []) (IsAllowed []) (InVertices terminals) (λ p at. absurd (omega (arith, at.1))) (JoinsList-few s [] terminals few vertices);
        weighs = refl;
        lightest = λ other is joins. omega arith;
      };
    }

-- ---- the same vertices in another list

same_least : (s : Size) (pieces : List (Piece × ℕ)) (T U : ℕ → Type 0) (least : ℕ) → ((v : ℕ) → T v → U v) → ((v : ℕ) → U v → T v) → IsLeastWeight s pieces T least → IsLeastWeight s pieces U least
same_least s pieces T U least there back is = record {
  set = is.set;
  is_set = is.is_set;
  joins = λ a b at_a at_b. is.joins a b (back a at_a) (back b at_b);
  weighs = is.weighs;
  lightest = λ other other_is joins. is.lightest other other_is (λ a b at_a at_b. joins a b (there a at_a) (there b at_b));
}

-- a least tree joins the same terminals in whatever order
pub ordered_tree : (s : Size) (pieces : List (Piece × ℕ)) (terminals ordered : List Vertex) (tree : List Piece) (least : ℕ) → IsPermutation terminals ordered → IsLeastTree s pieces ordered tree least → IsLeastTree s pieces terminals tree least
ordered_tree s pieces terminals ordered tree least permuted is =
    let there : (v : ℕ) → InVertices terminals v → InVertices ordered v = λ v at. Contains-permutation terminals ordered (record { 0 = v }) permuted at in
    let back : (v : ℕ) → InVertices ordered v → InVertices terminals v = λ v at. Contains-permutation ordered terminals (record { 0 = v }) (IsPermutation-sym terminals ordered permuted) at in
    record {
      rising = is.rising;
      joins = λ a b at_a at_b. is.joins a b (there a at_a) (there b at_b);
      least = record {
        set = is.least.set;
        of = is.least.of;
        is_set = is.least.is_set;
        least = same_least s pieces (InVertices ordered) (InVertices terminals) (weight is.least.set) back there is.least.least;
      };
      weighs = same_least s pieces (InVertices ordered) (InVertices terminals) least back there is.weighs;
    }

pub ordered_joined : (s : Size) (F : Piece → Type 0) (terminals ordered : List Vertex) → IsPermutation terminals ordered → Joins s F (InVertices terminals) → Joins s F (InVertices ordered)
ordered_joined s F terminals ordered permuted joined a b at_a at_b =
    let back : (v : ℕ) → InVertices ordered v → InVertices terminals v = λ v at. Contains-permutation ordered terminals (record { 0 = v }) (IsPermutation-sym terminals ordered permuted) at in
    joined a b (back a at_a) (back b at_b)
