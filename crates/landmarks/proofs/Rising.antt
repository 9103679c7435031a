-- Numbers of a search rise slowly.
use Rattle.std.proofs.Common.{ℕ, ◌≡◌, ◌≢◌, ◌+◌, ◌^◌, ◌<◌, ◌≤◌, List, [], length, slice_index, refl, sym, ap, subst, ⊎_elim, arith}
use Rattle.std.proofs.lemmas.Bool.{cases_eq, cases_lt, lt-ltb, le-ltb}
use Rattle.std.proofs.lemmas.List.{get_or_past}
use Rattle.grid_base.specs.declared.piece.Piece.{Piece}
use Rattle.grid_base.specs.declared.size.Size.{Size}
use Rattle.grid_base.specs.declared.vertex.Vertex.{Vertex}
use Rattle.grid_base.specs.Numbers.{IsVertex, vertices}
use Rattle.grid_base.proofs.Pieces.{connects_back, end_vertex}
use Rattle.grid_graph.specs.declared.floors.Floors.{Floors}
use Rattle.grid_graph.specs.Floors.{AreFloors, AreWithin}
use Rattle.label_search.specs.Sets.{RisesSlowly}
use Rattle.label_search.specs.Stamped.{most, far}
use Rattle.shortest_paths.specs.declared.labels.Labels.{Labels}
use Rattle.shortest_paths.specs.LabelWords.{label_of}
use Rattle.steiner_tables.specs.Tables.{IsPrunedTable}
use Rattle.landmarks.specs.Numbers.{landmark_count, across_at, known_number, lowered, number_by, RiseSlowly, AreLandmarks}
use Rattle.landmarks.specs.declared.landmarks.Landmarks.{Landmarks}

across_kept : (labels : Labels) (limit v : ℕ) → label_of labels 1 v < far → across_at labels limit v ≡ label_of labels 1 v
across_kept labels limit v kept = rw (lt-ltb (label_of labels 1 v) far kept) refl

across_none : (labels : Labels) (limit v : ℕ) → far ≤ label_of labels 1 v → across_at labels limit v ≡ limit + 1
across_none labels limit v none = rw (le-ltb (label_of labels 1 v) far none) refl

across_most : (s : Size) (pieces : List (Piece × ℕ)) (terminals : List Vertex) (labels : Labels) (limit v : ℕ)
    → IsPrunedTable s pieces terminals 1 (λ _ _. 0) limit far (label_of labels) → across_at labels limit v ≤ limit + 1
across_most s pieces terminals labels limit v table = ⊎_elim
    (λ kept. omega (arith, across_kept labels limit v kept, table.within 1 v (omega arith) (omega arith) kept))
    (λ none. omega (arith, across_none labels limit v none))
    (cases_lt (label_of labels 1 v) far)

-- those of a search that a limit alone ends
across_slow : (s : Size) (pieces : List (Piece × ℕ)) (terminals : List Vertex) (labels : Labels) (limit : ℕ) → limit ≤ most
    → IsPrunedTable s pieces terminals 1 (λ _ _. 0) limit far (label_of labels) → RisesSlowly s pieces (across_at labels limit)
across_slow s pieces terminals labels limit small table p k a b weighs connects =
    let top = across_most s pieces terminals labels limit b table in
    ⊎_elim
    (λ kept. ⊎_elim
    (λ less. ⊎_elim
    (λ then. omega (arith, less, across_kept labels limit a kept, across_kept labels limit b then))
    (λ none. omega (arith, less, across_kept labels limit a kept, top, small, none))
    (cases_lt (label_of labels 1 b) far))
    (λ past. omega (arith, past, across_kept labels limit a kept, top))
    (table.steps 1 p k a b (omega arith) (omega arith) weighs connects kept))
    (λ none. omega (arith, across_none labels limit a none, top))
    (cases_lt (label_of labels 1 a) far)

-- and as far as numbers reach
pub known_slow : (s : Size) (pieces : List (Piece × ℕ)) (terminals : List Vertex) (labels : Labels)
    → IsPrunedTable s pieces terminals 1 (λ _ _. 0) most far (label_of labels) → RisesSlowly s pieces (known_number labels)
known_slow s pieces terminals labels table p k a b weighs connects =
    omega (arith, across_slow s pieces terminals labels most (omega arith) table p k a b weighs connects)

-- ---- numbers of all landmarks

-- what is no vertex has the number 0
pub beyond_all : (numbers : List (List ℕ)) (k v : ℕ) → length numbers ≤ v → number_by numbers k v ≡ 0
beyond_all numbers k v past = ap (λ (row : List ℕ). slice_index row k) (get_or_past numbers v [] past)

-- numbers that are those of a search rise slowly
pub written_slow : (s : Size) (pieces : List (Piece × ℕ)) (terminals : List Vertex) (labels : Labels) (number : ℕ → ℕ)
    → IsPrunedTable s pieces terminals 1 (λ _ _. 0) most far (label_of labels)
    → ((v : ℕ) → IsVertex s v → number v ≡ known_number labels v) → RisesSlowly s pieces number
written_slow s pieces terminals labels number table known p k a b weighs connects =
    omega (
      arith,
      known a (end_vertex s p b a (connects_back s p a b connects)),
      known b (end_vertex s p a b connects),
      known_slow s pieces terminals labels table p k a b weighs connects,
    )

-- numbers are small where those of vertices are
pub written_small : (s : Size) (labels : Labels) (numbers : List (List ℕ)) (k v : ℕ) → length numbers ≡ vertices s
    → ((u : ℕ) → IsVertex s u → number_by numbers k u ≡ known_number labels u) → number_by numbers k v < 2 ^ 32
written_small s labels numbers k v long known = ⊎_elim
    (λ inside. omega (arith, known v inside))
    (λ past. omega (arith, beyond_all numbers k v (omega (arith, long, past))))
    (cases_lt v (vertices s))

-- the numbers by one landmark more
pub one_more : (s : Size) (pieces : List (Piece × ℕ)) (terminals : List Vertex) (labels : Labels) (count : ℕ)
    (old new : List (List ℕ)) → length new ≡ vertices s
    → IsPrunedTable s pieces terminals 1 (λ _ _. 0) most far (label_of labels)
    → ((v : ℕ) → IsVertex s v → number_by new count v ≡ known_number labels v)
    → ((k v : ℕ) → k ≢ count → number_by new k v ≡ number_by old k v)
    → RiseSlowly s pieces count old → RiseSlowly s pieces (count + 1) new
one_more s pieces terminals labels count old new long table known others rise = record {
  slow = λ k low p w a b weighs connects. ⊎_elim
      (λ same. rw same
      (written_slow s pieces terminals labels (number_by new count) table known p w a b weighs connects))
      (λ other. omega (arith, others k a other, others k b other, rise.slow k (omega (arith, low, other)) p w a b weighs connects))
      (cases_eq k count);
  small = λ k v low. ⊎_elim
      (λ same. rw same (written_small s labels new count v long known))
      (λ other. omega (arith, others k v other, rise.small k v (omega (arith, low, other))))
      (cases_eq k count);
}

-- numbers of 0 rise slowly
pub none_rise : (s : Size) (pieces : List (Piece × ℕ)) (count : ℕ) (numbers : List (List ℕ))
    → ((k v : ℕ) → v < length numbers → number_by numbers k v ≡ 0) → RiseSlowly s pieces count numbers
none_rise s pieces count numbers none =
    let all : (k v : ℕ) → number_by numbers k v ≡ 0 =
    λ k v. ⊎_elim (λ inside. none k v inside) (λ past. beyond_all numbers k v past) (cases_lt v (length numbers)) in
    record {
      slow = λ k low p w a b weighs connects. omega (arith, all k a, all k b);
      small = λ k v low. omega (arith, all k v);
    }

-- landmarks with floors and no distances
pub reset_landmarks : (s : Size) (pieces : List (Piece × ℕ)) (l : Landmarks) (floors : Floors) → l.floors ≡ floors
    → AreWithin floors → AreFloors floors pieces → length l.numbers.items ≡ vertices s
    → ((k v : ℕ) → v < length l.numbers.items → number_by l.numbers.items k v ≡ 0) → AreLandmarks s pieces l
reset_landmarks s pieces l floors same within floored long none = record {
  long = long;
  within = subst AreWithin (sym same) within;
  floored = subst (λ (f : Floors). AreFloors f pieces) (sym same) floored;
  rise = none_rise s (lowered pieces l.floors) landmark_count l.numbers.items none;
}
