-- What terminals span by the numbers of landmarks is a family of lower bounds.
use Rattle.std.proofs.Common.{ℕ, zero, suc, ◌+◌, ◌-◌, ◌^◌, ◌<◌, ◌≤◌, List, [], ◌∷◌, All, length, max, refl, ap, arith}
use Rattle.std.proofs.lemmas.Option.{slice_get_within, get_or_from_slice_get}
use Rattle.grid_base.specs.declared.piece.Piece.{Piece}
use Rattle.grid_base.specs.declared.size.Size.{Size}
use Rattle.grid_base.specs.declared.vertex.Vertex.{Vertex}
use Rattle.grid_base.specs.Numbers.{Connects, IsVertex, place_at}
use Rattle.grid_graph.specs.declared.floors.Floors.{Floors}
use Rattle.grid_graph.specs.Floors.{floor_of}
use Rattle.grid_base.proofs.Pieces.{connects_back}
use Rattle.label_search.specs.Sets.{RisesSlowly}
use Rattle.steiner_tables.specs.Tables.{IsFamily}
use Rattle.steiner_exact.specs.declared.extent.Extent.{Extent}
use Rattle.steiner_exact.specs.declared.terminal_box.TerminalBox.{TerminalBox}
use Rattle.steiner_exact.specs.Boxes.{none, extent_of, width_with, box_of, box_distance}
use Rattle.steiner_exact.proofs.BoxSteps.{box-family, box-slow}
use Rattle.steiner_exact.proofs.BoxSides.{width-parts, width-single}
use Rattle.landmarks.specs.declared.landmarks.Landmarks.{Landmarks}
use Rattle.landmarks.specs.Numbers.{lowered, number_by, landmark_count, RiseSlowly, AreLandmarks}
use Rattle.landmarks.proofs.Lowered.{lowered_into, only_one}
use Rattle.landmarks.specs.Spans.{span_of, widest_span, landmark_low}

-- the greater of two families is one
greater : (s : Size) (pieces : List (Piece × ℕ)) (terminals : List Vertex) (one other : ℕ → ℕ → ℕ)
    → IsFamily s pieces terminals one → IsFamily s pieces terminals other
    → IsFamily s pieces terminals (λ mask v. max (one mask v) (other mask v))
greater s pieces terminals one other first second = record {
  own = λ place v at below. omega (arith, first.own place v at below, second.own place v at below);
  steps = λ mask some below p k a b weighs connects.
      omega (arith, first.steps mask some below p k a b weighs connects, second.steps mask some below p k a b weighs connects);
  splits = λ part rest mask v parts below vertex.
      omega (arith, first.splits part rest mask v parts below vertex, second.splits part rest mask v parts below vertex);
}

-- a number that changes by at most k widens an extent by at most k
wider : (extent : Extent) (x y k : ℕ) → y ≤ x + k → x ≤ y + k → width_with extent y ≤ width_with extent x + k
wider extent x y k up down = omega (arith, up, down)

-- what terminals span by one landmark
span_family : (s : Size) (pieces : List (Piece × ℕ)) (terminals : List Vertex) (f : ℕ → ℕ) → RisesSlowly s pieces f
    → ((v : ℕ) → f v < 2 ^ 32)
    → IsFamily s pieces terminals (λ mask v. width_with (extent_of f terminals mask (length terminals)) (f v))
span_family s pieces terminals f slow small = record {
  own = λ place v at below.
      width-single f terminals place (length terminals) (f v.0) (slice_get_within terminals place v at)
      (ap (λ (x : Vertex). f x.0) (get_or_from_slice_get terminals place v none at)) (small v.0);
  steps = λ mask some below p k a b weighs connects.
      wider (extent_of f terminals mask (length terminals)) (f a) (f b) k (slow p k a b weighs connects)
      (slow p k b a weighs (connects_back s p a b connects));
  splits = λ one other mask v parts below vertex.
      width-parts f terminals one other mask (length terminals) (f v) parts.shared;
}

-- and by several
widest_family : (s : Size) (pieces : List (Piece × ℕ)) (terminals : List Vertex) (numbers : List (List ℕ)) (count : ℕ)
    → RiseSlowly s pieces count numbers → IsFamily s pieces terminals (λ mask v. widest_span numbers terminals mask v count)
unfolding widest_span
widest_family s pieces terminals numbers zero rise = record {
  own = λ place v at below. omega arith;
  steps = λ mask some below p k a b weighs connects. omega arith;
  splits = λ one other mask v parts below vertex. omega arith;
}
widest_family s pieces terminals numbers (suc n) rise =
    greater s pieces terminals (λ mask v. widest_span numbers terminals mask v n)
    (λ mask v. width_with (span_of numbers terminals mask (length terminals) n) (number_by numbers n v))
    (widest_family s pieces terminals numbers n (record {
      slow = λ k low. rise.slow k (omega (arith, low));
      small = λ k v low. rise.small k v (omega (arith, low));
    }))
    (span_family s pieces terminals (number_by numbers n) (rise.slow n (omega arith)) (λ v. rise.small n v (omega arith)))

-- one step of a box is at most a floor
box_step : (s : Size) (floors : Floors) (box : TerminalBox) (p : Piece) (a b : ℕ) → Connects s p a b
    → box_distance floors box (place_at s b) ≤ box_distance floors box (place_at s a) + floor_of floors p
box_step s floors box p a b connects =
    let alone : List (Piece × ℕ) = (p, floor_of floors p) ∷ [] in
    box-slow s floors box alone
    (λ q weight weighs. let is = only_one (p, floor_of floors p) (q, weight) weighs in
    omega (arith, ap (λ (x : Piece × ℕ). x.1) is, ap (λ (x : Piece × ℕ). floor_of floors x.0) is))
    p (floor_of floors p) a b (0, omega arith, refl) connects

-- the bound by landmarks is a family
pub landmark_family : (s : Size) (pieces : List (Piece × ℕ)) (terminals : List Vertex) (l : Landmarks)
    → All (λ (v : Vertex). IsVertex s v.0) terminals → AreLandmarks s pieces l
    → IsFamily s pieces terminals (landmark_low s l.floors l.numbers.items terminals)
landmark_family s pieces terminals l vertices are =
    let boxes = box-family s l.floors pieces terminals are.floored vertices in
    let spans = widest_family s (lowered pieces l.floors) terminals l.numbers.items landmark_count are.rise in
    record {
      own = λ place v at below. omega (arith, boxes.own place v at below, spans.own place v at below);
      steps = λ mask some below p k a b weighs connects.
          omega (
            arith,
            are.floored p k weighs,
            box_step s l.floors (box_of s terminals mask) p a b connects,
            spans.steps mask some below p (k - floor_of l.floors p) a b (lowered_into pieces l.floors p k weighs) connects,
          );
      splits = λ one other mask v parts below vertex.
          omega (arith, boxes.splits one other mask v parts below vertex, spans.splits one other mask v parts below vertex);
    }
