-- Spans of terminals, landmark by landmark.
use Rattle.std.proofs.Common.{ℕ, ◌≡◌, ◌+◌, ◌*◌, ◌/◌, ◌%◌, ◌^◌, ◌<◌, List, Some, length, max, get_or, set, get_or-set_same, get_or-set_other, ap, sym, ◌∙◌, ⊎_elim, arith, add-one, refl}
use Rattle.std.proofs.lemmas.Bool.{cases_eq}
use Rattle.std.proofs.lemmas.List.{length-set}
use Rattle.std.proofs.lemmas.Option.{slice_get-get_or, get_or_from_slice_get}
use Rattle.grid_base.specs.Lists.{At}
use Rattle.grid_base.specs.declared.vertex.Vertex.{Vertex}
use Rattle.steiner_exact.specs.declared.extent.Extent.{Extent}
use Rattle.steiner_exact.specs.Boxes.{width_with}
use Rattle.landmarks.specs.Numbers.{landmark_count, number_by}
use Rattle.landmarks.specs.Spans.{span_of, widest_span, AreSpans}

pub widest-none : (numbers : List (List ℕ)) (terminals : List Vertex) (mask v : ℕ) → 0 ≡ widest_span numbers terminals mask v 0
unfolding widest_span
widest-none numbers terminals mask v = refl

widest-more : (numbers : List (List ℕ)) (terminals : List Vertex) (mask v k : ℕ) → widest_span numbers terminals mask v (k + 1)
    ≡ max (widest_span numbers terminals mask v k)
    (width_with (span_of numbers terminals mask (length terminals) k) (number_by numbers k v))
unfolding widest_span
widest-more numbers terminals mask v k = ap (widest_span numbers terminals mask v) (add-one k)

-- the span of a mask by a landmark stands at its place
span_at : (numbers : List (List ℕ)) (terminals : List Vertex) (spans : List Extent) (mask k : ℕ) (other : Extent)
    → AreSpans numbers terminals spans → mask < 2 ^ length terminals → k < landmark_count
    → get_or spans (mask * 4 + k) other ≡ span_of numbers terminals mask (length terminals) k
span_at numbers terminals spans mask k other are few low =
    let place : ℕ = mask * 4 + k in
    let row : place / 4 ≡ mask = omega (arith, low) in
    let column : place % 4 ≡ k = omega (arith, low) in
    get_or_from_slice_get spans place (span_of numbers terminals (place / 4) (length terminals) (place % 4)) other
    (are place (omega (arith, few, low)))
    ∙ ap (λ m. span_of numbers terminals m (length terminals) (place % 4)) row
    ∙ ap (λ j. span_of numbers terminals mask (length terminals) j) column

-- one landmark more
pub widest_step : (numbers : List (List ℕ)) (terminals : List Vertex) (spans : List Extent) (mask v k widest number width next : ℕ)
    (other : Extent) → AreSpans numbers terminals spans → mask < 2 ^ length terminals → k < landmark_count
    → widest ≡ widest_span numbers terminals mask v k → number ≡ number_by numbers k v
    → width ≡ width_with (get_or spans (mask * 4 + k) other) number → next ≡ max widest width
    → next ≡ widest_span numbers terminals mask v (k + 1)
widest_step numbers terminals spans mask v k widest number width next other are few low before its reach is =
    let span = span_at numbers terminals spans mask k other are few low in
    let wide : width ≡ width_with (span_of numbers terminals mask (length terminals) k) (number_by numbers k v) =
    reach ∙ ap (λ (e : Extent). width_with e number) span
    ∙ ap (λ n. width_with (span_of numbers terminals mask (length terminals) k) n) its in
    omega (arith, is, before, wide, widest-more numbers terminals mask v k)

-- one item more of a list is written
pub written_more : {X : Type 0} (xs : List X) (n : ℕ) (x : X) (f : ℕ → X) → n < length xs → ((k : ℕ) → k < n → At xs k (f k))
    → x ≡ f n → (k : ℕ) → k < n + 1 → At (set xs n x) k (f k)
written_more xs n x f inside before is k low =
    let read : get_or (set xs n x) k x ≡ f k = ⊎_elim
    (λ here. ap (λ i. get_or (set xs n x) i x) here ∙ get_or-set_same xs n x x inside ∙ is ∙ ap f (sym here))
    (λ other. get_or-set_other xs n k x x other ∙ get_or_from_slice_get xs k (f k) x (before k (omega (arith, low, other))))
    (cases_eq k n) in
    slice_get-get_or (set xs n x) k x (omega (arith, low, inside, length-set xs n x)) ∙ ap Some read
