-- What is still to go to the nearest of some places.
use Rattle.std.proofs.Common.{◌≡◌, ◌≢◌, ℕ, zero, suc, ◌*◌, ◌<◌, ◌≤◌, ◌⊎◌, List, [], ◌∷◌, length, get_or, refl, sym, ◌∙◌, ap, subst, inl, inr, ⊎_elim, arith}
use Rattle.std.specs.Int.{abs_diff}
use Rattle.std.specs.List.{All, Contains, remove}
use Rattle.std.proofs.lemmas.List.Elements.{All-contains, Contains-get_or}
use Rattle.std.proofs.lemmas.List.Sorted.{IsPermutation-remove, IsPermutation-sym, Contains-permutation}
use Rattle.grid_base.specs.declared.piece.Piece.{Piece}
use Rattle.grid_base.specs.declared.place.Place.{Place}
use Rattle.grid_base.specs.declared.size.Size.{Size}
use Rattle.grid_base.specs.Numbers.{place_at, vertex_number}
use Rattle.grid_base.specs.declared.spot.Spot.{Spot}
use Rattle.grid_base.specs.Spots.{IsSpot}
use Rattle.grid_base.proofs.Places.{vertex_number-place}
use Rattle.grid_graph.specs.declared.floors.Floors.{Floors}
use Rattle.grid_graph.specs.Floors.{AreFloors}
use Rattle.steiner_span.specs.Aheads.{least_rest, StandsIn}
use Rattle.label_search.specs.Floors.{floor_rest}
use Rattle.label_search.specs.Sets.{RisesSlowly}
use Rattle.label_search.specs.Stamped.{far}
use Rattle.label_search.proofs.FloorSteps.{floor_rest-slow, floor_rest-vertex}

head_or_tail : (x : Place) (rest : List Place) (y : Place) → Contains (x ∷ rest) y → (y ≡ x) ⊎ Contains rest y
head_or_tail x rest y (zero, within, is) = inl (sym is)
head_or_tail x rest y (suc k, within, is) = inr (k, omega (arith, within), is)

-- it is at most the way to each of the places
pub least_below : (s : Size) (floors : Floors) (left : List Place) (v : ℕ) (p : Place) → Contains left p → least_rest s floors left v ≤ floor_rest s floors p v
least_below s floors [] v p at = absurd (omega (arith, at.1))
least_below s floors (q ∷ left) v p at = ⊎_elim
    (λ here. omega (arith, ap (λ (x : Place). floor_rest s floors x v) here))
    (λ rest. omega (arith, least_below s floors left v p rest))
    (head_or_tail q left p at)

-- and at least what is at most each of them
pub least_above : (s : Size) (floors : Floors) (left : List Place) (v d : ℕ) → d ≤ far → ((p : Place) → Contains left p → d ≤ floor_rest s floors p v) → d ≤ least_rest s floors left v
least_above s floors [] v d small each = small
least_above s floors (q ∷ left) v d small each =
    omega (arith, each q (0, omega arith, refl), least_above s floors left v d small (λ p at. each p (suc at.0, omega (arith, at.1), at.2)))

pub least_far : (s : Size) (floors : Floors) (left : List Place) (v : ℕ) → least_rest s floors left v ≤ far
least_far s floors [] v = omega arith
least_far s floors (q ∷ left) v = omega (arith, least_far s floors left v)

pub least_slow : (s : Size) (floors : Floors) (pieces : List (Piece × ℕ)) (left : List Place) → AreFloors floors pieces → RisesSlowly s pieces (least_rest s floors left)
least_slow s floors pieces [] below p k a b weighs connects = omega arith
least_slow s floors pieces (q ∷ left) below p k a b weighs connects =
    omega (arith, floor_rest-slow s floors q pieces below p k a b weighs connects, least_slow s floors pieces left below p k a b weighs connects)

no_steps : (x floor : ℕ) → abs_diff x x * floor ≡ 0
no_steps x floor = let none : abs_diff x x ≡ 0 = omega arith in let nothing : 0 * floor ≡ 0 = omega arith in ap (λ n. n * floor) none ∙ nothing

-- it is 0 at the places
pub least_near : (s : Size) (floors : Floors) (left : List Place) (v : ℕ) → StandsIn s left v → least_rest s floors left v ≡ 0
least_near s floors left v stands =
    let here = place_at s v in
    omega (arith, least_below s floors left v here stands.1, floor_rest-vertex s floors here v stands.0, no_steps here.col floors.along_x, no_steps here.row floors.along_y, no_steps here.layer floors.via)

-- what is left where one place goes
pub kept_after : (left : List Place) (i : ℕ) (x y : Place) → (at : Contains left x) → at.0 ≡ i → Contains left y → y ≢ x → Contains (remove left i) y
kept_after left i x y at is listed other =
    let moved = IsPermutation-remove left at.0 x at.1 (sym at.2) in
    subst (λ n. Contains (remove left n) y) is (⊎_elim (λ here. absurd (other here)) (λ rest. rest) (head_or_tail x (remove left at.0) y (Contains-permutation left (x ∷ remove left at.0) y moved listed)))

pub was_before : (left : List Place) (i : ℕ) (x y : Place) → (at : Contains left x) → at.0 ≡ i → Contains (remove left i) y → Contains left y
was_before left i x y at is listed =
    let moved = IsPermutation-remove left at.0 x at.1 (sym at.2) in
    let old = subst (λ n. Contains (remove left n) y) (sym is) listed in
    Contains-permutation (x ∷ remove left at.0) left y (IsPermutation-sym left (x ∷ remove left at.0) moved) (suc old.0, omega (arith, old.1), old.2)

-- where fewer places are left, more is to go
pub fewer_left : (s : Size) (floors : Floors) (old new : List Place) → ((p : Place) → Contains new p → Contains old p) → (v : ℕ) → least_rest s floors old v ≤ least_rest s floors new v
fewer_left s floors old new kept v = least_above s floors new v (least_rest s floors old v) (least_far s floors old v) (λ p at. least_below s floors old v p (kept p at))

-- the places that are left without one of them
pub record IsLessOne (old new : List Place) (x : Place) : Type 0 where
  pub before : (p : Place) → Contains new p → Contains old p
  pub kept : (p : Place) → p ≢ x → Contains old p → Contains new p

pub less_one : (old new : List Place) (i : ℕ) (x : Place) → (i < length old) × (get_or old i x ≡ x) → new ≡ remove old i → IsLessOne old new x
less_one old new i x at is = record {
  before = λ p listed. was_before old i x p (i, at.0, at.1) refl (subst (λ (xs : List Place). Contains xs p) is listed);
  kept = λ p other listed. subst (λ (xs : List Place). Contains xs p) (sym is) (kept_after old i x p (i, at.0, at.1) refl listed other);
}

-- vertices at other places are still there
pub still_standing : (s : Size) (old new : List Place) (at : Spot) → IsLessOne old new at.place → IsSpot s at → (v : ℕ) → v ≢ at.vertex.0 → StandsIn s old v → StandsIn s new v
still_standing s old new at less spot v other stands = (
  stands.0,
  less.kept (place_at s v)
      (λ same. other (sym (vertex_number-place s v) ∙ ap (λ (p : Place). vertex_number s p.col p.row p.layer) same ∙ spot.number)) stands.1,
)

-- what holds of all places holds of those that are left
pub all_listed : (P : Place → Type 0) (old new : List Place) → ((p : Place) → Contains new p → Contains old p) → All P old → All P new
all_listed P old new before all k d low = All-contains P old (get_or new k d) all (before (get_or new k d) (Contains-get_or new k d low))
