-- The first objection that applies, in lists that are put together.
use Rattle.std.proofs.Common.{◌≡◌, ℕ, zero, suc, ◌+◌, ◌<◌, ◌≤◌, List, [], ◌∷◌, ◌++◌, length, get_or, take, Option, None, Some, refl, sym, ◌∙◌, ap, subst, inl, inr, ⊎_elim, arith}
use Rattle.std.specs.Prelude.{flat_map}
use Rattle.std.specs.List.{enumerate_from}
use Rattle.std.proofs.lemmas.List.{take_more, take_all, get_or_default}
use Rattle.std.proofs.lemmas.List.FromFn.{length-enumerate_from, get_or-enumerate_from}
use Rattle.std.proofs.lemmas.Grind.{flat_map-append}
use Rattle.grid_graph.specs.declared.design.Design.{Design}
use Rattle.route_judge.specs.declared.reason.Reason.{Reason}
use Rattle.route_judge.specs.declared.stop.Stop.{Stop}
use Rattle.route_judge.specs.declared.stop.Stop.TheVariants.{Refused, NoMemory}
use Rattle.route_judge.specs.Objections.{Objection, Finds}
use Rattle.route_judge.specs.Stops.{StopsFor}

-- where nothing applies among some, the first among these and others is the first among the others
pub found_behind : (d : Design) (xs ys : List Objection) (found : Option Reason) → Finds d xs None → Finds d ys found → Finds d (xs ++ ys) found
found_behind d [] ys found none at = at
found_behind d (x ∷ xs) ys found none at =
    ⊎_elim
    (λ first. absurd (cc (first.1)))
    (λ later. inr (later.0, found_behind d xs ys found later.1 at))
    none

-- and where something does, it is the first among all
pub found_before : (d : Design) (xs ys : List Objection) (reason : Reason) → Finds d xs (Some reason) → Finds d (xs ++ ys) (Some reason)
found_before d [] ys reason at = absurd (cc at)
found_before d (x ∷ xs) ys reason at = ⊎_elim (λ first. inl first) (λ later. inr (later.0, found_before d xs ys reason later.1)) at

-- there is one answer
pub found_once : (d : Design) (xs : List Objection) (one other : Option Reason) → Finds d xs one → Finds d xs other → one ≡ other
found_once d [] one other first second = first ∙ sym second
found_once d (x ∷ xs) one other first second =
    ⊎_elim
    (λ applies. ⊎_elim (λ again. applies.1 ∙ sym again.1) (λ not. absurd (not.0 applies.0)) second)
    (λ not. ⊎_elim (λ applies. absurd (not.0 applies.0)) (λ again. found_once d xs one other not.1 again.1) second)
    first

-- among some of the objections that none applies to, none applies either
pub none_before : (d : Design) (xs ys : List Objection) → Finds d (xs ++ ys) None → Finds d xs None
none_before d [] ys none = refl
none_before d (x ∷ xs) ys none = ⊎_elim (λ first. inl first) (λ later. inr (later.0, none_before d xs ys later.1)) none

pub none_behind : (d : Design) (xs ys : List Objection) → Finds d (xs ++ ys) None → Finds d ys None
none_behind d [] ys none = none
none_behind d (x ∷ xs) ys none = ⊎_elim (λ first. absurd (cc (first.1))) (λ later. none_behind d xs ys later.1) none

-- one more element, against which nothing applies either
pub none_more : {X : Type 0} (d : Design) (f : X → List Objection) (xs : List X) (i : ℕ) (x : X) → i < length xs → get_or xs i x ≡ x → Finds d (flat_map f (take i xs)) None → Finds d (f x) None → Finds d (flat_map f (take (i + 1) xs)) None
none_more d f xs i x below is before here =
    let split : flat_map f (take (i + 1) xs) ≡ flat_map f (take i xs) ++ (f x ++ []) =
    ap (flat_map f) (take_more xs i x below) ∙ flat_map-append f (take i xs) (get_or xs i x ∷ []) ∙ ap (λ y. flat_map f (take i xs) ++ (f y ++ [])) is in
    subst (λ ys. Finds d ys None) (sym split) (found_behind d (flat_map f (take i xs)) (f x ++ []) None before (found_behind d (f x) [] None here refl))

-- the first element against which something applies
pub found_at : {X : Type 0} (d : Design) (f : X → List Objection) (xs : List X) (i : ℕ) (x : X) (reason : Reason) → i < length xs → get_or xs i x ≡ x → Finds d (flat_map f (take i xs)) None → Finds d (f x) (Some reason) → Finds d (flat_map f xs) (Some reason)
found_at d f [] i x reason below is before here = absurd (omega (arith, below))
found_at d f (y ∷ xs) zero x reason below is before here = found_before d (f y) (flat_map f xs) reason (subst (λ z. Finds d (f z) (Some reason)) (sym is) here)
found_at d f (y ∷ xs) (suc i) x reason below is before here =
    found_behind d (f y) (flat_map f xs) (Some reason) (none_before d (f y) (flat_map f (take i xs)) before)
    (found_at d f xs i x reason (omega (arith, below)) is (none_behind d (f y) (flat_map f (take i xs)) before) here)

-- what was read from a list that is the same stands at that place
pub read_again : {X : Type 0} (xs ys : List X) (i : ℕ) (other : X) → ys ≡ xs → i < length xs → get_or xs i (get_or ys i other) ≡ get_or ys i other
read_again xs ys i other same below = get_or_default xs i (get_or ys i other) other below ∙ ap (λ zs. get_or zs i other) (sym same)

-- the same in a list whose elements come with their numbers, where an element was read from a list that is the same
module _ {X : Type 0} (d : Design) (f : ℕ × X → List Objection) (xs ys : List X) (i : ℕ) (other : X) where
  numbered : ys ≡ xs → i < length xs → get_or (enumerate_from 0 xs) i (i, get_or ys i other) ≡ (i, get_or ys i other)
  numbered same below =
      get_or-enumerate_from 0 xs i (i, get_or ys i other) below ∙ ap (λ j. (j, get_or xs i (get_or ys i other))) (omega arith)
      ∙ ap (λ y. (i, y)) (read_again xs ys i other same below)

  within : i < length xs → i < length (enumerate_from 0 xs)
  within below = omega (arith, length-enumerate_from 0 xs)

  pub none_numbered : ys ≡ xs → i < length xs → Finds d (flat_map f (take i (enumerate_from 0 xs))) None → Finds d (f (i, get_or ys i other)) None → Finds d (flat_map f (take (i + 1) (enumerate_from 0 xs))) None
  none_numbered same below before here = none_more d f (enumerate_from 0 xs) i (i, get_or ys i other) (within below) (numbered same below) before here

  pub stops_numbered : (stop : Stop) → ys ≡ xs → i < length xs → Finds d (flat_map f (take i (enumerate_from 0 xs))) None → StopsFor d (f (i, get_or ys i other)) stop → StopsFor d (flat_map f (enumerate_from 0 xs)) stop
  stops_numbered (Refused reason) same below before here = found_at d f (enumerate_from 0 xs) i (i, get_or ys i other) reason (within below) (numbered same below) before here
  stops_numbered NoMemory same below before here = tt

-- nothing applies against all where nothing does against so many as there are
pub none_in_all : {X : Type 0} (d : Design) (f : ℕ × X → List Objection) (xs : List X) (n : ℕ) → length xs ≤ n → Finds d (flat_map f (take n (enumerate_from 0 xs))) None → Finds d (flat_map f (enumerate_from 0 xs)) None
none_in_all d f xs n all none =
    let enough : length (enumerate_from 0 xs) ≤ n = omega (arith, length-enumerate_from 0 xs) in
    subst (λ ys. Finds d (flat_map f ys) None) (take_all n (enumerate_from 0 xs) enough) none

-- where nothing applies among some, what a step stopped for among others it stopped for among all
pub stops_behind : (d : Design) (xs ys : List Objection) (stop : Stop) → Finds d xs None → StopsFor d ys stop → StopsFor d (xs ++ ys) stop
stops_behind d xs ys (Refused reason) none at = found_behind d xs ys (Some reason) none at
stops_behind d xs ys NoMemory none at = tt

pub stops_before : (d : Design) (xs ys : List Objection) (stop : Stop) → StopsFor d xs stop → StopsFor d (xs ++ ys) stop
stops_before d xs ys (Refused reason) at = found_before d xs ys reason at
stops_before d xs ys NoMemory at = tt
