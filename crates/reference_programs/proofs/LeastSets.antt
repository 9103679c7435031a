-- The lightest of all sets of pieces is found by leaving out and taking each piece in turn.
use Rattle.std.proofs.Common.{◌≡◌, ◌≢◌, ℕ, suc, ◌+◌, ◌<◌, ◌≤◌, ◌⊎◌, List, [], ◌∷◌, ◌++◌, length, min, ◌-◌, ◌==◌, true, false}
use Rattle.std.proofs.Common.{take, drop, get_or, refl, sym, ◌∙◌, ap, subst, inl, inr, ⊎_elim, Contains, arith}
use Rattle.std.proofs.lemmas.Bool.{cases_eq, cases_lt, eqb-true}
use Rattle.std.proofs.lemmas.List.{take_all}
use Rattle.std.proofs.lemmas.List.Sums.{sum_by-cons}
use Rattle.std.proofs.lemmas.List.Elements.{Contains-append_left, Contains-append_right}
use Rattle.grid_base.specs.declared.piece.Piece.{Piece}
use Rattle.grid_base.specs.declared.size.Size.{Size}
use Rattle.grid_base.specs.Walks.{Joins, InPieces}
use Rattle.grid_base.proofs.Joined.{Joins-superset}
use Rattle.grid_base.proofs.Lists.{head_or_rest, Contains-rest}
use Rattle.grid_graph.specs.Weighed.{IsAllowed, WeighsOnlyPieces, AreWithinLimit}
use Rattle.label_search.specs.Sets.{IsLeastWeight, AreApart, weight}
use Rattle.label_search.proofs.Sets.{piece_cases, no_pieces, extended, weight-most}
use Rattle.reference_programs.specs.LeastSets.{apart, IsChosen, JoinsBeside, IsLeastBeside}
use Rattle.reference_programs.proofs.Marks.{in_pushed}

entry_cases : (x y : Piece × ℕ) → (x ≡ y) ⊎ (x ≢ y)
entry_cases x y = ⊎_elim
    (λ (piece : x.0 ≡ y.0). ⊎_elim
    (λ (by : x.1 ≡ y.1). inl (ap (λ (p : Piece). (p, x.1)) piece ∙ ap (λ (n : ℕ). (y.0, n)) by))
    (λ other. inr (λ same. other (ap (λ (z : Piece × ℕ). z.1) same)))
    (cases_eq x.1 y.1))
    (λ other. inr (λ same. other (ap (λ (z : Piece × ℕ). z.0) same)))
    (piece_cases x.0 y.0)

in_head : (x : Piece × ℕ) (xs : List (Piece × ℕ)) (y : Piece × ℕ) → y ≡ x → Contains (x ∷ xs) y
in_head x xs y same = (0, omega arith, sym same)

-- what is left of a list without an element
record IsWithout (x : Piece × ℕ) (xs : List (Piece × ℕ)) : Type 0 where
  rest : List (Piece × ℕ)
  kept : (y : Piece × ℕ) → Contains rest y → Contains xs y
  others : (y : Piece × ℕ) → Contains rest y → y ≢ x
  all : (y : Piece × ℕ) → Contains xs y → (y ≡ x) ⊎ Contains rest y
  lighter : weight rest ≤ weight xs
  lacks : (¬ Contains xs x) ⊎ (weight rest + x.1 ≤ weight xs)

without_head : (x y : Piece × ℕ) (xs : List (Piece × ℕ)) → y ≡ x → IsWithout x xs → IsWithout x (y ∷ xs)
without_head x y xs same less = record {
  rest = less.rest;
  kept = λ z at. Contains-rest y xs z (less.kept z at);
  others = less.others;
  all = λ z at. ⊎_elim (λ here. inl (here ∙ same)) (λ behind. less.all z behind) (head_or_rest y xs z at);
  lighter = omega (arith, less.lighter, sum_by-cons (λ (z : Piece × ℕ). z.1) y xs);
  lacks = inr (omega (arith, less.lighter, sum_by-cons (λ (z : Piece × ℕ). z.1) y xs, ap (λ (z : Piece × ℕ). z.1) same));
}

with_head : (x y : Piece × ℕ) (xs : List (Piece × ℕ)) → y ≢ x → IsWithout x xs → IsWithout x (y ∷ xs)
with_head x y xs other less =
    let by = sum_by-cons (λ (z : Piece × ℕ). z.1) y xs in
    let by_rest = sum_by-cons (λ (z : Piece × ℕ). z.1) y less.rest in
    record {
      rest = y ∷ less.rest;
      kept = λ z at. ⊎_elim (λ here. in_head y xs z here) (λ behind. Contains-rest y xs z (less.kept z behind))
          (head_or_rest y less.rest z at);
      others = λ z at. ⊎_elim (λ here is. other (sym here ∙ is)) (λ behind. less.others z behind)
          (head_or_rest y less.rest z at);
      all = λ z at. ⊎_elim (λ here. inr (in_head y less.rest z here))
          (λ behind. ⊎_elim (λ is. inl is) (λ left. inr (Contains-rest y less.rest z left)) (less.all z behind))
          (head_or_rest y xs z at);
      lighter = omega (arith, less.lighter, by, by_rest);
      lacks = ⊎_elim
          (λ none. inl (λ at. ⊎_elim (λ here. other (sym here)) (λ behind. none behind) (head_or_rest y xs x at)))
          (λ light. inr (omega (arith, light, by, by_rest)))
          less.lacks;
    }

without : (x : Piece × ℕ) (xs : List (Piece × ℕ)) → IsWithout x xs
without x [] = record {
  rest = [];
  kept = λ y at. at;
  others = λ y at. absurd (omega (arith, at.1));
  all = λ y at. inr at;
  lighter = omega arith;
  lacks = inl (λ at. omega (arith, at.1));
}
without x (y ∷ xs) = ⊎_elim (λ same. without_head x y xs same (without x xs)) (λ other. with_head x y xs other (without x xs))
    (entry_cases y x)

-- where nothing is left to take, the chosen pieces join the vertices or none do
pub least_joined : (s : Size) (chosen : List Piece) (T : ℕ → Type 0) → Joins s (InPieces chosen) T
    → IsLeastBeside s chosen [] T 0
least_joined s chosen T joins = record {
  limit = omega arith;
  joined = λ low. record {
    set = [];
    is_set = no_pieces [];
    joins = Joins-superset s (InPieces chosen) (IsChosen chosen []) T (λ p in_chosen. inl in_chosen) joins;
    light = omega arith;
  };
  lightest = λ part from joined. omega arith;
}

pub least_apart : (s : Size) (chosen : List Piece) (T : ℕ → Type 0) → ¬ Joins s (InPieces chosen) T
    → IsLeastBeside s chosen [] T apart
least_apart s chosen T none = record {
  limit = omega arith;
  joined = λ low. absurd (omega (arith, low));
  lightest = λ part from joins. absurd (none (Joins-superset s (IsChosen chosen part) (InPieces chosen) T
      (λ p taken. ⊎_elim (λ in_chosen. in_chosen)
      (λ in_part. absurd (let at = from (p, in_part.0) in_part.1 in omega (arith, at.1))) taken) joins));
}

-- some of the pieces, and the rest of them
from_rest : (x : Piece × ℕ) (pieces part : List (Piece × ℕ)) → ((y : Piece × ℕ) → Contains part y → Contains (x ∷ pieces) y)
    → ((y : Piece × ℕ) → Contains part y → y ≢ x) → (y : Piece × ℕ) → Contains part y → Contains pieces y
from_rest x pieces part from others y at = ⊎_elim (λ here. absurd (others y at here)) (λ rest. rest)
    (head_or_rest x pieces y (from y at))

lightest_of_two : (s : Size) (chosen : List Piece) (x : Piece × ℕ) (pieces : List (Piece × ℕ)) (T : ℕ → Type 0) (a b : ℕ)
    → IsLeastBeside s chosen pieces T a → IsLeastBeside s (chosen ++ x.0 ∷ []) pieces T b →
    (part : List (Piece × ℕ)) → ((y : Piece × ℕ) → Contains part y → Contains (x ∷ pieces) y) → Joins s (IsChosen chosen part) T
    → min a (b + x.1) ≤ weight part
lightest_of_two s chosen x pieces T a b without_it with_it part from joins =
    let less = without x part in
    let more = chosen ++ x.0 ∷ [] in
    ⊎_elim
    (λ none. omega (
      arith,
      without_it.lightest part
          (from_rest x pieces part from (λ y at here. none (subst (Contains part) here at))) joins,
    ))
    (λ light. omega (
      arith,
      light,
      with_it.lightest less.rest (from_rest x pieces less.rest (λ y at. from y (less.kept y at)) less.others)
          (Joins-superset s (IsChosen chosen part) (IsChosen more less.rest) T
          (λ p taken. ⊎_elim
          (λ in_chosen. inl (Contains-append_left chosen (x.0 ∷ []) p in_chosen))
          (λ in_part. ⊎_elim
          (λ here. inl (Contains-append_right chosen (x.0 ∷ []) p (0, omega arith, sym (ap (λ (y : Piece × ℕ). y.0) here))))
          (λ left. inr (in_part.0, left))
          (less.all (p, in_part.0) in_part.1))
          taken) joins),
    ))
    less.lacks

-- the same set among more pieces
joins_without : (s : Size) (chosen : List Piece) (x : Piece × ℕ) (pieces : List (Piece × ℕ)) (T : ℕ → Type 0) (limit n : ℕ)
    → limit ≤ n → JoinsBeside s chosen pieces T limit → JoinsBeside s chosen (x ∷ pieces) T n
joins_without s chosen x pieces T limit n le has = record {
  set = has.set;
  is_set = record { allowed = λ y at. Contains-rest x pieces y (has.is_set.allowed y at); once = has.is_set.once };
  joins = has.joins;
  light = omega (arith, le, has.light);
}

-- the set with the piece that was chosen beside it
joins_with : (s : Size) (chosen : List Piece) (x : Piece × ℕ) (pieces : List (Piece × ℕ)) (T : ℕ → Type 0) (limit n : ℕ)
    → limit + x.1 ≤ n → JoinsBeside s (chosen ++ x.0 ∷ []) pieces T limit → JoinsBeside s chosen (x ∷ pieces) T n
joins_with s chosen x pieces T limit n le has =
    let more = extended (x ∷ pieces) has.set x.0 x.1
    (record { allowed = λ y at. Contains-rest x pieces y (has.is_set.allowed y at); once = has.is_set.once })
    (in_head x pieces x refl) in
    record {
      set = more.new;
      is_set = more.is_set;
      joins = Joins-superset s (IsChosen (chosen ++ x.0 ∷ []) has.set) (IsChosen chosen more.new) T
          (λ p taken. ⊎_elim
          (λ at. ⊎_elim (λ in_chosen. inl in_chosen) (λ here. inr (subst (IsAllowed more.new) (sym here) more.has))
          (in_pushed chosen x.0 p at))
          (λ in_set. inr (more.kept p in_set))
          taken) has.joins;
      light = omega (arith, le, more.light, has.light);
    }

-- a piece is left out or taken, whichever is lighter
pub least_of_two : (s : Size) (chosen : List Piece) (x : Piece × ℕ) (pieces : List (Piece × ℕ)) (T : ℕ → Type 0) (a b : ℕ)
    → IsLeastBeside s chosen pieces T a → IsLeastBeside s (chosen ++ x.0 ∷ []) pieces T b
    → IsLeastBeside s chosen (x ∷ pieces) T (min a (b + x.1))
least_of_two s chosen x pieces T a b without_it with_it = record {
  limit = omega (arith, without_it.limit);
  joined = λ low. ⊎_elim
      (λ (taken : b + x.1 < a). joins_with s chosen x pieces T b (min a (b + x.1)) (omega arith)
      (with_it.joined (omega (arith, without_it.limit))))
      (λ (left : a ≤ b + x.1). joins_without s chosen x pieces T a (min a (b + x.1)) (omega arith)
      (without_it.joined (omega (arith, low))))
      (cases_lt (b + x.1) a);
  lightest = lightest_of_two s chosen x pieces T a b without_it with_it;
}

-- beside no chosen pieces it is the least weight of a set
pub least_weight : (s : Size) (pieces : List (Piece × ℕ)) (T : ℕ → Type 0) (least : ℕ) → IsLeastBeside s [] pieces T least
    → least < apart → IsLeastWeight s pieces T least
least_weight s pieces T least is low =
    let has = is.joined low in
    record {
      set = has.set;
      is_set = has.is_set;
      joins = Joins-superset s (IsChosen [] has.set) (IsAllowed has.set) T
          (λ p taken. ⊎_elim (λ none. absurd (omega (arith, none.1))) (λ in_set. in_set) taken) has.joins;
      weighs = omega (arith, has.light, is.lightest has.set has.is_set.allowed has.joins);
      lightest = λ other is_set joins. is.lightest other is_set.allowed
          (Joins-superset s (IsAllowed other) (IsChosen [] other) T (λ p in_set. inr in_set) joins);
    }

pub none_joins : (s : Size) (pieces : List (Piece × ℕ)) (T : ℕ → Type 0) (least : ℕ) → WeighsOnlyPieces s pieces
    → AreWithinLimit pieces → IsLeastBeside s [] pieces T least → apart ≤ least → AreApart s pieces T
none_joins s pieces T least inside light is high set is_set joins =
    omega (
      arith,
      high,
      weight-most s pieces set inside light is_set,
      is.lightest set is_set.allowed (Joins-superset s (IsAllowed set) (IsChosen [] set) T (λ p in_set. inr in_set) joins),
    )

-- a list that has no first element, and one by its first element
pub none_left : (xs : List (Piece × ℕ)) → true ≡ (length xs == 0) → xs ≡ []
none_left [] empty = refl
none_left (x ∷ xs) empty = absurd (omega (arith, eqb-true (length (x ∷ xs)) 0 (sym empty)))

-- the list behind the first element
abbrev pub behind_first : List (Piece × ℕ) → List (Piece × ℕ)
behind_first xs = take (length xs - 1) (drop 1 xs)

pub first_and_rest : (xs : List (Piece × ℕ)) (d : Piece × ℕ) → false ≡ (length xs == 0) → xs ≡ get_or xs 0 d ∷ behind_first xs
first_and_rest [] d long = cc
first_and_rest (x ∷ xs) d long = ap (λ (ys : List (Piece × ℕ)). x ∷ ys) (sym (take_all (suc (length xs) - 1) xs (omega arith)))

-- the first element and those behind it are in the list
pub first_in : (xs : List (Piece × ℕ)) (d : Piece × ℕ) → false ≡ (length xs == 0) → Contains xs (get_or xs 0 d)
first_in xs d long = subst (λ (ys : List (Piece × ℕ)). Contains ys (get_or xs 0 d)) (sym (first_and_rest xs d long))
    (in_head (get_or xs 0 d) (behind_first xs) (get_or xs 0 d) refl)

pub behind_in : (xs : List (Piece × ℕ)) (d y : Piece × ℕ) → false ≡ (length xs == 0) → Contains (behind_first xs) y
    → Contains xs y
behind_in xs d y long at = subst (λ (ys : List (Piece × ℕ)). Contains ys y) (sym (first_and_rest xs d long))
    (Contains-rest (get_or xs 0 d) (behind_first xs) y at)

pub behind_shorter : (xs : List (Piece × ℕ)) → false ≡ (length xs == 0) → length (behind_first xs) < length xs
behind_shorter [] long = cc
behind_shorter (x ∷ xs) long = omega (arith, ap length (take_all (suc (length xs) - 1) xs (omega arith)))
