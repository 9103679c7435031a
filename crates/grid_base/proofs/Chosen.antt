-- What a filter leaves of a list, and what a map makes of it.
use Rattle.std.proofs.Common.{◌≡◌, ℕ, zero, suc, ◌<◌, Bool, true, false, cond, List, [], ◌∷◌, ◌++◌, length, get_or, Contains, All, refl, ap, ◌∙◌, arith}
use Rattle.std.specs.Prelude.{◌&&◌, filter, map, flat_map}
use Rattle.std.specs.List.{AllZip}
use Rattle.std.proofs.lemmas.List.{get_or-map, length-map}
use Rattle.std.proofs.lemmas.List.Elements.{All-contains, All-contains_itself, All-filter, All-head, All-map, All-tail, All-weaker, filter_passes}

-- what passes the test is left by a filter
pub Contains-filter : {X : Type 0} (test : X → Bool) (xs : List X) (x : X) → test x ≡ true → Contains xs x → Contains (filter test xs) x
Contains-filter {X} test xs x passes held = at xs held.0 held.1 held.2
  where
    at : (ys : List X) (k : ℕ) → k < length ys → get_or ys k x ≡ x → Contains (filter test ys) x
    at [] k below is = absurd (omega arith)
    at (y ∷ ys) zero below is = let first : test y ≡ true = ap test is ∙ passes in rw first (0, omega arith, is)
    at (y ∷ ys) (suc k) below is =
        let later = at ys k (omega arith) is in
        elim (test y) as (λ b. Contains (cond b (y ∷ filter test ys) (filter test ys)) x) [ true ↦ (suc later.0, omega arith, later.2) | false ↦ later ]

-- and what it left was in the list, and passes the test
pub left_by_filter : {X : Type 0} (test : X → Bool) (xs : List X) (x : X) → Contains (filter test xs) x → Contains xs x × (test x ≡ true)
left_by_filter test xs x held = (
  All-contains (Contains xs) (filter test xs) x (All-filter test (Contains xs) xs (All-contains_itself xs)) held,
  All-contains (λ y. test y ≡ true) (filter test xs) x (filter_passes test xs) held,
)

-- what a map has made of an element is in the list that it made
pub Contains-map : {X Y : Type 0} (f : X → Y) (xs : List X) (x : X) → Contains xs x → Contains (map f xs) (f x)
Contains-map f xs x held = (held.0, omega (arith, held.1, length-map xs f), get_or-map f xs held.0 x (f x) held.1 ∙ ap f held.2)

-- and each element of that list was made of one
pub made_by_map : {X Y : Type 0} (f : X → Y) (xs : List X) (y : Y) → Contains (map f xs) y → (x : X) × Contains xs x × (f x ≡ y)
made_by_map {X = X} {Y = Y} f xs y held =
    let Made : Y → Type 0 = λ y. (x : X) × Contains xs x × (f x ≡ y) in
    All-contains Made (map f xs) y (All-map Made f xs (All-weaker (Contains xs) (λ x. Made (f x)) (λ x own. (x, own, refl)) xs (All-contains_itself xs))) held

-- what holds of each element and what was made of it holds place by place
pub AllZip-made : {X Y : Type 0} (R : X → Y → Type 0) (f : X → Y) (xs : List X) → All (λ x. R x (f x)) xs → AllZip R xs (map f xs)
AllZip-made R f [] all = tt
AllZip-made R f (x ∷ xs) all = (All-head (λ x. R x (f x)) x xs all, AllZip-made R f xs (All-tail (λ x. R x (f x)) x xs all))

-- the text of what was chosen is that of each element, or nothing where it wasn't
pub flat_map-chosen : {A B : Type 0} (chosen : A → Bool) (end : A → B) (text : B → List ℕ) (xs : List A) →
    flat_map text (map end (filter chosen xs)) ≡ flat_map (λ x. cond (chosen x) (text (end x)) []) xs
flat_map-chosen chosen end text [] = refl
flat_map-chosen chosen end text (x ∷ xs) =
    elim (chosen x) as (λ b. flat_map text (map end (cond b (x ∷ filter chosen xs) (filter chosen xs))) ≡ cond b (text (end x)) [] ++ flat_map (λ y. cond (chosen y) (text (end y)) []) xs)
    [ true ↦ ap (λ rest. text (end x) ++ rest) (flat_map-chosen chosen end text xs) | false ↦ flat_map-chosen chosen end text xs ]

-- what was chosen twice was chosen by both tests
pub filter-filter : {A : Type 0} (first then : A → Bool) (xs : List A) → filter then (filter first xs) ≡ filter (λ x. first x && then x) xs
filter-filter first then [] = refl
filter-filter first then (x ∷ xs) =
    elim (first x) as (λ b. filter then (cond b (x ∷ filter first xs) (filter first xs)) ≡ cond (b && then x) (x ∷ filter (λ y. first y && then y) xs) (filter (λ y. first y && then y) xs))
    [ true ↦ ap (λ rest. cond (then x) (x ∷ rest) rest) (filter-filter first then xs) | false ↦ filter-filter first then xs ]
