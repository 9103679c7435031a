-- The elements at some positions of a list, and lists in which others stand there.
use Rattle.std.proofs.Common.{◌≡◌, ◌≢◌, ℕ, suc, ◌+◌, ◌<◌, List, [], ◌∷◌, ◌++◌, length, take, get_or, slice_set, slice_range, Some}
use Rattle.std.proofs.Common.{All, AllPairs, refl, sym, ◌∙◌, ap, arith}
use Rattle.std.proofs.lemmas.Grind.{flat_map-append}
use Rattle.ripup_repair.proofs.Common.{set-set, set_comm, get_or-set_same, get_or-set_other, length-set, length-take, get_or-take}
use Rattle.ripup_repair.proofs.Common.{set-get_or, append-nil, All-head, All-tail, slice_get_within, get_or_from_slice_get}
use Rattle.ripup_repair.proofs.Common.{slice_get-get_or, At, stands, AreWithin, at_positions-cons, first_within, one_here}
use Rattle.ripup_repair.proofs.Common.{rest_within, at_positions, with_elements}

-- one position more
pub at_positions-push : {X : Type 0} (xs : List X) (ks : List ℕ) (k : ℕ) (x : X) → At xs k x
    → at_positions xs (ks ++ k ∷ []) ≡ at_positions xs ks ++ x ∷ []
at_positions-push xs ks k x at =
    flat_map-append (λ j. slice_range xs j (j + 1)) ks (k ∷ [])
    ∙ ap (λ last. at_positions xs ks ++ last) (append-nil (slice_range xs k (k + 1)) ∙ one_here xs k x at)

-- positions in rising order: the first is none of the others
abbrev pub AreRising : List ℕ → Type 0
AreRising ks = AllPairs (λ k later. k < later) ks

pub rest_rising : (k : ℕ) (ks : List ℕ) → AreRising (k ∷ ks) → AreRising ks
rest_rising k ks rising i j d before short = rising (suc i) (suc j) d (omega (arith, before)) (omega (arith, short))

pub none_is_first : (k : ℕ) (ks : List ℕ) → AreRising (k ∷ ks) → All (λ j. j ≢ k) ks
none_is_first k ks rising i d short same =
    let after : k < get_or ks i d = rising 0 (suc i) d (omega arith) (omega (arith, short)) in
    omega (arith, after, same)

-- none before a place is the one there
pub earlier_apart : (ks : List ℕ) (i : ℕ) → AreRising ks → i < length ks → All (λ k. k ≢ get_or ks i 0) (take i ks)
earlier_apart ks i rising within j d short same =
    let before : j < i = omega (arith, short, length-take i ks) in
    let here : get_or (take i ks) j d ≡ get_or ks j d = get_or-take i ks j d before in
    let there : get_or ks i d ≡ get_or ks i 0 = get_or_from_slice_get ks i (get_or ks i 0) d (slice_get-get_or ks i 0 within) in
    omega (arith, rising j i d before within, here, there, same)

-- another element elsewhere
pub At-set_other : {X : Type 0} (xs : List X) (k j : ℕ) (x y : X) → At xs k x → k ≢ j → At (slice_set xs j y) k x
At-set_other xs k j x y at other =
    let within : k < length xs = slice_get_within xs k x at in
    slice_get-get_or (slice_set xs j y) k x (omega (arith, length-set xs j y, within))
    ∙ ap (λ z. Some z) (get_or-set_other xs j k y x other ∙ get_or_from_slice_get xs k x x at)

pub at_positions-elsewhere : {X : Type 0} (xs : List X) (j : ℕ) (y : X) (ks : List ℕ) → AreWithin xs ks → All (λ k. k ≢ j) ks
    → at_positions (slice_set xs j y) ks ≡ at_positions xs ks
at_positions-elsewhere xs j y [] within others = refl
at_positions-elsewhere xs j y (k ∷ ks) within others =
    let x = stands xs k (first_within xs k ks within) in
    at_positions-cons (slice_set xs j y) k ks x.0 (At-set_other xs k j x.0 y x.1 (All-head (λ i. i ≢ j) k ks others))
    ∙ ap (λ rest. x.0 ∷ rest) (at_positions-elsewhere xs j y ks (rest_within xs k ks within)
    (All-tail (λ i. i ≢ j) k ks others))
    ∙ sym (at_positions-cons xs k ks x.0 x.1)

-- the list with other elements at some positions is as long
pub with_elements-long : {X : Type 0} (xs : List X) (ks : List ℕ) (ys : List X) → length (with_elements xs ks ys) ≡ length xs
with_elements-long xs [] ys = refl
with_elements-long xs (k ∷ ks) [] = refl
with_elements-long xs (k ∷ ks) (y ∷ ys) = with_elements-long (slice_set xs k y) ks ys ∙ length-set xs k y

-- one position more
pub with_elements-push : {X : Type 0} (xs : List X) (ks : List ℕ) (ys : List X) (k : ℕ) (y : X) → length ys ≡ length ks
    → with_elements xs (ks ++ k ∷ []) (ys ++ y ∷ []) ≡ slice_set (with_elements xs ks ys) k y
with_elements-push xs [] [] k y long = refl
with_elements-push xs [] (z ∷ ys) k y long = absurd (omega (arith, long))
with_elements-push xs (j ∷ ks) [] k y long = absurd (omega (arith, long))
with_elements-push xs (j ∷ ks) (z ∷ ys) k y long = with_elements-push (slice_set xs j z) ks ys k y (omega (arith, long))

-- elsewhere it is the list that it was
pub with_elements-other : {X : Type 0} (xs : List X) (ks : List ℕ) (ys : List X) (j : ℕ) (d : X) → All (λ k. k ≢ j) ks
    → get_or (with_elements xs ks ys) j d ≡ get_or xs j d
with_elements-other xs [] ys j d others = refl
with_elements-other xs (k ∷ ks) [] j d others = refl
with_elements-other xs (k ∷ ks) (y ∷ ys) j d others =
    let apart : j ≢ k = λ same. All-head (λ i. i ≢ j) k ks others (sym same) in
    with_elements-other (slice_set xs k y) ks ys j d (All-tail (λ i. i ≢ j) k ks others) ∙ get_or-set_other xs k j y d apart

within_set : {X : Type 0} (xs : List X) (k : ℕ) (y : X) (ks : List ℕ) → AreWithin xs ks → AreWithin (slice_set xs k y) ks
within_set xs k y ks within i d short = omega (arith, within i d short, length-set xs k y)

-- at the positions stand the other elements
pub at_positions-with : {X : Type 0} (xs : List X) (ks : List ℕ) (ys : List X) → AreWithin xs ks → AreRising ks
    → length ys ≡ length ks
    → at_positions (with_elements xs ks ys) ks ≡ ys
at_positions-with xs [] [] within rising long = refl
at_positions-with xs [] (y ∷ ys) within rising long = absurd (omega (arith, long))
at_positions-with xs (k ∷ ks) [] within rising long = absurd (omega (arith, long))
at_positions-with xs (k ∷ ks) (y ∷ ys) within rising long =
    let zs = slice_set xs k y in
    let all = with_elements zs ks ys in
    let here : get_or all k y ≡ y =
    with_elements-other zs ks ys k y (none_is_first k ks rising) ∙ get_or-set_same xs k y y (first_within xs k ks within) in
    let at : At all k y =
    slice_get-get_or all k y (omega (arith, with_elements-long zs ks ys, length-set xs k y, first_within xs k ks within))
    ∙ ap (λ z. Some z) here in
    at_positions-cons all k ks y at
    ∙ ap (λ rest. y ∷ rest) (at_positions-with zs ks ys (within_set xs k y ks (rest_within xs k ks within))
    (rest_rising k ks rising) (omega (arith, long)))

-- an element at a place that is none of the positions can be put there before or after
set_aside : {X : Type 0} (xs : List X) (ks : List ℕ) (ys : List X) (k : ℕ) (y : X) → All (λ j. j ≢ k) ks
    → slice_set (with_elements xs ks ys) k y ≡ with_elements (slice_set xs k y) ks ys
set_aside xs [] ys k y others = refl
set_aside xs (j ∷ ks) [] k y others = refl
set_aside xs (j ∷ ks) (z ∷ ys) k y others =
    set_aside (slice_set xs j z) ks ys k y (All-tail (λ i. i ≢ k) j ks others)
    ∙ ap (λ l. with_elements l ks ys) (set_comm xs j k z y (All-head (λ i. i ≢ k) j ks others))

-- with the elements that stood there before, it is the list that it was
pub with_elements-back : {X : Type 0} (xs : List X) (ks : List ℕ) (ys : List X) → AreWithin xs ks → AreRising ks
    → length ys ≡ length ks
    → with_elements (with_elements xs ks ys) ks (at_positions xs ks) ≡ xs
with_elements-back xs [] ys within rising long = refl
with_elements-back xs (k ∷ ks) [] within rising long = absurd (omega (arith, long))
with_elements-back xs (k ∷ ks) (y ∷ ys) within rising long =
    let x = stands xs k (first_within xs k ks within) in
    let zs = slice_set xs k y in
    let others = none_is_first k ks rising in
    let again : slice_set zs k x.0 ≡ xs =
    set-set xs k y x.0 ∙ ap (slice_set xs k) (sym (get_or_from_slice_get xs k x.0 x.0 x.1)) ∙ set-get_or xs k x.0 in
    ap (with_elements (with_elements zs ks ys) (k ∷ ks)) (at_positions-cons xs k ks x.0 x.1)
    ∙ ap (λ l. with_elements l ks (at_positions xs ks))
    (set_aside zs ks ys k x.0 others ∙ ap (λ l. with_elements l ks ys) again)
    ∙ with_elements-back xs ks ys (rest_within xs k ks within) (rest_rising k ks rising) (omega (arith, long))
