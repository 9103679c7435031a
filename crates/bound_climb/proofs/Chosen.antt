-- The terminals of a table: there is one list of them, and what all terminals have it has.
use Rattle.std.proofs.Common.{◌≡◌, ◌≢◌, ◌<◌, ◌≤◌, ℕ, zero, suc, ◌+◌, List, [], ◌∷◌, ◌++◌, All, length, get_or, take, refl, sym, ◌∙◌, subst}
use Rattle.std.proofs.Common.{Option, Some, None, slice_get, ap, ⊎_elim, arith, add-one}
use Rattle.std.proofs.lemmas.Bool.{cases_eq, cases_lt}
use Rattle.std.proofs.lemmas.List.{take_all, take_more, take_more_same}
use Rattle.std.proofs.lemmas.Option.{same_Some, slice_get-get_or, slice_get_within, get_or_from_slice_get}
use Rattle.grid_base.specs.declared.piece.Piece.{Piece}
use Rattle.grid_base.specs.declared.size.Size.{Size}
use Rattle.grid_base.specs.declared.vertex.Vertex.{Vertex}
use Rattle.grid_base.specs.Lists.{At}
use Rattle.grid_base.specs.Numbers.{IsVertex}
use Rattle.grid_base.specs.Walks.{Joins, InVertices}
use Rattle.lower_bound.specs.Spread.{IsNext, IsSpread, IsSpreadFive}
use Rattle.lower_bound.proofs.LowBounds.{chosen_terminal}
use Rattle.bound_climb.specs.NetProofs.{AreTabled}

-- one terminal is the next one
next_unique : (s : Size) (terminals chosen : List Vertex) (t u : Vertex) → IsNext s terminals chosen t
    → IsNext s terminals chosen u → t ≡ u
next_unique s terminals chosen t u first second = ⊎_elim
    (λ same. same_Some t u (sym first.stands ∙ subst (λ i. At terminals i u) (sym same) second.stands))
    (λ differs. ⊎_elim
    (λ before. absurd (omega (
      arith,
      second.earliest first.place t before first.stands,
      first.greatest second.place u second.stands,
    )))
    (λ after. absurd (omega (
      arith,
      first.earliest second.place u (omega (arith, differs, after)) second.stands,
      second.greatest first.place t first.stands,
    )))
    (cases_lt first.place second.place))
    (cases_eq first.place second.place)

-- two spreads have the same fronts
same_fronts : (s : Size) (terminals a b : List Vertex) → IsSpread s terminals a → IsSpread s terminals b → (k : ℕ)
    → take k a ≡ take k b
same_fronts s terminals a b first second zero = refl
same_fronts s terminals a b first second (suc k) =
    let before = same_fronts s terminals a b first second k in
    ⊎_elim
    (λ inside.
    let d : Vertex = record { 0 = 0 } in
    let low : k < length b = omega (arith, inside, first.count, second.count) in
    let in_a = first.each k (get_or a k d) (slice_get-get_or a k d inside) in
    let in_b = second.each k (get_or b k d) (slice_get-get_or b k d low) in
    let same : get_or a k d ≡ get_or b k d = next_unique s terminals (take k a) (get_or a k d) (get_or b k d) in_a
    (subst (λ chosen. IsNext s terminals chosen (get_or b k d)) (sym before) in_b) in
    subst (λ n. take n a ≡ take n b) (add-one k) (take_more_same a b k d inside low before same))
    (λ past.
    let long : length b ≤ k = omega (arith, past, first.count, second.count) in
    take_all (suc k) a (omega (arith, past)) ∙ sym (take_all k a past) ∙ before ∙ take_all k b long
    ∙ sym (take_all (suc k) b (omega (arith, long))))
    (cases_lt k (length a))

spread_unique : (s : Size) (terminals a b : List Vertex) → IsSpread s terminals a → IsSpread s terminals b → a ≡ b
spread_unique s terminals a b first second =
    sym (take_all (length a) a (omega arith)) ∙ same_fronts s terminals a b first second (length a)
    ∙ take_all (length a) b (omega (arith, first.count, second.count))

pub tabled_unique : (s : Size) (terminals a b : List Vertex) → AreTabled s terminals a → AreTabled s terminals b → a ≡ b
tabled_unique s terminals a b first second = ⊎_elim
    (λ many. spread_unique s terminals a b (first.many many) (second.many many))
    (λ few. first.few few ∙ sym (second.few few))
    (cases_lt 5 (length terminals))

-- what is true of all terminals, and of their spread where they are many, is true of those of a table
of_tabled : (s : Size) (terminals chosen : List Vertex) (P : List Vertex → Type 0) → AreTabled s terminals chosen
    → (length terminals ≤ 5 → P terminals) → (5 < length terminals → IsSpread s terminals chosen → P chosen) → P chosen
of_tabled s terminals chosen P are all spread = ⊎_elim
    (λ many. spread many (are.many many))
    (λ few. subst P (sym (are.few few)) (all few))
    (cases_lt 5 (length terminals))

pub tabled_few : (s : Size) (terminals chosen : List Vertex) → AreTabled s terminals chosen → length chosen ≤ 5
tabled_few s terminals chosen are = of_tabled s terminals chosen (λ ts. length ts ≤ 5) are (λ few. few)
    (λ many spread. omega (arith, spread.count))

pub tabled_two : (s : Size) (terminals chosen : List Vertex) → AreTabled s terminals chosen → 2 ≤ length terminals
    → 2 ≤ length chosen
tabled_two s terminals chosen are two = of_tabled s terminals chosen (λ ts. 2 ≤ length ts) are (λ few. two)
    (λ many spread. omega (arith, spread.count, many))

pub tabled_vertices : (s : Size) (terminals chosen : List Vertex) → AreTabled s terminals chosen
    → All (λ v. IsVertex s v.0) terminals → All (λ v. IsVertex s v.0) chosen
tabled_vertices s terminals chosen are all =
    of_tabled s terminals chosen (λ ts. All (λ (v : Vertex). IsVertex s v.0) ts) are (λ few. all) (λ many spread k d low.
    let v = get_or chosen k d in
    let next = spread.each k v (slice_get-get_or chosen k d low) in
    subst (λ (w : Vertex). IsVertex s w.0) (get_or_from_slice_get terminals next.place v d next.stands)
    (all next.place d (slice_get_within terminals next.place v next.stands)))

pub tabled_joined : (s : Size) (F : Piece → Type 0) (terminals chosen : List Vertex) → AreTabled s terminals chosen
    → Joins s F (InVertices terminals) → Joins s F (InVertices chosen)
tabled_joined s F terminals chosen are joins =
    of_tabled s terminals chosen (λ ts. Joins s F (InVertices ts)) are (λ few. joins) (λ many spread a b at_a at_b.
    joins a b (chosen_terminal s terminals chosen spread a at_a) (chosen_terminal s terminals chosen spread b at_b))

-- a front of a list grows by what stands behind it, or is the whole list already
pub front_more : (xs front longer : List Vertex) (n : ℕ) (v : Vertex) → front ≡ take n xs → slice_get xs n ≡ Some v
    → longer ≡ front ++ v ∷ [] → longer ≡ take (n + 1) xs
front_more xs front longer n v is at more =
    more ∙ ap (λ (ys : List Vertex). ys ++ v ∷ []) is
    ∙ ap (λ (x : Vertex). take n xs ++ x ∷ []) (sym (get_or_from_slice_get xs n v v at))
    ∙ sym (take_more xs n v (slice_get_within xs n v at))

pub front_whole : (xs front : List Vertex) (n : ℕ) → front ≡ take n xs → ((v : Vertex) → slice_get xs n ≢ Some v)
    → front ≡ take (n + 1) xs
front_whole xs front n is none = ⊎_elim
    (λ inside. let d : Vertex = record { 0 = 0 } in absurd (none (get_or xs n d) (slice_get-get_or xs n d inside)))
    (λ past. is ∙ take_all n xs past ∙ sym (take_all (n + 1) xs (omega (arith, past))))
    (cases_lt n (length xs))

-- what was chosen by its answers is the spread
pub spread_of_answers : (s : Size) (terminals : List Vertex) (answers : List (Option Vertex)) (chosen : List Vertex) (n : ℕ)
    → IsSpreadFive s terminals answers → 5 ≤ n
    → ((spread : List Vertex) → ((i : ℕ) → i < 5 → get_or answers i None ≡ slice_get spread i) → chosen ≡ take n spread)
    → IsSpread s terminals chosen
spread_of_answers s terminals answers chosen n five all is =
    subst (IsSpread s terminals)
    (sym (is five.chosen five.answered ∙ take_all n five.chosen (omega (arith, five.spread.count, all)))) five.spread
