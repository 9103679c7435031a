-- What the terminals of a mask have together at a vertex.
use Rattle.std.proofs.Common.{ℕ, zero, suc, ◌≡◌, ◌≢◌, ◌+◌, ◌*◌, ◌<◌, ◌≤◌, ◌==◌, cond, min, List, refl, sym, ap, ◌∙◌, ⊎_elim, arith}
use Rattle.std.proofs.lemmas.Bool.{cases_eq, cases_lt}
use Rattle.std.proofs.lemmas.Bool.Decides.{nat_tests}
use Rattle.std.proofs.lemmas.Nat.{mul-le}
use Rattle.grid_base.specs.declared.piece.Piece.{Piece}
use Rattle.grid_base.specs.declared.size.Size.{Size}
use Rattle.grid_base.specs.declared.vertex.Vertex.{Vertex}
use Rattle.grid_base.specs.Lists.{At}
use Rattle.grid_base.specs.Numbers.{Connects}
use Rattle.grid_graph.specs.Weighed.{Weighs}
use Rattle.steiner_tables.specs.Masks.{few_terminals, bit, single, AreParts}
use Rattle.steiner_tables.proofs.Masks.{AreShared, bit-small, bit-single}
use Rattle.terminal_balls.specs.Balls.{Balls, AreBalls, share, shares_of, shares, beyond}

-- ---- parts of a mask

-- where the bits of two masks add up to those of a third, so does what they have
parts_of : (balls : Balls) (one other mask v n : ℕ) → AreShared one other mask → shares_of balls mask v n ≡ shares_of balls one v n + shares_of balls other v n
unfolding shares_of
parts_of balls one other mask v zero shared = refl
parts_of balls one other mask v (suc n) shared =
    let last : bit mask n * share balls n v ≡ bit one n * share balls n v + bit other n * share balls n v = grind (arith, ap (λ b. b * share balls n v) (shared n)) in
    omega (arith, last, parts_of balls one other mask v n shared)

pub shares-parts : (balls : Balls) (one other mask v : ℕ) → AreParts one other mask → shares balls mask v ≡ shares balls one v + shares balls other v
shares-parts balls one other mask v parts = parts_of balls one other mask v few_terminals parts.shared

-- ---- a terminal at itself

-- a number that is taken at most once
bit_times : (b x y : ℕ) → b < 2 → x ≤ y → b * x ≤ y
bit_times b x y small less = omega (arith, mul-le b x 1 y (omega arith) less)

none_taken : (b x : ℕ) → b < 2 → (b ≡ 1 → x ≡ 0) → b * x ≡ 0
none_taken b x small none = ⊎_elim
    (λ has. let nothing : b * x ≡ b * 0 = ap (λ y. b * y) (none has) in omega (arith, nothing))
    (λ lacks. let nothing : b * x ≡ 0 * x = ap (λ c. c * x) (omega (arith, small, lacks)) in omega (arith, nothing))
    (cases_eq b 1)

own_of : (balls : Balls) (place v n : ℕ) → share balls place v ≡ 0 → shares_of balls (single place) v n ≡ 0
unfolding shares_of
own_of balls place v zero none = refl
own_of balls place v (suc n) none =
    let last = none_taken (bit (single place) n) (share balls n v) (bit-small (single place) n) (λ has. ap (λ i. share balls i v) (bit-single place n has) ∙ none) in
    omega (arith, last, own_of balls place v n none)

pub shares-own : (s : Size) (pieces : List (Piece × ℕ)) (over : ℕ → ℕ) (terminals : List Vertex) (balls : Balls) → AreBalls s pieces over terminals balls → (place : ℕ) (v : Vertex) → At terminals place v → shares balls (single place) v.0 ≡ 0
shares-own s pieces over terminals balls are place v at = own_of balls place v.0 few_terminals (are.own place v at)

-- ---- along a piece

-- a terminal has its radius at most
share_most : (o place r n : ℕ) → cond (o == place) (min r n) r ≤ r
share_most o place r n = grind (arith, nat_tests)

-- and all of it outside its ball
share_outside : (o place r n : ℕ) → o ≢ place → cond (o == place) (min r n) r ≡ r
share_outside o place r n other = grind (arith, nat_tests, other)

share_inside : (o place r n : ℕ) → o ≡ place → cond (o == place) (min r n) r ≡ min r n
share_inside o place r n own = grind (arith, nat_tests, own)

-- the others have no more
no_more : (balls : Balls) (place a b : ℕ) → balls.owner a ≢ place → share balls place b ≤ share balls place a
no_more balls place a b other =
    omega (arith, share_most (balls.owner b) place (balls.radius place) (balls.number b), share_outside (balls.owner a) place (balls.radius place) (balls.number a) other)

-- the terminal of the ball has at most so much more
owned_more : (s : Size) (pieces : List (Piece × ℕ)) (over : ℕ → ℕ) (terminals : List Vertex) (balls : Balls) → AreBalls s pieces over terminals balls → (p : Piece) (k a b : ℕ) → Weighs pieces p k → Connects s p a b →
    share balls (balls.owner a) b ≤ share balls (balls.owner a) a + beyond s over p k
owned_more s pieces over terminals balls are p k a b weighs connects =
    let place = balls.owner a in
    let radius = balls.radius place in
    let here : share balls place a ≡ min radius (balls.number a) = share_inside place place radius (balls.number a) refl in
    let there = share_most (balls.owner b) place radius (balls.number b) in
    ⊎_elim
    (λ within. ⊎_elim
    (λ same.
    let at_b : share balls place b ≡ min radius (balls.number b) = share_inside (balls.owner b) place radius (balls.number b) same.0 in
    omega (arith, here, at_b, same.1))
    (λ reached. omega (arith, here, there, reached))
    (are.steps p k a b weighs connects within))
    (λ beside. omega (arith, here, there, beside))
    (cases_lt (balls.number a) radius)

-- of the first terminals only that of the ball, where it is one of them, has more
steps_of : (balls : Balls) (mask a b n more : ℕ) → share balls (balls.owner a) b ≤ share balls (balls.owner a) a + more →
    (n ≤ balls.owner a → shares_of balls mask b n ≤ shares_of balls mask a n) × (shares_of balls mask b n ≤ shares_of balls mask a n + more)
unfolding shares_of
steps_of balls mask a b zero more owned = ((λ before. omega arith), omega arith)
steps_of balls mask a b (suc n) more owned =
    let before = steps_of balls mask a b n more owned in
    let x = share balls n b in
    let y = share balls n a in
    let same : balls.owner a ≢ n → bit mask n * x ≤ bit mask n * y = λ other. mul-le (bit mask n) x (bit mask n) y (omega arith) (no_more balls n a b other) in
    let own : balls.owner a ≡ n → bit mask n * x ≤ bit mask n * y + more = λ is.
    let grows : x ≤ y + more = rw (sym is) owned in
    let both : bit mask n * x ≤ bit mask n * (y + more) = mul-le (bit mask n) x (bit mask n) (y + more) (omega arith) grows in
    let once = bit_times (bit mask n) more more (bit-small mask n) (omega arith) in
    grind (arith, both, once)
    in (
      (λ low. omega (arith, before.0 (omega (arith, low)), same (λ is. omega (arith, is, low)))),
      ⊎_elim (λ is. omega (arith, before.0 (omega (arith, is)), own is)) (λ other. omega (arith, before.1, same other)) (cases_eq (balls.owner a) n),
    )

-- along a piece a mask's terminals have together at most what it weighs beyond its tile edge more
pub shares-steps : (s : Size) (pieces : List (Piece × ℕ)) (over : ℕ → ℕ) (terminals : List Vertex) (balls : Balls) → AreBalls s pieces over terminals balls → (mask : ℕ) (p : Piece) (k a b : ℕ) → Weighs pieces p k → Connects s p a b →
    shares balls mask b ≤ shares balls mask a + beyond s over p k
shares-steps s pieces over terminals balls are mask p k a b weighs connects =
    (steps_of balls mask a b few_terminals (beyond s over p k) (owned_more s pieces over terminals balls are p k a b weighs connects)).1
