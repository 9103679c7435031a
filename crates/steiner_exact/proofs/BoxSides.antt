-- What the terminals of a mask extent along a coordinate.
use Rattle.std.proofs.Common.{ℕ, zero, suc, ◌≡◌, ◌≢◌, ◌+◌, ◌-◌, ◌%◌, ◌^◌, ◌<◌, ◌≤◌, ◌==◌, cond, min, max, List, get_or, true, false, refl, ap, ◌∙◌, ⊎_elim, arith, add-one}
use Rattle.std.proofs.lemmas.Bool.{cases_eq}
use Rattle.std.proofs.lemmas.Bool.Decides.{nat_tests}
use Rattle.std.proofs.Math.Nat.{div_self}
use Rattle.std.proofs.lemmas.Nat.{pow_pos}
use Rattle.grid_base.specs.declared.vertex.Vertex.{Vertex}
use Rattle.steiner_tables.specs.Masks.{bit, single}
use Rattle.steiner_tables.proofs.Masks.{bit-small, bit-single}
use Rattle.steiner_exact.specs.declared.extent.Extent.{Extent}
use Rattle.steiner_exact.specs.Boxes.{none, lowest, highest, extent_of, with_number, width_with}

-- the bits of two masks add up to those of a third
abbrev Shared : ℕ → ℕ → ℕ → Type 0
Shared one other mask = (place : ℕ) → bit mask place ≡ bit one place + bit other place

least_of_bits : (b b1 b2 l l1 l2 x : ℕ) → b ≡ b1 + b2 → b < 2 → l ≡ min l1 l2 →
    cond (b == 1) (min l x) l ≡ min (cond (b1 == 1) (min l1 x) l1) (cond (b2 == 1) (min l2 x) l2)
least_of_bits b b1 b2 l l1 l2 x sum small is = grind (arith, nat_tests, sum, small, is)

greatest_of_bits : (b b1 b2 l l1 l2 x : ℕ) → b ≡ b1 + b2 → b < 2 → l ≡ max l1 l2 →
    cond (b == 1) (max l x) l ≡ max (cond (b1 == 1) (max l1 x) l1) (cond (b2 == 1) (max l2 x) l2)
greatest_of_bits b b1 b2 l l1 l2 x sum small is = grind (arith, nat_tests, sum, small, is)

-- the least of a mask is that of its parts
pub lowest-parts : (f : ℕ → ℕ) (terminals : List Vertex) (one other mask n : ℕ) → Shared one other mask →
    lowest f terminals mask n ≡ min (lowest f terminals one n) (lowest f terminals other n)
unfolding lowest
lowest-parts f terminals one other mask zero shared = omega arith
lowest-parts f terminals one other mask (suc n) shared =
    least_of_bits (bit mask n) (bit one n) (bit other n) (lowest f terminals mask n) (lowest f terminals one n) (lowest f terminals other n) (f (get_or terminals n none).0)
    (shared n) (bit-small mask n) (lowest-parts f terminals one other mask n shared)

-- and so is the greatest
pub highest-parts : (f : ℕ → ℕ) (terminals : List Vertex) (one other mask n : ℕ) → Shared one other mask →
    highest f terminals mask n ≡ max (highest f terminals one n) (highest f terminals other n)
unfolding highest
highest-parts f terminals one other mask zero shared = omega arith
highest-parts f terminals one other mask (suc n) shared =
    greatest_of_bits (bit mask n) (bit one n) (bit other n) (highest f terminals mask n) (highest f terminals one n) (highest f terminals other n) (f (get_or terminals n none).0)
    (shared n) (bit-small mask n) (highest-parts f terminals one other mask n shared)

-- a mask of one place has it
pub bit-own : (i : ℕ) → bit (single i) i ≡ 1
bit-own i = ap (λ (n : ℕ). n % 2) (div_self (pow_pos i))

-- before its place a mask of one place spans nothing
lowest-before : (f : ℕ → ℕ) (terminals : List Vertex) (p n : ℕ) → n ≤ p → lowest f terminals (single p) n ≡ 2 ^ 32 - 1
unfolding lowest
lowest-before f terminals p zero before = refl
lowest-before f terminals p (suc n) before = ⊎_elim
    (λ has. let here : n ≡ p = bit-single p n has in absurd (omega arith))
    (λ other. grind (arith, nat_tests, other, lowest-before f terminals p n (omega arith)))
    (cases_eq (bit (single p) n) 1)

highest-before : (f : ℕ → ℕ) (terminals : List Vertex) (p n : ℕ) → n ≤ p → highest f terminals (single p) n ≡ 0
unfolding highest
highest-before f terminals p zero before = refl
highest-before f terminals p (suc n) before = ⊎_elim
    (λ has. let here : n ≡ p = bit-single p n has in absurd (omega arith))
    (λ other. grind (arith, nat_tests, other, highest-before f terminals p n (omega arith)))
    (cases_eq (bit (single p) n) 1)

chosen : (b x y : ℕ) → b ≡ 1 → cond (b == 1) x y ≡ x
chosen b x y is = rw is refl

passed : (b x y : ℕ) → b ≢ 1 → cond (b == 1) x y ≡ y
passed b x y is = grind (arith, nat_tests, is)

-- past it, its own number
pub lowest-single : (f : ℕ → ℕ) (terminals : List Vertex) (p n : ℕ) → p < n → f (get_or terminals p none).0 < 2 ^ 32 → lowest f terminals (single p) n ≡ f (get_or terminals p none).0
unfolding lowest
lowest-single f terminals p zero inside small = absurd (omega arith)
lowest-single f terminals p (suc n) inside small = ⊎_elim
    (λ here.
    let x = f (get_or terminals n none).0 in
    let first = lowest-before f terminals p n (omega (arith, here)) in
    let same : x ≡ f (get_or terminals p none).0 = ap (λ i. f (get_or terminals i none).0) here in
    chosen (bit (single p) n) (min (lowest f terminals (single p) n) x) (lowest f terminals (single p) n) (ap (bit (single p)) here ∙ bit-own p) ∙ omega (arith, first, same, small))
    (λ other.
    passed (bit (single p) n) (min (lowest f terminals (single p) n) (f (get_or terminals n none).0)) (lowest f terminals (single p) n) (λ has. other (bit-single p n has))
    ∙ lowest-single f terminals p n (omega (arith, other)) small)
    (cases_eq n p)

pub highest-single : (f : ℕ → ℕ) (terminals : List Vertex) (p n : ℕ) → p < n → highest f terminals (single p) n ≡ f (get_or terminals p none).0
unfolding highest
highest-single f terminals p zero inside = absurd (omega arith)
highest-single f terminals p (suc n) inside = ⊎_elim
    (λ here.
    let x = f (get_or terminals n none).0 in
    let first = highest-before f terminals p n (omega (arith, here)) in
    let same : x ≡ f (get_or terminals p none).0 = ap (λ i. f (get_or terminals i none).0) here in
    chosen (bit (single p) n) (max (highest f terminals (single p) n) x) (highest f terminals (single p) n) (ap (bit (single p)) here ∙ bit-own p) ∙ omega (arith, first, same))
    (λ other.
    passed (bit (single p) n) (max (highest f terminals (single p) n) (f (get_or terminals n none).0)) (highest f terminals (single p) n) (λ has. other (bit-single p n has))
    ∙ highest-single f terminals p n (omega (arith, other)))
    (cases_eq n p)

-- one terminal more
pub lowest-more : (f : ℕ → ℕ) (terminals : List Vertex) (mask n : ℕ) → lowest f terminals mask (n + 1) ≡ cond (bit mask n == 1) (min (lowest f terminals mask n) (f (get_or terminals n none).0)) (lowest f terminals mask n)
unfolding lowest
lowest-more f terminals mask n = ap (lowest f terminals mask) (add-one n)

pub highest-more : (f : ℕ → ℕ) (terminals : List Vertex) (mask n : ℕ) → highest f terminals mask (n + 1) ≡ cond (bit mask n == 1) (max (highest f terminals mask n) (f (get_or terminals n none).0)) (highest f terminals mask n)
unfolding highest
highest-more f terminals mask n = ap (highest f terminals mask) (add-one n)

pub extent_none : (f : ℕ → ℕ) (terminals : List Vertex) (mask : ℕ) → extent_of f terminals mask 0 ≡ record { least = 2 ^ 32 - 1; greatest = 0 }
unfolding lowest highest
extent_none f terminals mask = refl

pub extent_taken : (f : ℕ → ℕ) (terminals : List Vertex) (mask n : ℕ) → (bit mask n == 1) ≡ true → extent_of f terminals mask (n + 1) ≡ with_number (extent_of f terminals mask n) (f (get_or terminals n none).0)
extent_taken f terminals mask n has = rw (lowest-more f terminals mask n, highest-more f terminals mask n) (rw has refl)

pub extent_passed : (f : ℕ → ℕ) (terminals : List Vertex) (mask n : ℕ) → (bit mask n == 1) ≡ false → extent_of f terminals mask (n + 1) ≡ extent_of f terminals mask n
extent_passed f terminals mask n has = rw (lowest-more f terminals mask n, highest-more f terminals mask n) (rw has refl)

-- the greatest is below what all numbers are below
pub highest-below : (f : ℕ → ℕ) (terminals : List Vertex) (mask n limit : ℕ) → 0 < limit → ((k : ℕ) → k < n → f (get_or terminals k none).0 < limit) → highest f terminals mask n < limit
unfolding highest
highest-below f terminals mask zero limit some each = some
highest-below f terminals mask (suc n) limit some each =
    let rest = highest-below f terminals mask n limit some (λ k below. each k (omega arith)) in
    let last = each n (omega arith) in
    grind (arith, nat_tests, rest, last)

-- ---- widths

gaps : (h m g1 l1 g2 l2 x : ℕ) → h ≤ max g1 g2 → min l1 l2 ≤ m → x ≤ g1 → l1 ≤ x → x ≤ g2 → l2 ≤ x → h - m ≤ (g1 - l1) + (g2 - l2)
gaps h m g1 l1 g2 l2 x high low up1 down1 up2 down2 = omega arith

highest_of : (g g1 g2 x : ℕ) → g ≡ max g1 g2 → max g x ≤ max (max g1 x) (max g2 x)
highest_of g g1 g2 x is = omega (arith, is)

lowest_of : (l l1 l2 x : ℕ) → l ≡ min l1 l2 → min (min l1 x) (min l2 x) ≤ min l x
lowest_of l l1 l2 x is = omega (arith, is)

-- two spans that meet in a number are together at least as wide as both in one
pub width-parts : (f : ℕ → ℕ) (terminals : List Vertex) (one other mask n x : ℕ) → Shared one other mask →
    width_with (extent_of f terminals mask n) x ≤ width_with (extent_of f terminals one n) x + width_with (extent_of f terminals other n) x
width-parts f terminals one other mask n x shared =
    let l = lowest f terminals mask n in
    let l1 = lowest f terminals one n in
    let l2 = lowest f terminals other n in
    let g = highest f terminals mask n in
    let g1 = highest f terminals one n in
    let g2 = highest f terminals other n in
    gaps (max g x) (min l x) (max g1 x) (min l1 x) (max g2 x) (min l2 x) x
    (highest_of g g1 g2 x (highest-parts f terminals one other mask n shared)) (lowest_of l l1 l2 x (lowest-parts f terminals one other mask n shared))
    (omega arith) (omega arith) (omega arith) (omega arith)

-- a number alone has no width
pub width-single : (f : ℕ → ℕ) (terminals : List Vertex) (p n x : ℕ) → p < n → f (get_or terminals p none).0 ≡ x → x < 2 ^ 32 →
    width_with (extent_of f terminals (single p) n) x ≡ 0
width-single f terminals p n x inside is small =
    omega (arith, lowest-single f terminals p n inside (omega (arith, is)), highest-single f terminals p n inside, is)

-- one step changes a width by at most one
pub width-more : (extent : Extent) (x : ℕ) → width_with extent (x + 1) ≤ width_with extent x + 1
width-more extent x = omega arith

pub width-less : (extent : Extent) (x : ℕ) → width_with extent x ≤ width_with extent (x + 1) + 1
width-less extent x = omega arith
