-- Masks bit by bit.
use Rattle.std.proofs.Common.{◌≡◌, ◌≢◌, ℕ, zero, suc, ◌+◌, ◌-◌, ◌*◌, ◌/◌, ◌%◌, ◌^◌, ◌<◌, ◌≤◌, ◌⊎◌, refl, sym, ◌∙◌, ap, inl, inr}
use Rattle.std.proofs.Common.{⊎_elim, arith}
use Rattle.std.proofs.Math.Nat.{pow-succ', div-div-eq-div-mul}
use Rattle.std.proofs.lemmas.Nat.{pow_pos}
use Rattle.std.proofs.lemmas.Bool.{cases_eq, cases_lt}
use Rattle.steiner_tables.specs.Masks.{bit, single, AreParts}

bit-zero : (m : ℕ) → bit m 0 ≡ m % 2
bit-zero m = omega arith

-- a later bit is one of the half
bit-suc : (m i : ℕ) → bit m (suc i) ≡ bit (m / 2) i
bit-suc m i = ap (λ n. n % 2) (ap (λ n. m / n) (pow-succ' 2 i) ∙ sym (div-div-eq-div-mul m 2 (2 ^ i)))

pub bit-small : (m i : ℕ) → bit m i < 2
bit-small m i = omega arith

-- a half is below half of the power
half-below : (k m : ℕ) → m < 2 ^ suc k → m / 2 < 2 ^ k
half-below k m small = let twice = pow-succ' 2 k in omega (arith, twice)

below-one : (m : ℕ) → m < 2 ^ 0 → m ≡ 0
below-one m small = omega arith

-- no bit stands past the power that a mask is below
pub bit-high : (k m i : ℕ) → m < 2 ^ k → k ≤ i → bit m i ≡ 0
bit-high zero m zero small high = let none = below-one m small in omega arith
bit-high zero m (suc i) small high = bit-suc m i
    ∙ bit-high zero (m / 2) i (let none = below-one m small in omega arith) (omega arith)
bit-high (suc k) m zero small high = absurd (omega arith)
bit-high (suc k) m (suc i) small high = bit-suc m i ∙ bit-high k (m / 2) i (half-below k m small) (omega arith)

pub bit-none : (i : ℕ) → bit 0 i ≡ 0
bit-none i = bit-high 0 0 i (omega arith) (omega arith)

-- the bits of two masks add up to those of a third
abbrev pub AreShared : ℕ → ℕ → ℕ → Type 0
AreShared one other mask = (i : ℕ) → bit mask i ≡ bit one i + bit other i

halves-shared : (one other mask : ℕ) → AreShared one other mask → AreShared (one / 2) (other / 2) (mask / 2)
halves-shared one other mask shared i = omega (arith, shared (suc i), bit-suc one i, bit-suc other i, bit-suc mask i)

shared-sum : (k one other mask : ℕ) → one < 2 ^ k → other < 2 ^ k → mask < 2 ^ k → AreShared one other mask → one + other ≡ mask
shared-sum zero one other mask a b m shared = omega (arith, below-one one a, below-one other b, below-one mask m)
shared-sum (suc k) one other mask a b m shared =
    let halves = shared-sum k (one / 2) (other / 2) (mask / 2) (half-below k one a) (half-below k other b) (half-below k mask m)
    (halves-shared one other mask shared) in
    let last = shared 0 in
    omega (arith, halves, last)

below-power : (n : ℕ) → n < 2 ^ n
below-power zero = omega arith
below-power (suc n) = omega (arith, below-power n, pow-succ' 2 n)

-- two parts add up to their mask
pub shared_sum : (one other mask : ℕ) → AreShared one other mask → one + other ≡ mask
shared_sum one other mask shared =
    let all = one + other + mask in
    let enough = below-power all in
    shared-sum all one other mask (omega (arith, enough)) (omega (arith, enough)) (omega (arith, enough)) shared

pub parts_sum : (one other mask : ℕ) → AreParts one other mask → one + other ≡ mask
parts_sum one other mask parts = shared_sum one other mask parts.shared

-- a mask of one place has that bit alone
pub bit-single : (i j : ℕ) → bit (single i) j ≡ 1 → j ≡ i
bit-single zero zero has = refl
bit-single zero (suc j) has = absurd (omega (arith, has, bit-high 1 1 (suc j) (omega arith) (omega arith)))
bit-single (suc i) zero has = absurd (omega (arith, has, pow-succ' 2 i))
bit-single (suc i) (suc j) has =
    let half : 2 ^ suc i / 2 ≡ 2 ^ i = omega (arith, pow-succ' 2 i) in
    ap suc (bit-single i j (ap (λ m. bit m j) (sym half) ∙ sym (bit-suc (2 ^ suc i) j) ∙ has))

-- a bit beside another
pub record HasOther (k mask place : ℕ) : Type 0 where
  pub other : ℕ
  pub inside : other < k
  pub has : bit mask other ≡ 1
  pub differs : other ≢ place

-- a bit of a mask, which it is alone, or has beside another
pub record HasBit (k mask : ℕ) : Type 0 where
  pub place : ℕ
  pub inside : place < k
  pub has : bit mask place ≡ 1
  pub alone : (mask ≡ single place) ⊎ HasOther k mask place

first_alone : (k mask : ℕ) → 0 < mask → mask / 2 ≡ 0 → HasBit (suc k) mask
first_alone k mask some none = record { place = 0; inside = omega arith; has = omega arith; alone = inl (omega arith) }

bit_behind : (k mask : ℕ) → HasBit k (mask / 2) → HasBit (suc k) mask
bit_behind k mask half = record {
  place = suc half.place;
  inside = omega (arith, half.inside);
  has = bit-suc mask half.place ∙ half.has;
  alone = ⊎_elim
      (λ even. ⊎_elim
      (λ is. inl (omega (arith, is, even, pow-succ' 2 half.place)))
      (λ beside. inr (record {
        other = suc beside.other;
        inside = omega (arith, beside.inside);
        has = bit-suc mask beside.other
            ∙ beside.has;
        differs = λ same. beside.differs (omega arith);
      }))
      half.alone)
      (λ odd. inr (record { other = 0; inside = omega arith; has = omega arith; differs = λ same. absurd (omega arith) }))
      (cases_eq (mask % 2) 0);
}

pub some_bit : (k mask : ℕ) → 0 < mask → mask < 2 ^ k → HasBit k mask
some_bit zero mask some small = absurd (omega (arith, some, below-one mask small))
some_bit (suc k) mask some small = ⊎_elim
    (λ none. first_alone k mask some none)
    (λ more. bit_behind k mask (some_bit k (mask / 2) (omega arith) (half-below k mask small)))
    (cases_eq (mask / 2) 0)

-- a mask in two parts, of the bits at which something holds and of those at which it doesn't; either may be empty
pub record IsDivided (P : ℕ → Type 0) (mask : ℕ) : Type 0 where
  pub one : ℕ
  pub other : ℕ
  pub shared : AreShared one other mask
  pub in_one : (i : ℕ) → bit one i ≡ 1 → P i
  pub in_other : (i : ℕ) → bit other i ≡ 1 → ¬ P i

bit-last : (x a : ℕ) → a < 2 → bit (2 * x + a) 0 ≡ a
bit-last x a small = omega arith

bit-before : (x a i : ℕ) → a < 2 → bit (2 * x + a) (suc i) ≡ bit x i
bit-before x a i small = let half : (2 * x + a) / 2 ≡ x = omega arith in bit-suc (2 * x + a) i ∙ ap (λ m. bit m i) half

shared_last : (x y a b mask : ℕ) → a + b ≡ mask % 2 → AreShared x y (mask / 2) → AreShared (2 * x + a) (2 * y + b) mask
shared_last x y a b mask last shared zero = omega (arith, last, bit-last x a (omega arith), bit-last y b (omega arith))
shared_last x y a b mask last shared (suc i) =
    omega (arith, shared i, bit-suc mask i, bit-before x a i (omega arith), bit-before y b i (omega arith))

-- where something holds at each bit, and at one more that stands last
each_bit : (P : ℕ → Type 0) (x a : ℕ) → a < 2 → ((i : ℕ) → bit x i ≡ 1 → P (suc i)) → (a ≡ 1 → P 0) → (i : ℕ)
    → bit (2 * x + a) i ≡ 1 → P i
each_bit P x a small before last zero has = last (sym (bit-last x a small) ∙ has)
each_bit P x a small before last (suc i) has = before i (sym (bit-before x a i small) ∙ has)

one_more : (P : ℕ → Type 0) (a b mask : ℕ) → a + b ≡ mask % 2 → (a ≡ 1 → P 0) → (b ≡ 1 → ¬ P 0)
    → IsDivided (λ i. P (suc i)) (mask / 2) → IsDivided P mask
one_more P a b mask last here there half = record {
  one = 2 * half.one + a;
  other = 2 * half.other + b;
  shared = shared_last half.one half.other a b mask last half.shared;
  in_one = each_bit P half.one a (omega arith) half.in_one here;
  in_other = each_bit (λ i. ¬ P i) half.other b (omega arith) half.in_other there;
}

pub divided : (P : ℕ → Type 0) → ((i : ℕ) → P i ⊎ (¬ P i)) → (k mask : ℕ) → mask < 2 ^ k → IsDivided P mask
divided P decides zero mask small = record {
  one = 0;
  other = 0;
  shared = λ i. omega (arith, bit-none i, bit-high 0 mask i small (omega arith));
  in_one = λ i has. absurd (omega (arith, has, bit-none i));
  in_other = λ i has. absurd (omega (arith, has, bit-none i));
}
divided P decides (suc k) mask small =
    let half = divided (λ i. P (suc i)) (λ i. decides (suc i)) k (mask / 2) (half-below k mask small) in
    ⊎_elim
    (λ even. one_more P 0 0 mask (sym even) (λ is. absurd (omega arith)) (λ is. absurd (omega arith)) half)
    (λ odd. ⊎_elim
    (λ yes. one_more P 1 0 mask (omega arith) (λ is. yes) (λ is. absurd (omega arith)) half)
    (λ no. one_more P 0 1 mask (omega arith) (λ is. absurd (omega arith)) (λ is. no) half)
    (decides 0))
    (cases_eq (mask % 2) 0)

-- the bits of a mask's complement
bit_rest : (k m i : ℕ) → m < 2 ^ k → i < k → bit (2 ^ k - 1 - m) i + bit m i ≡ 1
bit_rest zero m i small low = absurd (omega arith)
bit_rest (suc k) m zero small low = omega (arith, pow-succ' 2 k)
bit_rest (suc k) m (suc i) small low =
    let half : (2 ^ suc k - 1 - m) / 2 ≡ 2 ^ k - 1 - m / 2 = omega (arith, pow-succ' 2 k, small) in
    omega (
      arith,
      bit-suc (2 ^ suc k - 1 - m) i,
      ap (λ n. bit n i) half,
      bit-suc m i,
      bit_rest k (m / 2) i (half-below k m small) (omega arith),
    )

-- what a part leaves is what the whole leaves and the other part
pub parts_rest : (k one other mask : ℕ) → AreParts one other mask → mask < 2 ^ k - 1
    → AreParts (2 ^ k - 1 - mask) other (2 ^ k - 1 - one)
parts_rest k one other mask parts small =
    let sum = parts_sum one other mask parts in
    record {
      some = omega arith;
      others = parts.others;
      shared = λ i. ⊎_elim
          (λ low. omega (arith, bit_rest k mask i (omega arith) low, bit_rest k one i (omega (arith, sum)) low, parts.shared i))
          (λ high. omega (
            arith,
            bit-high k (2 ^ k - 1 - one) i (omega arith) high,
            bit-high k (2 ^ k - 1 - mask) i (omega arith) high,
            bit-high k other i (omega (arith, sum)) high,
          ))
          (cases_lt i k);
    }

pub parts_turned : (one other mask : ℕ) → AreParts one other mask → AreParts other one mask
parts_turned one other mask parts = record {
  some = parts.others;
  others = parts.some;
  shared = λ i. omega (arith, parts.shared i);
}

bit_some : (m i : ℕ) → bit m i ≡ 1 → 0 < m
bit_some m i has = ⊎_elim (λ none. absurd (omega (arith, has, ap (λ n. bit n i) none, bit-none i))) (λ more. omega arith)
    (cases_eq m 0)

-- a mask with two bits is in two parts
pub two_parts : (k mask place : ℕ) → mask < 2 ^ k → bit mask place ≡ 1 → HasOther k mask place
    → (one : ℕ) × (other : ℕ) × AreParts one other mask
two_parts k mask place small has beside =
    let d = divided (λ i. i ≡ place) (λ i. cases_eq i place) k mask small in
    let here : bit d.other place ≢ 1 = λ is. d.in_other place is refl in
    let there : bit d.one beside.other ≢ 1 = λ is. beside.differs (d.in_one beside.other is) in (
      d.one,
      d.other,
      record {
        some = bit_some d.one place (omega (arith, here, has, d.shared place, bit-small d.one place, bit-small d.other place));
        others = bit_some d.other beside.other (omega
            (arith, there, beside.has, d.shared beside.other, bit-small d.one beside.other, bit-small d.other beside.other));
        shared = d.shared;
      },
    )

-- the mask of the first places has each of them
pub bit_of_first : (k i : ℕ) → i < k → bit (2 ^ k - 1) i ≡ 1
bit_of_first k i low =
    let whole : 2 ^ k - 1 - 0 ≡ 2 ^ k - 1 = omega arith in
    omega (arith, ap (λ n. bit n i) whole, bit_rest k 0 i (pow_pos k) low, bit-none i)
