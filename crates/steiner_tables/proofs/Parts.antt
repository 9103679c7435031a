-- Parts of masks, by bits.
use Rattle.std.proofs.Common.{◌≡◌, ℕ, zero, suc, ◌+◌, ◌-◌, ◌/◌, ◌<◌, ◌≤◌, bit_and, sym, ◌∙◌, ap, arith}
use Rattle.std.proofs.lemmas.Nat.Bits.{bit_at_and, bit_at-suc, bit_at_lowest}
use Rattle.std.specs.Int.{bit_at}
use Rattle.steiner_tables.specs.Masks.{bit, AreParts}

-- the mask has each bit of another
abbrev pub HasBitsOf : ℕ → ℕ → Type 0
HasBitsOf mask one = (i : ℕ) → bit one i ≤ bit mask i

half_bits : (mask one : ℕ) → HasBitsOf mask one → HasBitsOf (mask / 2) (one / 2)
half_bits mask one has i = omega (arith, has (suc i), bit_at-suc one i, bit_at-suc mask i)

-- it is no less
no_less : (n mask one : ℕ) → one ≤ n → HasBitsOf mask one → one ≤ mask
no_less zero mask one small has = omega arith
no_less (suc n) mask one small has =
    omega (
      arith,
      no_less n (mask / 2) (one / 2) (omega arith) (half_bits mask one has),
      has 0,
      bit_at_lowest one,
      bit_at_lowest mask,
    )

-- and the bits of the rest are the others
rest_bits : (i mask one : ℕ) → HasBitsOf mask one → bit mask i ≡ bit one i + bit (mask - one) i
rest_bits zero mask one has =
    omega (
      arith,
      has 0,
      bit_at_lowest one,
      bit_at_lowest mask,
      bit_at_lowest (mask - one),
      no_less one mask one (omega arith) has,
      no_less (one / 2) (mask / 2) (one / 2) (omega arith) (half_bits mask one has),
    )
rest_bits (suc i) mask one has =
    let halves : (mask - one) / 2 ≡ mask / 2 - one / 2 =
    omega (
      arith,
      has 0,
      bit_at_lowest one,
      bit_at_lowest mask,
      no_less one mask one (omega arith) has,
      no_less (one / 2) (mask / 2) (one / 2) (omega arith) (half_bits mask one has),
    ) in
    omega (
      arith,
      rest_bits i (mask / 2) (one / 2) (half_bits mask one has),
      bit_at-suc mask i,
      bit_at-suc one i,
      bit_at-suc (mask - one) i ∙ ap (λ n. bit n i) halves,
    )

-- what the test of bits says
pub parts_from_and : (one mask : ℕ) → 0 < one → one < mask → bit_and one mask ≡ one → AreParts one (mask - one) mask
parts_from_and one mask some less is =
    let has : HasBitsOf mask one = λ i. omega (arith, bit_at_and one mask i, ap (λ n. bit_at n i) is) in
    record { some = some; others = omega arith; shared = λ i. rest_bits i mask one has }

same_bits : (n a b : ℕ) → a ≤ n → b ≤ n → ((i : ℕ) → bit a i ≡ bit b i) → a ≡ b
same_bits zero a b low_a low_b same = omega arith
same_bits (suc n) a b low_a low_b same =
    omega (
      arith,
      same_bits n (a / 2) (b / 2) (omega arith) (omega arith)
          (λ i. sym (bit_at-suc a i) ∙ same (suc i) ∙ bit_at-suc b i),
      same 0,
      bit_at_lowest a,
      bit_at_lowest b,
    )

pub and_from_parts : (one other mask : ℕ) → AreParts one other mask → bit_and one mask ≡ one
and_from_parts one other mask parts =
    same_bits (bit_and one mask + one) (bit_and one mask) one (omega arith) (omega arith)
    (λ i. omega (arith, bit_at_and one mask i, parts.shared i))
