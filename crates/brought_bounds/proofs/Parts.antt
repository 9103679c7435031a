-- Masks without a common terminal.
use Rattle.std.proofs.Common.{◌≡◌, ℕ, ◌+◌, ◌^◌, ◌<◌, bit_and, bit_or, ◌∙◌, ap, ⊎_elim, arith}
use Rattle.std.specs.Int.Bits.{or_add_and}
use Rattle.std.proofs.lemmas.Bool.{cases_eq}
use Rattle.std.proofs.lemmas.Nat.{and_le_l}
use Rattle.std.proofs.lemmas.Nat.Bits.{bit_at_and, bit_at_or}
use Rattle.steiner_tables.specs.Masks.{bit, AreParts}
use Rattle.steiner_tables.proofs.Masks.{bit-small, bit-none, some_bit}

pub are_parts : (one other : ℕ) → 0 < one → 0 < other → bit_and one other ≡ 0 → AreParts one other (one + other)
are_parts one other some others none = record {
  some = some;
  others = others;
  shared = λ place.
      let whole : bit_or one other ≡ one + other = omega (arith, or_add_and one other, none) in
      let both = bit_at_and one other place in
      let zero_bit : bit (bit_and one other) place ≡ 0 = ap (λ m. bit m place) none ∙ bit-none place in
      let either = bit_at_or one other place in
      omega (arith, ap (λ m. bit m place) whole, both, zero_bit, either, bit-small one place, bit-small other place);
}

pub no_common : (one other mask : ℕ) → one < 2 ^ 32 → AreParts one other mask → bit_and one other ≡ 0
no_common one other mask small parts = ⊎_elim
    (λ none. none)
    (λ some.
    let has = some_bit 32 (bit_and one other) (omega (arith, some)) (omega (arith, and_le_l one other, small)) in
    absurd (omega (arith, has.has, bit_at_and one other has.place, parts.shared has.place, bit-small mask has.place)))
    (cases_eq (bit_and one other) 0)
