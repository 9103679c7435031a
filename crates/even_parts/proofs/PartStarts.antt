-- Where the parts of a list begin.
use Rattle.std.proofs.Common.{◌≡◌, ℕ, ◌-◌, ◌*◌, ◌/◌, ◌≤◌, ◌<◌, List, length, slice_range, ◌∙◌, ap, arith}
use Rattle.std.proofs.Math.Nat.{div-mul-le_self, mul-le-mul_right, mul-div_cancel_left, zero-div}
use Rattle.std.proofs.lemmas.Nat.{le-div}
use Rattle.std.proofs.lemmas.List.{take_all}
use Rattle.even_parts.specs.EvenParts.{part_start}

-- the parts begin with the first item and end with the last
pub first_start : (parts items : ℕ) → part_start parts items 0 ≡ 0
first_start parts items = ap (λ n. n / parts) (omega arith) ∙ zero-div parts

pub last_start : (parts items : ℕ) → 0 < parts → part_start parts items parts ≡ items
last_start parts items some = mul-div_cancel_left items some

-- a later part doesn't begin before an earlier one
pub part_start-le : (parts items a b : ℕ) → 0 < parts → a ≤ b → part_start parts items a ≤ part_start parts items b
part_start-le parts items a b some low =
    let less : a * items / parts * parts ≤ a * items = div-mul-le_self (a * items) parts in
    let more : a * items ≤ b * items = mul-le-mul_right items low in
    le-div (a * items / parts) (b * items) parts some (omega (arith, less, more))

-- no part begins behind the last item
pub part_start-within : (parts items part : ℕ) → 0 < parts → part ≤ parts → part_start parts items part ≤ items
part_start-within parts items part some within =
    omega (arith, part_start-le parts items part parts some within, last_start parts items some)

-- all parts together are all items
pub all_parts : {X : Type 0} (parts items : ℕ) (xs : List X) → 0 < parts → length xs ≡ items
    → slice_range xs (part_start parts items 0) (part_start parts items parts) ≡ xs
all_parts parts items xs some long =
    ap (λ k. slice_range xs k (part_start parts items parts)) (first_start parts items)
    ∙ ap (λ k. slice_range xs 0 k) (last_start parts items some)
    ∙ take_all (items - 0) xs (omega (arith, long))
