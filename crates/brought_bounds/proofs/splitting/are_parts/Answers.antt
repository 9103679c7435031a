use Rattle.std.proofs.Common.{◌≡◌, ℕ, ◌+◌, nat_eq, bit_and, true, arith}
use Rattle.std.proofs.lemmas.Bool.Decides.{nat_tests}
use Rattle.brought_bounds.proofs.Parts.{are_parts, no_common}
use Rattle.brought_bounds.proofs.splitting.are_parts.Goals as goal

pub returns : goal.returns
returns c =
    let one = c.args.one in
    let other = c.args.other in (
      λ none. are_parts one other c.requires.some c.requires.others (is_none (bit_and one other) none),
      λ parts. none_is (bit_and one other) (no_common one other (one + other) c.ranges.one.fits parts),
    )
  where
    is_none : (n : ℕ) → nat_eq n 0 ≡ true → n ≡ 0
    is_none n is = grind (arith, nat_tests)

    none_is : (n : ℕ) → n ≡ 0 → nat_eq n 0 ≡ true
    none_is n is = grind (arith, nat_tests)
