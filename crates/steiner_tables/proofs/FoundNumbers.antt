-- Numbers as answers.
use Rattle.std.proofs.Common.{ℕ, ◌≡◌, ◌<◌, ◌≤◌, Some, None, arith}
use Rattle.std.proofs.lemmas.Bool.Decides.{nat_tests}
use Rattle.label_search.specs.Stamped.{most, far}
use Rattle.steiner_tables.specs.Tables.{answer_at}

-- an answer is the number
pub found_number : (number x : ℕ) → Some x ≡ answer_at far number → x ≡ number
found_number number x is = grind (arith, nat_tests, is)

-- which is within the limit
pub kept_small : (number x : ℕ) → Some x ≡ answer_at far number → number ≤ most
kept_small number x is = grind (arith, nat_tests, is)

-- none stands for a number above all others
pub no_number : (number : ℕ) → None ≡ answer_at far number → most < number
no_number number is = grind (arith, nat_tests, is)
