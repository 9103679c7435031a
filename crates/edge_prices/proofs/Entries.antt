-- Lists of numbers by their entries.
use Rattle.std.proofs.Common.{ℕ, ◌≤◌, List, length, get_or, set, inl, inr, get_or-set_other}
use Rattle.std.proofs.lemmas.Bool.{cases_eq, cases_lt}
use Rattle.std.proofs.lemmas.Grind.{get_or-set_at}
use Rattle.std.proofs.lemmas.List.{set_past}

-- a bound of all entries stays one where an entry is replaced by one within it
pub set_within : (xs : List ℕ) (i a most : ℕ) → ((k : ℕ) → get_or xs k 0 ≤ most) → a ≤ most → (k : ℕ) → get_or (set xs i a) k 0 ≤ most
set_within xs i a most each small k = elim (cases_eq k i) [
  | inl here ↦ elim (cases_lt i (length xs)) [
    | inl inside ↦ rw (get_or-set_at xs i k a 0 here inside) small
    | inr past ↦ rw (set_past xs i a past) (each k)
  ]
  | inr other ↦ rw get_or-set_other (each k)
]
