-- The parts of the workers.
use Rattle.std.proofs.Common.{◌≡◌, ℕ, zero, suc, ◌+◌, ◌≤◌, ◌<◌, subst, arith, ⊎_elim}
use Rattle.std.proofs.lemmas.Bool.{cases_lt}
use Rattle.even_parts.proofs.PartStarts.{first_start, part_start-le, part_start-within}
use Rattle.sharing_runs.specs.Parts.{part_start, IsInPart}

-- a position behind the begin of a part is in no earlier part
pub not_earlier : {workers nets worker position : ℕ} (k : ℕ) → 0 < workers → part_start workers nets k ≤ position
    → IsInPart workers nets worker position → k ≤ worker
not_earlier {workers} {nets} {worker} k some from part =
    let later : worker < k → part_start workers nets (worker + 1) ≤ part_start workers nets k =
    λ early. part_start-le workers nets (worker + 1) k some (omega (arith, early)) in
    grind (arith, from, part.before, later)

-- each position is in one part
pub one_part : {workers nets a b position : ℕ} → 0 < workers → IsInPart workers nets a position
    → IsInPart workers nets b position → a ≡ b
one_part {a} {b} some first second =
    omega (arith, not_earlier a some first.from second, not_earlier b some second.from first)

-- a net of a part is one of the design's
pub in_design : {workers nets worker position : ℕ} → 0 < workers → IsInPart workers nets worker position → position < nets
in_design {workers} {nets} {worker} some part =
    omega (arith, part.before, part_start-within workers nets (worker + 1) some (omega (arith, part.worker_exists)))

-- each net is in a part
pub find_part : (workers nets position some : ℕ) → some ≤ workers → position < part_start workers nets some
    → (worker : ℕ) × IsInPart workers nets worker position
find_part workers nets position zero most before = absurd (omega (arith, before, first_start workers nets))
find_part workers nets position (suc k) most before =
    ⊎_elim
    (λ (early : position < part_start workers nets k). find_part workers nets position k (omega (arith, most)) early)
    (λ (here : part_start workers nets k ≤ position). (
      k,
      record {
        worker_exists = omega (arith, most);
        from = here;
        before = subst (λ (j : ℕ). position < part_start workers nets j) (omega arith) before;
      },
    ))
    (cases_lt position (part_start workers nets k))
