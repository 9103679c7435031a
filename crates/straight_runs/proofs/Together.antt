-- Runs of one line that overlap or adjoin.
use Rattle.std.proofs.Common.{◌≡◌, ℕ, ◌-◌, ◌*◌, ◌/◌, ◌%◌, ◌^◌, ◌<◌, ◌∙◌, ap, arith}
use Rattle.std.proofs.Math.Nat.{mul-mod_left, mul-div_cancel}
use Rattle.std.proofs.lemmas.Nat.{mul-le}
use Rattle.grid_base.specs.declared.size.Size.{Size}
use Rattle.straight_runs.specs.declared.run.Run.{Run}
use Rattle.straight_runs.specs.Lines.{rise}
use Rattle.straight_runs.specs.Merging.{IsBehind}
use Rattle.straight_runs.specs.Runs.{IsStraightRun}
use Rattle.straight_runs.proofs.Lines.{rise-positive, run_ends}

-- how far a run begins behind another, from the numbers of their first vertices
pub behind_by : (s : Size) (run next : Run) (apart : ℕ) → IsBehind s run next apart → ((next.first.0 - run.first.0) % rise run.direction s ≡ 0) × ((next.first.0 - run.first.0) / rise run.direction s ≡ apart)
behind_by s run next apart behind =
    let k = rise run.direction s in
    let gap : next.first.0 - run.first.0 ≡ apart * k = omega (arith, behind.1) in
    (ap (λ n. n % k) gap ∙ mul-mod_left apart k, ap (λ n. n / k) gap ∙ mul-div_cancel apart (rise-positive run.direction s))

-- a run has fewer pieces than the largest grid vertices
pub count_within : (s : Size) (run : Run) → IsStraightRun s run → run.count < 2 ^ 23
count_within s run is =
    omega (arith, run_ends s run is, s.within.vertex_limit, mul-le run.count 1 run.count (rise run.direction s) (omega arith) (rise-positive run.direction s))
