-- How the nets of a design are divided among workers.
use Rattle.std.specs.Prelude.{ℕ, ◌+◌, ◌-◌, ◌*◌, ◌/◌, ◌≤◌, ◌<◌}
pub use Rattle.even_parts.specs.EvenParts.{part_start}

-- so many nets a worker routes at most between two readings of the shared loads
abbrev pub nets_per_reading : ℕ
nets_per_reading = 32

-- the net at this position is in the worker's part
pub record IsInPart (workers nets worker position : ℕ) : Type 0 where
  pub worker_exists : worker < workers
  pub from : part_start workers nets worker ≤ position
  pub before : position < part_start workers nets (worker + 1)

-- a part is divided in stretches, the last of which may be shorter: where the stretch of this position begins
abbrev pub stretch_start : ℕ → ℕ → ℕ
stretch_start part position = part + (position - part) / nets_per_reading * nets_per_reading
