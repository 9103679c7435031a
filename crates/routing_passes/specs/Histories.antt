-- What the history of a share has of a pass: all that its workers read, one reading after another.
use Rattle.std.specs.Prelude.{ℕ, ◌+◌, ◌-◌, ◌*◌, ◌/◌, List}
use Rattle.std.specs.List.{flat_map, range_with_len}
use Rattle.load_core.specs.declared.loaded.Loaded.{Loaded}
use Rattle.price_workers.specs.Readings.{loads_of_reading}
use Rattle.sharing_runs.specs.Parts.{nets_per_reading, part_start}

-- in how many stretches so many nets are divided
abbrev pub stretches : ℕ → ℕ
stretches nets = (nets + (nets_per_reading - 1)) / nets_per_reading

-- the readings at the stretches of so many nets, of which the first stands at a position
abbrev pub nets_history : (ℕ → List ℕ) → ℕ → ℕ → List Loaded
nets_history read start nets =
    flat_map (λ stretch. loads_of_reading (read (start + stretch * nets_per_reading))) (range_with_len 0 (stretches nets))

-- the readings in the part of a worker, where so many workers share so many nets
abbrev pub part_history : ℕ → ℕ → (ℕ → List ℕ) → ℕ → List Loaded
part_history workers nets read worker =
    nets_history read (part_start workers nets worker) (part_start workers nets (worker + 1) - part_start workers nets worker)

-- those in the parts of so many workers from one on
abbrev pub parts_history : ℕ → ℕ → (ℕ → List ℕ) → ℕ → ℕ → List Loaded
parts_history workers nets read first some = flat_map (part_history workers nets read) (range_with_len first some)
