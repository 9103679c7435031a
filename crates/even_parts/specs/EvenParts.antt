-- How a list is divided in parts, of which no two differ by more than one item.
use Rattle.std.specs.Prelude.{ℕ, ◌*◌, ◌/◌}

-- the place of the first item of a part, where so many items are divided in so many parts
abbrev pub part_start : ℕ → ℕ → ℕ → ℕ
part_start parts items part = part * items / parts
