-- The number of an error of a ground.
use Rattle.std.specs.Prelude.{ℕ, Option, None, Some}
use Rattle.grid_graph.specs.declared.ground_error.GroundError.{GroundError}
use Rattle.grid_graph.specs.declared.ground_error.GroundError.TheVariants.{Unreachable, NoMemory}

-- the number of an unreachable net
abbrev pub unreachable_number : ℕ
unreachable_number = 4

-- an unreachable net has that number; want of memory has none
abbrev pub ground_error_number : GroundError → Option ℕ
ground_error_number (Unreachable net) = Some unreachable_number
ground_error_number NoMemory = None
