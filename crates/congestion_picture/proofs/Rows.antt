-- The cell of a tile lies in the raster.
use Rattle.std.proofs.Common.{ℕ, ◌/◌, ◌<◌, arith}
use Rattle.std.proofs.lemmas.Grind.{div_ceil_times}
use Rattle.std.proofs.lemmas.Nat.{div_below}
use Rattle.congestion_cells.specs.Rasters.{parts_of}

-- a tile of a side is in one of its parts
pub part_of_tile : (tiles side at : ℕ) → 0 < side → at < tiles → at / side < parts_of tiles side
part_of_tile tiles side at some inside =
    div_below at side (parts_of tiles side) some (omega (arith, inside, (div_ceil_times tiles side some).0))
