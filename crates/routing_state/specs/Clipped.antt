-- Rooms in 16 bits.
use Rattle.std.specs.Prelude.{ℤ, pos, negsuc, min}

-- the room, or the greatest or the least number of 16 bits where these can't hold it
abbrev pub clipped : ℤ → ℤ
clipped (pos n) = pos (min n 32767)
clipped (negsuc n) = negsuc (min n 32767)
