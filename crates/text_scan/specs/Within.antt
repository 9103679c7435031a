-- Numbers in a range.
use Rattle.std.specs.Prelude.{ℕ, ◌&&◌, if◌then◌else◌, nat_le, ℤ, pos, negsuc, Option, None, Some}

-- the number, where it is from lo to hi
abbrev pub within : ℕ → ℕ → ℤ → Option ℕ
within lo hi (pos n) = if nat_le lo n && nat_le n hi then Some n else None
within lo hi (negsuc n) = None
