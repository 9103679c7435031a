-- Room, and how much of it is lacking.
use Rattle.std.specs.Prelude.{ℕ, suc, ◌≤◌, ◌^◌, ℤ, pos, negsuc, nat_abs}

-- how much room is lacking where so much is left: none where some is left
abbrev pub lack : ℤ → ℕ
lack (pos n) = 0
lack (negsuc n) = suc n

-- the room of an edge is in this range, whatever the nets use
abbrev pub IsRoom : ℤ → Type 0
IsRoom room = nat_abs room ≤ 2 ^ 34

-- it stays there when one more net uses the edge
abbrev pub HasRoomToMove : ℤ → Type 0
HasRoomToMove room = nat_abs room ≤ 2 ^ 33
