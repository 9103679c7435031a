-- How much room can be lacking, and how far rooms move.
use Rattle.std.proofs.Common.{◌≡◌, ℕ, ◌≤◌, ◌*◌, ◌^◌, List, All, length, arith, ℤ, pos, negsuc, ◌+ℤ◌}
use Rattle.std.specs.Prelude.{nat_abs}
use Rattle.std.specs.List.{sum_by}
use Rattle.std.proofs.lemmas.Int.{ints}
use Rattle.std.proofs.lemmas.List.Sums.{sum_by-le}
use Rattle.routing_state.specs.Lacks.{lack, IsRoom, HasRoomToMove}

-- no room lacks more than this
pub lack-limit : (room : ℤ) → IsRoom room → lack room ≤ 2 ^ 34
lack-limit (pos n) is = omega arith
lack-limit (negsuc n) is = is

-- and so all together lack no more than this
pub lacking-limit : (rooms : List ℤ) → All IsRoom rooms → sum_by lack rooms ≤ length rooms * 2 ^ 34
lacking-limit rooms all = sum_by-le lack (2 ^ 34) rooms (λ k other below. lack-limit _ (all k other below))

-- what lacks is at most the size of the room
pub lack-size : (room : ℤ) → lack room ≤ nat_abs room
lack-size (pos n) = omega arith
lack-size (negsuc n) = omega arith

-- a room that moves by one demand stays in range
pub moved_up : (a b : ℤ) (n : ℕ) → b ≡ a +ℤ pos n → n ≤ 1023 → HasRoomToMove a → IsRoom b
moved_up a b n is small room = omega (arith, ints)

pub moved_down : (a b : ℤ) (n : ℕ) → b ≡ a +ℤ pos n → n ≤ 1023 → HasRoomToMove b → IsRoom a
moved_down a b n is small room = omega (arith, ints)
