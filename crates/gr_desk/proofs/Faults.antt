-- Why a call answers as it does: a count that stands, and one that rose.
use Rattle.std.proofs.Common.{◌≡◌, ◌≤◌, ℕ, Ok, Err, arith}
use Rattle.gr_desk.specs.Causes.{Rose, HasCause}

pub stood : {T E : Type 0} {before now : ℕ} {x : T} → now ≡ before → HasCause {T = T} {E = E} before now (Ok x)
stood same = record { later = omega (arith, same); failed = tt; quiet = same }

pub risen : {T E : Type 0} {before now : ℕ} {e : E} → before ≤ now → Rose before now → HasCause {T = T} {E = E} before now (Err e)
risen later rose = record { later = later; failed = rose; quiet = tt }
