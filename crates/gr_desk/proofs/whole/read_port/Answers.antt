use Rattle.std.proofs.Common.{arith, rules, length-take, length-append, take, List, ℕ, ◌++◌, ◌≤◌, ◌+◌, ◌-◌, length}
use Rattle.gr_desk.proofs.Runs.{takes-then, takes-read}
use Rattle.gr_desk.proofs.whole.read_port.Goals as goal

-- a piece of at most `want` bytes stays within one byte over the limit
piece_fits : (all piece : List ℕ) (count want limit : ℕ) → count ≤ want → want ≤ limit + 1 - length all → length all ≤ limit → length (all ++ take count piece) ≤ limit + 1
piece_fits all piece count want limit small wanted within = simp (length-append, length-take) (omega arith)

pub returns-in-Err-extend_from_slice-clause-no_memory :
    goal.returns-in-Err-extend_from_slice-clause-no_memory
returns-in-Err-extend_from_slice-clause-no_memory g c =
    let small : c.in-Ok.count ≤ c.min-want.result = search rules in
    λ _. (_, takes-then _ _ _ _ _ _ c.loop-port.invariant.takes (takes-read _ _ _ _ _ c.in-Ok.ensures.does), piece_fits _ _ _ c.min-want.result _ small (omega arith) (omega arith))
