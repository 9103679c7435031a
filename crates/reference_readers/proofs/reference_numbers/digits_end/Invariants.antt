use Rattle.std.proofs.Common.{◌≡◌, ◌+◌, drop}
use Rattle.std.specs.Char.{is_ascii_digit}
use Rattle.std.specs.List.{prefix_len}
use Rattle.reference_readers.proofs.reference_numbers.digits_end.Given as goal

-- the run from the start goes on as from here
abbrev pub invariant-loop-i : goal.invariant-loop-i
invariant-loop-i l = l.start + prefix_len is_ascii_digit (drop l.start l.text)
    ≡ l.i + prefix_len is_ascii_digit (drop l.i l.text)
