use Rattle.std.proofs.Common.{◌≡◌, ◌+◌, drop}
use Rattle.std.specs.List.{position_or_len}
use Rattle.text_scan.specs.Tokens.{is_blank}
use Rattle.reference_readers.proofs.reference_numbers.word_end.Given as goal

-- the run from the start goes on as from here
abbrev pub invariant-loop-i : goal.invariant-loop-i
invariant-loop-i l = l.start + position_or_len is_blank (drop l.start l.text) ≡ l.i + position_or_len is_blank (drop l.i l.text)
