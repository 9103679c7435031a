use Rattle.std.proofs.Common.{◌≡◌, ◌+◌, drop}
use Rattle.std.specs.List.{position_or_len}
use Rattle.text_scan.specs.Tokens.{is_blank}
use Rattle.ispd_reader.proofs.progress.blank_or_end.Given as goal

-- the first blank is the first from here on
abbrev pub invariant-loop-i : goal.invariant-loop-i
invariant-loop-i l = position_or_len is_blank l.bytes ≡ l.i + position_or_len is_blank (drop l.i l.bytes)
