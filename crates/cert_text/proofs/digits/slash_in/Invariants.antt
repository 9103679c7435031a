use Rattle.std.proofs.Common.{◌≡◌, ◌+◌, drop}
use Rattle.std.specs.List.{position_or_len}
use Rattle.cert_text.specs.Digits.{is_slash}
use Rattle.cert_text.proofs.digits.slash_in.Given as goal

-- what comes first is what comes first from here on
abbrev pub invariant-loop-i : goal.invariant-loop-i
invariant-loop-i l = position_or_len is_slash l.bytes ≡ l.i + position_or_len is_slash (drop l.i l.bytes)
