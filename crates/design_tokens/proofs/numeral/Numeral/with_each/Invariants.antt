use Rattle.std.proofs.Common.{◌≡◌, take}
use Rattle.design_tokens.specs.Numerals.{numeral_behind}
use Rattle.design_tokens.proofs.numeral.Numeral.with_each.Given as goal

-- the bytes so far are in it
abbrev pub invariant-loop-byte : goal.invariant-loop-byte
invariant-loop-byte l = l.numeral ≡ numeral_behind l.fn.self (take l.byte-index l.bytes)
