use Rattle.std.proofs.Common.{◌≡◌, take}
use Rattle.design_tokens.specs.declared.numeral.Numeral.TheVariants.{Digits}
use Rattle.design_tokens.specs.Numerals.{numeral_behind}
use Rattle.design_tokens.proofs.numeral.more_digits.Given as goal

-- the bytes so far are in it
abbrev pub invariant-loop-byte : goal.invariant-loop-byte
invariant-loop-byte l = Digits l.fn.negative l.magnitude ≡ numeral_behind (Digits l.fn.negative l.fn.magnitude) (take l.byte-index l.bytes)
